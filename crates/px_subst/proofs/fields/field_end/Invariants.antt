use Rattle.std.proofs.Common.{◌≡◌, ◌+◌, false, drop, option_map}
use Rattle.px_subst.specs.Fields.{field_end}
use Rattle.px_subst.proofs.fields.field_end.Given as goal

abbrev pub invariant-loop-at : goal.invariant-loop-at
invariant-loop-at l =
    field_end l.delimiter false l.text ≡ option_map (λ n. n + l.at) (field_end l.delimiter l.taken (drop l.at l.text))
