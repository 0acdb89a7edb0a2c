use Rattle.std.proofs.Common.{◌≡◌, ◌++◌, false, drop}
use Rattle.px_subst.specs.Fields.{unescaped_field}
use Rattle.px_subst.proofs.fields.unescaped.Given as goal

abbrev pub invariant-loop-byte : goal.invariant-loop-byte
invariant-loop-byte l =
    unescaped_field l.delimiter false l.raw ≡ l.field.items ++ unescaped_field l.delimiter l.taken (drop l.byte-index l.raw)
