use Rattle.std.proofs.Common.{◌≡◌, ◌∙◌, ap, length, sym, arith}
use Rattle.std.proofs.lemmas.List.{nil_from_length}
use Rattle.std.proofs.lemmas.Grind.{common_steps}
use Rattle.px_actions.specs.Sets.{set_values}
use Rattle.px_taggers.proofs.StillLemmas.{needs_no_line}
use Rattle.px_taggers.proofs.lines.has_taggers.Goals as goal

pub returns : goal.returns
returns c = record {
  needless = λ e.
      let none : length c.values.result.now ≡ 0 = grind (arith, common_steps) in
      needs_no_line c.args.set.now c.args.side
      (ap (set_values c.args.set.now) (sym c.action_of.ensures) ∙ sym c.values.ensures.values ∙ nil_from_length c.values.result.now none);
}
