use Rattle.std.proofs.Common.{◌≡◌, ◌∙◌, ap, false, get_or, sym, arith}
use Rattle.px_actions.proofs.EntryLemmas.{unmarked}
use Rattle.px_actions.proofs.entries.place_of.Goals as goal

pub returns-then-not-marks-place : goal.returns-then-not-marks-place
returns-then-not-marks-place c =
    let off : get_or c.args.marks.now c.place-place.result false ≡ false = grind arith in
    unmarked c.args.marks.now c.args.entries.now c.args.kind c.requires (ap (λ at. get_or c.args.marks.now at false) (sym c.place-place.ensures.place) ∙ off)
