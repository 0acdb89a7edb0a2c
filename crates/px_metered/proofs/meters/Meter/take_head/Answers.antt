use Rattle.std.proofs.Common.{refl, sym, ◌∙◌}
use Rattle.px_metered.specs.Returned.{final_response}
use Rattle.px_metered.proofs.MeterLemmas.{ends_parts, step_interim, step_other}
use Rattle.px_metered.proofs.meters.Meter.take_head.Goals as goal

pub returns-then-ends_interim : goal.returns-then-ends_interim
returns-then-ends_interim c = λ came was.
    step_interim c.args.self.now c.note.new.self _ c.args.byte came c.requires c.note.ensures.passed (c.note.ensures.noted (final_response came) (was.head c.requires)) (ends_parts c.note.new.self (sym c.ends_interim.ensures ∙ c.if-ends_interim.true))
    refl refl refl refl was

pub returns-else-ends_interim : goal.returns-else-ends_interim
returns-else-ends_interim c = λ came was.
    step_other c.args.self.now c.note.new.self c.args.byte came c.requires c.note.new.self.matched_within c.note.ensures.passed (c.note.ensures.noted (final_response came) (was.head c.requires)) (sym c.ends_interim.ensures ∙ c.if-ends_interim.false) was
