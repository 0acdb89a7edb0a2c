use Rattle.std.proofs.Common.{◌≡◌, ℕ, List, ◌++◌, take, sym, ◌∙◌, ap, subst}
use Rattle.std.proofs.lemmas.List.{take_at}
use Rattle.px_framing.specs.Reading.{ReaderSteps, first, added, IsSettled, Reading}
use Rattle.px_framing.specs.Passing.{settled, data_in}
use Rattle.px_framing.proofs.BodyLemmas.{body-of}
use Rattle.px_framing.proofs.StepLemmas.{steps-on}
use Rattle.px_framing.proofs.PassLemmas.{due-steps, steps-passed, put-all}
use Rattle.px_framing.proofs.readers.BodyReader.pass.Goals as goal

after : goal.After-state_of → Reading
after c = record { stage = c.pass_on-far.result.stage; kept = c.pass_on-far.new.kept.items }

settled-after : (c : goal.After-state_of) → IsSettled (after c)
unfolding after
settled-after c = record { settled = c.pass_on-far.ensures.settled_stage; short = c.pass_on-far.ensures.short }

pub returns-clause-steps : goal.returns-clause-steps
unfolding after
returns-clause-steps c =
    let kept = c.line_room.new.kept.items in
    let whole = c.pass_on-far.result.whole in
    let piece = c.args.piece.now in
    let line = c.args.line.now in
    let old : Reading = record { stage = c.self.inside.stage; kept = kept } in
    let same : old ≡ c.args.self.now = (λ i. record { stage = c.self.inside.stage; kept = c.line_room.ensures.same i }) ∙ c.self.view_is in
    let pushed : c.push_all.new.self ≡ line ++ kept = c.in_ok-push_all.ensures.ok ∙ ap (λ (w : List ℕ). line ++ w) c.as_slice.ensures.value in
    let put : added line c.settle_line.new.line ++ take whole piece ≡ settled kept piece whole =
    put-all kept line c.settle_line.new.line piece whole
    (λ e. c.settle_line.ensures.none e ∙ ap (take c.len-len.result) pushed ∙ take_at line kept c.len-len.result (sym c.len-len.ensures))
    (λ some. c.settle_line.ensures.some some ∙ pushed) in
    subst (λ (r : Reading). ReaderSteps r piece (added line c.settle_line.new.line ++ take whole piece) (data_in r piece) c.pass_on-far.result.used (after c)) same
    (subst (λ (w : List ℕ). ReaderSteps old piece w (data_in old piece) c.pass_on-far.result.used (after c)) (sym put)
    (steps-passed old (after c) piece (settled kept piece whole) c.pass_on-far.result.used c.pass_on-far.ensures.passes (settled-after c)))

pub returns-clause-after : goal.returns-clause-after
unfolding after
returns-clause-after c rule bytes raw_put plain_put count history =
    steps-on (first rule) c.args.self.now (after c) bytes c.args.piece.now raw_put _ plain_put _ count c.pass_on-far.result.used history (returns-clause-steps c)

pub returns-clause-body : goal.returns-clause-body
unfolding after
returns-clause-body c rule bytes raw_put plain_put count history =
    body-of rule (bytes ++ c.args.piece.now) _ _ _ (after c) c.state_of.result (returns-clause-after c rule bytes raw_put plain_put count history) (settled-after c) c.state_of.ensures

pub returns-clause-due : goal.returns-clause-due
unfolding after
returns-clause-due c rest = due-steps c.args.self.now (after c) c.args.piece.now _ _ c.pass_on-far.result.used (returns-clause-steps c) (settled-after c) rest
