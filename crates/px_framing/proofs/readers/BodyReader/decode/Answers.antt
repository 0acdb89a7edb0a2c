use Rattle.std.proofs.Common.{◌≡◌, ℕ, List, ◌++◌, sym, ◌∙◌, ap, subst}
use Rattle.px_framing.specs.Reading.{ReaderSteps, first, added, IsSettled, Reading}
use Rattle.px_framing.specs.Passing.{settled, data_in, raw_in}
use Rattle.px_framing.proofs.BodyLemmas.{body-of}
use Rattle.px_framing.proofs.StepLemmas.{added-is, steps-on}
use Rattle.px_framing.proofs.PassLemmas.{data-put, due-steps, raw-put, steps-passed}
use Rattle.px_framing.proofs.readers.BodyReader.decode.Goals as goal

before : goal.After-state_of → Reading
before c = record { stage = c.self.inside.stage; kept = c.self.inside.kept.items }

after : goal.After-state_of → Reading
after c = record { stage = c.in-Ok.far.stage; kept = c.extract-advanced.new.kept.items }

settled-before : (c : goal.After-state_of) → IsSettled (before c)
unfolding before
settled-before c = record { settled = c.self.invariant.settled; short = c.self.invariant.short }

settled-after : (c : goal.After-state_of) → IsSettled (after c)
unfolding after
settled-after c = record { settled = c.in-Ok.ensures.passes.settled_stage; short = c.in-Ok.ensures.passes.short }

put : goal.After-state_of → List ℕ
put c = settled c.self.inside.kept.items c.args.piece.now c.in-Ok.far.whole

raw-is : (c : goal.After-state_of) → put c ≡ raw_in (before c) c.args.piece.now
unfolding before after put
raw-is c = sym (raw-put (before c) (after c) c.args.piece.now (put c) c.in-Ok.far.used c.in-Ok.ensures.passes.passes (settled-after c))

plain-is : (c : goal.After-state_of) → c.from_vec.result ≡ c.args.plain.now ++ data_in (before c) c.args.piece.now
unfolding before after put
plain-is c =
    let is = c.in-Ok.ensures.plain (data_in (before c) c.args.piece.now) (data-put (before c) (after c) c.args.piece.now (put c) c.in-Ok.far.used c.in-Ok.ensures.passes.passes (settled-before c) (settled-after c)) in
    rw (c.from_vec.ensures, ← c.in_ok-plain_bytes.ensures.ok) is

pub returns-in-Ok-clause-plain : goal.returns-in-Ok-clause-plain
returns-in-Ok-clause-plain c = plain-is c ∙ ap (λ (w : List ℕ). c.args.plain.now ++ w) (sym (added-is c.args.plain.now c.from_vec.result _ (plain-is c)))

pub returns-in-Ok-clause-steps : goal.returns-in-Ok-clause-steps
unfolding before after put
returns-in-Ok-clause-steps c =
    let piece = c.args.piece.now in
    let used = c.in-Ok.far.used in
    let plain_put = added c.args.plain.now c.from_vec.result in
    subst (λ (r : Reading). ReaderSteps r piece (raw_in r piece) plain_put used (after c)) c.self.view_is
    (subst (λ (w : List ℕ). ReaderSteps (before c) piece (raw_in (before c) piece) w used (after c)) (sym (added-is c.args.plain.now c.from_vec.result _ (plain-is c)))
    (subst (λ (w : List ℕ). ReaderSteps (before c) piece w (data_in (before c) piece) used (after c)) (raw-is c)
    (steps-passed (before c) (after c) piece (put c) used c.in-Ok.ensures.passes.passes (settled-after c))))

pub returns-in-Ok-clause-after : goal.returns-in-Ok-clause-after
unfolding after
returns-in-Ok-clause-after c rule bytes raw_put plain_put count history =
    steps-on (first rule) c.args.self.now (after c) bytes c.args.piece.now raw_put _ plain_put _ count c.in-Ok.far.used history (returns-in-Ok-clause-steps c)

pub returns-in-Ok-clause-body : goal.returns-in-Ok-clause-body
unfolding after
returns-in-Ok-clause-body c rule bytes raw_put plain_put count history =
    body-of rule (bytes ++ c.args.piece.now) _ _ _ (after c) c.state_of.result (returns-in-Ok-clause-after c rule bytes raw_put plain_put count history) (settled-after c) c.state_of.ensures

pub returns-in-Ok-clause-due : goal.returns-in-Ok-clause-due
unfolding after
returns-in-Ok-clause-due c rest = due-steps c.args.self.now (after c) c.args.piece.now _ _ c.in-Ok.far.used (returns-in-Ok-clause-steps c) (settled-after c) rest
