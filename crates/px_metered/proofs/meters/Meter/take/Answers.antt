use Rattle.std.proofs.Common.{◌++◌, ◌∙◌, List, ℕ, take, drop, ap, subst, append_assoc, length-drop}
use Rattle.std.proofs.lemmas.List.{take-append-drop, take_all}
use Rattle.px_metered.specs.Measuring.{Measures}
use Rattle.px_metered.proofs.meters.Meter.take.Goals as goal

pub returns-then-at-bytes : goal.returns-then-at-bytes
returns-then-at-bytes c = λ came was.
    let bytes = c.args.bytes.now in
    subst (Measures c.take_body.new.self) (append_assoc came (take c.loop-at.at bytes) (drop c.loop-at.at bytes) ∙ ap (λ (l : List ℕ). came ++ l) (take-append-drop c.loop-at.at bytes))
    (c.take_body.ensures (came ++ take c.loop-at.at bytes) (drop c.loop-at.at bytes) (length-drop c.loop-at.at bytes) (c.loop-at.invariant came was))

pub returns-else-at-bytes : goal.returns-else-at-bytes
returns-else-at-bytes c = λ came was.
    subst (Measures c.loop-at.self) (ap (λ (l : List ℕ). came ++ l) (take_all c.loop-at.at c.args.bytes.now c.if-at-bytes.false)) (c.loop-at.invariant came was)
