use Rattle.std.proofs.Common.{◌≡◌, ◌+◌, ◌&&◌, ◌∙◌, sym, ap, arith, true, false, drop, slice_index}
use Rattle.px_patterns.specs.Globs.{takes}
use Rattle.px_patterns.specs.Runs.{takes_front}
use Rattle.px_patterns.proofs.GlobLemmas.{front_at, front_past, front_too_long}
use Rattle.px_patterns.proofs.labels.takes_front.Goals as goal

pub returns-then-items-bytes-clause-value : goal.returns-then-items-bytes-clause-value
returns-then-items-bytes-clause-value c = front_too_long c.args.items.now c.args.bytes.now c.if-items-bytes.true

pub returns-then-not-takes-clause-value : goal.returns-then-not-takes-clause-value
returns-then-not-takes-clause-value c =
    let refused : takes c.index-items-at.result (slice_index c.args.bytes.now c.loop-at.at) ≡ false = sym c.takes.ensures ∙ c.if-not-takes.true in
    sym
    (c.loop-at.invariant ∙ front_at c.args.items.now c.args.bytes.now c.loop-at.at c.index-items-at.result c.loop-at-test.true (omega arith) c.index-items-at.is
    ∙ ap (λ t. t && takes_front (drop (c.loop-at.at + 1) c.args.items.now) (drop (c.loop-at.at + 1) c.args.bytes.now)) refused)

pub loop-at-preserved : goal.loop-at-preserved
loop-at-preserved c =
    let taken : takes c.index-items-at.result (slice_index c.args.bytes.now c.loop-at.at) ≡ true = sym c.takes.ensures ∙ c.if-not-takes.false in
    c.loop-at.invariant ∙ front_at c.args.items.now c.args.bytes.now c.loop-at.at c.index-items-at.result c.loop-at-test.true (omega arith) c.index-items-at.is
    ∙ ap (λ t. t && takes_front (drop (c.loop-at.at + 1) c.args.items.now) (drop (c.loop-at.at + 1) c.args.bytes.now)) taken

pub returns-clause-value : goal.returns-clause-value
returns-clause-value c = sym (c.loop-at.invariant ∙ front_past c.args.items.now c.args.bytes.now c.loop-at.at c.loop-at-test.false)
