use Rattle.std.proofs.Common.{◌≤◌, ◌^◌, subst, arith}
use Rattle.px_framing.proofs.LineLemmas.{value-large, digits-some}
use Rattle.px_framing.proofs.lines.digits_at.Goals as goal

pub returns-then-value-clause-small : goal.returns-then-value-clause-small
returns-then-value-clause-small c =
    let more = digits-some c.args.bytes.now c.loop-i.i c.loop-i-test.true (omega (arith, c.in-Some.ensures.value)) in
    subst (λ n. 2 ^ 63 ≤ n) c.loop-i.invariant.gives (value-large c.loop-i.value _ c.if-value.true more)
