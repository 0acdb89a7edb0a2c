use Rattle.std.proofs.Common.{◌≡◌, arith, subst, false, drop}
use Rattle.std.specs.List.{list_any}
use Rattle.px_patterns.proofs.EndLabelLemmas.{alone, cut_at_last, is_dot, no_dot_behind}
use Rattle.px_patterns.proofs.hosts.cut_last.Goals as goal

pub bytes-init : goal.bytes-init
bytes-init c = record { within = omega arith; none = no_dot_behind c.args.bytes.now }

pub returns-then-bytes-before-eq-DOT : goal.returns-then-bytes-before-eq-DOT
returns-then-bytes-before-eq-DOT c = cut_at_last c.args.bytes.now c.bytes.start c.bytes-test.true c.bytes.invariant.within c.if-bytes-before-eq-DOT.true c.bytes.invariant.none

pub returns : goal.returns
returns c =
    let front : c.bytes.start ≡ 0 = omega (arith, c.bytes-test.false) in
    alone c.args.bytes.now (subst (λ n. list_any is_dot (drop n c.args.bytes.now) ≡ false) front c.bytes.invariant.none)
