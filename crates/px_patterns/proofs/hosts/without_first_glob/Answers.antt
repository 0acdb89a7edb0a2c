use Rattle.std.proofs.Common.{◌∙◌, sym, ap, arith, drop, length}
use Rattle.px_patterns.specs.Hosts.{rest_bytes}
use Rattle.std.proofs.lemmas.List.{drop_all, take_rest}
use Rattle.px_patterns.proofs.FirstLabelLemmas.{dot_at, ends_at, reached_rest, reaches_front, reaches_next, refused_at}
use Rattle.px_patterns.proofs.GlobLemmas.{run_at}
use Rattle.px_patterns.proofs.hosts.without_first_glob.Goals as goal

pub loop-at-init : goal.loop-at-init
loop-at-init c = reaches_front c.args.items.now c.args.bytes.now

pub loop-at-preserved : goal.loop-at-preserved
loop-at-preserved c =
    reaches_next c.args.items.now c.args.bytes.now c.loop-at.at c.index-items-at.result c.loop-at-test.true (omega (arith, c.loop-at.invariant.within, c.if-at-bytes.false)) c.index-items-at.is
    (sym c.is_run.ensures ∙ c.if-is_run.false) (sym c.takes.ensures ∙ c.if-not-takes.false) c.if-byte-eq-DOT.false c.loop-at.invariant

pub returns-then-is_run : goal.returns-then-is_run
returns-then-is_run c =
    reached_rest c.without_first_run.result (λ behind. rest_bytes behind) c.args.items.now _ c.args.bytes.now _ c.loop-at.at c.loop-at.invariant
    (run_at c.args.items.now c.loop-at.at c.index-items-at.result c.loop-at-test.true c.index-items-at.is (sym c.is_run.ensures ∙ c.if-is_run.true))
    (take_rest c.args.bytes.now c.loop-at.at) c.without_first_run.ensures

pub returns-then-at-bytes : goal.returns-then-at-bytes
returns-then-at-bytes c =
    ends_at c.args.items.now c.args.bytes.now c.loop-at.at c.index-items-at.result c.loop-at-test.true c.index-items-at.is (sym c.is_run.ensures ∙ c.if-is_run.false) c.if-at-bytes.true c.loop-at.invariant

pub returns-then-byte-eq-DOT : goal.returns-then-byte-eq-DOT
returns-then-byte-eq-DOT c =
    dot_at c.args.items.now c.args.bytes.now c.loop-at.at c.index-items-at.result c.loop-at-test.true (omega (arith, c.loop-at.invariant.within, c.if-at-bytes.false)) c.index-items-at.is
    (sym c.is_run.ensures ∙ c.if-is_run.false) c.if-byte-eq-DOT.true c.loop-at.invariant

pub returns-then-not-takes : goal.returns-then-not-takes
returns-then-not-takes c =
    refused_at c.args.items.now c.args.bytes.now c.loop-at.at c.index-items-at.result c.loop-at-test.true (omega (arith, c.loop-at.invariant.within, c.if-at-bytes.false)) c.index-items-at.is
    (sym c.is_run.ensures ∙ c.if-is_run.false) (sym c.takes.ensures ∙ c.if-not-takes.true) c.if-byte-eq-DOT.false c.loop-at.invariant

pub returns : goal.returns
returns c =
    reached_rest c.without_first_empty.result (λ behind. rest_bytes behind) c.args.items.now _ c.args.bytes.now _ c.loop-at.at c.loop-at.invariant
    (sym (drop_all c.loop-at.at c.args.items.now c.loop-at-test.false))
    (take_rest c.args.bytes.now (length c.args.items.now)
    ∙ ap (λ n. drop n c.args.bytes.now) (omega (arith, c.loop-at.invariant.in_items, c.loop-at-test.false))) c.without_first_empty.ensures
