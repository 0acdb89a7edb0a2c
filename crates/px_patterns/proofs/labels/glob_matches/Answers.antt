use Rattle.std.proofs.Common.{◌≡◌, ◌+◌, ◌&&◌, ◌∙◌, sym, ap, arith, true, false, drop}
use Rattle.std.specs.Prelude.{slice_index}
use Rattle.std.proofs.lemmas.List.{take_rest}
use Rattle.px_patterns.specs.Globs.{glob_matches, takes}
use Rattle.px_patterns.proofs.GlobLemmas.{glob_at, glob_on_run, glob_past, glob_short, run_at}
use Rattle.px_patterns.proofs.labels.glob_matches.Goals as goal

pub loop-at-preserved : goal.loop-at-preserved
loop-at-preserved c =
    let taken : takes c.index-items-at.result (slice_index c.args.label.now c.loop-at.at) ≡ true = sym c.takes.ensures ∙ c.if-not-takes.false in
    record {
      in_items = omega (arith, c.loop-at-test.true);
      within = omega (arith, c.loop-at.invariant.within, c.if-at-label.false);
      same = c.loop-at.invariant.same
          ∙ glob_at c.args.items.now c.args.label.now c.loop-at.at c.index-items-at.result c.loop-at-test.true (omega (arith, c.loop-at.invariant.within, c.if-at-label.false)) c.index-items-at.is
          (sym c.is_run.ensures ∙ c.if-is_run.false)
          ∙ ap (λ t. t && glob_matches (drop (c.loop-at.at + 1) c.args.items.now) (drop (c.loop-at.at + 1) c.args.label.now)) taken;
    }

pub returns-then-is_run : goal.returns-then-is_run
returns-then-is_run c =
    c.run_matches.ensures
    ∙ glob_on_run c.args.items.now _ c.args.label.now _ c.loop-at.at
    (run_at c.args.items.now c.loop-at.at c.index-items-at.result c.loop-at-test.true c.index-items-at.is (sym c.is_run.ensures ∙ c.if-is_run.true))
    (take_rest c.args.label.now c.loop-at.at)
    ∙ sym c.loop-at.invariant.same

pub returns-then-at-label : goal.returns-then-at-label
returns-then-at-label c =
    sym
    (c.loop-at.invariant.same
    ∙ glob_short c.args.items.now c.args.label.now c.loop-at.at c.index-items-at.result c.loop-at-test.true c.if-at-label.true c.index-items-at.is (sym c.is_run.ensures ∙ c.if-is_run.false))

pub returns-then-not-takes : goal.returns-then-not-takes
returns-then-not-takes c =
    let refused : takes c.index-items-at.result (slice_index c.args.label.now c.loop-at.at) ≡ false = sym c.takes.ensures ∙ c.if-not-takes.true in
    sym
    (c.loop-at.invariant.same
    ∙ glob_at c.args.items.now c.args.label.now c.loop-at.at c.index-items-at.result c.loop-at-test.true (omega (arith, c.loop-at.invariant.within, c.if-at-label.false)) c.index-items-at.is
    (sym c.is_run.ensures ∙ c.if-is_run.false)
    ∙ ap (λ t. t && glob_matches (drop (c.loop-at.at + 1) c.args.items.now) (drop (c.loop-at.at + 1) c.args.label.now)) refused)

pub returns : goal.returns
returns c =
    sym
    (c.loop-at.invariant.same
    ∙ glob_past c.args.items.now c.args.label.now c.loop-at.at (omega (arith, c.loop-at.invariant.in_items, c.loop-at-test.false)) c.loop-at.invariant.within)
