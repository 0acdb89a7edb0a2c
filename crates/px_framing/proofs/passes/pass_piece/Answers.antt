use Rattle.std.proofs.Common.{rules, ◌≡◌, ℕ, ◌+◌, ◌++◌, take, false, sym, subst, arith}
use Rattle.std.proofs.lemmas.List.{take_rest}
use Rattle.px_framing.specs.Reading.{is_last}
use Rattle.px_framing.specs.Passing.{Goes, settled}
use Rattle.px_framing.proofs.HeldLemmas.{held-short}
use Rattle.px_framing.proofs.PassLemmas.{goes-step, all-step, kept-len}
use Rattle.px_framing.proofs.passes.pass_piece.Goals as goal

pub returns-then-is_last_place-clause-goes : goal.returns-then-is_last_place-clause-goes
returns-then-is_last_place-clause-goes c =
    let gone = c.pass_some-gone in
    subst (λ (n : ℕ). Goes c.args.start c.args.kept.now.items (take (c.loop-at.at + gone.result.used) c.args.piece.now) (settled c.args.kept.now.items c.args.piece.now n) gone.result.next gone.new.kept.items) (sym c.farther-whole.ensures)
    (goes-step _ _ _ _ _ _ c.args.piece.now c.loop-at.at gone.result.used c.loop-at.whole gone.result.ends gone.ensures.step.used.0 c.loop-at.invariant.goes c.loop-at.invariant.all (rw take_rest at gone.ensures.step.goes))

pub loop-at-preserved : goal.loop-at-preserved
loop-at-preserved c =
    let gone = c.pass_some-gone in
    let going : is_last gone.result.next ≡ false = search rules in
    record {
      within = omega (arith, gone.ensures.step.used.1);
      more = going;
      held = gone.ensures.step.held;
      whole = grind arith;
      goes = subst (λ (n : ℕ). Goes c.args.start c.args.kept.now.items (take (c.loop-at.at + gone.result.used) c.args.piece.now) (settled c.args.kept.now.items c.args.piece.now n) gone.result.next gone.new.kept.items) (sym c.farther-whole.ensures)
          (goes-step _ _ _ _ _ _ c.args.piece.now c.loop-at.at gone.result.used c.loop-at.whole gone.result.ends gone.ensures.step.used.0 c.loop-at.invariant.goes c.loop-at.invariant.all (rw take_rest at gone.ensures.step.goes));
      all = subst (λ (n : ℕ). settled c.args.kept.now.items c.args.piece.now n ++ gone.new.kept.items ≡ c.args.kept.now.items ++ take (c.loop-at.at + gone.result.used) c.args.piece.now) (sym c.farther-whole.ensures)
          (all-step c.args.kept.now.items c.loop-at.kept.items gone.new.kept.items c.args.piece.now c.loop-at.at gone.result.used c.loop-at.whole gone.result.ends gone.ensures.step.used.0 c.loop-at.invariant.all gone.ensures.step.fresh (λ e. rw take_rest at gone.ensures.step.grows e going));
      kept = omega arith;
    }

pub returns-clause-short : goal.returns-clause-short
returns-clause-short c = omega (arith, held-short _ _ c.loop-at.invariant.held)

pub pass_some-gone-requires-clause-kept : goal.pass_some-gone-requires-clause-kept
pass_some-gone-requires-clause-kept c =
    let short = held-short c.loop-at.place _ c.loop-at.invariant.held in
    let len = kept-len c.args.kept.now.items c.loop-at.kept.items c.args.piece.now c.loop-at.at c.loop-at.whole c.loop-at.invariant.all in
    omega (arith, short, len)
