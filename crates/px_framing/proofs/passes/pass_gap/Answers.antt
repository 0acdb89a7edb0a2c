use Rattle.std.proofs.Common.{◌≡◌, ℕ, List, [], ◌++◌, take, inl, sym, ap, subst, arith}
use Rattle.std.proofs.lemmas.List.{nil_from_length}
use Rattle.std.proofs.lemmas.Bool.Decides.{nat_tests}
use Rattle.px_framing.specs.declared.places.ChunkPlace.TheVariants.{Gap, Size}
use Rattle.px_framing.specs.Passing.{Goes}
use Rattle.px_framing.proofs.HeldLemmas.{goes-gap}
use Rattle.px_framing.proofs.passes.pass_gap.Goals as goal

pub returns-then-begins_with_line_end-clause-step : goal.returns-then-begins_with_line_end-clause-step
returns-then-begins_with_line_end-clause-step c =
    let k = c.args.kept.now.items in
    let bytes = take 2 c.args.rest.now in
    let none : k ≡ [] = nil_from_length _ (grind (arith, nat_tests)) in
    let line = c.begins_with_line_end.ensures c.if-begins_with_line_end.true in
    record {
      used = (omega arith, line.0);
      held = inl none;
      goes = subst (λ (w : List ℕ). Goes Gap k bytes w Size k) (ap (λ (w : List ℕ). w ++ bytes) (sym none)) (goes-gap k bytes none line.1);
      fresh = λ e. none;
      grows = λ e more. absurd (cc);
    }
