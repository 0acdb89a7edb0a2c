use Rattle.std.proofs.Common.{◌-◌, length, take, inl, refl, arith, length-drop}
use Rattle.std.proofs.lemmas.List.{length-take-le, take_rest}
use Rattle.px_framing.specs.declared.places.ChunkPlace.TheVariants.{Gap}
use Rattle.px_framing.proofs.HeldLemmas.{goes-data-end}
use Rattle.px_framing.proofs.MoveLemmas.{move-data, data-place-zero}
use Rattle.px_framing.proofs.passes.pass_last_data.Goals as goal

pub returns-then-begins_with_line_end : goal.returns-then-begins_with_line_end
returns-then-begins_with_line_end c =
    let behind = rw take_rest at c.begins_with_line_end.ensures c.if-begins_with_line_end.true in
    record {
      used = (omega arith, let l = length-drop c.args.len c.args.rest.now in omega (arith, behind.0));
      held = inl refl;
      goes = goes-data-end c.args.len c.args.rest.now c.requires.some c.requires.within behind.1;
      fresh = λ e. refl;
      grows = λ e more. absurd (cc);
    }

pub returns-else-begins_with_line_end : goal.returns-else-begins_with_line_end
returns-else-begins_with_line_end c =
    let n = c.args.len in
    let run = take n c.args.rest.now in
    let len = length-take-le n c.args.rest.now c.requires.within in
    record {
      used = (c.requires.some, c.requires.within);
      held = inl refl;
      goes = move-data n run Gap (omega (arith, len)) (omega (arith, len)) (data-place-zero (n - length run) (omega (arith, len)));
      fresh = λ e. refl;
      grows = λ e more. absurd (cc);
    }
