use Rattle.std.proofs.Common.{◌≡◌, ◌-◌, ℕ, List, true, false, length, refl, sym, ◌∙◌, ap, arith}
use Rattle.px_framing.proofs.StepLemmas.{chunks-kept}
use Rattle.px_framing.proofs.PassLemmas.{chunks-pass, settled-before, uses-chunks, left-chunks}
use Rattle.px_framing.proofs.advances.pass_chunks.Goals as goal

pub returns-then-is_ended : goal.returns-then-is_ended
returns-then-is_ended c =
    let reach = c.pass_piece-reach.ensures in
    record {
      passes = chunks-pass c.args.place c.pass_piece-reach.result.next c.args.room c.pass_piece-reach.result.used c.pass_piece-reach.result.whole c.args.kept.now.items c.pass_piece-reach.new.kept.items _ c.args.piece.now _
          c.stage_before-stage.ensures reach.whole (omega (arith, reach.used, c.front-bytes.ensures.len)) (λ going. reach.all going ∙ c.front-bytes.ensures.len)
          (rw (c.front-bytes.ensures.bytes) at reach.goes)
          (λ going some. absurd (chunks-kept _ _ _ c.stage_before-stage.ensures (sym c.is_ended.ensures ∙ c.if-is_ended.true) going some));
      settled_stage = settled-before c.pass_piece-reach.result.next (c.args.room - c.pass_piece-reach.result.used) _ c.pass_piece-reach.new.kept.items _ c.stage_before-stage.ensures reach.held (λ e. c.clear.ensures.items) (λ e. absurd (let both : true ≡ false = sym (sym c.is_ended.ensures ∙ c.if-is_ended.true) ∙ e in cc));
      short = let len = ap (λ (w : List ℕ). length w) c.clear.ensures.items in omega arith;
      whole = reach.whole;
      used = uses-chunks c.pass_piece-reach.result.next c.args.room c.pass_piece-reach.result.used _ c.args.piece.now c.stage_before-stage.ensures (omega (arith, reach.used, c.front-bytes.ensures.len)) (λ going. reach.all going ∙ c.front-bytes.ensures.len);
      left = left-chunks c.pass_piece-reach.result.next c.args.room c.pass_piece-reach.result.used _ c.stage_before-stage.ensures (omega (arith, reach.used, c.front-bytes.ensures.len));
      stays = λ open_. absurd (open_ refl);
    }

pub returns-else-is_ended : goal.returns-else-is_ended
returns-else-is_ended c =
    let reach = c.pass_piece-reach.ensures in
    record {
      passes = chunks-pass c.args.place c.pass_piece-reach.result.next c.args.room c.pass_piece-reach.result.used c.pass_piece-reach.result.whole c.args.kept.now.items c.pass_piece-reach.new.kept.items _ c.args.piece.now _
          c.stage_before-stage.ensures reach.whole (omega (arith, reach.used, c.front-bytes.ensures.len)) (λ going. reach.all going ∙ c.front-bytes.ensures.len)
          (rw (c.front-bytes.ensures.bytes) at reach.goes) (λ going some. refl);
      settled_stage = settled-before c.pass_piece-reach.result.next (c.args.room - c.pass_piece-reach.result.used) _ c.pass_piece-reach.new.kept.items _ c.stage_before-stage.ensures reach.held (λ e. absurd (let both : true ≡ false = sym e ∙ (sym c.is_ended.ensures ∙ c.if-is_ended.false) in cc)) (λ e. refl);
      short = reach.short;
      whole = reach.whole;
      used = uses-chunks c.pass_piece-reach.result.next c.args.room c.pass_piece-reach.result.used _ c.args.piece.now c.stage_before-stage.ensures (omega (arith, reach.used, c.front-bytes.ensures.len)) (λ going. reach.all going ∙ c.front-bytes.ensures.len);
      left = left-chunks c.pass_piece-reach.result.next c.args.room c.pass_piece-reach.result.used _ c.stage_before-stage.ensures (omega (arith, reach.used, c.front-bytes.ensures.len));
      stays = λ open_. absurd (open_ refl);
    }
