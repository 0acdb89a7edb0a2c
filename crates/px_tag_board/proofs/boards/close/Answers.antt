use Rattle.std.proofs.Common.{◌≡◌, ◌∙◌, arith}
use Rattle.px_tag_board.proofs.BoardLemmas.{made_more, one_more_ended}
use Rattle.px_tag_board.proofs.boards.close.Goals as goal

pub each-preserved : goal.each-preserved
each-preserved g c = record {
  parts = omega (arith, c.merge.ensures.parts, c.into_parts-other.ensures.part, c.in-Some-pop.ensures.cases, c.each.invariant.parts);
  amount = omega (arith, c.merge.ensures.amount, c.into_parts-other.ensures.amount, made_more _ _ c.in-Some-pop.seat c.in-Some-pop.ensures.items, c.each.invariant.amount);
  pair = c.furthest-reader.ensures.pair ∙ c.each.invariant.pair;
  seen = one_more_ended _ _ _ c.in-Some-pop.seat _ _ c.each.invariant.seen c.in-Some-pop.ensures.items c.furthest-reader.ensures.one
      (rw c.into_parts-other.ensures.seen at c.furthest-reader.ensures.other);
}
