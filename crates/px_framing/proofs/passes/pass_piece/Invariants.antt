use Rattle.std.proofs.Common.{◌≡◌, ◌+◌, ◌-◌, ◌≤◌, ◌++◌, min, length, take, false, vec_capacity}
use Rattle.px_framing.specs.declared.TheConstants.{LINE_LIMIT}
use Rattle.px_framing.specs.Reading.{IsHeld, is_last}
use Rattle.px_framing.specs.Passing.{Goes, settled}
use Rattle.px_framing.proofs.passes.pass_piece.Given as goal

abbrev pub invariant-loop-at : goal.invariant-loop-at
invariant-loop-at l = record {
  within : l.at ≤ length l.piece;
  more : is_last l.place ≡ false;
  held : IsHeld l.place l.kept.items;
  whole : l.whole ≤ l.at;
  goes : Goes l.fn.start l.initial.kept.items (take l.at l.piece) (settled l.initial.kept.items l.piece l.whole) l.place l.kept.items;
  all : settled l.initial.kept.items l.piece l.whole ++ l.kept.items ≡ l.initial.kept.items ++ take l.at l.piece;
  kept : min LINE_LIMIT (length l.initial.kept.items + length l.piece) ≤ vec_capacity l.kept;
}

abbrev pub decreases-loop-at : goal.decreases-loop-at
decreases-loop-at l = length l.piece - l.at
