use Rattle.std.proofs.Common.{◌≡◌, ◌+◌, ◌≤◌, length, false}
use Rattle.px_actions.specs.Braces.{counted_text, depths, piece_length}
use Rattle.px_actions.proofs.braces.first_piece.Given as goal

abbrev pub invariant-bytes : goal.invariant-bytes
invariant-bytes l = record {
  same : l.len + piece_length l.rest (depths l.braces.open (counted_text l.braces.behind l.rest)) ≡ piece_length l.text (depths 0 (counted_text false l.text));
  room : l.braces.open + length l.rest ≤ length l.text;
  place : l.len + length l.rest ≡ length l.text;
}

abbrev pub decreases-bytes : goal.decreases-bytes
decreases-bytes l = length l.rest
