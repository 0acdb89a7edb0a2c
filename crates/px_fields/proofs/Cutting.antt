-- What is left of a text that is cut part by part.
use Rattle.std.proofs.Common.{ℕ, ◌+◌, List, Option, Some, None, length}

abbrev pub left : Option (List ℕ) → ℕ
left None = 0
left (Some bs) = length bs + 1
