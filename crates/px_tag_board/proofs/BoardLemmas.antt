-- Seats that were ended.
use Rattle.std.proofs.Common.{◌≡◌, ℕ, ◌+◌, ◌≤◌, sum_by, List, [], ◌∷◌, ◌++◌, All, length, ap, ◌∙◌, arith}
use Rattle.std.proofs.lemmas.List.{append_assoc}
use Rattle.std.proofs.lemmas.List.Elements.{All-cons, All-weaker}
use Rattle.std.proofs.lemmas.List.Sums.{sum_by_push}
use Rattle.px_tag_board.specs.Seats.{SeatState}

-- the seat has seen so many states at most
abbrev pub SawWithin : ℕ → SeatState → Type 0
SawWithin most seat = length seat.seen ≤ most

-- one more was ended, by a reader that has seen no less
pub one_more_ended : (all left rest : List SeatState) (seat : SeatState) (n m : ℕ) → ((ended : List SeatState) × (all ≡ left ++ ended) × All (SawWithin n) ended)
    → left ≡ rest ++ seat ∷ [] → n ≤ m → length seat.seen ≤ m → (ended : List SeatState) × (all ≡ rest ++ ended) × All (SawWithin m) ended
one_more_ended all left rest seat n m (ended, e, within) popped more saw = (
  seat ∷ ended,
  e ∙ ap (λ (seats : List SeatState). seats ++ ended) popped ∙ append_assoc rest (seat ∷ []) ended,
  All-cons (SawWithin m) seat ended saw (All-weaker (SawWithin n) (SawWithin m) (λ s h. omega (arith, h, more)) ended within),
)

-- the changes of seats are those of all but the last and its own
pub made_more : (left rest : List SeatState) (seat : SeatState) → left ≡ rest ++ seat ∷ [] → sum_by (λ (s : SeatState). s.made) left ≡ sum_by (λ (s : SeatState). s.made) rest + seat.made
made_more left rest seat popped = ap (λ (seats : List SeatState). sum_by (λ (s : SeatState). s.made) seats) popped ∙ sum_by_push (λ (s : SeatState). s.made) rest seat
