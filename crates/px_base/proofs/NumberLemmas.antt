-- Decimal numbers.
use Rattle.std.proofs.Common.{◌≡◌, ℕ, ◌+◌, ◌-◌, ◌*◌, ◌≤◌, ◌<◌, false, List, [], ◌∷◌, length, drop, get_or, None, ap, cond, not, ◌==◌, leb, ◌∙◌, arith, drop-cons, suc}
use Rattle.std.proofs.lemmas.Bool.{and_right, lt-leb}
use Rattle.px_base.specs.Numbers.{all_digits, with_digits, decimal}
use Rattle.std.specs.Prelude.{Some}

-- more digits don't make a number smaller
pub with_digits_grows : (n : ℕ) (bs : List ℕ) → n ≤ with_digits n bs
with_digits_grows n [] = omega arith
with_digits_grows n (b ∷ bs) = omega (arith, with_digits_grows (10 * n + (b - 48)) bs)

-- a number that is too large already
pub too_large : (most n i : ℕ) (bs : List ℕ) → i < length bs → with_digits 0 bs ≡ with_digits n (drop i bs) → most < 10 * n + (get_or bs i 0 - 48) → decimal most bs ≡ None
unfolding decimal
too_large most n i bs l same large =
    let step : with_digits 0 bs ≡ with_digits (10 * n + (get_or bs i 0 - 48)) (drop (suc i) bs) = same ∙ ap (with_digits n) (drop-cons bs i 0 l) in
    let grows = with_digits_grows (10 * n + (get_or bs i 0 - 48)) (drop (suc i) bs) in
    let above : leb (with_digits 0 bs) most ≡ false = lt-leb (with_digits 0 bs) most (omega arith) in
    ap (λ b. cond b (Some (with_digits 0 bs)) None) (and_right (not (length bs == 0)) _ (and_right (all_digits bs) _ above))
