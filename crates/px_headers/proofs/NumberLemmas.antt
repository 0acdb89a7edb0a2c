-- A number that is read is within its limit.
use Rattle.std.proofs.Common.{◌≡◌, ℕ, ◌≤◌, Bool, true, false, List, Some, None, refl, arith}
use Rattle.std.specs.Prelude.{◌&&◌, ◌==◌, not, nat_le, length, if◌then◌else◌}
use Rattle.std.proofs.lemmas.Bool.Decides.{nat_tests}
use Rattle.px_base.specs.Numbers.{all_digits, decimal, with_digits}

and-last : (a b c : Bool) → (a && (b && c)) ≡ true → c ≡ true
and-last true true c is = is
and-last true false c is = cc
and-last false b c is = cc

le-of : (a b : ℕ) → nat_le a b ≡ true → a ≤ b
le-of a b is = grind (arith, nat_tests)

taken : (b : Bool) (v n most : ℕ) → (b ≡ true → v ≤ most) → (if b then Some v else None) ≡ Some n → n ≤ most
taken true v n most fits is = let le = fits refl in let same : v ≡ n = cc in omega arith
taken false v n most fits is = absurd cc

pub decimal_within : (most n : ℕ) (bs : List ℕ) → decimal most bs ≡ Some n → n ≤ most
unfolding decimal
decimal_within most n bs is =
    taken (not (length bs == 0) && (all_digits bs && nat_le (with_digits 0 bs) most)) (with_digits 0 bs) n most
    (λ t. le-of (with_digits 0 bs) most (and-last (not (length bs == 0)) (all_digits bs) (nat_le (with_digits 0 bs) most) t)) is
