-- No two lists have one name.
use Rattle.std.proofs.Common.{◌≡◌, ℕ, zero, suc, ◌<◌, List, [], ◌∷◌, ap, refl, arith}
use Rattle.px_pool_ends.specs.Names.{pair_number, name}

pub pair_some : (a b : ℕ) → 0 < pair_number a b
pair_some zero b = omega arith
pair_some (suc a) b = omega (arith, pair_some a b)

pub pair_first : (a b c d : ℕ) → pair_number a b ≡ pair_number c d → (a ≡ c) × (b ≡ d)
pair_first zero b zero d e = (refl, omega arith)
pair_first zero b (suc c) d e = absurd (omega arith)
pair_first (suc a) b zero d e = absurd (omega arith)
pair_first (suc a) b (suc c) d e = let p = pair_first a b c d (omega arith) in (ap suc p.0, p.1)

cons_same : (x y : ℕ) (xs ys : List ℕ) → x ≡ y → xs ≡ ys → ◌≡◌ {A = List ℕ} (x ∷ xs) (y ∷ ys)
cons_same x y xs ys e f = cc

pub name_of_one : (xs ys : List ℕ) → name xs ≡ name ys → xs ≡ ys
name_of_one [] [] e = refl
name_of_one [] (y ∷ ys) e = absurd (omega (arith, pair_some y (name ys)))
name_of_one (x ∷ xs) [] e = absurd (omega (arith, pair_some x (name xs)))
name_of_one (x ∷ xs) (y ∷ ys) e = let p = pair_first x (name xs) y (name ys) e in cons_same x y xs ys p.0 (name_of_one xs ys p.1)
