-- A list of one word.
use Rattle.std.proofs.Common.{◌≡◌, ◌<◌, ◌≤◌, List, [], ◌∷◌, length, get_or, map, refl, arith}

pub just_one : {A B : Type 0} (f : A → B) (xs : List A) (a : A) → 1 ≤ length xs → length xs < 2 → a ≡ get_or xs 0 a → map f xs ≡ f a ∷ []
just_one f [] a l m h = absurd (omega arith)
just_one f (w ∷ []) a l m h = rw h refl
just_one f (w ∷ x ∷ xs) a l m h = absurd (omega arith)
