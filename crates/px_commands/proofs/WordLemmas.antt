-- The first words of a list.
use Rattle.std.proofs.Common.{◌≡◌, ◌-◌, ◌≤◌, List, [], ◌∷◌, length, take, drop, get_or, map, refl, arith}
use Rattle.std.proofs.lemmas.List.{take_all}

-- a list of just two words
pub just_two : {A B : Type 0} (f : A → B) (xs : List A) (a b : A) → length xs ≡ 2 → a ≡ get_or xs 0 a → b ≡ get_or xs 1 b → map f xs ≡ f a ∷ f b ∷ []
just_two f [] a b l h i = absurd (omega (arith, l))
just_two f (w ∷ []) a b l h i = absurd (omega (arith, l))
just_two f (w ∷ x ∷ []) a b l h i = rw (h, i) refl
just_two f (w ∷ x ∷ y ∷ xs) a b l h i = absurd (omega (arith, l))

pub first_two : {A B : Type 0} (f : A → B) (xs : List A) (a b : A) → 2 ≤ length xs → a ≡ get_or xs 0 a → b ≡ get_or xs 1 b
    → map f xs ≡ f a ∷ f b ∷ map f (take (length xs - 2) (drop 2 xs))
first_two f [] a b l h i = absurd (omega arith)
first_two f (w ∷ []) a b l h i = absurd (omega arith)
first_two f (w ∷ x ∷ xs) a b l h i = rw (h, i, take_all (length (w ∷ x ∷ xs) - 2) xs (omega arith)) refl

pub first_three : {A B : Type 0} (f : A → B) (xs : List A) (a b c : A) → 3 ≤ length xs → a ≡ get_or xs 0 a → b ≡ get_or xs 1 b → c ≡ get_or xs 2 c
    → map f xs ≡ f a ∷ f b ∷ f c ∷ map f (take (length xs - 3) (drop 3 xs))
first_three f [] a b c l h i j = absurd (omega arith)
first_three f (w ∷ []) a b c l h i j = absurd (omega arith)
first_three f (w ∷ x ∷ []) a b c l h i j = absurd (omega arith)
first_three f (w ∷ x ∷ y ∷ xs) a b c l h i j = rw (h, i, j, take_all (length (w ∷ x ∷ y ∷ xs) - 3) xs (omega arith)) refl

pub first_four : {A B : Type 0} (f : A → B) (xs : List A) (a b c d : A) → 4 ≤ length xs → a ≡ get_or xs 0 a → b ≡ get_or xs 1 b → c ≡ get_or xs 2 c → d ≡ get_or xs 3 d
    → map f xs ≡ f a ∷ f b ∷ f c ∷ f d ∷ map f (take (length xs - 4) (drop 4 xs))
first_four f [] a b c d l h i j k = absurd (omega arith)
first_four f (w ∷ []) a b c d l h i j k = absurd (omega arith)
first_four f (w ∷ x ∷ []) a b c d l h i j k = absurd (omega arith)
first_four f (w ∷ x ∷ y ∷ []) a b c d l h i j k = absurd (omega arith)
first_four f (w ∷ x ∷ y ∷ z ∷ xs) a b c d l h i j k = rw (h, i, j, k, take_all (length (w ∷ x ∷ y ∷ z ∷ xs) - 4) xs (omega arith)) refl

-- the words behind the first
pub behind_first : {A B : Type 0} (f : A → B) (xs : List A) (b : B) (rest : List B) → map f xs ≡ b ∷ rest → map f (take (length xs - 1) (drop 1 xs)) ≡ rest
behind_first f [] b rest e = (cc)
behind_first f (x ∷ xs) b rest e = rw (take_all (length (x ∷ xs) - 1) xs (omega arith)) (cc)
