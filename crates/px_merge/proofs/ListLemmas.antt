-- Lists and tests.
use Rattle.std.proofs.Common.{◌≡◌, ℕ, zero, suc, ◌+◌, ◌<◌, Bool, true, ◌⊎◌, ◌||◌, List, [], ◌∷◌, ◌++◌, length, get_or, drop, map, Some, refl, sym, ap, subst, ◌∙◌, arith}
use Rattle.std.specs.Prelude.{slice_get}
use Rattle.std.specs.List.{list_any, flat_map}
use Rattle.std.proofs.lemmas.Bool.{or_left, or_right, or_cases, false≢true}
use mathlib.Core.Logic.{⊎_elim}
use Rattle.std.proofs.lemmas.List.Folds.{list_any-append}

-- an item that passes stands at some place
pub record StandsAt {X : Type 0} (p : X → Bool) (xs : List X) : Type 0 where
  pub place : ℕ
  pub item : X
  pub at : slice_get xs place ≡ Some item
  pub passes : p item ≡ true

stands_later : {X : Type 0} (p : X → Bool) (x : X) (xs : List X) → StandsAt p xs → StandsAt p (x ∷ xs)
stands_later p x xs s = record { place = suc s.place; item = s.item; at = s.at; passes = s.passes }

pub stands_at : {X : Type 0} (p : X → Bool) (xs : List X) → list_any p xs ≡ true → StandsAt p xs
stands_at p [] e = absurd (false≢true e)
stands_at p (x ∷ xs) e =
    ⊎_elim (λ here. record { place = zero; item = x; at = refl; passes = here }) (λ later. stands_later p x xs (stands_at p xs later)) (or_cases (p x) (list_any p xs) e)

pub any_at : {X : Type 0} (p : X → Bool) (xs : List X) (i : ℕ) (x : X) → slice_get xs i ≡ Some x → p x ≡ true → list_any p xs ≡ true
any_at p [] i x at passes = grind (arith, at)
any_at p (y ∷ ys) zero x at passes = or_left (p y) (list_any p ys) (grind (arith, at, passes))
any_at p (y ∷ ys) (suc i) x at passes = or_right (p y) (list_any p ys) (any_at p ys i x at passes)

pub any_left : {X : Type 0} (p : X → Bool) (xs ys : List X) → list_any p xs ≡ true → list_any p (xs ++ ys) ≡ true
any_left p xs ys e = list_any-append p xs ys ∙ or_left (list_any p xs) (list_any p ys) e

pub any_right : {X : Type 0} (p : X → Bool) (xs ys : List X) → list_any p ys ≡ true → list_any p (xs ++ ys) ≡ true
any_right p xs ys e = list_any-append p xs ys ∙ or_right (list_any p xs) (list_any p ys) e

pub any_either : {X : Type 0} (p : X → Bool) (xs ys : List X) → list_any p (xs ++ ys) ≡ true → (list_any p xs ≡ true) ⊎ (list_any p ys ≡ true)
any_either p xs ys e = or_cases (list_any p xs) (list_any p ys) (sym (list_any-append p xs ys) ∙ e)

-- what is among some parts is among larger ones
pub any_parts : {X Y : Type 0} (p : Y → Bool) (f g : X → List Y) (xs : List X) → ((x : X) → list_any p (f x) ≡ true → list_any p (g x) ≡ true)
    → list_any p (flat_map f xs) ≡ true → list_any p (flat_map g xs) ≡ true
any_parts p f g [] larger e = e
any_parts p f g (x ∷ xs) larger e =
    ⊎_elim (λ here. any_left p (g x) (flat_map g xs) (larger x here)) (λ later. any_right p (g x) (flat_map g xs) (any_parts p f g xs larger later))
    (any_either p (f x) (flat_map f xs) e)

-- what is in the part of each item that passes is among the parts, where one passes
pub any_part : {X Y : Type 0} (p : Y → Bool) (q : X → Bool) (g : X → List Y) (xs : List X) → ((x : X) → q x ≡ true → list_any p (g x) ≡ true)
    → list_any q xs ≡ true → list_any p (flat_map g xs) ≡ true
any_part p q g [] each e = e
any_part p q g (x ∷ xs) each e =
    ⊎_elim (λ here. any_left p (g x) (flat_map g xs) (each x here)) (λ later. any_right p (g x) (flat_map g xs) (any_part p q g xs each later))
    (or_cases (q x) (list_any q xs) e)

-- what passes in some part passes in the joined parts, and the other way round
pub any_flat : {X Y : Type 0} (p : Y → Bool) (f : X → List Y) (xs : List X) → list_any p (flat_map f xs) ≡ true → list_any (λ x. list_any p (f x)) xs ≡ true
any_flat p f [] e = e
any_flat p f (x ∷ xs) e =
    ⊎_elim (λ here. or_left (list_any p (f x)) (list_any (λ y. list_any p (f y)) xs) here)
    (λ later. or_right (list_any p (f x)) (list_any (λ y. list_any p (f y)) xs) (any_flat p f xs later))
    (any_either p (f x) (flat_map f xs) e)

pub any_map : {X Y : Type 0} (p : Y → Bool) (f : X → Y) (xs : List X) → list_any p (map f xs) ≡ list_any (λ x. p (f x)) xs
any_map p f [] = refl
any_map p f (x ∷ xs) = ap (λ b. p (f x) || b) (any_map p f xs)

-- what stands at a place that is passed over
pub drop_step : {X : Type 0} (xs : List X) (i : ℕ) (d : X) → i < length xs → drop i xs ≡ get_or xs i d ∷ drop (i + 1) xs
drop_step xs i d within =
    let same : suc i ≡ i + 1 = omega arith in
    subst (λ n. drop i xs ≡ get_or xs i d ∷ drop n xs) same (drop_suc xs i d within)
  where
    drop_suc : {X : Type 0} (xs : List X) (i : ℕ) (d : X) → i < length xs → drop i xs ≡ get_or xs i d ∷ drop (suc i) xs
    drop_suc [] i d within = absurd (omega (arith, within))
    drop_suc (x ∷ xs) zero d within = refl
    drop_suc (x ∷ xs) (suc i) d within = drop_suc xs i d (omega (arith, within))
