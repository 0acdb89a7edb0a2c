-- Lists that are taken from the front, one at a time, and whose last item comes again.
use Rattle.std.specs.Prelude.{ℕ, zero, suc, List, [], ◌∷◌, ◌++◌}

-- the first item, or the one that stands for an empty list
abbrev pub first_or : {E : Type 0} → E → List E → E
first_or none [] = none
first_or none (x ∷ xs) = x

-- what is left behind the first item: the last one stays
abbrev pub behind_first : {E : Type 0} → List E → List E
behind_first [] = []
behind_first (x ∷ []) = x ∷ []
behind_first (x ∷ y ∷ xs) = y ∷ xs

-- what is left behind the first n items
abbrev pub behind_firsts : {E : Type 0} → List E → ℕ → List E
behind_firsts xs zero = xs
behind_firsts xs (suc n) = behind_first (behind_firsts xs n)

-- the first n items, one after the other
abbrev pub firsts_or : {E : Type 0} → E → List E → ℕ → List E
firsts_or none xs zero = []
firsts_or none xs (suc n) = firsts_or none xs n ++ first_or none (behind_firsts xs n) ∷ []
