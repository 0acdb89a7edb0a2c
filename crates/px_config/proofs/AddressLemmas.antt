-- The parts of an address.
use Rattle.std.proofs.Common.{◌≡◌, ℕ, ◌+◌, false, List, [], ◌∷◌, length, count_by, refl, arith}
use Rattle.std.proofs.lemmas.List.Splits.{length-slice_split}
use Rattle.std.specs.List.{slice_split}
use Rattle.px_config.specs.Addresses.{are_numbers, is_dot}

-- five parts or more aren't 127 and three numbers
pub five_parts : (a b c d more : List ℕ) → are_numbers (a ∷ b ∷ c ∷ d ∷ slice_split is_dot more) ≡ false
five_parts a b c d more = by (slice_split is_dot more) (length-slice_split is_dot more)
  where
    by : (parts : List (List ℕ)) → length parts ≡ count_by is_dot more + 1 → are_numbers (a ∷ b ∷ c ∷ d ∷ parts) ≡ false
    by [] e = absurd (omega (arith, e))
    by (part ∷ parts) e = refl
