-- The file of a section by its number.
use Rattle.std.proofs.Common.{◌≡◌, ℕ, List, [], Some}
use Rattle.std.proofs.lemmas.Option.{get_or_from_slice_get}
use Rattle.std.specs.Prelude.{slice_get, slice_index_or}

pub name_at : (names : List (List ℕ)) (file : ℕ) (name : List ℕ) → slice_get names file ≡ Some name → slice_index_or names file [] ≡ name
name_at names file name e = get_or_from_slice_get names file name [] e
