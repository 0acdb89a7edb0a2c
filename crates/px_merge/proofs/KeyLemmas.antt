-- Texts that are the same without case have the same slot.
use Rattle.std.proofs.Common.{◌≡◌, ℕ, ◌%◌, List, true, ap}
use Rattle.std.specs.Prelude.{◌==◌, if◌then◌else◌}
use Rattle.std.specs.Str.{str_eq_ignore_ascii_case, str_to_ascii_lowercase}
use Rattle.std.proofs.lemmas.Slice.Eq.{bytes_eq-Decides}
use Rattle.px_merge.specs.Keys.{key_number, number_behind, slot_number}

same_number : (a b : List ℕ) → str_eq_ignore_ascii_case a b ≡ true → key_number a ≡ key_number b
unfolding key_number
same_number a b e = ap (number_behind 0) ((bytes_eq-Decides (str_to_ascii_lowercase a) (str_to_ascii_lowercase b)).0 e)

pub same_slot : (count : ℕ) (a b : List ℕ) → str_eq_ignore_ascii_case a b ≡ true → slot_number count a ≡ slot_number count b
unfolding slot_number
same_slot count a b e = ap (λ n. if count == 0 then 0 else n % count) (same_number a b e)
