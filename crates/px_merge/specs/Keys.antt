-- Numbers of texts, the same for texts that are the same without case.
use Rattle.std.specs.Prelude.{ℕ, ◌+◌, ◌*◌, ◌%◌, ◌==◌, if◌then◌else◌, List, [], ◌∷◌}
use Rattle.std.specs.Str.{str_to_ascii_lowercase}

-- the number behind some more bytes
unfoldable pub number_behind : ℕ → List ℕ → ℕ
number_behind number [] = number
number_behind number (b ∷ bytes) = number_behind ((number * 257 + b) % 4294967291) bytes

-- the number of a text in small letters
unfoldable pub key_number : List ℕ → ℕ
key_number text = number_behind 0 (str_to_ascii_lowercase text)

-- which of some slots a text has
unfoldable pub slot_number : ℕ → List ℕ → ℕ
slot_number count text = if count == 0 then 0 else key_number text % count
