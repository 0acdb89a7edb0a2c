-- What is taken of a list of bytes as a whole.
use Rattle.std.specs.Prelude.{ℕ, ◌-◌, Bool, true, false, List, [], ◌∷◌, length, take, Option, Some, None}

-- the bytes, if there are any
abbrev pub nonempty : List ℕ → Option (List ℕ)
nonempty [] = None
nonempty (b ∷ bs) = Some (b ∷ bs)

-- the bytes without the last one
abbrev pub without_last : List ℕ → List ℕ
without_last bytes = take (length bytes - 1) bytes

-- the bytes, where they are told, else none: what an end that doesn't tell says of its bytes means nothing
abbrev pub told : Bool → List ℕ → List ℕ
told true bytes = bytes
told false bytes = []
