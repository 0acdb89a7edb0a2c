-- How a job's text is cut into a pattern, a substitute and flags.
use Rattle.std.specs.Prelude.{ℕ, ◌+◌, Bool, true, false, ◌&&◌, ◌||◌, not, ◌==◌, nat_lt, List, [], ◌∷◌, ◌++◌, Option, Some, None, option_map, if◌then◌else◌}
use Rattle.std.specs.Char.{is_ascii_alphanumeric}

abbrev pub backslash : ℕ
backslash = 92

-- an ASCII byte that is no letter, digit, space, tab or backslash
abbrev pub is_delimiter : ℕ → Bool
is_delimiter b = nat_lt b 128 && not (is_ascii_alphanumeric b || (b == 32 || (b == 9 || b == backslash)))

-- Where a field ends: at the first delimiter that no backslash takes along. `taken` says that the byte before is a
-- backslash that takes the first byte along.
abbrev pub field_end : ℕ → Bool → List ℕ → Option ℕ
field_end d taken [] = None
field_end d taken (b ∷ bs) =
    if not taken && b == d then Some 0 else option_map (λ n. n + 1) (field_end d (not taken && b == backslash) bs)

-- What a field stands for: the backslash before a delimiter is dropped, one before another byte stays with it.
abbrev pub unescaped_field : ℕ → Bool → List ℕ → List ℕ
unescaped_field d taken [] = []
unescaped_field d taken (b ∷ bs) =
    if not taken && b == backslash then unescaped_field d true bs
    else (if taken && not (b == d) then backslash ∷ b ∷ [] else b ∷ []) ++ unescaped_field d false bs
