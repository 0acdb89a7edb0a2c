-- White space: space and tab.
use Rattle.std.specs.Prelude.{ℕ, Bool, true, ◌==◌, ◌&&◌, ◌||◌, if◌then◌else◌, List, [], ◌∷◌}

abbrev pub is_blank : ℕ → Bool
is_blank b = b == 32 || b == 9

abbrev pub all_blank : List ℕ → Bool
all_blank [] = true
all_blank (b ∷ bs) = is_blank b && all_blank bs

-- without the white space at the front
abbrev pub trim_front : List ℕ → List ℕ
trim_front [] = []
trim_front (b ∷ bs) = if is_blank b then trim_front bs else b ∷ bs

-- without the white space at the end
abbrev pub trim_end : List ℕ → List ℕ
trim_end [] = []
trim_end (b ∷ bs) = if all_blank (b ∷ bs) then [] else b ∷ trim_end bs

-- without the white space at both ends
unfoldable pub trimmed : List ℕ → List ℕ
trimmed bs = trim_end (trim_front bs)
