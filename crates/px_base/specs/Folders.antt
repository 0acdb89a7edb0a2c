-- Files in memory: lists of names and contents.
use Rattle.std.specs.Prelude.{ℕ, ◌+◌, if◌then◌else◌, List, [], ◌∷◌, drop, map, slice_index_or, Some, None}
use Rattle.std.specs.Str.{bytes_eq}
use Rattle.px_base.specs.Contents.{Contents}

-- what a name holds: the first file of that name
abbrev pub holds : List (List ℕ × List ℕ) → Contents
holds [] name = None
holds (f ∷ fs) name = if bytes_eq f.0 name then Some f.1 else holds fs name

-- the files of the state at a place; there are none where there is no state
abbrev pub files_at : List (List (List ℕ × List ℕ)) → ℕ → List (List ℕ × List ℕ)
files_at states at = slice_index_or states at []

-- the contents of the states behind a place
abbrev pub states_behind : List (List (List ℕ × List ℕ)) → ℕ → List Contents
states_behind states at = map holds (drop (at + 1) states)
