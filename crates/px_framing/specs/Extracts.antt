-- The data of whole elements, taken run by run.
use Rattle.std.specs.Prelude.{◌≡◌, List, ℕ, ◌++◌, take, drop, Option, Some, None}
use Rattle.px_framing.specs.declared.extracts.ElementRun.{ElementRun}
use Rattle.px_framing.specs.Elements.{AreWhole}

-- a run at the front divides whole elements: its data come first, and whole elements stand behind it
abbrev pub Divides : List ℕ → List ℕ → Option ElementRun → Type 0
Divides bytes data_bytes None = ⊥
Divides bytes data_bytes (Some run) =
    (rest : List ℕ) × AreWhole run.next (drop run.len bytes) rest × (data_bytes ≡ take run.data_len bytes ++ rest)
