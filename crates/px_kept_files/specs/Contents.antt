-- What reading a file gives.
use Rattle.std.specs.Prelude.{ℕ, ◌≤◌, length}
use Rattle.px_kept_files.specs.declared.kept_files.Reading.{Reading}
use Rattle.px_kept_files.specs.declared.kept_files.Reading.TheVariants as reading

-- what was read whole is within the limit
abbrev pub FitsReading : ℕ → Reading → Type 0
FitsReading limit reading.Missing = Unit {0}
FitsReading limit reading.Over = Unit {0}
FitsReading limit (reading.Whole bytes stamp) = length bytes ≤ limit
