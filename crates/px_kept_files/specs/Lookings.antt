-- What a look gives by itself.
use Rattle.std.specs.Prelude.{◌≡◌, ℕ, List}
use Rattle.px_base.specs.declared.files.Content.{Content}
use Rattle.px_base.specs.declared.files.Content.TheVariants as content
use Rattle.px_kept_files.specs.Readings.{IsFoundAs}
use Rattle.px_kept_files.specs.declared.readings.Readings.{Readings}
use Rattle.px_kept_files.specs.declared.looks.Look.{Look}
use Rattle.px_kept_files.specs.declared.looks.Look.TheVariants as look

-- what isn't there is missing, and what is found was read when the file looked so
abbrev pub GivenByLook : Readings → List ℕ → Look → Content → Type 0
GivenByLook readings name look.Missing given = given ≡ content.Missing
GivenByLook readings name (look.Stamp stamp) given = IsFoundAs readings name stamp given
GivenByLook readings name look.Unknown given = ⊥
