-- What the readings of files tell.
use Rattle.std.specs.Prelude.{◌≡◌, ℕ, true, false, if◌then◌else◌, List, Option, Some, None, IsSomeAnd, option_map}
use Rattle.std.specs.Str.{bytes_eq}
use Rattle.px_base.specs.declared.files.Content.{Content}
use Rattle.px_base.specs.declared.files.Content.TheVariants as content
use Rattle.px_kept_files.specs.Stamps.{is_settled}
use Rattle.px_kept_files.specs.declared.stamps.FileStamp.{FileStamp}
use Rattle.px_kept_files.specs.declared.readings.Readings.{Readings, Start, Whole'}

-- what a whole reading gave: when it was begun, how the file looked, if that is known, and its bytes
pub record WholeReading : Type 0 where
  pub begun : ℕ
  pub stamp : Option FileStamp
  pub bytes : List ℕ

-- the newest reading of a name
abbrev pub last_reading : Readings → List ℕ → Option WholeReading
last_reading Start name = None
last_reading (Whole' shape before file begun stamp bytes) name =
    if bytes_eq name file.value then Some (record { begun = begun.value; stamp = stamp.value; bytes = bytes.value }) else last_reading before name

-- the bytes that the newest reading of a name gave
abbrev pub last_bytes : Readings → List ℕ → Option (List ℕ)
last_bytes readings name = option_map (λ (r : WholeReading). r.bytes) (last_reading readings name)

-- what is found under a name are the bytes of its newest reading
abbrev pub IsLastRead : Readings → List ℕ → Content → Type 0
IsLastRead readings name content.Missing = Unit {0}
IsLastRead readings name content.Over = Unit {0}
IsLastRead readings name (content.Found bytes) = last_bytes readings name ≡ Some bytes

-- the bytes are those of the newest reading of the name: the file looked so then, and a change since would have changed that
abbrev pub IsReadAs : Readings → List ℕ → FileStamp → List ℕ → Type 0
IsReadAs readings name stamp bytes =
    IsSomeAnd (last_reading readings name) (λ r. (r.stamp ≡ Some stamp) × ((r.bytes ≡ bytes) × (is_settled stamp r.begun ≡ true)))

-- what is found without a reading was read when the file looked so
abbrev pub IsFoundAs : Readings → List ℕ → FileStamp → Content → Type 0
IsFoundAs readings name stamp content.Missing = Unit {0}
IsFoundAs readings name stamp content.Over = Unit {0}
IsFoundAs readings name stamp (content.Found bytes) = IsReadAs readings name stamp bytes

-- no other name was read
abbrev pub ReadsOnly : List ℕ → Readings → Readings → Type 0
ReadsOnly name old new = (other : List ℕ) → bytes_eq other name ≡ false → last_reading new other ≡ last_reading old other
