-- What is so of the names that were asked.
use Rattle.std.specs.Prelude.{◌≡◌, ℕ, ◌≤◌, true, List, length, Option, Some, None, IfSome, IsSomeAnd}
use Rattle.px_kept_files.specs.Readings.{last_reading}
use Rattle.px_kept_files.specs.Stamps.{is_settled}
use Rattle.px_kept_files.specs.declared.looks.Look.{Look}
use Rattle.px_kept_files.specs.declared.looks.Look.TheVariants as look
use Rattle.px_kept_files.specs.declared.readings.Readings.{Readings}
use Rattle.px_kept_files.specs.declared.stores.AskedFile.{AskedFile}
use Rattle.px_kept_files.specs.declared.stores.SeenFile.{SeenFile}

-- the look that tells that a name holds what it held when it was asked
abbrev pub look_of : Option SeenFile → Look
look_of None = look.Missing
look_of (Some seen) = look.Stamp seen.stamp

-- the bytes that are kept are all that was read, and they are few
abbrev pub AreBytes : List ℕ → Option (List ℕ) → Type 0
AreBytes bytes kept = IfSome kept (λ b. (b ≡ bytes) × (length b ≤ 1048576))

-- the newest reading of a name gave its bytes whole, when the file looked so; a change since would have changed that
abbrev pub IsSeenAsRead : Readings → List ℕ → SeenFile → Type 0
IsSeenAsRead readings name seen = IsSomeAnd (last_reading readings name)
    (λ r. (r.stamp ≡ Some seen.stamp) × ((is_settled seen.stamp r.begun ≡ true) × ((seen.stamp.size ≡ length r.bytes) × AreBytes r.bytes seen.bytes)))

-- a name that was asked: it was missing, or was read so
abbrev pub IsKeptAsRead : Readings → AskedFile → Type 0
IsKeptAsRead readings kept = IfSome kept.seen (IsSeenAsRead readings kept.name)
