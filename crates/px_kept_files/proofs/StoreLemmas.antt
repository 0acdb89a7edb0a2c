-- What is kept stays so behind a reading of another name.
use Rattle.std.proofs.Common.{◌≡◌, sym, subst, ℕ, Bool, true, false, not, if◌then◌else◌, List, [], ◌∷◌, All, IsPermutation, filter, length, Option, Some, None, IfSome, IsSomeAnd, refl, bytes_eq}
use Rattle.std.proofs.lemmas.List.Sorted.{All-permutation}
use Rattle.std.proofs.lemmas.List.Elements.{All-nil, All-cons, All-head, All-tail}
use Rattle.px_kept_files.specs.declared.stores.AskedFile.{AskedFile}
use Rattle.px_kept_files.specs.declared.stores.SeenFile.{SeenFile}
use Rattle.px_kept_files.specs.declared.readings.Readings.{Readings}
use Rattle.px_kept_files.specs.Readings.{IsReadAs, ReadsOnly, WholeReading, last_reading}
use Rattle.px_kept_files.specs.Stamps.{is_settled}
use Rattle.px_kept_files.specs.Stores.{AreBytes, IsKeptAsRead, IsSeenAsRead}

-- a file of another name is kept as before
kept_on : (old new : Readings) (name : List ℕ) → ReadsOnly name old new → (kept : AskedFile) → IsKeptAsRead old kept → bytes_eq kept.name name ≡ false → IsKeptAsRead new kept
kept_on old new name only kept is other = by kept.seen is
  where
    by : (seen : Option SeenFile) → IfSome seen (IsSeenAsRead old kept.name) → IfSome seen (IsSeenAsRead new kept.name)
    by None is = tt {0}
    by (Some seen) is = rw (only kept.name other) is

left : (new : Readings) (kept : AskedFile) (rest : List AskedFile) (same : Bool) → All (IsKeptAsRead new) rest → (same ≡ false → IsKeptAsRead new kept) → All (IsKeptAsRead new) (if not same then kept ∷ rest else rest)
left new kept rest true all is = all
left new kept rest false all is = All-cons (IsKeptAsRead new) kept rest (is refl) all

-- so are all that are left behind a reading of this name
pub others_kept : (old new : Readings) (name : List ℕ) → ReadsOnly name old new → (files : List AskedFile) → All (IsKeptAsRead old) files → All (IsKeptAsRead new) (filter (λ (kept : AskedFile). not (bytes_eq kept.name name)) files)
others_kept old new name only [] all = All-nil (IsKeptAsRead new)
others_kept old new name only (kept ∷ files) all =
    left new kept _ (bytes_eq kept.name name) (others_kept old new name only files (All-tail (IsKeptAsRead old) kept files all)) (kept_on old new name only kept (All-head (IsKeptAsRead old) kept files all))

-- what is kept was read when the file looked so
pub read_as : (readings : Readings) (name : List ℕ) (seen : SeenFile) (bytes : List ℕ) → IsSeenAsRead readings name seen → seen.bytes ≡ Some bytes → IsReadAs readings name seen.stamp bytes
read_as readings name seen bytes is kept = by (last_reading readings name) is
  where
    by : (last : Option WholeReading) → IsSomeAnd last (λ r. (r.stamp ≡ Some seen.stamp) × ((is_settled seen.stamp r.begun ≡ true) × ((seen.stamp.size ≡ length r.bytes) × AreBytes r.bytes seen.bytes)))
        → IsSomeAnd last (λ r. (r.stamp ≡ Some seen.stamp) × ((r.bytes ≡ bytes) × (is_settled seen.stamp r.begun ≡ true)))
    by None is = absurd is
    by (Some r) (looks, (settled, (size, are))) = (looks, (sym (subst (λ (b : Option (List ℕ)). AreBytes r.bytes b) kept are).0, settled))

-- the order of the files doesn't matter
pub kept_shuffled : (readings : Readings) (old new : List AskedFile) → IsPermutation old new → All (IsKeptAsRead readings) old → All (IsKeptAsRead readings) new
kept_shuffled readings old new shuffled all = All-permutation (IsKeptAsRead readings) old new shuffled all
