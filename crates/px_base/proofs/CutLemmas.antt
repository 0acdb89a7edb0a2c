-- Cutting a text at a byte.
use Rattle.std.proofs.Common.{◌≡◌, ℕ, ◌+◌, ◌-◌, ◌<◌, Bool, true, false, List, [], ◌∷◌, length, take, drop, Option, Some, None, cond, refl, sym, ap, ◌∙◌, arith, ltb}
use Rattle.std.specs.Prelude.{◌==◌, slice_index, IfSome}
use Rattle.std.specs.List.{slice_split, position_or_len, position}
use Rattle.memchr.specs.Find.{IsFirstByte, is_byte}
use Rattle.std.proofs.lemmas.Grind.{common_steps}
use Rattle.std.proofs.lemmas.Bool.{ltb-true, ltb-false, lt-ltb, le-ltb}
use Rattle.std.proofs.lemmas.List.Splits.{slice_split_first, slice_split_none}
use Rattle.std.proofs.lemmas.List.Sums.{fails_before_first, position_or_len_is}

-- a text by the place of its first cut
abbrev pub cut_at : (ℕ → Bool) → List ℕ → Option ℕ → List (List ℕ)
cut_at p bs None = bs ∷ []
cut_at p bs (Some at) = take at bs ∷ slice_split p (drop (at + 1) bs)

pub cut-first : (p : ℕ → Bool) (bs : List ℕ) → slice_split p bs ≡ cut_at p bs (position p bs)
cut-first p bs = by (ltb (position_or_len p bs) (length bs)) refl
  where
    by : (b : Bool) → ltb (position_or_len p bs) (length bs) ≡ b → slice_split p bs ≡ cut_at p bs (cond b (Some (position_or_len p bs)) None)
    by true e = slice_split_first p bs 0 (ltb-true _ _ e)
    by false e = slice_split_none p bs (λ k d l. fails_before_first p bs k d (omega (arith, ltb-false _ _ e)))

-- a text that is cut at its first place, as a slice reads it
pub cut-some : (p : ℕ → Bool) (bs : List ℕ) (at : ℕ) → Some at ≡ position p bs → slice_split p bs ≡ take at bs ∷ slice_split p (take (length bs - (at + 1)) (drop (at + 1) bs))
cut-some p bs at e =
    let behind_it : take (length bs - (at + 1)) (drop (at + 1) bs) ≡ drop (at + 1) bs = grind (arith, common_steps) in
    rw behind_it (cut-first p bs ∙ ap (cut_at p bs) (sym e))

pub cut-none : (p : ℕ → Bool) (bs : List ℕ) → None ≡ position p bs → slice_split p bs ≡ bs ∷ []
cut-none p bs e = cut-first p bs ∙ ap (cut_at p bs) (sym e)

fails : (b : Bool) → ¬ (b ≡ true) → b ≡ false
fails true = λ no. absurd (no refl)
fails false = λ no. refl

-- what the search for a byte answers is the first place
pub position-first : (byte : ℕ) (bs : List ℕ) (r : Option ℕ) → IsFirstByte (is_byte byte) bs r → r ≡ position (λ b. b == byte) bs
position-first byte bs None none =
    let whole : position_or_len (λ b. b == byte) bs ≡ length bs =
    position_or_len_is (λ b. b == byte) bs (length bs) 0 (omega arith) (λ k l. fails (slice_index bs k == byte) (none k (omega arith) l)) (λ l. absurd (omega (arith, l))) in
    rw (le-ltb (position_or_len (λ b. b == byte) bs) (length bs) (omega (arith, whole))) refl
position-first byte bs (Some at) found =
    let within : at < length bs = found.0.high in
    let here : position_or_len (λ b. b == byte) bs ≡ at =
    position_or_len_is (λ b. b == byte) bs at 0 (omega (arith, within)) (λ k l. fails (slice_index bs k == byte) (found.0.before k (omega arith) l)) (λ l. found.1) in
    rw here (rw (lt-ltb at (length bs) within) refl)

-- that place lies in the text
pub first-within : (byte : ℕ) (bs : List ℕ) (r : Option ℕ) → IsFirstByte (is_byte byte) bs r → IfSome r (λ at. at < length bs)
first-within byte bs None none = tt
first-within byte bs (Some at) found = found.0.high
