-- The first byte of a list that passes a test.
use Rattle.std.proofs.Common.{◌≡◌, ◌≢◌, ℕ, zero, suc, ◌+◌, ◌-◌, ◌<◌, ◌≤◌, Bool, true, false, cond, ltb, List, [], ◌∷◌, length, take, drop, min, refl, ap, sym, subst, ◌∙◌, arith, inl, inr, Option, None, Some}
use Rattle.std.specs.Prelude.{◌==◌, MatchOption, slice_index}
use Rattle.std.specs.List.{after_first, before_first, list_any, position, position_or_len}
use Rattle.std.specs.Str.{str_eq_ignore_ascii_case}
use Rattle.std.proofs.lemmas.Bool.{cases_Bool, eq-eqb, ltb-false, ltb-true, ne_eqb}
use Rattle.std.proofs.lemmas.List.Sums.{passes_at_first}
use Rattle.std.proofs.lemmas.List.{drop-drop, length-take-le, take_all, take_min, take_rest}
use Rattle.px_patterns.specs.Places.{BeginsWithByte, HasPlace, IsCut, LacksPlace}
use Rattle.px_patterns.specs.Urls.{begins_without_case}

-- no byte of the list below this place passes
abbrev NonePasses : (ℕ → Bool) → List ℕ → ℕ → Type 0
NonePasses test bytes at = (k : ℕ) → 0 ≤ k → k < at → ¬ (test (slice_index bytes k) ≡ true)

first_fails : (test : ℕ → Bool) (b : ℕ) (bytes : List ℕ) (at : ℕ) → NonePasses test (b ∷ bytes) (suc at) → test b ≡ false
first_fails test b bytes at none = elim (cases_Bool (test b)) [ inl does ↦ absurd (none 0 (omega arith) (omega arith) does) | inr fails ↦ fails ]

rest_fails : (test : ℕ → Bool) (b : ℕ) (bytes : List ℕ) (at : ℕ) → NonePasses test (b ∷ bytes) (suc at) → NonePasses test bytes at
rest_fails test b bytes at none k low high = none (suc k) (omega arith) (omega arith)

position-at : (test : ℕ → Bool) (bytes : List ℕ) (at : ℕ) → at < length bytes → test (slice_index bytes at) ≡ true → NonePasses test bytes at → position_or_len test bytes ≡ at
position-at test [] at within passes none = absurd (omega arith)
position-at test (b ∷ bytes) zero within passes none = rw passes refl
position-at test (b ∷ bytes) (suc at) within passes none =
    rw (first_fails test b bytes at none) (omega (arith, position-at test bytes at (omega arith) passes (rest_fails test b bytes at none)))

position-none : (test : ℕ → Bool) (bytes : List ℕ) → NonePasses test bytes (length bytes) → position_or_len test bytes ≡ length bytes
position-none test [] none = refl
position-none test (b ∷ bytes) none =
    rw (first_fails test b bytes (length bytes) none) (omega (arith, position-none test bytes (rest_fails test b bytes (length bytes) none)))

any-from_position : (test : ℕ → Bool) (bytes : List ℕ) → position_or_len test bytes < length bytes → list_any test bytes ≡ true
any-from_position test [] within = absurd (omega arith)
any-from_position test (b ∷ bytes) within =
    elim (cases_Bool (test b)) [
      | inl does ↦ rw does refl
      | inr fails ↦ rw fails
          (any-from_position test bytes (let later : 1 + position_or_len test bytes < suc (length bytes) = rw fails at within in omega (arith, later)))
    ]

none-from_position : (test : ℕ → Bool) (bytes : List ℕ) → position_or_len test bytes ≡ length bytes → list_any test bytes ≡ false
none-from_position test [] whole = refl
none-from_position test (b ∷ bytes) whole =
    elim (cases_Bool (test b)) [
      | inl does ↦ absurd (let none : 0 ≡ suc (length bytes) = rw does at whole in omega (arith, none))
      | inr fails ↦ rw fails
          (none-from_position test bytes (let later : 1 + position_or_len test bytes ≡ suc (length bytes) = rw fails at whole in omega (arith, later)))
    ]

pub position-within : (test : ℕ → Bool) (bytes : List ℕ) → position_or_len test bytes ≤ length bytes
position-within test [] = omega arith
position-within test (b ∷ bytes) =
    elim (cases_Bool (test b)) [ inl does ↦ rw does (omega arith) | inr fails ↦ rw fails (omega (arith, position-within test bytes)) ]

has_place : (test : ℕ → Bool) (bytes : List ℕ) (at : ℕ) → at < length bytes → test (slice_index bytes at) ≡ true → NonePasses test bytes at → HasPlace test bytes at
has_place test bytes at within passes none =
    let is = position-at test bytes at within passes none in
    record {
      within = within;
      passes = passes;
      some = any-from_position test bytes (omega (arith, is));
      front = ap (λ n. take n bytes) is;
      back = ap (λ n. drop (n + 1) bytes) is;
    }

lacks_place : (test : ℕ → Bool) (bytes : List ℕ) → NonePasses test bytes (length bytes) → LacksPlace test bytes
lacks_place test bytes none =
    let is = position-none test bytes none in
    record { none = none-from_position test bytes is; whole = take_all (position_or_len test bytes) bytes (omega (arith, is)) }

pub cut-no : (test : ℕ → Bool) (bytes : List ℕ) → position_or_len test bytes ≡ length bytes → LacksPlace test bytes
cut-no test bytes none = record { none = none-from_position test bytes none; whole = take_all (position_or_len test bytes) bytes (omega (arith, none)) }

-- what the first place says
pub place-of : (test : ℕ → Bool) (bytes : List ℕ) (r : Option ℕ) → r ≡ position test bytes → MatchOption r (LacksPlace test bytes) (HasPlace test bytes)
place-of test bytes r is =
    subst (λ (o : Option ℕ). MatchOption o (LacksPlace test bytes) (HasPlace test bytes)) (sym is) (by (ltb (position_or_len test bytes) (length bytes)) refl)
  where
    by : (b : Bool) → ltb (position_or_len test bytes) (length bytes) ≡ b → MatchOption (cond b (Some (position_or_len test bytes)) None) (LacksPlace test bytes) (HasPlace test bytes)
    by true e =
        let within = ltb-true _ _ e in
        record { within = within; passes = passes_at_first test bytes 0 within; some = any-from_position test bytes within; front = refl; back = refl }
    by false e = cut-no test bytes (omega (arith, ltb-false _ _ e, position-within test bytes))

-- the length of what stands before the first place
pub length-before_first : (test : ℕ → Bool) (bytes : List ℕ) → length (before_first test bytes) ≡ position_or_len test bytes
length-before_first test bytes = length-take-le (position_or_len test bytes) bytes (position-within test bytes)

pub end-at : (test : ℕ → Bool) (bytes : List ℕ) (at : ℕ) → HasPlace test bytes at → at ≡ length (before_first test bytes)
end-at test bytes at place = sym (ap length place.front ∙ length-take-le at bytes (omega (arith, place.within)))

pub end-whole : (test : ℕ → Bool) (bytes : List ℕ) → LacksPlace test bytes → length bytes ≡ length (before_first test bytes)
end-whole test bytes lacks = sym (ap length lacks.whole)

pub end-first : (test : ℕ → Bool) (bytes : List ℕ) (at : ℕ) → at < length bytes → test (slice_index bytes at) ≡ true → NonePasses test bytes at → at ≡ length (before_first test bytes)
end-first test bytes at within passes none = end-at test bytes at (has_place test bytes at within passes none)

pub end-none : (test : ℕ → Bool) (bytes : List ℕ) → NonePasses test bytes (length bytes) → length bytes ≡ length (before_first test bytes)
end-none test bytes none = end-whole test bytes (lacks_place test bytes none)

-- a text that is split at the end of what stands before the first place
pub before_first-take : (test : ℕ → Bool) (bytes : List ℕ) (end : ℕ) → end ≡ length (before_first test bytes) → take end bytes ≡ before_first test bytes
before_first-take test bytes end is = ap (λ n. take n bytes) (is ∙ length-before_first test bytes)

-- what follows the byte at the first place
pub after_first-rest : (test : ℕ → Bool) (bytes rest : List ℕ) (at : ℕ) → HasPlace test bytes at → rest ≡ drop at bytes → take (length rest - 1) (drop 1 rest) ≡ after_first test bytes
after_first-rest test bytes rest at place is = take_rest rest 1 ∙ (ap (drop 1) is ∙ (drop-drop 1 at bytes ∙ sym place.back))

-- a front that is compared without case
pub begins-from : (r : Bool) (text front shown : List ℕ) (end : ℕ) → end ≡ min (length front) (length text) → shown ≡ take end text → r ≡ str_eq_ignore_ascii_case shown front →
    r ≡ begins_without_case text front
begins-from r text front shown end is cut same =
    same
    ∙ ap (λ l. str_eq_ignore_ascii_case l front) (cut ∙ ap (λ n. take n text) is ∙ take_min (length front) text)

-- a text without its first character
pub begins-yes : (byte : ℕ) (bytes rest : List ℕ) → bytes ≡ byte ∷ rest → BeginsWithByte byte bytes rest
begins-yes byte bytes rest is = record { first = ap (λ l. slice_index l 0 == byte) is ∙ eq-eqb byte byte refl; behind = sym (ap (drop 1) is) }

pub begins-no : (byte : ℕ) (bytes : List ℕ) → 0 < byte → ((rest : List ℕ) → bytes ≢ byte ∷ rest) → (slice_index bytes 0 == byte) ≡ false
begins-no byte [] some other = ne_eqb 0 byte (λ e. omega (arith, e))
begins-no byte (b ∷ bytes) some other = ne_eqb b byte (λ e. other bytes (ap (λ x. x ∷ bytes) e))

-- a text that is cut once, and one that can't be
pub cut-yes : (test : ℕ → Bool) (bytes front back : List ℕ) → (position_or_len test bytes < length bytes) × (front ≡ before_first test bytes) × (back ≡ after_first test bytes) → IsCut test bytes front back
cut-yes test bytes front back cut = record { some = any-from_position test bytes cut.0; before = cut.1; behind = cut.2 }
