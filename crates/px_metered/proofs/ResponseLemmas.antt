-- The status of a response by its first bytes, and what came of the final one.
use Rattle.std.proofs.Common.{◌≡◌, ℕ, zero, suc, ◌+◌, ◌<◌, ◌≤◌, true, false, List, [], ◌∷◌, ◌++◌, length, take, drop, Some, None, refl, ap, sym, ◌∙◌, arith, inl, inr}
use Rattle.std.specs.Prelude.{◌==◌, slice_index}
use Rattle.std.proofs.lemmas.Bool.{cases_Bool, cases_lt, eq-eqb, ne_eqb, le-ltb}
use Rattle.std.proofs.lemmas.List.{append-nil, append_assoc, drop_all, drop_more, drop-take, length-take-le, take_all, take-take, take_more}
use Rattle.px_base.specs.Numbers.{decimal}
use Rattle.px_metered.specs.Returned.{behind_empty_line, final_response, first_line, is_interim_status, status_in, line_status}

-- the first line of the first bytes is the first bytes of the first line
pub line_front : (n : ℕ) (bytes : List ℕ) → first_line (take n bytes) ≡ take n (first_line bytes)
unfolding first_line
line_front zero bytes = refl
line_front (suc n) [] = refl
line_front (suc n) (b ∷ bytes) = elim (cases_Bool (b == 13)) [ inl same ↦ rw same refl | inr other ↦ rw other (ap (λ (line : List ℕ). b ∷ line) (line_front n bytes)) ]

line_byte : (b : ℕ) (bytes : List ℕ) → (b ≡ 13 → ⊥) → first_line (b ∷ bytes) ≡ b ∷ first_line bytes
unfolding first_line
line_byte b bytes other = rw (ne_eqb b 13 other) refl

line_return : (b : ℕ) (bytes : List ℕ) → b ≡ 13 → first_line (b ∷ bytes) ≡ []
unfolding first_line
line_return b bytes same = rw (eq-eqb b 13 same) refl

-- the first line goes on with a byte that isn't a CR
pub line_more : (bytes : List ℕ) (end : ℕ) → end < length bytes → (slice_index bytes end ≡ 13 → ⊥) → first_line bytes ≡ take end bytes ++ first_line (drop end bytes)
    → first_line bytes ≡ take (end + 1) bytes ++ first_line (drop (end + 1) bytes)
line_more bytes end within other h =
    let rest = drop (end + 1) bytes in
    let next : drop end bytes ≡ slice_index bytes end ∷ rest = drop_more bytes end 0 within in
    let front : take (end + 1) bytes ≡ take end bytes ++ slice_index bytes end ∷ [] = take_more bytes end 0 within in
    h ∙ ap (λ (line : List ℕ). take end bytes ++ line) (ap first_line next ∙ line_byte (slice_index bytes end) rest other)
    ∙ sym (append_assoc (take end bytes) (slice_index bytes end ∷ []) (first_line rest)) ∙ ap (λ (line : List ℕ). line ++ first_line rest) (sym front)

-- the first line ends with a CR
pub line_at : (bytes : List ℕ) (end : ℕ) → end < length bytes → slice_index bytes end ≡ 13 → first_line bytes ≡ take end bytes ++ first_line (drop end bytes) → take end bytes ≡ first_line bytes
line_at bytes end within same h =
    let next : drop end bytes ≡ slice_index bytes end ∷ drop (end + 1) bytes = drop_more bytes end 0 within in
    sym (h ∙ ap (λ (line : List ℕ). take end bytes ++ line) (ap first_line next ∙ line_return (slice_index bytes end) (drop (end + 1) bytes) same) ∙ append-nil (take end bytes))

-- the first line ends with the bytes
pub line_last : (bytes : List ℕ) (end : ℕ) → length bytes ≤ end → first_line bytes ≡ take end bytes ++ first_line (drop end bytes) → take end bytes ≡ first_line bytes
unfolding first_line
line_last bytes end all h = sym (h ∙ ap (λ (rest : List ℕ). take end bytes ++ first_line rest) (drop_all end bytes all) ∙ append-nil (take end bytes))

-- a status is told by the first twelve bytes
status_front : (line : List ℕ) → line_status (take 12 line) ≡ line_status line
unfolding line_status
status_front line =
    elim (cases_lt (length line) 12) [
      | inl short ↦ ap line_status (take_all 12 line (omega arith))
      | inr long ↦
          let whole : length (take 12 line) ≡ 12 = length-take-le 12 line long in
          rw (le-ltb (length (take 12 line)) 12 (omega arith), le-ltb (length line) 12 long) (ap (λ (digits : List ℕ). decimal 999 (take 3 digits)) (drop-take 9 3 line) ∙ ap (decimal 999) (take-take 3 3 (drop 9 line) (omega arith)))
    ]

pub status_in_front : (bytes : List ℕ) → status_in (take 12 bytes) ≡ status_in bytes
status_in_front bytes = ap line_status (line_front 12 bytes) ∙ status_front (first_line bytes)

-- a response whose head isn't whole is final so far
pub final_open : (bytes : List ℕ) → behind_empty_line bytes ≡ None → final_response bytes ≡ bytes
unfolding final_response
final_open bytes e = elim (cases_Bool (is_interim_status (status_in bytes))) [ inl interim ↦ rw (interim, e) refl | inr other ↦ rw other refl ]

-- behind an interim response comes the final one
pub final_behind : (bytes rest : List ℕ) → is_interim_status (status_in bytes) ≡ true → behind_empty_line bytes ≡ Some rest → final_response bytes ≡ rest
unfolding final_response
final_behind bytes rest interim e = rw (interim, e) refl

-- a response that isn't interim is final
pub final_itself : (bytes : List ℕ) → is_interim_status (status_in bytes) ≡ false → final_response bytes ≡ bytes
unfolding final_response
final_itself bytes other = rw other refl
