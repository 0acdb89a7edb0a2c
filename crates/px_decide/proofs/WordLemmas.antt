-- The words of a value.
use Rattle.std.proofs.Common.{◌≡◌, ℕ, zero, suc, ◌+◌, ◌-◌, ◌<◌, ◌≤◌, List, length, take, drop, get_or, Bool, true, false, not, cond, None, Some, refl, ap, sym, ◌∙◌, subst, arith, inl, inr}
use Rattle.std.specs.Prelude.{◌==◌, slice_index}
use Rattle.std.specs.List.{position, position_or_len, prefix_len}
use Rattle.std.specs.Str.{IsUtf8}
use Rattle.std.proofs.lemmas.Bool.{cases_Bool, eqb-true, ltb-false}
use Rattle.std.proofs.lemmas.List.{drop-drop, get_or-drop, length-drop, take_rest}
use Rattle.std.proofs.lemmas.List.Sums.{passes_at_first, prefix_len-le-length, prefix_len_passes}
use Rattle.std.proofs.lemmas.Str.{lead_after_ascii}
use Rattle.px_base.specs.Blanks.{is_blank, trimmed}
use Rattle.px_decide.specs.Forwards.{first_word}

-- what stands behind the white space at the front
text_is : (value bytes : List ℕ) (start : ℕ) → bytes ≡ value → start ≡ prefix_len is_blank bytes → take (length bytes - start) (drop start bytes) ≡ drop (prefix_len is_blank value) value
text_is value bytes start same start_is =
    take_rest bytes start ∙ ap (λ n. drop n bytes) start_is ∙ ap (λ (l : List ℕ). drop (prefix_len is_blank l) l) same

pub first_is : (value bytes word rest : List ℕ) (start n : ℕ) → bytes ≡ value → start ≡ prefix_len is_blank bytes →
    n ≡ position_or_len is_blank (take (length bytes - start) (drop start bytes)) → word ≡ take (start + n - start) (drop start value) →
    rest ≡ trimmed (drop (start + n + 1) bytes) → (word, rest) ≡ first_word value
unfolding first_word
first_is value bytes word rest start n same start_is n_is word_is rest_is =
    let text = drop (prefix_len is_blank value) value in
    let whole : take (length bytes - start) (drop start bytes) ≡ text = text_is value bytes start same start_is in
    let place : n ≡ position_or_len is_blank text = n_is ∙ ap (position_or_len is_blank) whole in
    let len : start + n - start ≡ n = omega arith in
    let sum : start + (n + 1) ≡ start + n + 1 = omega arith in
    let front : drop start value ≡ text = ap (λ m. drop m value) (start_is ∙ ap (prefix_len is_blank) same) in
    let first : word ≡ take (position_or_len is_blank text) text =
    word_is ∙ ap (λ m. take m (drop start value)) len ∙ ap (take n) front ∙ ap (λ m. take m text) place in
    let behind : drop (start + n + 1) bytes ≡ drop (position_or_len is_blank text + 1) text =
    ap (λ m. drop m bytes) (sym sum) ∙ sym (drop-drop (n + 1) start bytes) ∙ ap (drop (n + 1)) (sym (take_rest bytes start) ∙ whole) ∙ ap (λ m. drop (m + 1) text) place in
    ap (λ (l : List ℕ). (l, rest)) first ∙ ap (λ (l : List ℕ). (take (position_or_len is_blank text) text, l)) (rest_is ∙ ap trimmed behind)

in_place : (b : Bool) (n m : ℕ) → Some m ≡ cond b (Some n) None → m ≡ n
in_place true n m e = sym (cc e)
in_place false n m e = absurd (cc e)

nowhere : (b : Bool) (n : ℕ) → None ≡ cond b (Some n) None → b ≡ false
nowhere true n e = absurd (cc e)
nowhere false n e = refl

pub place_some : (text : List ℕ) (n : ℕ) → Some n ≡ position is_blank text → n ≡ position_or_len is_blank text
place_some text n is = in_place _ (position_or_len is_blank text) n is

pub place_none : (text : List ℕ) → None ≡ position is_blank text → length text ≡ position_or_len is_blank text
place_none text is =
    let past : length text ≤ position_or_len is_blank text = ltb-false (position_or_len is_blank text) (length text) (nowhere _ (position_or_len is_blank text) is) in
    omega (arith, prefix_len-le-length (λ b. not (is_blank b)) text)

blank_low : (b : ℕ) → is_blank b ≡ true → b < 128
blank_low b blank =
    elim (cases_Bool (b == 32)) [
      | inl e ↦ omega (arith, eqb-true b 32 e)
      | inr e ↦ let h : (b == 9) ≡ true = (rw e at blank) in omega (arith, eqb-true b 9 h)
    ]

-- a character begins behind white space
start_suc : (value : List ℕ) (k : ℕ) → IsUtf8 value → k < prefix_len is_blank value → k + 1 < length value → 128 ≤ slice_index value (k + 1) → 192 ≤ slice_index value (k + 1)
start_suc value k utf8 inside within high = lead_after_ascii value k utf8 (blank_low (get_or value k 0) (prefix_len_passes is_blank value k 0 inside)) within high

pub start_ok : (value bytes : List ℕ) (start : ℕ) → IsUtf8 value → bytes ≡ value → start ≡ prefix_len is_blank bytes → 0 < start → start < length value →
    128 ≤ slice_index value start → 192 ≤ slice_index value start
start_ok value bytes zero utf8 same start_is some within high = absurd (omega arith)
start_ok value bytes (suc k) utf8 same start_is some within high =
    let e : k + 1 ≡ suc k = omega arith in
    let front : suc k ≡ prefix_len is_blank value = start_is ∙ ap (prefix_len is_blank) same in
    let low : 128 ≤ slice_index value (k + 1) = subst (λ n. 128 ≤ slice_index value n) (sym e) high in
    subst (λ n. 192 ≤ slice_index value n) e (start_suc value k utf8 (omega arith) (omega arith) low)

-- white space ends a word, where the text doesn't
pub end_low : (value bytes : List ℕ) (start n : ℕ) → bytes ≡ value → n ≡ position_or_len is_blank (take (length bytes - start) (drop start bytes)) →
    start + n < length value → slice_index value (start + n) < 128
end_low value bytes start n same n_is within =
    let text = drop start bytes in
    let place : n ≡ position_or_len is_blank text = n_is ∙ ap (position_or_len is_blank) (take_rest bytes start) in
    let len : length bytes ≡ length value = ap length same in
    let inside : position_or_len is_blank text < length text = omega (arith, length-drop start bytes) in
    let blank : is_blank (get_or text (position_or_len is_blank text) 0) ≡ true = passes_at_first is_blank text 0 inside in
    let low : get_or text n 0 < 128 = blank_low (get_or text n 0) (ap (λ m. is_blank (get_or text m 0)) place ∙ blank) in
    let is : get_or text n 0 ≡ get_or value (start + n) 0 = get_or-drop start bytes n 0 ∙ ap (λ (l : List ℕ). get_or l (start + n) 0) same in
    omega arith
