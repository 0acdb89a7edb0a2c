-- The last URL in a text, and targets as the library writes them.
use Rattle.std.proofs.Common.{◌≡◌, ℕ, zero, suc, ◌+◌, ◌<◌, ◌≤◌, List, [], ◌∷◌, ◌++◌, length, drop, Bool, true, false, None, Some, refl, ap, sym, ◌∙◌, get_or, Result, Ok, Err}
use Rattle.std.specs.Prelude.{if◌then◌else◌, slice_index}
use Rattle.std.specs.Option.{option_or}
use Rattle.std.specs.Result.{result_ok}
use Rattle.std.proofs.lemmas.Bool.{agree_below_at}
use Rattle.std.proofs.lemmas.List.{drop_all, drop_more}
use Rattle.percent_encoding.specs.AsciiSet.{should_percent_encode}
use Rattle.percent_encoding.specs.Percent.{percent_encode, percent_encode_byte}
use Rattle.px_decide.specs.declared.targets.TheConstants.{TARGET}
use Rattle.px_decide.specs.Targets.{begins_url, is_escaped, last_url, target_text}

-- the last URL of what stands behind some bytes is the last of all
last_url-behind : (n : ℕ) (text url : List ℕ) → last_url (drop n text) ≡ Some url → last_url text ≡ Some url
unfolding last_url
last_url-behind zero text url is = is
last_url-behind (suc n) [] url is = is
last_url-behind (suc n) (b ∷ bs) url is = ap (λ o. option_or o (if begins_url (b ∷ bs) then Some (b ∷ bs) else None)) (last_url-behind n bs url is)

last_url-step : (b : ℕ) (bs : List ℕ) → last_url bs ≡ None → last_url (b ∷ bs) ≡ (if begins_url (b ∷ bs) then Some (b ∷ bs) else None)
unfolding last_url
last_url-step b bs none = ap (λ o. option_or o (if begins_url (b ∷ bs) then Some (b ∷ bs) else None)) none

last_url-cons : (text : List ℕ) (at : ℕ) → at < length text → last_url (drop (at + 1) text) ≡ None →
    last_url (drop at text) ≡ (if begins_url (drop at text) then Some (drop at text) else None)
last_url-cons text at within none =
    rw (drop_more text at 0 within) (last_url-step (get_or text at 0) (drop (at + 1) text) none)

pub last_url-none : (text : List ℕ) (at : ℕ) → length text ≤ at → last_url (drop at text) ≡ None
unfolding last_url
last_url-none text at past = ap last_url (drop_all at text past)

-- a URL begins at this place, and none behind it
pub last_url-found : (text slice : List ℕ) (at back : ℕ) (r : Bool) → back ≡ at + 1 → at < length text → slice ≡ drop at text → r ≡ begins_url slice → r ≡ true → last_url (drop back text) ≡ None →
    Some slice ≡ last_url text
last_url-found text slice at back r back_is within slice_is r_is here none =
    sym (last_url-behind at text slice
    (last_url-cons text at within (ap (λ n. last_url (drop n text)) (sym back_is) ∙ none)
    ∙ ap (λ s. if begins_url s then Some s else None) (sym slice_is)
    ∙ ap (λ b. if b then Some slice else None) (sym r_is ∙ here)))

-- no URL begins at this place or behind it
pub last_url-later : (text slice : List ℕ) (at back : ℕ) (r : Bool) → back ≡ at + 1 → at < length text → slice ≡ drop at text → r ≡ begins_url slice → r ≡ false → last_url (drop back text) ≡ None →
    last_url (drop at text) ≡ None
last_url-later text slice at back r back_is within slice_is r_is here none =
    last_url-cons text at within (ap (λ n. last_url (drop n text)) (sym back_is) ∙ none)
    ∙ ap (λ s. if begins_url s then Some s else None) (sym slice_is)
    ∙ ap (λ b. if b then Some slice else None) (sym r_is ∙ here)

-- ---- escapes

same_test : (b : ℕ) → b < 256 → should_percent_encode TARGET b ≡ is_escaped b
unfolding should_percent_encode
same_test b = agree_below_at (should_percent_encode TARGET) is_escaped 256 b refl

abbrev pub AllBytes : List ℕ → Type 0
AllBytes [] = Unit {0}
AllBytes (b ∷ bytes) = (b < 256) × AllBytes bytes

pub bytes_from : (bytes : List ℕ) → ((i : ℕ) → slice_index bytes i < 256) → AllBytes bytes
bytes_from [] h = tt
bytes_from (b ∷ bytes) h = (h 0, bytes_from bytes (λ i. h (suc i)))

-- the library escapes just the bytes that a target doesn't hold
pub same_text : (bytes : List ℕ) → AllBytes bytes → percent_encode TARGET bytes ≡ target_text bytes
unfolding percent_encode target_text
same_text [] h = refl
same_text (b ∷ bytes) h =
    let e = same_test b h.0 in
    rw e (ap (λ rest. (if is_escaped b then percent_encode_byte b else b ∷ []) ++ rest) (same_text bytes h.1))

pub result_ok-Some : {X E : Type 0} (r : Result X E) (x : X) → result_ok r ≡ Some x → r ≡ Ok x
result_ok-Some (Ok y) x is = cc
result_ok-Some (Err e) x is = cc
