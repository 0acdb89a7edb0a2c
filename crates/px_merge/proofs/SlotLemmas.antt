-- A place that is added to a slot.
use Rattle.std.proofs.Common.{◌≡◌, ℕ, zero, suc, ◌+◌, ◌<◌, Bool, true, false, List, [], ◌∷◌, ◌++◌, length, get_or, set, Some, refl, sym, subst, ap, ◌∙◌, arith, length-set}
use Rattle.std.specs.Prelude.{slice_get}
use Rattle.std.specs.List.{list_any, flat_map}
use Rattle.std.specs.Str.{str_eq_ignore_ascii_case}
use Rattle.std.proofs.lemmas.Bool.{or_left, false≢true}
use mathlib.Core.Logic.{⊎_elim}
use Rattle.std.proofs.lemmas.Option.{slice_get_read}
use Rattle.px_merge.specs.Indexes.{gathered_places, places_or_none, slot_at, slot_of, slots_weight, weight}
use Rattle.px_merge.specs.Keys.{slot_number}
use Rattle.px_merge.specs.declared.places.PatternPlace.{PatternPlace}
use Rattle.px_merge.proofs.KeyLemmas.{same_slot}
use Rattle.px_merge.proofs.ListLemmas.{any_left, any_right, any_either, any_parts, any_part}

last_among : (test : PatternPlace → Bool) (places : List PatternPlace) (place : PatternPlace) → test place ≡ true → list_any test (places ++ place ∷ []) ≡ true
last_among test places place e = any_right test places (place ∷ []) (or_left (test place) false e)

-- a slot that grows keeps what is in it, and the others stay
set_kept : (slots : List (List PatternPlace)) (n m : ℕ) (grown : List PatternPlace) (test : PatternPlace → Bool) → n < length slots → (list_any test (slot_at slots n) ≡ true → list_any test grown ≡ true)
    → list_any test (slot_at slots m) ≡ true → list_any test (slot_at (set slots n grown) m) ≡ true
set_kept [] n m grown test within larger e = absurd (false≢true e)
set_kept (s ∷ slots) zero zero grown test within larger e = larger e
set_kept (s ∷ slots) zero (suc m) grown test within larger e = e
set_kept (s ∷ slots) (suc n) zero grown test within larger e = e
set_kept (s ∷ slots) (suc n) (suc m) grown test within larger e = set_kept slots n m grown test (omega (arith, within)) larger e

set_here : (slots : List (List PatternPlace)) (n : ℕ) (grown : List PatternPlace) → n < length slots → slice_get (set slots n grown) n ≡ Some grown
set_here [] n grown within = absurd (omega (arith, within))
set_here (s ∷ slots) zero grown within = refl
set_here (s ∷ slots) (suc n) grown within = set_here slots n grown (omega (arith, within))

slots_kept : (always : List PatternPlace) (slots : List (List PatternPlace)) (n : ℕ) (places : List PatternPlace) (place : PatternPlace) → n < length slots → slice_get slots n ≡ Some places
    → (keys : List (List ℕ)) (test : PatternPlace → Bool) → list_any test (gathered_places always slots keys) ≡ true → list_any test (gathered_places always (set slots n (places ++ place ∷ [])) keys) ≡ true
slots_kept always slots n places place within at keys test e =
    let grown = places ++ place ∷ [] in
    let slot : (key : List ℕ) → list_any test (slot_of slots key) ≡ true → list_any test (slot_of (set slots n grown) key) ≡ true =
    λ key among. subst (λ count. list_any test (slot_at (set slots n grown) (slot_number count key)) ≡ true) (sym (length-set slots n grown))
    (set_kept slots n (slot_number (length slots) key) grown test within
    (λ old. any_left test places (place ∷ []) (subst (λ o. list_any test (places_or_none o) ≡ true) at old)) among) in
    ⊎_elim (λ first. any_left test always (flat_map (slot_of (set slots n grown)) keys) first)
    (λ later. any_right test always (flat_map (slot_of (set slots n grown)) keys) (any_parts test (slot_of slots) (slot_of (set slots n grown)) keys slot later))
    (any_either test always (flat_map (slot_of slots) keys) e)

slots_added : (always : List PatternPlace) (slots : List (List PatternPlace)) (text : List ℕ) (places : List PatternPlace) (place : PatternPlace) → slot_number (length slots) text < length slots
    → (keys : List (List ℕ)) (test : PatternPlace → Bool) → list_any (str_eq_ignore_ascii_case text) keys ≡ true → test place ≡ true
    → list_any test (gathered_places always (set slots (slot_number (length slots) text) (places ++ place ∷ [])) keys) ≡ true
slots_added always slots text places place within keys test e passes =
    let n = slot_number (length slots) text in
    let grown = places ++ place ∷ [] in
    let slot : (key : List ℕ) → str_eq_ignore_ascii_case text key ≡ true → list_any test (slot_of (set slots n grown) key) ≡ true =
    λ key same. subst (λ count. list_any test (slot_at (set slots n grown) (slot_number count key)) ≡ true) (sym (length-set slots n grown))
    (subst (λ number. list_any test (slot_at (set slots n grown) number) ≡ true) (same_slot (length slots) text key same)
    (subst (λ o. list_any test (places_or_none o) ≡ true) (sym (set_here slots n grown within)) (last_among test places place passes))) in
    any_right test always (flat_map (slot_of (set slots n grown)) keys) (any_part test (str_eq_ignore_ascii_case text) (slot_of (set slots n grown)) keys slot e)

pub always_kept : (always : List PatternPlace) (slots : List (List PatternPlace)) (place : PatternPlace) (keys : List (List ℕ)) (test : PatternPlace → Bool)
    → list_any test (gathered_places always slots keys) ≡ true → list_any test (gathered_places (always ++ place ∷ []) slots keys) ≡ true
always_kept always slots place keys test e =
    ⊎_elim (λ first. any_left test (always ++ place ∷ []) (flat_map (slot_of slots) keys) (any_left test always (place ∷ []) first))
    (λ later. any_right test (always ++ place ∷ []) (flat_map (slot_of slots) keys) later)
    (any_either test always (flat_map (slot_of slots) keys) e)

pub always_added : (always : List PatternPlace) (slots : List (List PatternPlace)) (place : PatternPlace) (keys : List (List ℕ)) (test : PatternPlace → Bool) → test place ≡ true
    → list_any test (gathered_places (always ++ place ∷ []) slots keys) ≡ true
always_added always slots place keys test passes = any_left test (always ++ place ∷ []) (flat_map (slot_of slots) keys) (last_among test always place passes)

-- the same, as code finds the slot
pub key_kept : (always : List PatternPlace) (slots : List (List PatternPlace)) (number count : ℕ) (old new : List PatternPlace) (place : PatternPlace) → count ≡ length slots → number < count
    → old ≡ get_or slots number old → new ≡ old ++ place ∷ []
    → (keys : List (List ℕ)) (test : PatternPlace → Bool) → list_any test (gathered_places always slots keys) ≡ true → list_any test (gathered_places always (set slots number new) keys) ≡ true
key_kept always slots number count old new place is_count below at grows keys test e =
    let within : number < length slots = subst (λ n. number < n) is_count below in
    subst (λ grown. list_any test (gathered_places always (set slots number grown) keys) ≡ true) (sym grows)
    (slots_kept always slots number old place within (slice_get_read slots count number old is_count below at) keys test e)

pub key_added : (always : List PatternPlace) (slots : List (List PatternPlace)) (text : List ℕ) (number count : ℕ) (old new : List PatternPlace) (place : PatternPlace) → count ≡ length slots → number < count
    → number ≡ slot_number count text → new ≡ old ++ place ∷ []
    → (keys : List (List ℕ)) → list_any (str_eq_ignore_ascii_case text) keys ≡ true → (test : PatternPlace → Bool) → test place ≡ true
    → list_any test (gathered_places always (set slots number new) keys) ≡ true
key_added always slots text number count old new place is_count below is_number grows keys e test passes =
    let same : slot_number (length slots) text ≡ number = ap (λ n. slot_number n text) (sym is_count) ∙ sym is_number in
    let within : slot_number (length slots) text < length slots = omega (arith, same, below, is_count) in
    subst (λ grown. list_any test (gathered_places always (set slots number grown) keys) ≡ true) (sym grows)
    (subst (λ n. list_any test (gathered_places always (set slots n (old ++ place ∷ [])) keys) ≡ true) same
    (slots_added always slots text old place within keys test e passes))

-- ---- weights

pub weight_append : (weigh : PatternPlace → ℕ) (front back : List PatternPlace) → weight weigh (front ++ back) ≡ weight weigh front + weight weigh back
weight_append weigh [] back = omega arith
weight_append weigh (p ∷ front) back = omega (arith, weight_append weigh front back)

pub weight_push : (weigh : PatternPlace → ℕ) (places : List PatternPlace) (place : PatternPlace) → weight weigh (places ++ place ∷ []) ≡ weight weigh places + weigh place
weight_push weigh places place = omega (arith, weight_append weigh places (place ∷ []))

slots_set : (weigh : PatternPlace → ℕ) (slots : List (List PatternPlace)) (n : ℕ) (old : List PatternPlace) (place : PatternPlace) → slice_get slots n ≡ Some old
    → slots_weight weigh (set slots n (old ++ place ∷ [])) ≡ slots_weight weigh slots + weigh place
slots_set weigh [] n old place at = absurd (cc)
slots_set weigh (s ∷ slots) zero old place at =
    let same : s ≡ old = cc in
    omega (arith, weight_push weigh old place, ap (weight weigh) same)
slots_set weigh (s ∷ slots) (suc n) old place at = omega (arith, slots_set weigh slots n old place at)

pub key_once : (weigh : PatternPlace → ℕ) (slots : List (List PatternPlace)) (number count : ℕ) (old new : List PatternPlace) (place : PatternPlace) → count ≡ length slots → number < count
    → old ≡ get_or slots number old → new ≡ old ++ place ∷ [] → slots_weight weigh (set slots number new) ≡ slots_weight weigh slots + weigh place
key_once weigh slots number count old new place is_count below at grows =
    ap (λ grown. slots_weight weigh (set slots number grown)) grows
    ∙ slots_set weigh slots number old place (slice_get_read slots count number old is_count below at)

pub slots_push : (weigh : PatternPlace → ℕ) (slots : List (List PatternPlace)) (places : List PatternPlace) → slots_weight weigh (slots ++ places ∷ []) ≡ slots_weight weigh slots + weight weigh places
slots_push weigh [] places = omega arith
slots_push weigh (s ∷ slots) places = omega (arith, slots_push weigh slots places)
