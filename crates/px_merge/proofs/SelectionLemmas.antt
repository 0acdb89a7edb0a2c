-- Sections that are picked by their numbers.
use Rattle.std.proofs.Common.{◌≡◌, ℕ, zero, suc, ◌+◌, Bool, true, false, cond, List, [], ◌∷◌, ◌++◌, map, take, Option, None, Some, refl, sym, ap, ◌∙◌, subst, arith, append_assoc, append-nil}
use Rattle.std.specs.Prelude.{option_map, option_to_list, slice_get}
use Rattle.std.specs.List.{list_any}
use Rattle.std.proofs.lemmas.Bool.{false≢true}
use Rattle.std.proofs.lemmas.List.Concat.{flat_map-append}
use Rattle.std.proofs.lemmas.List.Elements.{filter-append}
use Rattle.px_action_files.specs.declared.patterns.Pattern.{Pattern}
use Rattle.px_merge.specs.declared.places.Placed.{Placed}
use Rattle.px_merge.specs.declared.places.SectionRef.{SectionRef}
use Rattle.px_merge.specs.Merging.{ref_of, sections_with, updates_in}
use Rattle.px_merge.specs.Selections.{has_some, picked}

pub picked_push : (sections : List Placed) (numbers : List ℕ) (n : ℕ) → picked sections (numbers ++ n ∷ []) ≡ picked sections numbers ++ option_to_list (slice_get sections n)
picked_push sections numbers n =
    flat_map-append (λ k. option_to_list (slice_get sections k)) numbers (n ∷ [])
    ∙ ap (λ xs. picked sections numbers ++ xs) (append-nil (option_to_list (slice_get sections n)))

pub updates_rest : (o : Option Placed) (rest : List Placed) → updates_in (option_to_list o ++ rest) ≡ updates_in (option_to_list o) ++ updates_in rest
updates_rest o rest = flat_map-append (λ (p : Placed). p.section.updates) (option_to_list o) rest

with_one : (test : Pattern → Bool) (o : Option Placed) → has_some test o ≡ true → sections_with test (option_to_list o) ≡ option_to_list o
with_one test None e = absurd (false≢true e)
with_one test (Some p) e = ap (λ b. cond b (p ∷ []) []) e

without_one : (test : Pattern → Bool) (o : Option Placed) → has_some test o ≡ false → sections_with test (option_to_list o) ≡ []
without_one test None e = refl
without_one test (Some p) e = ap (λ b. cond b (p ∷ []) []) e

with_append : (test : Pattern → Bool) (xs ys : List Placed) → sections_with test (xs ++ ys) ≡ sections_with test xs ++ sections_with test ys
with_append test xs ys = filter-append (λ (p : Placed). list_any test p.section.patterns) xs ys

-- a number goes to those that were found
pub found_step : (test : Pattern → Bool) (sections : List Placed) (hits rest : List ℕ) (n : ℕ) → has_some test (slice_get sections n) ≡ true
    → picked sections (hits ++ n ∷ []) ++ sections_with test (picked sections rest) ≡ picked sections hits ++ sections_with test (picked sections (n ∷ rest))
found_step test sections hits rest n e =
    let o = slice_get sections n in
    let behind = sections_with test (picked sections rest) in
    ap (λ xs. xs ++ behind) (picked_push sections hits n)
    ∙ append_assoc (picked sections hits) (option_to_list o) behind
    ∙ ap (λ xs. picked sections hits ++ (xs ++ behind)) (sym (with_one test o e))
    ∙ ap (λ xs. picked sections hits ++ xs) (sym (with_append test (option_to_list o) (picked sections rest)))

-- or it doesn't
pub skipped_step : (test : Pattern → Bool) (sections : List Placed) (hits rest : List ℕ) (n : ℕ) → has_some test (slice_get sections n) ≡ false
    → picked sections hits ++ sections_with test (picked sections rest) ≡ picked sections hits ++ sections_with test (picked sections (n ∷ rest))
skipped_step test sections hits rest n e =
    let o = slice_get sections n in
    let behind = sections_with test (picked sections rest) in
    ap (λ xs. picked sections hits ++ (xs ++ behind)) (sym (without_one test o e))
    ∙ ap (λ xs. picked sections hits ++ xs) (sym (with_append test (option_to_list o) (picked sections rest)))

take_get : (sections : List Placed) (n : ℕ) → take (suc n) sections ≡ take n sections ++ option_to_list (slice_get sections n)
take_get [] zero = refl
take_get [] (suc n) = refl
take_get (p ∷ sections) zero = refl
take_get (p ∷ sections) (suc n) = ap (λ xs. p ∷ xs) (take_get sections n)

with_more : (test : Pattern → Bool) (sections : List Placed) (n : ℕ) → sections_with test (take (n + 1) sections) ≡ sections_with test (take n sections) ++ sections_with test (option_to_list (slice_get sections n))
with_more test sections n =
    let same : suc n ≡ n + 1 = omega arith in
    subst (λ k. sections_with test (take k sections) ≡ sections_with test (take n sections) ++ sections_with test (option_to_list (slice_get sections n))) same
    (ap (sections_with test) (take_get sections n) ∙ with_append test (take n sections) (option_to_list (slice_get sections n)))

pub walked_found : (test : Pattern → Bool) (sections : List Placed) (hits : List ℕ) (n : ℕ) → picked sections hits ≡ sections_with test (take n sections) → has_some test (slice_get sections n) ≡ true
    → picked sections (hits ++ n ∷ []) ≡ sections_with test (take (n + 1) sections)
walked_found test sections hits n so e =
    let o = slice_get sections n in
    picked_push sections hits n ∙ ap (λ xs. xs ++ option_to_list o) so ∙ ap (λ xs. sections_with test (take n sections) ++ xs) (sym (with_one test o e)) ∙ sym (with_more test sections n)

pub walked_skipped : (test : Pattern → Bool) (sections : List Placed) (hits : List ℕ) (n : ℕ) → picked sections hits ≡ sections_with test (take n sections) → has_some test (slice_get sections n) ≡ false
    → picked sections hits ≡ sections_with test (take (n + 1) sections)
walked_skipped test sections hits n so e =
    let o = slice_get sections n in
    so ∙ sym (append-nil (sections_with test (take n sections))) ∙ ap (λ xs. sections_with test (take n sections) ++ xs) (sym (without_one test o e)) ∙ sym (with_more test sections n)

pub refs_step : (o : Option Placed) (refs : List SectionRef) (rest : List Placed) (place : SectionRef) → option_map ref_of o ≡ Some place
    → (refs ++ place ∷ []) ++ map ref_of rest ≡ refs ++ map ref_of (option_to_list o ++ rest)
refs_step None refs rest place e = absurd (cc)
refs_step (Some p) refs rest place e =
    let same : ref_of p ≡ place = cc in
    append_assoc refs (place ∷ []) (map ref_of rest) ∙ ap (λ x. refs ++ (x ∷ map ref_of rest)) (sym same)

pub refs_none : (o : Option Placed) (refs : List SectionRef) (rest : List Placed) → option_map ref_of o ≡ None
    → refs ++ map ref_of rest ≡ refs ++ map ref_of (option_to_list o ++ rest)
refs_none None refs rest e = refl
refs_none (Some p) refs rest e = absurd (cc)
