-- Candidates that are tried, and the sections that they give.
use Rattle.std.proofs.Common.{◌≡◌, ℕ, ◌+◌, ◌≤◌, ◌&&◌, Bool, true, false, cond, List, [], ◌∷◌, ◌++◌, length, map, Option, None, Some, refl, sym, ap, ◌∙◌, subst, arith, append_assoc}
use Rattle.std.specs.Prelude.{◌==◌, slice_get}
use Rattle.std.specs.List.{flat_map, list_any}
use Rattle.std.specs.List.Sorted.{IsStrictlyIncreasing}
use mathlib.Core.Logic.{⊎_elim}
use Rattle.std.proofs.lemmas.Bool.{and_from, and_parts, cases_Bool, eq-eqb, eqb-true, false≢true, or_cases, or_left}
use Rattle.std.proofs.lemmas.List.Concat.{flat_map-append}
use Rattle.std.proofs.lemmas.Option.{slice_get_within}
use Rattle.px_patterns.specs.declared.urls.Url.{Url}
use Rattle.px_action_files.specs.declared.patterns.Pattern.{Pattern}
use Rattle.px_merge.specs.Candidates.{candidate_count}
use Rattle.px_merge.specs.Indexes.{IsIndexed, cost_at, gathered_places, hit_of, hits_in, host_keys, is_in_numbers, passes, pattern_at, pattern_in, place_of, slot_at, slot_of, weight}
use Rattle.px_merge.specs.Keys.{slot_number}
use Rattle.px_merge.specs.Merging.{is_for_url}
use Rattle.px_merge.specs.Selections.{Selects, has_some}
use Rattle.px_merge.specs.declared.indexes.PlaceIndex.{PlaceIndex}
use Rattle.px_merge.specs.declared.places.PatternPlace.{PatternPlace}
use Rattle.px_merge.specs.declared.places.Placed.{Placed}
use Rattle.px_merge.proofs.IndexLemmas.{sections_cost}
use Rattle.px_merge.proofs.ListLemmas.{any_at, any_either, any_flat, any_left, any_map, any_part, any_right, stands_at}
use Rattle.px_merge.proofs.NumberLemmas.{selects_from, slots_once}
use Rattle.px_merge.proofs.SlotLemmas.{weight_append}

-- ---- one place more, one slot more

pub hit_found : (sections : List Placed) (test : Pattern → Bool) (place : PatternPlace) → passes test (pattern_at sections place) ≡ true → hit_of sections test place ≡ place.section ∷ []
hit_found sections test place e = ap (λ b. cond b (place.section ∷ []) []) e

pub hit_none : (sections : List Placed) (test : Pattern → Bool) (place : PatternPlace) → passes test (pattern_at sections place) ≡ false → hit_of sections test place ≡ []
hit_none sections test place e = ap (λ b. cond b (place.section ∷ []) []) e

pub slots_hits : (sections : List Placed) (test : Pattern → Bool) (slots : List (List PatternPlace)) (old new start : List ℕ) (rest : List ℕ) (number : ℕ) (others : List ℕ) (places : List PatternPlace)
    → rest ≡ number ∷ others → places ≡ slot_at slots number → new ≡ old ++ hits_in sections test places → old ++ hits_in sections test (flat_map (slot_at slots) rest) ≡ start
    → new ++ hits_in sections test (flat_map (slot_at slots) others) ≡ start
slots_hits sections test slots old new start rest number others places cut at step was =
    let behind = hits_in sections test (flat_map (slot_at slots) others) in
    ap (λ hits. hits ++ behind) (step ∙ ap (λ ps. old ++ hits_in sections test ps) at)
    ∙ append_assoc old (hits_in sections test (slot_at slots number)) behind
    ∙ ap (λ hits. old ++ hits) (sym (flat_map-append (hit_of sections test) (slot_at slots number) (flat_map (slot_at slots) others)))
    ∙ ap (λ ns. old ++ hits_in sections test (flat_map (slot_at slots) ns)) (sym cut)
    ∙ was

pub slots_weights : (weigh : PatternPlace → ℕ) (slots : List (List PatternPlace)) (rest : List ℕ) (number : ℕ) (others : List ℕ) (places : List PatternPlace) → rest ≡ number ∷ others → places ≡ slot_at slots number
    → weight weigh (flat_map (slot_at slots) rest) ≡ weight weigh places + weight weigh (flat_map (slot_at slots) others)
slots_weights weigh slots rest number others places cut at =
    ap (λ ns. weight weigh (flat_map (slot_at slots) ns)) cut
    ∙ weight_append weigh (slot_at slots number) (flat_map (slot_at slots) others)
    ∙ ap (λ ps. weight weigh ps + weight weigh (flat_map (slot_at slots) others)) (sym at)

-- ---- steps

pub steps_within : (index : PlaceIndex) (sections : List Placed) (host : List ℕ) (numbers : List ℕ) → IsIndexed index sections → IsStrictlyIncreasing numbers
    → weight (cost_at sections host) index.always + weight (cost_at sections host) (flat_map (slot_at index.slots.items) numbers) ≤ candidate_count sections host
steps_within index sections host numbers indexed rises =
    omega (arith, slots_once (cost_at sections host) index.slots.items numbers rises, indexed.once (cost_at sections host), sections_cost sections host)

-- ---- the sections

-- the place is of the section, and the pattern there passes
abbrev is_hit : List Placed → (Pattern → Bool) → ℕ → PatternPlace → Bool
is_hit sections test n place = place.section == n && passes test (pattern_at sections place)

hits_are_in : (sections : List Placed) (test : Pattern → Bool) (n : ℕ) (places : List PatternPlace) → list_any (is_hit sections test n) places ≡ true → is_in_numbers n (hits_in sections test places) ≡ true
hits_are_in sections test n places e =
    any_part (λ m. m == n) (is_hit sections test n) (hit_of sections test) places
    (λ place hit.
    let parts = and_parts (place.section == n) (passes test (pattern_at sections place)) hit in
    subst (λ ms. list_any (λ m. m == n) ms ≡ true) (sym (hit_found sections test place parts.1)) (or_left (place.section == n) false parts.0))
    e

any_from_get : (test : Pattern → Bool) (patterns : List Pattern) (at : ℕ) (q : Option Pattern) → q ≡ slice_get patterns at → passes test q ≡ true → list_any test patterns ≡ true
any_from_get test patterns at None is e = absurd (false≢true e)
any_from_get test patterns at (Some pattern) is e = any_at test patterns at pattern (sym is) e

pub some_in : (test : Pattern → Bool) (o : Option Placed) (at : ℕ) → passes test (pattern_in o at) ≡ true → has_some test o ≡ true
some_in test None at e = absurd (false≢true e)
some_in test (Some p) at e = any_from_get test p.section.patterns at (slice_get p.section.patterns at) refl e

hits_are_sound : (sections : List Placed) (test : Pattern → Bool) (n : ℕ) (places : List PatternPlace) → is_in_numbers n (hits_in sections test places) ≡ true → has_some test (slice_get sections n) ≡ true
hits_are_sound sections test n [] e = absurd (false≢true e)
hits_are_sound sections test n (place ∷ places) e =
    ⊎_elim
    (λ here.
    ⊎_elim
    (λ fits.
    let same : list_any (λ m. m == n) (place.section ∷ []) ≡ true = subst (λ ms. list_any (λ m. m == n) ms ≡ true) (hit_found sections test place fits) here in
    let is : place.section ≡ n = ⊎_elim (λ t. eqb-true place.section n t) (λ f. absurd (false≢true f)) (or_cases (place.section == n) false same) in
    subst (λ m. has_some test (slice_get sections m) ≡ true) is (some_in test (slice_get sections place.section) place.pattern fits))
    (λ fails. absurd (false≢true (subst (λ ms. list_any (λ m. m == n) ms ≡ true) (hit_none sections test place fails) here)))
    (cases_Bool (passes test (pattern_at sections place))))
    (λ later. hits_are_sound sections test n places later)
    (any_either (λ m. m == n) (hit_of sections test place) (hits_in sections test places) e)

-- the slots of some numbers have what the slots of some texts have
covered : (slots : List (List PatternPlace)) (keys : List (List ℕ)) (numbers : List ℕ)
    → ((test : ℕ → Bool) → list_any test (map (slot_number (length slots)) keys) ≡ true → list_any test numbers ≡ true)
    → (test : PatternPlace → Bool) → list_any test (flat_map (slot_of slots) keys) ≡ true → list_any test (flat_map (slot_at slots) numbers) ≡ true
covered slots keys numbers keeps test e =
    let has : ℕ → Bool = λ n. list_any test (slot_at slots n) in
    any_part test has (slot_at slots) numbers (λ n found. found)
    (keeps has (any_map has (slot_number (length slots)) keys ∙ any_flat test (slot_of slots) keys e))

-- a section with a hit among the candidates is found
in_raw : (index : PlaceIndex) (sections : List Placed) (host : List ℕ) (test : Pattern → Bool) (numbers raw : List ℕ)
    → ((test : ℕ → Bool) → list_any test (map (slot_number (length index.slots.items)) (host_keys host)) ≡ true → list_any test numbers ≡ true)
    → raw ≡ hits_in sections test index.always ++ hits_in sections test (flat_map (slot_at index.slots.items) numbers)
    → (n : ℕ) → list_any (is_hit sections test n) (gathered_places index.always index.slots.items (host_keys host)) ≡ true → is_in_numbers n raw ≡ true
in_raw index sections host test numbers raw keeps is_raw n found =
    let first = hits_in sections test index.always in
    let later = hits_in sections test (flat_map (slot_at index.slots.items) numbers) in
    subst (λ ms. is_in_numbers n ms ≡ true) (sym is_raw)
    (⊎_elim
    (λ here. any_left (λ m. m == n) first later (hits_are_in sections test n index.always here))
    (λ behind. any_right (λ m. m == n) first later
    (hits_are_in sections test n (flat_map (slot_at index.slots.items) numbers)
    (covered index.slots.items (host_keys host) numbers keeps (is_hit sections test n) behind)))
    (any_either (is_hit sections test n) index.always (flat_map (slot_of index.slots.items) (host_keys host)) found))

-- each section that applies is found
whole_from : (index : PlaceIndex) (sections : List Placed) (url : Url) (tags : List (List ℕ)) (numbers raw : List ℕ) → IsIndexed index sections
    → ((test : ℕ → Bool) → list_any test (map (slot_number (length index.slots.items)) (host_keys url.host)) ≡ true → list_any test numbers ≡ true)
    → raw ≡ hits_in sections (is_for_url url tags) index.always ++ hits_in sections (is_for_url url tags) (flat_map (slot_at index.slots.items) numbers)
    → (n : ℕ) (o : Option Placed) → o ≡ slice_get sections n → has_some (is_for_url url tags) o ≡ true → is_in_numbers n raw ≡ true
whole_from index sections url tags numbers raw indexed keeps is_raw n None is fits = absurd (false≢true fits)
whole_from index sections url tags numbers raw indexed keeps is_raw n (Some p) is fits =
    let test = is_for_url url tags in
    let s = stands_at test p.section.patterns fits in
    let at_section : slice_get sections n ≡ Some p = sym is in
    let here : pattern_at sections (place_of n s.place) ≡ Some s.item = ap (λ o. pattern_in o s.place) at_section ∙ s.at in
    in_raw index sections url.host test numbers raw keeps is_raw n
    (indexed.has n p (slice_get_within sections n p at_section) at_section s.place s.item (slice_get_within p.section.patterns s.place s.item s.at) s.at url tags s.passes
    (is_hit sections test n)
    (and_from (n == n) (passes test (pattern_at sections (place_of n s.place))) (eq-eqb n n refl) (ap (passes test) here ∙ s.passes)))

whole : (index : PlaceIndex) (sections : List Placed) (url : Url) (tags : List (List ℕ)) (numbers raw : List ℕ) → IsIndexed index sections
    → ((test : ℕ → Bool) → list_any test (map (slot_number (length index.slots.items)) (host_keys url.host)) ≡ true → list_any test numbers ≡ true)
    → raw ≡ hits_in sections (is_for_url url tags) index.always ++ hits_in sections (is_for_url url tags) (flat_map (slot_at index.slots.items) numbers)
    → (n : ℕ) → has_some (is_for_url url tags) (slice_get sections n) ≡ true → is_in_numbers n raw ≡ true
whole index sections url tags numbers raw indexed keeps is_raw n e = whole_from index sections url tags numbers raw indexed keeps is_raw n (slice_get sections n) refl e

sound : (index : PlaceIndex) (sections : List Placed) (test : Pattern → Bool) (first later : List PatternPlace) (raw : List ℕ) → raw ≡ hits_in sections test first ++ hits_in sections test later
    → (n : ℕ) → is_in_numbers n raw ≡ true → has_some test (slice_get sections n) ≡ true
sound index sections test first later raw is_raw n e =
    ⊎_elim (hits_are_sound sections test n first) (hits_are_sound sections test n later)
    (any_either (λ m. m == n) (hits_in sections test first) (hits_in sections test later) (subst (λ ms. is_in_numbers n ms ≡ true) is_raw e))

pub hits_select : (index : PlaceIndex) (sections : List Placed) (url : Url) (tags : List (List ℕ)) (numbers raw hits : List ℕ) → IsIndexed index sections
    → ((test : ℕ → Bool) → list_any test (map (slot_number (length index.slots.items)) (host_keys url.host)) ≡ true → list_any test numbers ≡ true)
    → raw ≡ hits_in sections (is_for_url url tags) index.always ++ hits_in sections (is_for_url url tags) (flat_map (slot_at index.slots.items) numbers)
    → IsStrictlyIncreasing hits
    → ((test : ℕ → Bool) → list_any test raw ≡ true → list_any test hits ≡ true)
    → ((test : ℕ → Bool) → list_any test hits ≡ true → list_any test raw ≡ true)
    → Selects (is_for_url url tags) sections hits
hits_select index sections url tags numbers raw hits indexed keeps is_raw rises kept adds_none =
    selects_from (is_for_url url tags) sections hits rises
    (λ n e. sound index sections (is_for_url url tags) index.always (flat_map (slot_at index.slots.items) numbers) raw is_raw n (adds_none (λ m. m == n) e))
    (λ n e. kept (λ m. m == n) (whole index sections url tags numbers raw indexed keeps is_raw n e))
