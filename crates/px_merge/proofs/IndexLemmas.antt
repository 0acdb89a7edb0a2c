-- What an index has of the first patterns and sections.
use Rattle.std.proofs.Common.{◌≡◌, ℕ, suc, ◌+◌, ◌<◌, List, [], ◌∷◌, length, get_or, drop, Some, sym, ◌∙◌, subst, arith, refl, ap, ap₂}
use Rattle.std.specs.Prelude.{slice_get}
use mathlib.Core.Logic.{⊎_elim}
use Rattle.std.proofs.lemmas.Bool.{cases_eq}
use Rattle.std.proofs.lemmas.Option.{get_or_from_slice_get}
use Rattle.px_action_files.specs.declared.patterns.Pattern.{Pattern}
use Rattle.px_merge.specs.Candidates.{candidate_count, candidates_in}
use Rattle.px_merge.specs.Indexes.{Finds, Grows, HasFirstPatterns, HasSections, cost_at, cost_of, host_keys, pattern_in, patterns_weight, place_of, sections_weight}
use Rattle.px_merge.specs.declared.indexes.PlaceIndex.{PlaceIndex}
use Rattle.px_merge.specs.declared.places.PatternPlace.{PatternPlace}
use Rattle.px_merge.specs.declared.places.Placed.{Placed}
use Rattle.px_merge.proofs.ListLemmas.{drop_step}

pub grows_on : (a b c : PlaceIndex) → Grows a b → Grows b c → Grows a c
grows_on a b c first second = λ keys test e. second keys test (first keys test e)

has_later : (old new : PlaceIndex) (number : ℕ) (patterns : List Pattern) (count : ℕ) → Grows old new → HasFirstPatterns old number patterns count → HasFirstPatterns new number patterns count
has_later old new number patterns count grows has = λ j pattern below stands url tags fits test passes. grows (host_keys url.host) test (has j pattern below stands url tags fits test passes)

-- one pattern more
pub has_more : (old new : PlaceIndex) (number : ℕ) (patterns : List Pattern) (count : ℕ) (shown : Pattern) → Grows old new → HasFirstPatterns old number patterns count
    → shown ≡ get_or patterns count shown → Finds new (place_of number count) shown → HasFirstPatterns new number patterns (count + 1)
has_more old new number patterns count shown grows has is added = λ j pattern below stands.
    ⊎_elim
    (λ here.
    let is_shown : shown ≡ pattern = is ∙ get_or_from_slice_get patterns count pattern shown (subst (λ n. slice_get patterns n ≡ Some pattern) here stands) in
    subst (λ n. Finds new (place_of number n) pattern) (sym here) (subst (Finds new (place_of number count)) is_shown added))
    (λ other. has_later old new number patterns count grows has j pattern (omega (arith, below, other)) stands)
    (cases_eq j count)

-- one section more
pub sections_more : (old new : PlaceIndex) (sections : List Placed) (count : ℕ) (shown : Placed) → Grows old new → HasSections old sections count
    → shown ≡ get_or sections count shown → HasFirstPatterns new count shown.section.patterns (length shown.section.patterns) → HasSections new sections (count + 1)
sections_more old new sections count shown grows has is added = λ i section below stands.
    ⊎_elim
    (λ here.
    let is_shown : shown ≡ section = is ∙ get_or_from_slice_get sections count section shown (subst (λ n. slice_get sections n ≡ Some section) here stands) in
    subst (λ n. HasFirstPatterns new n section.section.patterns (length section.section.patterns)) (sym here)
    (subst (λ (s : Placed). HasFirstPatterns new count s.section.patterns (length s.section.patterns)) is_shown added))
    (λ other. has_later old new i section.section.patterns (length section.section.patterns) grows (has i section (omega (arith, below, other)) stands))
    (cases_eq i count)

-- ---- weights

pub patterns_step : (weigh : PatternPlace → ℕ) (number : ℕ) (patterns : List Pattern) (at : ℕ) (shown : Pattern) → at < length patterns
    → patterns_weight weigh number at (drop at patterns) ≡ weigh (place_of number at) + patterns_weight weigh number (at + 1) (drop (at + 1) patterns)
patterns_step weigh number patterns at shown within = ap (patterns_weight weigh number at) (drop_step patterns at shown within)

pub sections_step : (weigh : PatternPlace → ℕ) (sections : List Placed) (at : ℕ) (shown : Placed) → at < length sections → shown ≡ get_or sections at shown
    → sections_weight weigh at (drop at sections) ≡ patterns_weight weigh at 0 shown.section.patterns + sections_weight weigh (at + 1) (drop (at + 1) sections)
sections_step weigh sections at shown within is =
    ap (sections_weight weigh at) (drop_step sections at shown within)
    ∙ ap (λ (p : Placed). patterns_weight weigh at 0 p.section.patterns + sections_weight weigh (at + 1) (drop (at + 1) sections)) (sym is)

patterns_cost : (all : List Placed) (host : List ℕ) (i j : ℕ) (p : Placed) (rest : List Pattern) → slice_get all i ≡ Some p
    → ((k : ℕ) → slice_get p.section.patterns (j + k) ≡ slice_get rest k) → patterns_weight (cost_at all host) i j rest ≡ candidates_in host rest
patterns_cost all host i j p [] at same = refl
patterns_cost all host i j p (q ∷ rest) at same =
    let none : j + 0 ≡ j = omega arith in
    let here : slice_get p.section.patterns j ≡ Some q = subst (λ n. slice_get p.section.patterns n ≡ Some q) none (same 0) in
    ap₂ ◌+◌ (ap (λ o. cost_of host (pattern_in o j)) at ∙ ap (cost_of host) here)
    (patterns_cost all host i (j + 1) p rest at
    (λ k. let next : j + suc k ≡ (j + 1) + k = omega arith in subst (λ n. slice_get p.section.patterns n ≡ slice_get rest k) next (same (suc k))))

sections_cost_from : (all : List Placed) (host : List ℕ) (i : ℕ) (rest : List Placed) → ((k : ℕ) → slice_get all (i + k) ≡ slice_get rest k)
    → sections_weight (cost_at all host) i rest ≡ candidate_count rest host
sections_cost_from all host i [] same = refl
sections_cost_from all host i (p ∷ rest) same =
    let none : i + 0 ≡ i = omega arith in
    let here : slice_get all i ≡ Some p = subst (λ n. slice_get all n ≡ Some p) none (same 0) in
    ap₂ ◌+◌
    (patterns_cost all host i 0 p p.section.patterns here (λ k. let start : 0 + k ≡ k = omega arith in ap (slice_get p.section.patterns) start))
    (sections_cost_from all host (i + 1) rest
    (λ k. let next : i + suc k ≡ (i + 1) + k = omega arith in subst (λ n. slice_get all n ≡ slice_get rest k) next (same (suc k))))

pub sections_cost : (all : List Placed) (host : List ℕ) → sections_weight (cost_at all host) 0 all ≡ candidate_count all host
sections_cost all host = sections_cost_from all host 0 all (λ k. let start : 0 + k ≡ k = omega arith in ap (slice_get all) start)
