-- Numbers in ascending order.
use Rattle.std.proofs.Common.{◌≡◌, ℕ, suc, ◌+◌, ◌-◌, ◌<◌, ◌≤◌, Bool, true, false, cond, List, [], ◌∷◌, ◌++◌, get_or, Option, None, Some, refl, sym, ap, ap₂, ◌∙◌, subst, arith}
use Rattle.std.specs.Prelude.{◌==◌, option_to_list, slice_get}
use Rattle.std.specs.List.{Contains, flat_map, list_any}
use Rattle.std.specs.List.Sorted.{IsStrictlyIncreasing}
use mathlib.Core.Logic.{⊎_elim}
use Rattle.std.proofs.lemmas.Bool.{cases_Bool, cases_eq, eq-eqb, eqb-true, false≢true, or_cases, or_left, or_right}
use Rattle.std.proofs.lemmas.List.Folds.{Any-from_list_any, list_any_at}
use Rattle.px_action_files.specs.declared.patterns.Pattern.{Pattern}
use Rattle.px_merge.specs.Indexes.{is_in_numbers, places_or_none, slot_at, slots_weight, weight}
use Rattle.px_merge.specs.Merging.{sections_with}
use Rattle.px_merge.specs.Selections.{has_some, picked}
use Rattle.px_merge.specs.declared.places.PatternPlace.{PatternPlace}
use Rattle.px_merge.specs.declared.places.Placed.{Placed}
use Rattle.px_merge.proofs.SlotLemmas.{weight_append}

pub any_moved : (xs ys : List ℕ) → ((x : ℕ) → Contains xs x → Contains ys x) → (test : ℕ → Bool) → list_any test xs ≡ true → list_any test ys ≡ true
any_moved xs ys moved test e =
    let found = Any-from_list_any test xs e in
    let there = moved found.1 (found.0, found.2, found.3) in
    list_any_at test ys there.0 found.1 there.1 (ap test there.2 ∙ found.4)

-- numbers from one on, each above the one before
abbrev pub IsAscending : ℕ → List ℕ → Type 0
IsAscending k [] = Unit {0}
IsAscending k (n ∷ ns) = (k ≤ n) × IsAscending (n + 1) ns

ascending_from : (k n : ℕ) (ns : List ℕ) → k ≤ n → IsStrictlyIncreasing (n ∷ ns) → IsAscending k (n ∷ ns)
ascending_from k n [] le rises = (le, tt)
ascending_from k n (m ∷ ns) le rises =
    let above : n + 1 ≤ m = omega (arith, rises 0 (omega arith)) in (
      le,
      ascending_from (n + 1) m ns above
          (λ j within. let next : suc j + 1 ≡ suc (j + 1) = omega arith in
          subst (λ t. get_or (m ∷ ns) j 0 < get_or (n ∷ m ∷ ns) t 0) next (rises (suc j) (omega (arith, within)))),
    )

pub ascending : (ns : List ℕ) → IsStrictlyIncreasing ns → IsAscending 0 ns
ascending [] rises = tt
ascending (n ∷ ns) rises = ascending_from 0 n ns (omega arith) rises

from_lower : (k l : ℕ) (ns : List ℕ) → k ≤ l → IsAscending l ns → IsAscending k ns
from_lower k l [] le asc = tt
from_lower k l (n ∷ ns) le asc = (omega (arith, le, asc.0), asc.1)

-- what stands at numbers of a list that begins at a number
abbrev gath : {X Y : Type 0} → (Option X → List Y) → ℕ → List X → List ℕ → List Y
gath g k xs ns = flat_map (λ n. g (slice_get xs (n - k))) ns

gath_none : {X Y : Type 0} (g : Option X → List Y) (k : ℕ) (ns : List ℕ) → g None ≡ [] → gath g k [] ns ≡ []
gath_none g k [] fails = refl
gath_none g k (n ∷ ns) fails = ap₂ ◌++◌ fails (gath_none g k ns fails)

gath_shift : {X Y : Type 0} (g : Option X → List Y) (k : ℕ) (x : X) (xs : List X) (ns : List ℕ) → IsAscending (k + 1) ns → gath g k (x ∷ xs) ns ≡ gath g (k + 1) xs ns
gath_shift g k x xs [] asc = refl
gath_shift g k x xs (n ∷ ns) asc =
    let next : n - k ≡ suc (n - (k + 1)) = omega (arith, asc.0) in
    ap₂ ◌++◌ (ap (λ m. g (slice_get (x ∷ xs) m)) next) (gath_shift g k x xs ns (from_lower (k + 1) (n + 1) ns (omega (arith, asc.0)) asc.1))

gath_zero : {X Y : Type 0} (g : Option X → List Y) (xs : List X) (ns : List ℕ) → gath g 0 xs ns ≡ flat_map (λ n. g (slice_get xs n)) ns
gath_zero g xs [] = refl
gath_zero g xs (n ∷ ns) = let same : n - 0 ≡ n = omega arith in ap₂ ◌++◌ (ap (λ m. g (slice_get xs m)) same) (gath_zero g xs ns)

-- ---- slots that are each visited once

slots_from : (weigh : PatternPlace → ℕ) (k : ℕ) (slots : List (List PatternPlace)) (ns : List ℕ) → IsAscending k ns → weight weigh (gath places_or_none k slots ns) ≤ slots_weight weigh slots
slots_from weigh k [] ns asc = omega (arith, ap (weight weigh) (gath_none places_or_none k ns refl))
slots_from weigh k (s ∷ slots) [] asc = omega arith
slots_from weigh k (s ∷ slots) (n ∷ ns) asc =
    ⊎_elim
    (λ here.
    let first : n - k ≡ 0 = omega (arith, here) in
    let behind : IsAscending (k + 1) ns = from_lower (k + 1) (n + 1) ns (omega (arith, here)) asc.1 in
    omega (
      arith,
      weight_append weigh (places_or_none (slice_get (s ∷ slots) (n - k))) (gath places_or_none k (s ∷ slots) ns),
      ap (λ m. weight weigh (places_or_none (slice_get (s ∷ slots) m))) first,
      ap (weight weigh) (gath_shift places_or_none k s slots ns behind),
      slots_from weigh (k + 1) slots ns behind,
    ))
    (λ other.
    let above : IsAscending (k + 1) (n ∷ ns) = (omega (arith, other, asc.0), asc.1) in
    omega (arith, ap (weight weigh) (gath_shift places_or_none k s slots (n ∷ ns) above), slots_from weigh (k + 1) slots (n ∷ ns) above))
    (cases_eq n k)

pub slots_once : (weigh : PatternPlace → ℕ) (slots : List (List PatternPlace)) (ns : List ℕ) → IsStrictlyIncreasing ns → weight weigh (flat_map (slot_at slots) ns) ≤ slots_weight weigh slots
slots_once weigh slots ns rises = omega (arith, slots_from weigh 0 slots ns (ascending ns rises), ap (weight weigh) (gath_zero places_or_none slots ns))

-- ---- sections by their numbers

not_in : (k : ℕ) (ns : List ℕ) → IsAscending (k + 1) ns → is_in_numbers k ns ≡ true → ⊥
not_in k [] asc e = false≢true e
not_in k (n ∷ ns) asc e =
    ⊎_elim (λ here. omega (arith, eqb-true n k here, asc.0)) (λ later. not_in k ns (from_lower (k + 1) (n + 1) ns (omega (arith, asc.0)) asc.1) later) (or_cases (n == k) (is_in_numbers k ns) e)

above_all : (k n : ℕ) (ns : List ℕ) → IsAscending k ns → is_in_numbers n ns ≡ true → k ≤ n
above_all k n [] asc e = absurd (false≢true e)
above_all k n (m ∷ ns) asc e =
    ⊎_elim (λ here. omega (arith, eqb-true m n here, asc.0)) (λ later. omega (arith, above_all (m + 1) n ns asc.1 later, asc.0)) (or_cases (m == n) (is_in_numbers n ns) e)

later_get : (p : Placed) (sections : List Placed) (k n : ℕ) → k + 1 ≤ n → slice_get (p ∷ sections) (n - k) ≡ slice_get sections (n - (k + 1))
later_get p sections k n le = let next : n - k ≡ suc (n - (k + 1)) = omega (arith, le) in ap (slice_get (p ∷ sections)) next

first_get : (p : Placed) (sections : List Placed) (k : ℕ) → slice_get (p ∷ sections) (k - k) ≡ Some p
first_get p sections k = let fails : k - k ≡ 0 = omega arith in ap (slice_get (p ∷ sections)) fails

-- the first section isn't among those with the numbers
passed_over : (test : Pattern → Bool) (k : ℕ) (p : Placed) (sections : List Placed) (ns : List ℕ) → IsAscending (k + 1) ns → list_any test p.section.patterns ≡ false
    → ((n : ℕ) → is_in_numbers n ns ≡ true → has_some test (slice_get (p ∷ sections) (n - k)) ≡ true)
    → ((n : ℕ) → k ≤ n → has_some test (slice_get (p ∷ sections) (n - k)) ≡ true → is_in_numbers n ns ≡ true)
    → gath option_to_list (k + 1) sections ns ≡ sections_with test sections
    → gath option_to_list k (p ∷ sections) ns ≡ sections_with test (p ∷ sections)
passed_over test k p sections ns asc fails sound whole rest =
    gath_shift option_to_list k p sections ns asc ∙ rest ∙ sym (ap (λ b. cond b (p ∷ sections_with test sections) (sections_with test sections)) fails)

-- the first section is the first of those with the numbers
taken : (test : Pattern → Bool) (k : ℕ) (p : Placed) (sections : List Placed) (n : ℕ) (ns : List ℕ) → n ≡ k → IsAscending (n + 1) ns → list_any test p.section.patterns ≡ true
    → gath option_to_list (k + 1) sections ns ≡ sections_with test sections
    → gath option_to_list k (p ∷ sections) (n ∷ ns) ≡ sections_with test (p ∷ sections)
taken test k p sections n ns here asc fits rest =
    let first : n - k ≡ 0 = omega (arith, here) in
    ap₂ ◌++◌ (ap (λ m. option_to_list (slice_get (p ∷ sections) m)) first)
    (gath_shift option_to_list k p sections ns (from_lower (k + 1) (n + 1) ns (omega (arith, here)) asc) ∙ rest)
    ∙ sym (ap (λ b. cond b (p ∷ sections_with test sections) (sections_with test sections)) fits)

selected : (test : Pattern → Bool) (k : ℕ) (sections : List Placed) (ns : List ℕ) → IsAscending k ns
    → ((n : ℕ) → is_in_numbers n ns ≡ true → has_some test (slice_get sections (n - k)) ≡ true)
    → ((n : ℕ) → k ≤ n → has_some test (slice_get sections (n - k)) ≡ true → is_in_numbers n ns ≡ true)
    → gath option_to_list k sections ns ≡ sections_with test sections
selected test k [] ns asc sound whole = gath_none option_to_list k ns refl
selected test k (p ∷ sections) [] asc sound whole =
    let fails : list_any test p.section.patterns ≡ false =
    ⊎_elim (λ t. absurd (false≢true (whole k (omega arith) (ap (has_some test) (first_get p sections k) ∙ t)))) (λ f. f) (cases_Bool (list_any test p.section.patterns)) in
    passed_over test k p sections [] tt fails sound whole
    (selected test (k + 1) sections [] tt (λ n e. absurd (false≢true e)) (λ n le e. whole n (omega (arith, le)) (ap (has_some test) (later_get p sections k n le) ∙ e)))
selected test k (p ∷ sections) (n ∷ ns) asc sound whole =
    ⊎_elim
    (λ here.
    let fits : list_any test p.section.patterns ≡ true =
    sym (ap (has_some test) (first_get p sections k)) ∙ sound k (or_left (n == k) (is_in_numbers k ns) (eq-eqb n k here)) in
    let behind : IsAscending (k + 1) ns = from_lower (k + 1) (n + 1) ns (omega (arith, here)) asc.1 in
    taken test k p sections n ns here asc.1 fits
    (selected test (k + 1) sections ns behind
    (λ m e. sym (ap (has_some test) (later_get p sections k m (above_all (k + 1) m ns behind e))) ∙ sound m (or_right (n == m) (is_in_numbers m ns) e))
    (λ m le e.
    ⊎_elim (λ same. absurd (omega (arith, eqb-true n m same, here, le))) (λ later. later)
    (or_cases (n == m) (is_in_numbers m ns) (whole m (omega (arith, le)) (ap (has_some test) (later_get p sections k m le) ∙ e))))))
    (λ other.
    let above : IsAscending (k + 1) (n ∷ ns) = (omega (arith, other, asc.0), asc.1) in
    let fails : list_any test p.section.patterns ≡ false =
    ⊎_elim (λ t. absurd (not_in k (n ∷ ns) above (whole k (omega arith) (ap (has_some test) (first_get p sections k) ∙ t)))) (λ f. f) (cases_Bool (list_any test p.section.patterns)) in
    passed_over test k p sections (n ∷ ns) above fails sound whole
    (selected test (k + 1) sections (n ∷ ns) above
    (λ m e. sym (ap (has_some test) (later_get p sections k m (above_all (k + 1) m (n ∷ ns) above e))) ∙ sound m e)
    (λ m le e. whole m (omega (arith, le)) (ap (has_some test) (later_get p sections k m le) ∙ e))))
    (cases_eq n k)

-- ascending numbers of just those sections that have a pattern that passes
pub selects_from : (test : Pattern → Bool) (sections : List Placed) (ns : List ℕ) → IsStrictlyIncreasing ns
    → ((n : ℕ) → is_in_numbers n ns ≡ true → has_some test (slice_get sections n) ≡ true)
    → ((n : ℕ) → has_some test (slice_get sections n) ≡ true → is_in_numbers n ns ≡ true)
    → picked sections ns ≡ sections_with test sections
selects_from test sections ns rises sound whole =
    let zero_less : (n : ℕ) → has_some test (slice_get sections (n - 0)) ≡ has_some test (slice_get sections n) =
    λ n. let same : n - 0 ≡ n = omega arith in ap (λ m. has_some test (slice_get sections m)) same in
    sym (gath_zero option_to_list sections ns)
    ∙ selected test 0 sections ns (ascending ns rises) (λ n e. zero_less n ∙ sound n e) (λ n le e. whole n (sym (zero_less n) ∙ e))
