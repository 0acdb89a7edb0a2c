-- The matches that are left, and what a text is with some of them replaced.
use Rattle.std.proofs.Common.{◌≡◌, ℕ, zero, suc, ◌+◌, ◌-◌, ◌*◌, ◌<◌, ◌≤◌, Bool, true, false, cond, ◌==◌, List, [], ◌∷◌, ◌++◌, take, drop, length, flat_map, map, Option, Some, None, IfSome, IfNone, slice_range, refl, sym, ap, ap₂, subst, ◌∙◌, ⊎_elim, true≢false, arith, ne_eqb, append_assoc, zero-add, get_or, ◌&&◌, nat_le}
use Rattle.std.proofs.lemmas.Bool.{cases_lt, cond-false, and_parts, leb-true}
use Rattle.std.proofs.lemmas.List.{get_or_past, length-map, append-nil, nil_from_length}
use Rattle.std.proofs.lemmas.Option.{none-some, same_Some}
use Rattle.std.proofs.lemmas.List.FromFn.{length-map-range_with_len}
use Rattle.regex_hir.specs.Re.{Re}
use Rattle.regex_hir.specs.Text.{is_some_and}
use Rattle.regex_hir.specs.Find.{Match, find, find_after, find_all, matches_from}
use Rattle.regex_vm.specs.Found.{span, group_cells}
use Rattle.regex.specs.Search.{group_span, matches_after, LiesWithin}
use Rattle.regex.specs.Views.{engine_width}
use Rattle.regex.specs.Writes.{group_of}
use Rattle.regex.specs.Replace.{replaced_by, bytes_of}
use Rattle.regex.specs.Locations.{location, location_count, AreLocationsOf}
use Rattle.regex.specs.Bytes.{matcher_pattern, matcher_names}
use Rattle.regex.specs.declared.locations.CaptureLocations.{CaptureLocations}
use Rattle.regex.specs.declared.bytes.matcher.Matcher.{Matcher}
use Rattle.regex.proofs.SearchLemmas.{leftmost_within, matches_after_none, matches_after_some, next_later, next_same}
use Rattle.regex.proofs.GroupLemmas.{group_span_of_match, no_span_past_cells}
use Rattle.regex.proofs.RoomLemmas.{engine_has_room}
use Rattle.px_subst.specs.declared.items.SubstituteItem.{SubstituteItem}
use Rattle.px_subst.specs.declared.items.SubstituteItem.TheVariants as item
use Rattle.px_subst.specs.declared.items.Part.{Part}
use Rattle.px_subst.specs.declared.items.Part.TheVariants as part
use Rattle.px_subst.specs.declared.outcomes.JobOutcome.{JobOutcome}
use Rattle.px_subst.specs.Substitutes.{item_bytes, written_items}
use Rattle.px_subst.specs.Replacers.{AreWithin, part_items, items_in_all, part_bytes}

-- ---- where the groups of a match lie

-- from group 1 on
abbrev SpanOf : List ℕ → Match → ℕ → ℕ → Type 0
SpanOf text m width n = group_span false text (span m) (group_cells m width) n ≡ group_of m n

by_test : (b : Bool) (s : ℕ × ℕ) (P : ℕ × ℕ → Type 0) → (b ≡ true → P s) → IfSome (cond b (Some s) None) P
by_test true s P h = h refl
by_test false s P h = tt

-- two cells that hold a span, each a position plus one
abbrev hold_span : ℕ → ℕ → ℕ → Bool
hold_span first last len = nat_le 1 first && (nat_le first last && (nat_le last (len + 1) && true))

cells_within : (first last len : ℕ) → hold_span first last len ≡ true → LiesWithin 0 len (first - 1, last - 1)
cells_within first last len passed =
    let start = and_parts (nat_le 1 first) (nat_le first last && (nat_le last (len + 1) && true)) passed in
    let order = and_parts (nat_le first last) (nat_le last (len + 1) && true) start.1 in
    let end = and_parts (nat_le last (len + 1)) true order.1 in
    let low : 1 ≤ first = leb-true 1 first start.0 in
    let ordered : first ≤ last = leb-true first last order.0 in
    let high : last ≤ len + 1 = leb-true last (len + 1) end.0 in
    (omega arith, omega arith, omega arith)

group_within : (text : List ℕ) (whole : ℕ × ℕ) (cells : List ℕ) (n : ℕ) → 1 ≤ n →
    IfSome (group_span false text whole cells n) (LiesWithin 0 (length text))
unfolding group_span
group_within text whole cells n positive =
    let first = get_or cells (2 * n - 2) 0 in
    let last = get_or cells (2 * n - 1) 0 in
    subst (λ o. IfSome o (LiesWithin 0 (length text))) (sym (cond-false _ (Some whole) _ (ne_eqb n 0 (omega arith))))
    (by_test (hold_span first last (length text)) (first - 1, last - 1) (LiesWithin 0 (length text)) (cells_within first last (length text)))

cells_len : (m : Match) (width : ℕ) → length (group_cells m width) ≡ width
unfolding group_cells
cells_len m width = length-map-range_with_len _ 0 width

-- where a match's groups lie, by the locations that were read for it
pub read_groups : (k : Matcher) (text : List ℕ) (start : ℕ) (m : Match) (places : CaptureLocations) →
    find (matcher_pattern k) text start ≡ Some m → location_count places ≡ length (matcher_names k) → AreLocationsOf m places →
    ((n : ℕ) → location places n ≡ cond (n == 0) (Some (span m)) (group_of m n)) × AreWithin text places
read_groups k text start m places found count are =
    let re = matcher_pattern k in
    let engine = k.engine in
    let width = engine_width engine in
    let named : length (matcher_names k) ≡ length engine.names.now = length-map _ _ in
    let cells : length (group_cells m width) ≡ width = cells_len m width in
    let span_is : (n : ℕ) → 1 ≤ n → SpanOf text m width n =
    λ n one. group_span_of_match false re text start m width n (λ is. absurd (true≢false (sym is))) (engine_has_room engine) one found in
    let groups : (n : ℕ) → location places n ≡ cond (n == 0) (Some (span m)) (group_of m n) =
    by_number places m (omega (arith, engine.named)) are
    (λ n one past. sym (span_is n one) ∙ no_span_past_cells false text (span m) (group_cells m width) n one (omega (arith, engine.named))) in (
      groups,
      within places m text groups (leftmost_within re text false start m found)
          (λ n one. subst (λ o. IfSome o (LiesWithin 0 (length text))) (span_is n one) (group_within text (span m) (group_cells m width) n one)),
    )
  where
    by_number : (places : CaptureLocations) (m : Match) → 0 < location_count places → AreLocationsOf m places →
        ((n : ℕ) → 1 ≤ n → location_count places ≤ n → group_of m n ≡ None) →
        (n : ℕ) → location places n ≡ cond (n == 0) (Some (span m)) (group_of m n)
    by_number places m some are past zero = are.0 some
    by_number places m some are past (suc n) =
        ⊎_elim
        (λ inside. are.1 (suc n) (omega arith) inside)
        (λ outside. get_or_past places.spans.items (suc n) None (omega (arith, places.spans.ok.0)) ∙ sym (past (suc n) (omega arith) outside))
        (cases_lt (suc n) (location_count places))
        ∙ sym (cond-false _ (Some (span m)) (group_of m (suc n)) (ne_eqb (suc n) 0 (omega arith)))

    within : (places : CaptureLocations) (m : Match) (text : List ℕ) →
        ((n : ℕ) → location places n ≡ cond (n == 0) (Some (span m)) (group_of m n)) → {start : ℕ} → LiesWithin start (length text) (span m) →
        ((n : ℕ) → 1 ≤ n → IfSome (group_of m n) (LiesWithin 0 (length text))) → AreWithin text places
    within places m text groups whole rest zero =
        subst (λ o. IfSome o (LiesWithin 0 (length text))) (sym (groups 0)) (omega arith, whole.1, whole.2)
    within places m text groups whole rest (suc n) =
        subst (λ o. IfSome o (LiesWithin 0 (length text)))
        (sym (groups (suc n) ∙ cond-false _ (Some (span m)) (group_of m (suc n)) (ne_eqb (suc n) 0 (omega arith))))
        (rest (suc n) (omega arith))

-- ---- the matches that are left behind a place, which is one more than the end of the match before, or 0

module _ (re : Re) (text : List ℕ) (after : ℕ) where
  pub none_left : find re text (after - 1) ≡ None → matches_after false re text after ≡ []
  none_left none =
      matches_after_none re text false after (next_same re text false after (λ m found. absurd (none-some m (sym none ∙ found))) ∙ none)

  pub first_left : (m : Match) → find re text (after - 1) ≡ Some m → after ≤ m.trace.end →
      matches_after false re text after ≡ m ∷ matches_after false re text (m.trace.end + 1)
  first_left m found behind =
      matches_after_some re text false after m
      (next_same re text false after (λ x is. subst (λ (y : Match). after ≤ y.trace.end) (same_Some _ _ (sym found ∙ is)) behind) ∙ found)

  -- an empty match where the one before ended is passed over
  pub none_later : (m : Match) → find re text (after - 1) ≡ Some m → m.trace.end < after → find re text after ≡ None →
      matches_after false re text after ≡ []
  none_later m found empty none = matches_after_none re text false after (next_later re text false after m found empty ∙ none)

  pub first_later : (m n : Match) → find re text (after - 1) ≡ Some m → m.trace.end < after → find re text after ≡ Some n →
      matches_after false re text after ≡ n ∷ matches_after false re text (n.trace.end + 1)
  first_later m n found empty later =
      matches_after_some re text false after n (next_later re text false after m found empty ∙ later)

pub take_of_none : (n : ℕ) {ms : List Match} → ms ≡ [] → take n ms ≡ []
take_of_none zero e = refl
take_of_none (suc n) e = ap (take (suc n)) e

pub if_none : {A : Type 0} {P : Type 0} (o : Option A) → P → IfNone o P
if_none None p = p
if_none (Some x) p = tt

pub if_none_then : {A : Type 0} {P Q : Type 0} (o : Option A) → (P → Q) → IfNone o P → IfNone o Q
if_none_then None f p = f p
if_none_then (Some x) f p = tt

pub if_some_then : {A : Type 0} {P Q : A → Type 0} (o : Option A) → ((x : A) → P x → Q x) → IfSome o P → IfSome o Q
if_some_then None f p = tt
if_some_then (Some x) f p = f x p

-- ---- what parts write at a match

-- bytes as items write themselves
bytes_write : (text : List ℕ) (m : Match) (bytes : List ℕ) → flat_map (item_bytes text m) (map item.Byte bytes) ≡ bytes
bytes_write text m [] = refl
bytes_write text m (b ∷ bytes) = ap (λ s. b ∷ s) (bytes_write text m bytes)

written-append : (text : List ℕ) (m : Match) (xs ys : List SubstituteItem) → written_items text (xs ++ ys) m ≡ written_items text xs m ++ written_items text ys m
written-append text m [] ys = refl
written-append text m (x ∷ xs) ys =
    ap (λ s. item_bytes text m x ++ s) (written-append text m xs ys) ∙ sym (append_assoc (item_bytes text m x) (written_items text xs m) (written_items text ys m))

module _ (text : List ℕ) (m : Match) (places : CaptureLocations)
    (groups : (n : ℕ) → location places n ≡ cond (n == 0) (Some (span m)) (group_of m n)) where
  part_writes : (p : Part) → part_bytes text places p ≡ written_items text (part_items p) m
  part_writes (part.Text bytes) = sym (bytes_write text m bytes.items)
  part_writes (part.Group n) = ap (bytes_of text) (groups n) ∙ sym (append-nil _)

  pub parts_write : (parts : List Part) → flat_map (part_bytes text places) parts ≡ written_items text (items_in_all parts) m
  parts_write [] = refl
  parts_write (p ∷ parts) =
      ap₂ ◌++◌ (part_writes p) (parts_write parts) ∙ sym (written-append text m (part_items p) (items_in_all parts))

-- ---- matches come in order

-- each match lies behind the one before, from a place to the end
abbrev pub IsInOrder : ℕ → ℕ → List Match → Type 0
IsInOrder at end [] = at ≤ end
IsInOrder at end (m ∷ ms) = (at ≤ m.start) × (m.start ≤ m.trace.end) × IsInOrder m.trace.end end ms

pub in_order_fits : (at end : ℕ) (ms : List Match) → IsInOrder at end ms → at ≤ end
in_order_fits at end [] is = is
in_order_fits at end (m ∷ ms) is = omega (arith, is.0, is.1, in_order_fits m.trace.end end ms is.2)

module _ (re : Re) (text : List ℕ) where
  after_within : (at : ℕ) (m : Match) → find_after (find re text) at ≡ Some m → LiesWithin at (length text) (span m)
  after_within at m e = by_choice (is_some_and (find re text at) (λ m. m.trace.end == at)) e
    where
      by_choice : (b : Bool) → cond b (find re text (at + 1)) (find re text at) ≡ Some m → LiesWithin at (length text) (span m)
      by_choice true e = let within = leftmost_within re text false (at + 1) m e in (omega (arith, within.0), within.1, within.2)
      by_choice false e = leftmost_within re text false at m e

  from_in_order : (n at : ℕ) (o : Option Match) → at ≤ length text → ((m : Match) → o ≡ Some m → LiesWithin at (length text) (span m)) →
      IsInOrder at (length text) (matches_from (find re text) n o)
  unfolding matches_from
  from_in_order zero at o fits within = fits
  from_in_order (suc n) at None fits within = fits
  from_in_order (suc n) at (Some m) fits within =
      let here = within m refl in
      (here.0, here.1, from_in_order n m.trace.end (find_after (find re text) m.trace.end) here.2 (λ next e. after_within m.trace.end next e))

  pub all_in_order : IsInOrder 0 (length text) (find_all re text)
  all_in_order = from_in_order _ 0 _ (omega arith) (λ m e. leftmost_within re text false 0 m e)

length-matches_from : (search : ℕ → Option Match) (n : ℕ) (o : Option Match) → length (matches_from search n o) ≤ n
unfolding matches_from
length-matches_from search zero o = omega arith
length-matches_from search (suc n) None = omega arith
length-matches_from search (suc n) (Some m) = omega (arith, length-matches_from search n (find_after search m.trace.end))

pub few_matches : (re : Re) (text : List ℕ) → length (find_all re text) ≤ length text + 1
few_matches re text = length-matches_from _ _ _

-- ---- a text with the first matches replaced

-- Of all the matches, those before `left` are replaced, `hits` of them and no more than the limit; `out` ends at `last`.
pub record Replaced (written_at : Match → List ℕ) (text : List ℕ) (limit : ℕ) (all left : List Match) (out : List ℕ) (last hits : ℕ) : Type 0 where
  pub value : out ++ replaced_by written_at text last (take (limit - hits) left) ≡ replaced_by written_at text 0 (take limit all)
  pub count : hits + length (take (limit - hits) left) ≡ length (take limit all)
  pub ordered : IsInOrder last (length text) left
  pub few : hits + length left ≤ length text + 1
  pub allowed : hits ≤ limit

module _ (W : Match → List ℕ) (text : List ℕ) (limit : ℕ) (all : List Match) where
  pub none_replaced : IsInOrder 0 (length text) all → length all ≤ length text + 1 → Replaced W text limit all all [] 0 0
  none_replaced ordered few =
      let same : limit - 0 ≡ limit = omega arith in
      record {
        value = ap (λ n. replaced_by W text 0 (take n all)) same;
        count = zero-add _ ∙ ap (λ n. length (take n all)) same;
        ordered = ordered;
        few = omega arith;
        allowed = omega arith;
      }

  pub one_more : (m : Match) (left : List Match) (out written_here : List ℕ) (last hits : ℕ) → 0 < limit - hits → written_here ≡ W m →
      Replaced W text limit all (m ∷ left) out last hits →
      Replaced W text limit all left (out ++ (slice_range text last m.start ++ written_here)) m.trace.end (hits + 1)
  unfolding replaced_by
  one_more m left out written_here last hits wanted is so_far =
      let more : limit - hits ≡ suc (limit - (hits + 1)) = omega arith in
      let taken : take (limit - hits) (m ∷ left) ≡ m ∷ take (limit - (hits + 1)) left = ap (λ n. take n (m ∷ left)) more in
      record {
        value =
            ap (λ w. (out ++ (slice_range text last m.start ++ w)) ++ replaced_by W text m.trace.end (take (limit - (hits + 1)) left)) is
            ∙ append_assoc out (slice_range text last m.start ++ W m) (replaced_by W text m.trace.end (take (limit - (hits + 1)) left))
            ∙ ap (λ ms. out ++ replaced_by W text last ms) (sym taken)
            ∙ so_far.value;
        count = omega (arith, so_far.count, ap length taken);
        ordered = so_far.ordered.2;
        few = omega (arith, so_far.few);
        allowed = omega arith;
      }

  pub all_replaced : (left : List Match) (out : List ℕ) (last hits : ℕ) → take (limit - hits) left ≡ [] → Replaced W text limit all left out last hits →
      (out ++ drop last text ≡ replaced_by W text 0 (take limit all)) × (hits ≡ length (take limit all))
  unfolding replaced_by
  all_replaced left out last hits none so_far = (
    ap (λ ms. out ++ replaced_by W text last ms) (sym none) ∙ so_far.value,
    omega (arith, so_far.count, ap length none),
  )

  -- what the code gives, as an outcome
  pub as_outcome : (out : List ℕ) (hits : ℕ) → (out ≡ replaced_by W text 0 (take limit all)) × (hits ≡ length (take limit all)) →
      let given : JobOutcome = record { text = out; hits = hits } in
      given ≡ record { text = replaced_by W text 0 (take limit all); hits = length (take limit all) }
  as_outcome out hits is = ap₂ (λ (t : List ℕ) (n : ℕ). let o : JobOutcome = record { text = t; hits = n } in o) is.0 is.1

  pub nothing_hit : 0 ≡ length (take limit all) → text ≡ replaced_by W text 0 (take limit all)
  unfolding replaced_by
  nothing_hit none = sym (ap (replaced_by W text 0) (nil_from_length (take limit all) (sym none)))
