-- Labels of hosts: from the front, from the end, and between.
use Rattle.std.proofs.Common.{◌≡◌, ℕ, ◌+◌, ◌<◌, ◌≤◌, ◌⊎◌, ◌↔◌, Bool, true, false, ◌&&◌, ◌||◌, IsTrue, List, [], ◌∷◌, ◌++◌, length, zero, suc, drop, refl, ap, sym, ◌∙◌, subst, arith, inl, inr, Option, None, Some, append-nil, append_assoc, All}
use Rattle.std.specs.Prelude.{◌==◌, slice_get, slice_index_or}
use Rattle.std.specs.List.{list_any, onto_first}
use Rattle.std.specs.Str.{str_eq_ignore_ascii_case}
use Rattle.std.proofs.lemmas.Bool.{and_from, both_ways, and_parts, cases_Bool, eqb-false, eqb-true, false≢true, ne_eqb}
use Rattle.std.proofs.lemmas.List.{drop_all, drop_more, length-drop}
use Rattle.std.proofs.lemmas.List.Splits.{length-slice_split, slice_split_none}
use Rattle.px_base.specs.Cuts.{parts_of}
use Rattle.px_patterns.specs.declared.TheConstants.{DOT}
use Rattle.px_patterns.specs.declared.hosts.HostLabels.{HostLabels}
use Rattle.px_patterns.specs.declared.hosts.HostPattern.{HostPattern}
use Rattle.px_patterns.specs.declared.hosts.HostPattern.TheVariants.{Address, Always, Labels}
use Rattle.px_patterns.specs.declared.labels.LabelItem.{LabelItem}
use Rattle.px_patterns.specs.declared.labels.LabelPattern.{LabelPattern}
use Rattle.px_patterns.specs.declared.labels.LabelPattern.TheVariants.{Glob, Plain}
use Rattle.px_patterns.specs.Globs.{label_matches, some_tail}
use Rattle.px_patterns.specs.Hosts.{EachFits, HasEachPlain, HostFits, LabelsFit, fitting_labels, host_labels, has_last_plain, host_matches, is_candidate, labels_in, labels_match, labels_within, last_plain, later_or, without_last_dot}
use Rattle.px_patterns.proofs.GlobLemmas.{label-cut, some_tail-at, tail_of-some}

-- ---- from the end

move_test : (a b c : Bool) → (a && (b && c)) ≡ (b && (a && c))
move_test true true c = refl
move_test true false c = refl
move_test false true c = refl
move_test false false c = refl

both_or : (a b c : Bool) → ((a && b) || (a && c)) ≡ (a && (b || c))
both_or true b c = refl
both_or false b c = refl

or_false : (a : Bool) → (a || false) ≡ a
or_false true = refl
or_false false = refl

and_false : (a : Bool) → false ≡ (a && false)
and_false true = refl
and_false false = refl

none_left : (labels : List (List ℕ)) (label : List ℕ) → labels_match false [] (labels ++ label ∷ []) ≡ false
unfolding labels_match
none_left [] label = refl
none_left (first ∷ labels) label = refl

none_fit : (patterns : List LabelPattern) (last : LabelPattern) → labels_match false (patterns ++ last ∷ []) [] ≡ false
unfolding labels_match
none_fit [] last = refl
none_fit (pattern ∷ patterns) last = refl

-- the last pattern matches the last label, and those before match those before
match-push : (patterns : List LabelPattern) (last : LabelPattern) (labels : List (List ℕ)) (label : List ℕ) →
    labels_match false (patterns ++ last ∷ []) (labels ++ label ∷ []) ≡ (label_matches last label && labels_match false patterns labels)
unfolding labels_match
match-push [] last [] label = refl
match-push [] last (first ∷ labels) label = ap (λ t. label_matches last first && t) (none_left labels label) ∙ (sym (and_false (label_matches last first)) ∙ and_false (label_matches last label))
match-push (pattern ∷ patterns) last [] label = ap (λ t. label_matches pattern label && t) (none_fit patterns last) ∙ (sym (and_false (label_matches pattern label)) ∙ and_false (label_matches last label))
match-push (pattern ∷ patterns) last (first ∷ labels) label =
    ap (λ t. label_matches pattern first && t) (match-push patterns last labels label)
    ∙ move_test (label_matches pattern first) (label_matches last label) (labels_match false patterns labels)

-- whether the patterns match the last labels
abbrev pub ends : List LabelPattern → List (List ℕ) → Bool
ends patterns labels = some_tail (labels_match false patterns) labels

pub ends-push : (patterns : List LabelPattern) (last : LabelPattern) (labels : List (List ℕ)) (label : List ℕ) →
    ends (patterns ++ last ∷ []) (labels ++ label ∷ []) ≡ (label_matches last label && ends patterns labels)
ends-push patterns last [] label =
    ap (λ t. t || labels_match false (patterns ++ last ∷ []) []) (match-push patterns last [] label)
    ∙ ap (λ t. (label_matches last label && labels_match false patterns []) || t) (none_fit patterns last) ∙ or_false (label_matches last label && labels_match false patterns [])
ends-push patterns last (first ∷ labels) label =
    ap (λ t. t || ends (patterns ++ last ∷ []) (labels ++ label ∷ [])) (match-push patterns last (first ∷ labels) label)
    ∙ ap (λ t. (label_matches last label && labels_match false patterns (first ∷ labels)) || t) (ends-push patterns last labels label)
    ∙ both_or (label_matches last label) (labels_match false patterns (first ∷ labels)) (ends patterns labels)

pub ends-none : (labels : List (List ℕ)) → ends [] labels ≡ true
unfolding labels_match
ends-none labels = subst (λ (l : List (List ℕ)). ends [] l ≡ true) (append-nil labels) (some_tail-at (labels_match false []) labels [] refl)

-- ---- cuts at the last dot

pub onto_first-append : {X : Type 0} (x : X) (parts more : List (List X)) → 0 < length parts → onto_first x (parts ++ more) ≡ onto_first x parts ++ more
onto_first-append x [] more some = absurd (omega arith)
onto_first-append x (part ∷ parts) more some = refl

-- a text is cut at its last dot
pub labels_in-last : (front label : List ℕ) → All (λ b. (b == DOT) ≡ false) label → labels_in (front ++ DOT ∷ label) ≡ labels_in front ++ label ∷ []
labels_in-last [] label none = ap (λ l. [] ∷ l) (slice_split_none (λ b. b == DOT) label none)
labels_in-last (b ∷ front) label none =
    elim (cases_Bool (b == DOT)) [
      | inl does ↦ rw does (ap (λ l. [] ∷ l) (labels_in-last front label none))
      | inr fails ↦ rw fails
          (ap (onto_first b) (labels_in-last front label none)
          ∙ onto_first-append b (labels_in front) (label ∷ []) (omega (arith, length-slice_split (λ b. b == DOT) front)))
    ]

pub labels_in-one : (label : List ℕ) → All (λ b. (b == DOT) ≡ false) label → labels_in label ≡ label ∷ []
labels_in-one label none = slice_split_none (λ b. b == DOT) label none

-- ---- tests

or_right : (a b : Bool) → b ≡ true → (a || b) ≡ true
or_right true b is = refl
or_right false b is = is

or_left : (a b : Bool) → a ≡ true → (a || b) ≡ true
or_left true b is = refl
or_left false b is = absurd (false≢true is)

none_some : (text : List ℕ) → None ≡ Some text → ⊥
none_some text e = absurd (cc e)

cons_nil : {x : List ℕ} {xs : List (List ℕ)} → x ∷ xs ≡ [] → ⊥
cons_nil e = absurd (cc e)

-- the text is that of a later label, or of this one
known_or : (later : Option (List ℕ)) (pattern : LabelPattern) (text : List ℕ) → later_or later pattern ≡ Some text → (later ≡ Some text) ⊎ (pattern ≡ Plain text)
known_or (Some other) pattern text is = inl is
known_or None (Plain other) text is = let same : other ≡ text = cc is in inr (ap (λ t. Plain t) same)
known_or None (Glob items) text is = absurd (none_some text is)

-- no label may follow unless the end is open
past_end : (open_end : Bool) (labels : List (List ℕ)) → 0 < length labels → labels_match open_end [] labels ≡ open_end
unfolding labels_match
past_end open_end [] some = absurd (omega arith)
past_end open_end (label ∷ labels) some = refl

-- ---- from the front

match-cons : (open_end : Bool) (pattern : LabelPattern) (patterns : List LabelPattern) (label : List ℕ) (labels : List (List ℕ)) →
    labels_match open_end (pattern ∷ patterns) (label ∷ labels) ≡ (label_matches pattern label && labels_match open_end patterns labels)
unfolding labels_match
match-cons open_end pattern patterns label labels = refl

match-short : (open_end : Bool) (patterns : List LabelPattern) → 0 < length patterns → labels_match open_end patterns [] ≡ false
unfolding labels_match
match-short open_end [] some = absurd (omega arith)
match-short open_end (pattern ∷ patterns) some = refl

-- one pattern and one label of the walk
pub front_step : (open_end : Bool) (patterns : List LabelPattern) (at : ℕ) (pattern : LabelPattern) (bytes label : List ℕ) (behind : Option (List ℕ)) → at < length patterns →
    pattern ≡ slice_index_or patterns at pattern → labels_in bytes ≡ label ∷ parts_of DOT behind →
    labels_match open_end (drop at patterns) (parts_of DOT (Some bytes)) ≡ (label_matches pattern label && labels_match open_end (drop (at + 1) patterns) (parts_of DOT behind))
front_step open_end patterns at pattern bytes label behind within is cut =
    ap (λ l. labels_match open_end l (labels_in bytes)) (drop_more patterns at pattern within ∙ ap (λ p. p ∷ drop (at + 1) patterns) (sym is))
    ∙ ap (labels_match open_end (pattern ∷ drop (at + 1) patterns)) cut
    ∙ match-cons open_end pattern (drop (at + 1) patterns) label (parts_of DOT behind)

front_short : (open_end : Bool) (patterns : List LabelPattern) (at : ℕ) → at < length patterns → labels_match open_end (drop at patterns) [] ≡ false
front_short open_end patterns at within = match-short open_end (drop at patterns) (omega (arith, length-drop at patterns))

pub front_open : (open_end : Bool) (patterns : List LabelPattern) (at : ℕ) (bytes : List ℕ) → length patterns ≤ at → labels_match open_end (drop at patterns) (parts_of DOT (Some bytes)) ≡ open_end
front_open open_end patterns at bytes past =
    ap (λ l. labels_match open_end l (labels_in bytes)) (drop_all at patterns past) ∙ past_end open_end (labels_in bytes) (omega (arith, length-slice_split (λ b. b == DOT) bytes))

front_done : (open_end : Bool) (patterns : List LabelPattern) (at : ℕ) → length patterns ≤ at → labels_match open_end (drop at patterns) [] ≡ true
unfolding labels_match
front_done open_end patterns at past = ap (λ l. labels_match open_end l []) (drop_all at patterns past)

-- no label is left
pub front_whole : (open_end : Bool) (patterns : List LabelPattern) (at : ℕ) → at ≤ length patterns → labels_match open_end (drop at patterns) [] ≡ (at == length patterns)
front_whole open_end patterns at within = elim (cases_Bool (at == length patterns)) [
  | inl whole ↦ front_done open_end patterns at (omega (arith, eqb-true at (length patterns) whole)) ∙ sym whole
  | inr short ↦ front_short open_end patterns at (omega (arith, within, eqb-false at (length patterns) short)) ∙ sym short
]

-- ---- from each label

-- one place of the search
pub fits_here : (pattern : HostLabels) (labels : List (List ℕ)) → labels_match pattern.open_end pattern.labels labels ≡ true → fitting_labels pattern labels ≡ true
fits_here pattern labels fits =
    elim (cases_Bool pattern.open_front) [
      | inl does ↦ rw does (some_tail-at (labels_match pattern.open_end pattern.labels) [] labels fits)
      | inr fails ↦ rw fails fits
    ]

pub fits_front : (pattern : HostLabels) (labels : List (List ℕ)) → pattern.open_front ≡ false → labels_match pattern.open_end pattern.labels labels ≡ false → fitting_labels pattern labels ≡ false
fits_front pattern labels closed fails = rw closed fails

pub fits_later : (pattern : HostLabels) (bytes label : List ℕ) (behind : Option (List ℕ)) → labels_in bytes ≡ label ∷ parts_of DOT behind → pattern.open_front ≡ true →
    labels_match pattern.open_end pattern.labels (labels_in bytes) ≡ false → fitting_labels pattern (labels_in bytes) ≡ fitting_labels pattern (parts_of DOT behind)
fits_later pattern bytes label behind cut front fails =
    let T = labels_match pattern.open_end pattern.labels in
    rw front (ap (some_tail T) cut ∙ ap (λ t. t || some_tail T (parts_of DOT behind)) (ap T (sym cut) ∙ fails))

-- no label is left where some would have to be, or any would do
match_none : (patterns : List LabelPattern) (label : List ℕ) → labels_match true patterns (label ∷ []) ≡ false → labels_match true patterns [] ≡ false
unfolding labels_match
match_none [] label fails = absurd (false≢true (sym fails))
match_none (pattern ∷ patterns) label fails = refl

pub fits_none : (pattern : HostLabels) (bytes label : List ℕ) → labels_in bytes ≡ label ∷ [] → pattern.open_front ≡ true → pattern.open_end ≡ true →
    labels_match pattern.open_end pattern.labels (labels_in bytes) ≡ false → fitting_labels pattern (labels_in bytes) ≡ false
fits_none pattern bytes label cut front end fails =
    let open_fails : labels_match true pattern.labels (label ∷ []) ≡ false = ap (labels_match true pattern.labels) (sym cut) ∙ (ap (λ e. labels_match e pattern.labels (labels_in bytes)) (sym end) ∙ fails) in
    fits_later pattern bytes label None cut front fails
    ∙ rw front (ap (λ e. labels_match e pattern.labels []) end ∙ match_none pattern.labels label open_fails)

-- ---- from the end

-- one pattern and one label of the walk
pub end_step : (patterns before : List LabelPattern) (last : LabelPattern) (bytes label : List ℕ) (front : Option (List ℕ)) → patterns ≡ before ++ last ∷ [] → labels_in bytes ≡ parts_of DOT front ++ label ∷ [] →
    ends patterns (parts_of DOT (Some bytes)) ≡ (label_matches last label && ends before (parts_of DOT front))
end_step patterns before last bytes label front is cut =
    ap (λ (l : List LabelPattern). ends l (labels_in bytes)) is ∙ ap (ends (before ++ last ∷ [])) cut ∙ ends-push before last (parts_of DOT front) label

-- no label is left
pub end_whole : (patterns : List LabelPattern) → ends patterns [] ≡ (length patterns == 0)
unfolding labels_match
end_whole [] = refl
end_whole (pattern ∷ patterns) = sym (ne_eqb (length (pattern ∷ patterns)) 0 (λ e. omega (arith, e)))

pub end_done : (patterns : List LabelPattern) (labels : List (List ℕ)) → length patterns ≡ 0 → ends patterns labels ≡ true
end_done [] labels none = ends-none labels
end_done (pattern ∷ patterns) labels none = absurd (omega (arith, none))

-- ---- the last plain label

last_plain-push : (patterns : List LabelPattern) (text : List ℕ) → last_plain (patterns ++ Plain text ∷ []) ≡ Some text
last_plain-push [] text = refl
last_plain-push (pattern ∷ patterns) text = ap (λ o. later_or o pattern) (last_plain-push patterns text)

last_plain-glob : (patterns : List LabelPattern) (items : List LabelItem) → last_plain (patterns ++ Glob items ∷ []) ≡ last_plain patterns
last_plain-glob [] items = refl
last_plain-glob (pattern ∷ patterns) items = ap (λ o. later_or o pattern) (last_plain-glob patterns items)

pub plain_last : (patterns before : List LabelPattern) (last : LabelPattern) (text : List ℕ) → patterns ≡ before ++ last ∷ [] → last ≡ Plain text → last_plain patterns ≡ Some text
plain_last patterns before last text is plain = ap last_plain (is ∙ ap (λ p. before ++ p ∷ []) plain) ∙ last_plain-push before text

pub glob_last : (patterns before : List LabelPattern) (last : LabelPattern) (items : List LabelItem) → patterns ≡ before ++ last ∷ [] → last ≡ Glob items → last_plain patterns ≡ last_plain before
glob_last patterns before last items is glob = ap last_plain (is ∙ ap (λ p. before ++ p ∷ []) glob) ∙ last_plain-glob before items

-- a plain label stands in each list of labels that the patterns match
has_plain : (open_end : Bool) (patterns : List LabelPattern) (labels : List (List ℕ)) (text : List ℕ) → labels_match open_end patterns labels ≡ true → last_plain patterns ≡ Some text →
    list_any (str_eq_ignore_ascii_case text) labels ≡ true
unfolding labels_match
has_plain open_end [] labels text matches plain = absurd (none_some text plain)
has_plain open_end (pattern ∷ patterns) [] text matches plain = absurd (false≢true matches)
has_plain open_end (pattern ∷ patterns) (label ∷ labels) text matches plain =
    let both = and_parts (label_matches pattern label) (labels_match open_end patterns labels) matches in
    elim (known_or (last_plain patterns) pattern text plain) [
      | inl later ↦ or_right (str_eq_ignore_ascii_case text label) (list_any (str_eq_ignore_ascii_case text) labels) (has_plain open_end patterns labels text both.1 later)
      | inr here ↦ or_left (str_eq_ignore_ascii_case text label) (list_any (str_eq_ignore_ascii_case text) labels) (ap (λ p. label_matches p label) (sym here) ∙ both.0)
    ]

any-append : (test : List ℕ → Bool) (front back : List (List ℕ)) → list_any test back ≡ true → list_any test (front ++ back) ≡ true
any-append test [] back some = some
any-append test (label ∷ front) back some = or_right (test label) (list_any test (front ++ back)) (any-append test front back some)

pub plain_kept : (pattern : HostLabels) (labels : List (List ℕ)) (text : List ℕ) → fitting_labels pattern labels ≡ true → last_plain pattern.labels ≡ Some text → list_any (str_eq_ignore_ascii_case text) labels ≡ true
plain_kept pattern labels text fits plain =
    elim (cases_Bool pattern.open_front) [
      | inl does ↦
          let found = tail_of-some (labels_match pattern.open_end pattern.labels) labels (rw does at fits) in
          subst (λ (l : List (List ℕ)). list_any (str_eq_ignore_ascii_case text) l ≡ true) (sym found.2)
          (any-append (str_eq_ignore_ascii_case text) found.0 found.1 (has_plain pattern.open_end pattern.labels found.1 text found.3 plain))
      | inr fails ↦ has_plain pattern.open_end pattern.labels labels text (rw fails at fits) plain
    ]

-- each plain label stands in each list of labels that the patterns match
has_each : (open_end : Bool) (patterns : List LabelPattern) (labels : List (List ℕ)) (at : ℕ) (text : List ℕ) → labels_match open_end patterns labels ≡ true → slice_get patterns at ≡ Some (Plain text) →
    list_any (str_eq_ignore_ascii_case text) labels ≡ true
unfolding labels_match
has_each open_end [] labels at text matches is = cc
has_each open_end (pattern ∷ patterns) [] at text matches is = absurd (false≢true matches)
has_each open_end (pattern ∷ patterns) (label ∷ labels) zero text matches is =
    let both = and_parts (label_matches pattern label) (labels_match open_end patterns labels) matches in
    let here : pattern ≡ Plain text = cc in
    or_left (str_eq_ignore_ascii_case text label) (list_any (str_eq_ignore_ascii_case text) labels) (ap (λ p. label_matches p label) (sym here) ∙ both.0)
has_each open_end (pattern ∷ patterns) (label ∷ labels) (suc at) text matches is =
    let both = and_parts (label_matches pattern label) (labels_match open_end patterns labels) matches in
    or_right (str_eq_ignore_ascii_case text label) (list_any (str_eq_ignore_ascii_case text) labels) (has_each open_end patterns labels at text both.1 is)

each_kept : (pattern : HostLabels) (labels : List (List ℕ)) (at : ℕ) (text : List ℕ) → fitting_labels pattern labels ≡ true → slice_get pattern.labels at ≡ Some (Plain text) →
    list_any (str_eq_ignore_ascii_case text) labels ≡ true
each_kept pattern labels at text fits is =
    elim (cases_Bool pattern.open_front) [
      | inl does ↦
          let found = tail_of-some (labels_match pattern.open_end pattern.labels) labels (rw does at fits) in
          subst (λ (l : List (List ℕ)). list_any (str_eq_ignore_ascii_case text) l ≡ true) (sym found.2)
          (any-append (str_eq_ignore_ascii_case text) found.0 found.1 (has_each pattern.open_end pattern.labels found.1 at text found.3 is))
      | inr fails ↦ has_each pattern.open_end pattern.labels labels at text (rw fails at fits) is
    ]

-- a host that a pattern matches has each plain label of the pattern
each_within : (pattern : HostPattern) → HasEachPlain pattern (labels_within pattern)
unfolding host_matches
each_within Always at text host is matches = cc
each_within (Address shown) at text host is matches = cc
each_within (Labels labels) at text host is matches = each_kept labels (host_labels host) at text matches is

pub keeps_each : (pattern : HostPattern) (labels : List LabelPattern) → labels ≡ labels_within pattern → HasEachPlain pattern labels
keeps_each pattern labels is = subst (HasEachPlain pattern) (sym is) (each_within pattern)

-- a host that labels match has the last plain one
last_kept : (labels : HostLabels) (host : List ℕ) (last : Option (List ℕ)) → last_plain labels.labels ≡ last → fitting_labels labels (host_labels host) ≡ true → has_last_plain last host ≡ true
last_kept labels host None is fits = refl
last_kept labels host (Some text) is fits = plain_kept labels (host_labels host) text fits is

pub candidate-from : (pattern : HostPattern) (labels : HostLabels) (host shown : List ℕ) (r : Bool) → pattern ≡ Labels labels → shown ≡ without_last_dot host → r ≡ fitting_labels labels (labels_in shown) →
    IsTrue r → IsTrue (is_candidate pattern host)
candidate-from pattern labels host shown r is without value holds =
    subst (λ (p : HostPattern). is_candidate p host ≡ true) (sym is)
    (last_kept labels host (last_plain labels.labels) refl (sym (value ∙ ap (λ l. fitting_labels labels (labels_in l)) without) ∙ holds))

-- ---- what a match means

each-from-match : (open_end : Bool) (patterns : List LabelPattern) (labels : List (List ℕ)) → labels_match open_end patterns labels ≡ true →
    (fitting : List (List ℕ)) × (behind : List (List ℕ)) × (labels ≡ fitting ++ behind) × EachFits patterns fitting × (open_end ≡ false → behind ≡ [])
unfolding labels_match
each-from-match open_end [] [] matches = ([], [], refl, tt, λ closed. refl)
each-from-match open_end [] (label ∷ labels) matches = ([], label ∷ labels, refl, tt, λ closed. absurd (both_ways open_end closed matches))
each-from-match open_end (pattern ∷ patterns) [] matches = absurd (false≢true matches)
each-from-match open_end (pattern ∷ patterns) (label ∷ labels) matches =
    let both = and_parts (label_matches pattern label) (labels_match open_end patterns labels) matches in
    let later = each-from-match open_end patterns labels both.1 in
    (label ∷ later.0, later.1, ap (λ l. label ∷ l) later.2, ((label-cut pattern label).0 both.0, later.3), later.4)

match-from-each : (open_end : Bool) (patterns : List LabelPattern) (fitting behind : List (List ℕ)) → EachFits patterns fitting → (open_end ≡ false → behind ≡ []) → labels_match open_end patterns (fitting ++ behind) ≡ true
unfolding labels_match
match-from-each open_end [] [] [] each closed = refl
match-from-each open_end [] [] (label ∷ behind) each closed = elim (cases_Bool open_end) [ inl does ↦ does | inr fails ↦ absurd (cons_nil (closed fails)) ]
match-from-each open_end [] (label ∷ fitting) behind each closed = absurd each
match-from-each open_end (pattern ∷ patterns) [] behind each closed = absurd each
match-from-each open_end (pattern ∷ patterns) (label ∷ fitting) behind each closed =
    and_from (label_matches pattern label) (labels_match open_end patterns (fitting ++ behind)) ((label-cut pattern label).1 each.0) (match-from-each open_end patterns fitting behind each.1 closed)

labels-fit : (pattern : HostLabels) (labels : List (List ℕ)) → fitting_labels pattern labels ≡ true → LabelsFit pattern labels
labels-fit pattern labels fits =
    elim (cases_Bool pattern.open_front) [
      | inl does ↦
          let found = tail_of-some (labels_match pattern.open_end pattern.labels) labels (rw does at fits) in
          let each = each-from-match pattern.open_end pattern.labels found.1 found.3 in
          record {
            before = found.0;
            fitting = each.0;
            behind = each.1;
            whole = found.2 ∙ ap (λ l. found.0 ++ l) each.2 ∙ sym (append_assoc found.0 each.0 each.1);
            front = λ closed. absurd (both_ways pattern.open_front closed does);
            end = each.4;
            each = each.3;
          }
      | inr fails ↦
          let each = each-from-match pattern.open_end pattern.labels labels (rw fails at fits) in
          record { before = []; fitting = each.0; behind = each.1; whole = each.2; front = λ closed. refl; end = each.4; each = each.3 }
    ]

fit-labels : (pattern : HostLabels) (labels : List (List ℕ)) → LabelsFit pattern labels → fitting_labels pattern labels ≡ true
fit-labels pattern labels fit =
    let matches = match-from-each pattern.open_end pattern.labels fit.fitting fit.behind fit.each fit.end in
    let whole : labels ≡ fit.before ++ (fit.fitting ++ fit.behind) = fit.whole ∙ append_assoc fit.before fit.fitting fit.behind in
    elim (cases_Bool pattern.open_front) [
      | inl does ↦ rw does
          (subst (λ (l : List (List ℕ)). some_tail (labels_match pattern.open_end pattern.labels) l ≡ true) (sym whole)
          (some_tail-at (labels_match pattern.open_end pattern.labels) fit.before (fit.fitting ++ fit.behind) matches))
      | inr fails ↦ rw fails
          (subst (λ (l : List (List ℕ)). labels_match pattern.open_end pattern.labels l ≡ true) (sym (whole ∙ ap (λ l. l ++ (fit.fitting ++ fit.behind)) (fit.front fails))) matches)
    ]

-- a host pattern matches exactly the hosts that it fits
pub host-fits : (pattern : HostPattern) (host : List ℕ) → IsTrue (host_matches pattern host) ↔ HostFits pattern host
unfolding host_matches
host-fits Always host = (λ is. tt, λ fits. refl)
host-fits (Address text) host = (λ is. is, λ fits. fits)
host-fits (Labels pattern) host = (labels-fit pattern (host_labels host), fit-labels pattern (host_labels host))

-- ---- patterns as a whole

pub labels_value : (pattern : HostPattern) (labels : HostLabels) (host shown : List ℕ) (r : Bool) → pattern ≡ Labels labels → shown ≡ without_last_dot host → r ≡ fitting_labels labels (labels_in shown) →
    IsTrue r ↔ HostFits pattern host
unfolding host_matches
labels_value pattern labels host shown r is without value =
    let whole : r ≡ host_matches pattern host =
    value ∙ ap (λ l. fitting_labels labels (labels_in l)) without ∙ ap (λ (p : HostPattern). host_matches p host) (sym is) in
    subst (λ (t : Bool). IsTrue t ↔ HostFits pattern host) (sym whole) (host-fits pattern host)

pub address_kept : (pattern : HostPattern) (text host shown : List ℕ) → pattern ≡ Address text → shown ≡ text → host_matches pattern host ≡ true → str_eq_ignore_ascii_case shown host ≡ true
unfolding host_matches
address_kept pattern text host shown is same matches =
    ap (λ (t : List ℕ). str_eq_ignore_ascii_case t host) same ∙ (ap (λ (p : HostPattern). host_matches p host) (sym is) ∙ matches)

pub labels_kept : (pattern : HostPattern) (labels : HostLabels) (patterns : List LabelPattern) (host text : List ℕ) → pattern ≡ Labels labels → patterns ≡ labels.labels → Some text ≡ last_plain patterns →
    host_matches pattern host ≡ true → list_any (str_eq_ignore_ascii_case text) (host_labels host) ≡ true
unfolding host_matches
labels_kept pattern labels patterns host text is same plain matches =
    plain_kept labels (host_labels host) text (ap (λ (p : HostPattern). host_matches p host) (sym is) ∙ matches) (sym (plain ∙ ap last_plain same))
