-- A glob matches a label exactly where the label can be cut into pieces, and where a scan from `*` to `*` finds it.
use Rattle.std.proofs.Common.{◌≡◌, ℕ, ◌+◌, ◌-◌, ◌<◌, ◌≤◌, ◌↔◌, Bool, true, false, ◌&&◌, ◌||◌, IsTrue, List, [], ◌∷◌, ◌++◌, length, take, drop, map, refl, ap, sym, ◌∙◌, subst, arith, inl, inr, None, Some, append-nil, append_assoc, length-append, length-drop}
use Rattle.std.specs.Prelude.{◌==◌, slice_index, slice_index_or}
use Rattle.std.specs.Char.{eq_ignore_ascii_case}
use Rattle.std.specs.Str.{str_eq_ignore_ascii_case}
use Rattle.std.proofs.lemmas.Bool.{both_ways, false≢true, cases_Bool, and_parts, or_cases, and_from, eqb-true, eq-eqb, ne_eqb}
use Rattle.std.proofs.lemmas.List.{drop-drop, drop_all, drop_at, drop_more, take-append-drop, take_rest}
use Rattle.px_patterns.specs.declared.labels.LabelItem.{LabelItem}
use Rattle.px_patterns.specs.declared.labels.LabelItem.TheVariants.{AnyByte, AnyRun, Byte, Class}
use Rattle.px_patterns.specs.declared.labels.LabelPattern.{LabelPattern}
use Rattle.px_patterns.specs.declared.labels.LabelPattern.TheVariants.{Glob, Plain}
use Rattle.px_patterns.specs.Globs.{ArePieces, CanBeCut, glob_matches, label_items, joined_pieces, label_matches, some_tail, takes, takes_first}
use Rattle.px_patterns.specs.Runs.{behind_first_place, has_run, is_run, takes_front}

-- ---- tests

pub or_right : (a b : Bool) → b ≡ true → (a || b) ≡ true
or_right true b is = refl
or_right false b is = is

and_assoc : (a b c : Bool) → (a && (b && c)) ≡ (a && b && c)
and_assoc true b c = refl
and_assoc false b c = refl

or_absorbs : (a b : Bool) → (b ≡ true → a ≡ true) → (a || b) ≡ a
or_absorbs true b there = refl
or_absorbs false true there = absurd (cc (there refl))
or_absorbs false false there = refl

some_same : {X : Type 0} (x y : X) → Some x ≡ Some y → x ≡ y
some_same x y e = cc e

none_some : {X : Type 0} (x : X) → None ≡ Some x → ⊥
none_some x e = absurd (cc e)

-- two tests that pass together are the same
pub same_test : (a b : Bool) → (a ≡ true → b ≡ true) → (b ≡ true → a ≡ true) → a ≡ b
same_test true true there back = refl
same_test true false there back = absurd (cc (there refl))
same_test false true there back = absurd (cc (back refl))
same_test false false there back = refl

-- ---- tails

-- a tail that passes
pub some_tail-at : {X : Type 0} (test : List X → Bool) (front back : List X) → test back ≡ true → some_tail test (front ++ back) ≡ true
some_tail-at test [] [] passes = passes
some_tail-at test [] (x ∷ back) passes = rw passes refl
some_tail-at test (x ∷ front) back passes = or_right (test (x ∷ front ++ back)) (some_tail test (front ++ back)) (some_tail-at test front back passes)

pub tail_of-some : {X : Type 0} (test : List X → Bool) (xs : List X) → some_tail test xs ≡ true → (front : List X) × (back : List X) × (xs ≡ front ++ back) × (test back ≡ true)
tail_of-some test [] passes = ([], [], refl, passes)
tail_of-some test (x ∷ xs) passes =
    elim (or_cases (test (x ∷ xs)) (some_tail test xs) passes) [
      | inl here ↦ ([], x ∷ xs, refl, here)
      | inr later ↦ let found = tail_of-some test xs later in (x ∷ found.0, found.1, ap (λ l. x ∷ l) found.2, found.3)
    ]

-- ---- cuts

pub glob-fixed : (item : LabelItem) (items : List LabelItem) (label : List ℕ) → is_run item ≡ false → glob_matches (item ∷ items) label ≡ takes_first item (glob_matches items) label
unfolding glob_matches
glob-fixed AnyRun items label fixed = absurd (cc fixed)
glob-fixed AnyByte items label fixed = refl
glob-fixed (Byte a) items label fixed = refl
glob-fixed (Class ranges) items label fixed = refl

pub glob-run : (items : List LabelItem) (label : List ℕ) → glob_matches (AnyRun ∷ items) label ≡ some_tail (glob_matches items) label
unfolding glob_matches
glob-run items label = refl

-- a `*` with no item behind it matches each label
pub run-last : (items : List LabelItem) (label : List ℕ) → length items ≡ 0 → glob_matches (AnyRun ∷ items) label ≡ true
unfolding glob_matches
run-last [] label none = subst (λ (l : List ℕ). some_tail (glob_matches []) l ≡ true) (append-nil label) (some_tail-at (glob_matches []) label [] refl)
run-last (item ∷ items) label none = absurd (omega (arith, none))

-- a cut of a label that the glob matches
pub cut-from-glob : (items : List LabelItem) (label : List ℕ) → glob_matches items label ≡ true → CanBeCut items label
unfolding glob_matches
cut-from-glob [] [] matches = ([], tt, refl)
cut-from-glob [] (b ∷ label) matches = absurd (omega (arith, eqb-true (length (b ∷ label)) 0 matches))
cut-from-glob (AnyRun ∷ items) label matches =
    let found = tail_of-some (glob_matches items) label matches in
    let later = cut-from-glob items found.1 found.3 in
    (found.0 ∷ later.0, (tt, later.1), ap (λ l. found.0 ++ l) later.2 ∙ sym found.2)
cut-from-glob (item ∷ items) [] matches = absurd (cc matches)
cut-from-glob (item ∷ items) (b ∷ label) matches =
    let both = and_parts (takes item b) (glob_matches items label) matches in
    let later = cut-from-glob items label both.1 in
    ((b ∷ []) ∷ later.0, ((b, refl, both.0), later.1), ap (λ l. b ∷ l) later.2)

pub glob-from-cut : (items : List LabelItem) (pieces : List (List ℕ)) → ArePieces items pieces → glob_matches items (joined_pieces pieces) ≡ true
unfolding glob_matches
glob-from-cut [] [] are = refl
glob-from-cut [] (piece ∷ pieces) are = absurd are
glob-from-cut (item ∷ items) [] are = absurd are
glob-from-cut (AnyRun ∷ items) (piece ∷ pieces) are = some_tail-at (glob_matches items) piece (joined_pieces pieces) (glob-from-cut items pieces are.1)
glob-from-cut (item ∷ items) (piece ∷ pieces) are =
    rw are.0.1 (and_from (takes item are.0.0) (glob_matches items (joined_pieces pieces)) are.0.2 (glob-from-cut items pieces are.1))

-- ---- from `*` to `*`

-- items without `*` take bytes at the front
first_fixed : (item : LabelItem) (items : List LabelItem) → has_run (item ∷ items) ≡ false → is_run item ≡ false
first_fixed item items fixed = elim (cases_Bool (is_run item)) [ inl does ↦ absurd (both_ways (has_run (item ∷ items)) fixed (rw does refl)) | inr fails ↦ fails ]

rest_fixed : (item : LabelItem) (items : List LabelItem) → has_run (item ∷ items) ≡ false → has_run items ≡ false
rest_fixed item items fixed = rw (first_fixed item items fixed) at fixed

pub glob-front : (front more : List LabelItem) (label : List ℕ) → has_run front ≡ false → glob_matches (front ++ more) label ≡ (takes_front front label && glob_matches more (drop (length front) label))
unfolding takes_front
glob-front [] more label fixed = refl
glob-front (item ∷ front) more [] fixed = glob-fixed item (front ++ more) [] (first_fixed item front fixed)
glob-front (item ∷ front) more (b ∷ label) fixed =
    glob-fixed item (front ++ more) (b ∷ label) (first_fixed item front fixed)
    ∙ ap (λ t. takes item b && t) (glob-front front more label (rest_fixed item front fixed))
    ∙ and_assoc (takes item b) (takes_front front label) (glob_matches more (drop (length front) label))

pub takes_front-fits : (items : List LabelItem) (bytes : List ℕ) → takes_front items bytes ≡ true → length items ≤ length bytes
unfolding takes_front
takes_front-fits [] bytes all = omega arith
takes_front-fits (item ∷ items) [] all = absurd (cc all)
takes_front-fits (item ∷ items) (b ∷ bytes) all = omega (arith, takes_front-fits items bytes (and_parts (takes item b) (takes_front items bytes) all).1)

-- ---- the last items

whole_front : (front : List LabelItem) (label : List ℕ) → has_run front ≡ false → glob_matches front label ≡ (takes_front front label && (length (drop (length front) label) == 0))
unfolding glob_matches
whole_front front label fixed = ap (λ l. glob_matches l label) (sym (append-nil front)) ∙ glob-front front [] label fixed

-- items without `*` behind a `*` take the last bytes
pub last_items : (front : List LabelItem) (label : List ℕ) → has_run front ≡ false → length front ≤ length label → takes_front front (drop (length label - length front) label) ≡ some_tail (glob_matches front) label
last_items front label fixed fits =
    let back = drop (length label - length front) label in
    same_test (takes_front front back) (some_tail (glob_matches front) label)
    (λ takes. subst (λ (l : List ℕ). some_tail (glob_matches front) l ≡ true) (take-append-drop (length label - length front) label)
    (some_tail-at (glob_matches front) (take (length label - length front) label) back
    (whole_front front back fixed ∙ and_from (takes_front front back) (length (drop (length front) back) == 0) takes
    (eq-eqb (length (drop (length front) back)) 0 (omega (arith, length-drop (length front) back, length-drop (length label - length front) label))))))
    (λ some.
    let found = tail_of-some (glob_matches front) label some in
    let both = and_parts (takes_front front found.1) (length (drop (length front) found.1) == 0) (sym (whole_front front found.1 fixed) ∙ found.3) in
    let ends : length found.1 ≡ length front =
    omega (arith, eqb-true (length (drop (length front) found.1)) 0 both.1, length-drop (length front) found.1, takes_front-fits front found.1 both.0) in
    subst (λ (l : List ℕ). takes_front front l ≡ true)
    (sym (ap (drop (length label - length front)) found.2
    ∙ drop_at found.0 found.1 (length label - length front) (omega (arith, ap length found.2, length-append found.0 found.1, ends)))) both.0)

pub too_few : (front : List LabelItem) (label : List ℕ) → has_run front ≡ false → length label < length front → false ≡ some_tail (glob_matches front) label
too_few front label fixed short =
    same_test false (some_tail (glob_matches front) label) (λ no. absurd (false≢true no))
    (λ some.
    let found = tail_of-some (glob_matches front) label some in
    let both = and_parts (takes_front front found.1) (length (drop (length front) found.1) == 0) (sym (whole_front front found.1 fixed) ∙ found.3) in
    absurd (omega (arith, ap length found.2, length-append found.0 found.1, takes_front-fits front found.1 both.0)))

-- ---- the first place between two `*`

some_tail-drop : {X : Type 0} (test : List X → Bool) (n : ℕ) (xs : List X) → some_tail test (drop n xs) ≡ true → some_tail test xs ≡ true
some_tail-drop test n xs some =
    let found = tail_of-some test (drop n xs) some in
    let whole : (take n xs ++ found.0) ++ found.1 ≡ xs = append_assoc (take n xs) found.0 found.1 ∙ (ap (λ l. take n xs ++ l) (sym found.2) ∙ take-append-drop n xs) in
    subst (λ l. some_tail test l ≡ true) whole (some_tail-at test (take n xs ++ found.0) found.1 found.3)

-- the glob of some items, a `*`, and more
abbrev run_between : List LabelItem → List LabelItem → List ℕ → Bool
run_between front more label = takes_front front label && some_tail (glob_matches more) (drop (length front) label)

between_is : (front more : List LabelItem) (label : List ℕ) → has_run front ≡ false → glob_matches (front ++ AnyRun ∷ more) label ≡ run_between front more label
between_is front more label fixed = glob-front front (AnyRun ∷ more) label fixed ∙ ap (λ t. takes_front front label && t) (glob-run more (drop (length front) label))

-- a later place leaves no more than the first one
later_place : (front more : List LabelItem) (b : ℕ) (label : List ℕ) → has_run front ≡ false → some_tail (glob_matches (front ++ AnyRun ∷ more)) label ≡ true → some_tail (glob_matches more) (drop (length front) (b ∷ label)) ≡ true
later_place front more b label fixed some =
    let found = tail_of-some (glob_matches (front ++ AnyRun ∷ more)) label some in
    let both = and_parts (takes_front front found.1) (some_tail (glob_matches more) (drop (length front) found.1)) (sym (between_is front more found.1 fixed) ∙ found.3) in
    let whole : b ∷ label ≡ (b ∷ found.0) ++ found.1 = ap (λ l. b ∷ l) found.2 in
    let later : drop (length (b ∷ found.0)) (drop (length front) (b ∷ label)) ≡ drop (length front) found.1 =
    drop-drop (length (b ∷ found.0)) (length front) (b ∷ label) ∙ (ap (λ n. drop n (b ∷ label)) (omega arith) ∙ (sym (drop-drop (length front) (length (b ∷ found.0)) (b ∷ label))
    ∙ ap (drop (length front)) (ap (drop (length (b ∷ found.0))) whole ∙ drop_at (b ∷ found.0) found.1 (length (b ∷ found.0)) refl))) in
    some_tail-drop (glob_matches more) (length (b ∷ found.0)) (drop (length front) (b ∷ label)) (ap (some_tail (glob_matches more)) later ∙ both.1)

-- where the items between two `*` first stand, the rest decides
pub first_place : (front more : List LabelItem) (label rest : List ℕ) → has_run front ≡ false → behind_first_place front label ≡ Some rest → some_tail (glob_matches (front ++ AnyRun ∷ more)) label ≡ some_tail (glob_matches more) rest
unfolding behind_first_place
first_place front more [] rest fixed found =
    elim (cases_Bool (takes_front front [])) [
      | inl does ↦ between_is front more [] fixed ∙ rw does (ap (some_tail (glob_matches more)) (some_same _ _ (rw does at found)))
      | inr fails ↦ absurd (none_some rest (rw fails at found))
    ]
first_place front more (b ∷ label) rest fixed found =
    let M = some_tail (glob_matches more) in
    elim (cases_Bool (takes_front front (b ∷ label))) [
      | inl does ↦
          let here : glob_matches (front ++ AnyRun ∷ more) (b ∷ label) ≡ M (drop (length front) (b ∷ label)) = between_is front more (b ∷ label) fixed ∙ rw does refl in
          ap (λ t. t || some_tail (glob_matches (front ++ AnyRun ∷ more)) label) here
          ∙ or_absorbs (M (drop (length front) (b ∷ label))) (some_tail (glob_matches (front ++ AnyRun ∷ more)) label) (later_place front more b label fixed)
          ∙ ap M (some_same _ _ (rw does at found))
      | inr fails ↦
          let here : glob_matches (front ++ AnyRun ∷ more) (b ∷ label) ≡ false = between_is front more (b ∷ label) fixed ∙ rw fails refl in
          ap (λ t. t || some_tail (glob_matches (front ++ AnyRun ∷ more)) label) here
          ∙ first_place front more label rest fixed (rw fails at found)
    ]

pub no_place : (front more : List LabelItem) (label : List ℕ) → has_run front ≡ false → behind_first_place front label ≡ None → some_tail (glob_matches (front ++ AnyRun ∷ more)) label ≡ false
unfolding behind_first_place
no_place front more [] fixed none =
    elim (cases_Bool (takes_front front [])) [
      | inl does ↦ absurd (none_some _ (sym (rw does at none)))
      | inr fails ↦ between_is front more [] fixed ∙ rw fails refl
    ]
no_place front more (b ∷ label) fixed none =
    elim (cases_Bool (takes_front front (b ∷ label))) [
      | inl does ↦ absurd (none_some _ (sym (rw does at none)))
      | inr fails ↦
          let here : glob_matches (front ++ AnyRun ∷ more) (b ∷ label) ≡ false = between_is front more (b ∷ label) fixed ∙ rw fails refl in
          ap (λ t. t || some_tail (glob_matches (front ++ AnyRun ∷ more)) label) here
          ∙ no_place front more label fixed (rw fails at none)
    ]

-- ---- the walks over items and bytes

pub front_too_long : (items : List LabelItem) (bytes : List ℕ) → length bytes < length items → false ≡ takes_front items bytes
front_too_long items bytes long = elim (cases_Bool (takes_front items bytes)) [ inl does ↦ absurd (omega (arith, takes_front-fits items bytes does)) | inr fails ↦ sym fails ]

-- the item at a place
pub item_at : (items : List LabelItem) (at : ℕ) (item : LabelItem) → at < length items → item ≡ slice_index_or items at item → drop at items ≡ item ∷ drop (at + 1) items
item_at items at item within is = drop_more items at item within ∙ ap (λ i. i ∷ drop (at + 1) items) (sym is)

run_is : (item : LabelItem) → is_run item ≡ true → item ≡ AnyRun
run_is AnyRun run = refl
run_is AnyByte run = absurd (cc run)
run_is (Byte b) run = absurd (cc run)
run_is (Class ranges) run = absurd (cc run)

-- a `*` at a place, and the items behind it
pub run_at : (items : List LabelItem) (at : ℕ) (item : LabelItem) → at < length items → item ≡ slice_index_or items at item → is_run item ≡ true → AnyRun ∷ take (length items - (at + 1)) (drop (at + 1) items) ≡ drop at items
run_at items at item within is run =
    ap (λ l. AnyRun ∷ l) (take_rest items (at + 1)) ∙ (ap (λ i. i ∷ drop (at + 1) items) (sym (run_is item run)) ∙ sym (item_at items at item within is))

-- one item and one byte of a glob
pub glob_at : (items : List LabelItem) (label : List ℕ) (at : ℕ) (item : LabelItem) → at < length items → at < length label → item ≡ slice_index_or items at item → is_run item ≡ false →
    glob_matches (drop at items) (drop at label) ≡ (takes item (slice_index label at) && glob_matches (drop (at + 1) items) (drop (at + 1) label))
glob_at items label at item within fits is fixed =
    ap (λ l. glob_matches l (drop at label)) (item_at items at item within is)
    ∙ (ap (glob_matches (item ∷ drop (at + 1) items)) (drop_more label at 0 fits)
    ∙ glob-fixed item (drop (at + 1) items) (slice_index label at ∷ drop (at + 1) label) fixed)

pub glob_on_run : (items more : List LabelItem) (label rest : List ℕ) (at : ℕ) → AnyRun ∷ more ≡ drop at items → rest ≡ drop at label → some_tail (glob_matches more) rest ≡ glob_matches (drop at items) (drop at label)
glob_on_run items more label rest at same_items same_label =
    sym (glob-run more rest) ∙ (ap (λ l. glob_matches l rest) same_items ∙ ap (glob_matches (drop at items)) same_label)

pub glob_short : (items : List LabelItem) (label : List ℕ) (at : ℕ) (item : LabelItem) → at < length items → at ≡ length label → item ≡ slice_index_or items at item → is_run item ≡ false →
    glob_matches (drop at items) (drop at label) ≡ false
glob_short items label at item within end is fixed =
    ap (λ l. glob_matches l (drop at label)) (item_at items at item within is)
    ∙ (ap (glob_matches (item ∷ drop (at + 1) items)) (drop_all at label (omega (arith, end)))
    ∙ glob-fixed item (drop (at + 1) items) [] fixed)

pub glob_past : (items : List LabelItem) (label : List ℕ) (at : ℕ) → at ≡ length items → at ≤ length label → glob_matches (drop at items) (drop at label) ≡ (length items == length label)
unfolding glob_matches
glob_past items label at past fits =
    ap (λ l. glob_matches l (drop at label)) (drop_all at items (omega (arith, past)))
    ∙ same_test (length (drop at label) == 0) (length items == length label)
    (λ none. eq-eqb (length items) (length label) (omega (arith, past, fits, length-drop at label, eqb-true (length (drop at label)) 0 none)))
    (λ same. eq-eqb (length (drop at label)) 0 (omega (arith, past, fits, length-drop at label, eqb-true (length items) (length label) same)))

-- one item and one byte of the walk
pub front_at : (items : List LabelItem) (bytes : List ℕ) (at : ℕ) (item : LabelItem) → at < length items → at < length bytes → item ≡ slice_index_or items at item →
    takes_front (drop at items) (drop at bytes) ≡ (takes item (slice_index bytes at) && takes_front (drop (at + 1) items) (drop (at + 1) bytes))
unfolding takes_front
front_at items bytes at item within fits is =
    ap (λ l. takes_front l (drop at bytes)) (item_at items at item within is)
    ∙ ap (takes_front (item ∷ drop (at + 1) items)) (drop_more bytes at 0 fits)

pub front_past : (items : List LabelItem) (bytes : List ℕ) (at : ℕ) → length items ≤ at → takes_front (drop at items) (drop at bytes) ≡ true
unfolding takes_front
front_past items bytes at past = rw (drop_all at items past)

-- one place of the search
pub behind_here : (items : List LabelItem) (bytes : List ℕ) → takes_front items bytes ≡ true → behind_first_place items bytes ≡ Some (drop (length items) bytes)
unfolding behind_first_place
behind_here items [] takes = rw takes refl
behind_here items (b ∷ bytes) takes = rw takes refl

behind_too_short : (items : List LabelItem) (bytes : List ℕ) → length bytes < length items → behind_first_place items bytes ≡ None
unfolding behind_first_place
behind_too_short items [] short = rw (sym (front_too_long items [] short)) refl
behind_too_short items (b ∷ bytes) short = rw (sym (front_too_long items (b ∷ bytes) short)) (behind_too_short items bytes (omega arith))

-- no place comes later where the bytes are no longer than the items
pub behind_end : (items : List LabelItem) (bytes : List ℕ) → takes_front items bytes ≡ false → length bytes ≤ length items → behind_first_place items bytes ≡ None
unfolding behind_first_place
behind_end items [] fails short = rw fails refl
behind_end items (b ∷ bytes) fails short = rw fails (behind_too_short items bytes (omega arith))

pub behind_later : (items : List LabelItem) (bytes : List ℕ) → takes_front items bytes ≡ false → (length bytes ≡ 0 → ⊥) → behind_first_place items bytes ≡ behind_first_place items (take (length bytes - 1) (drop 1 bytes))
unfolding behind_first_place
behind_later items [] fails some = absurd (some refl)
behind_later items (b ∷ bytes) fails some = rw fails (ap (behind_first_place items) (sym (take_rest (b ∷ bytes) 1)))

-- ---- a label without `*`, `?` and `[`

pub plain-glob : (text label : List ℕ) → glob_matches (map (λ b. Byte b) text) label ≡ str_eq_ignore_ascii_case text label
unfolding glob_matches
plain-glob [] [] = refl
plain-glob [] (b ∷ label) = ne_eqb (length (b ∷ label)) 0 (λ e. omega (arith, e))
plain-glob (a ∷ text) [] = refl
plain-glob (a ∷ text) (b ∷ label) = ap (λ t. eq_ignore_ascii_case a b && t) (plain-glob text label)

pub label-cut : (pattern : LabelPattern) (label : List ℕ) → IsTrue (label_matches pattern label) ↔ CanBeCut (label_items pattern) label
label-cut (Plain text) label = (
  λ is. cut-from-glob (map (λ b. Byte b) text) label (plain-glob text label ∙ is),
  λ cut. sym (plain-glob text label) ∙ ap (glob_matches (map (λ b. Byte b) text)) (sym cut.2) ∙ glob-from-cut (map (λ b. Byte b) text) cut.0 cut.1,
)
label-cut (Glob items) label = (λ is. cut-from-glob items label is, λ cut. ap (glob_matches items) (sym cut.2) ∙ glob-from-cut items cut.0 cut.1)

-- ---- the scan behind a `*`

pub last_of_run : (items front : List LabelItem) (label : List ℕ) → items ≡ front ++ [] → has_run front ≡ false → length front ≤ length label →
    takes_front front (drop (length label - length front) label) ≡ some_tail (glob_matches items) label
last_of_run items front label is fixed fits =
    last_items front label fixed fits ∙ ap (λ (l : List LabelItem). some_tail (glob_matches l) label) (sym (is ∙ append-nil front))

pub too_few_of_run : (items front : List LabelItem) (label : List ℕ) → items ≡ front ++ [] → has_run front ≡ false → length label < length front → false ≡ some_tail (glob_matches items) label
too_few_of_run items front label is fixed short = too_few front label fixed short ∙ ap (λ (l : List LabelItem). some_tail (glob_matches l) label) (sym (is ∙ append-nil front))

pub run_first : (items front more : List LabelItem) (label rest : List ℕ) → items ≡ front ++ AnyRun ∷ more → has_run front ≡ false → behind_first_place front label ≡ Some rest →
    some_tail (glob_matches items) label ≡ some_tail (glob_matches more) rest
run_first items front more label rest is fixed found = ap (λ (l : List LabelItem). some_tail (glob_matches l) label) is ∙ first_place front more label rest fixed found

pub run_none : (items front more : List LabelItem) (label : List ℕ) → items ≡ front ++ AnyRun ∷ more → has_run front ≡ false → behind_first_place front label ≡ None → some_tail (glob_matches items) label ≡ false
run_none items front more label is fixed none = ap (λ (l : List LabelItem). some_tail (glob_matches l) label) is ∙ no_place front more label fixed none
