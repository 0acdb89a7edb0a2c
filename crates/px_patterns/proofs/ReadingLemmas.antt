-- Labels of host patterns: what their texts stand for, from the front.
use Rattle.std.proofs.Common.{◌≡◌, ◌≢◌, ℕ, zero, suc, ◌+◌, ◌-◌, ◌<◌, ◌≤◌, Bool, true, false, List, [], ◌∷◌, ◌++◌, length, take, drop, add-one, refl, ap, sym, ◌∙◌, arith, inl, inr, Option, None, Some, option_map, append-nil, append_assoc}
use Rattle.std.specs.Prelude.{◌==◌, ◌||◌, slice_index, option_and_then, Ok, Err}
use Rattle.std.proofs.lemmas.Bool.{cases_Bool, eq-eqb, eqb-false, eqb-true, le-leb, lt-leb, ne_eqb}
use Rattle.std.proofs.lemmas.List.{drop-drop, take_rest}
use Rattle.std.specs.List.{list_any}
use Rattle.px_base.specs.Cuts.{parts_of}
use Rattle.px_patterns.specs.declared.TheConstants.{CLASS_BEGIN, CLASS_END, DASH, DOT}
use Rattle.px_patterns.specs.declared.labels.LabelPattern.{LabelPattern}
use Rattle.px_patterns.specs.declared.faults.PatternFault.TheVariants.{BadClass, EmptyLabel}
use Rattle.px_patterns.specs.declared.hosts.HostPattern.TheVariants.{Always, Labels}
use Rattle.px_patterns.specs.Hosts.{begins_with_dot, ends_with_dot, host_pattern, is_every_host, labels_in, labels_of, labels_pattern, with_label, without_first_dot, without_last_dot}
use Rattle.px_patterns.specs.declared.labels.ClassRange.{ClassRange}
use Rattle.px_patterns.specs.declared.labels.LabelItem.{LabelItem}
use Rattle.px_patterns.specs.Globs.{class_of, glob_item, items_from, label_of, class_ranges, with_glob_item, with_range}

-- what is read so far, and what the rest stands for
abbrev pub with_front : {X : Type 0} → List X → Option (List X) → Option (List X)
with_front front rest = option_map (λ more. front ++ more) rest

pub with_front-nil : {X : Type 0} (rest : Option (List X)) → rest ≡ with_front [] rest
with_front-nil None = refl
with_front-nil (Some more) = refl

pub with_front-done : {X : Type 0} (front : List X) → with_front front (Some []) ≡ Some front
with_front-done front = ap (λ l. Some l) (append-nil front)

-- one more is read
pub with_front-push : {X : Type 0} (front : List X) (x : X) (rest : Option (List X)) → with_front front (option_map (λ more. x ∷ more) rest) ≡ with_front (front ++ x ∷ []) rest
with_front-push front x None = refl
with_front-push front x (Some more) = ap (λ l. Some l) (sym (append_assoc front (x ∷ []) more))

-- ---- classes

pub range_pair : (a b c : ℕ) (rest : List ℕ) → b ≡ DASH → class_ranges (a ∷ b ∷ c ∷ rest) ≡ with_range a c (class_ranges rest)
unfolding class_ranges
range_pair a b c rest dash = rw (eq-eqb b DASH dash) refl

pub range_single : (a : ℕ) (rest : List ℕ) → (2 < length (a ∷ rest) → slice_index rest 0 ≢ DASH) → class_ranges (a ∷ rest) ≡ with_range a a (class_ranges rest)
unfolding class_ranges
range_single a [] apart = refl
range_single a (b ∷ []) apart = refl
range_single a (b ∷ c ∷ rest) apart = rw (ne_eqb b DASH (apart (omega arith))) refl

-- ---- items

pub items_other : (b : ℕ) (bytes : List ℕ) → b ≢ CLASS_BEGIN → items_from None (b ∷ bytes) ≡ with_glob_item (glob_item b) (items_from None bytes)
unfolding items_from
items_other b bytes other = rw (ne_eqb b CLASS_BEGIN other) refl

-- no byte of the list below this place is `byte`
abbrev pub NoneBelow : ℕ → List ℕ → ℕ → Type 0
NoneBelow byte bytes at = (k : ℕ) → 0 ≤ k → k < at → ¬ ((slice_index bytes k == byte) ≡ true)

later_none : (byte b : ℕ) (bytes : List ℕ) (at : ℕ) → NoneBelow byte (b ∷ bytes) (suc at) → NoneBelow byte bytes at
later_none byte b bytes at none k low high = none (suc k) (omega arith) (omega arith)

first_other : (byte b : ℕ) (bytes : List ℕ) (at : ℕ) → NoneBelow byte (b ∷ bytes) (suc at) → (b == byte) ≡ false
first_other byte b bytes at none = elim (cases_Bool (b == byte)) [ inl does ↦ absurd (none 0 (omega arith) (omega arith) does) | inr fails ↦ fails ]

-- a class that has begun ends at its first bracket
class_end : (begun bytes : List ℕ) (at : ℕ) → at < length bytes → (slice_index bytes at == CLASS_END) ≡ true → NoneBelow CLASS_END bytes at →
    items_from (Some begun) bytes ≡ option_and_then (λ class. with_glob_item class (items_from None (drop (suc at) bytes))) (class_of (begun ++ take at bytes))
unfolding items_from
class_end begun [] at within here none = absurd (omega arith)
class_end begun (b ∷ bytes) zero within here none = rw here (ap (λ l. option_and_then (λ class. with_glob_item class (items_from None bytes)) (class_of l)) (sym (append-nil begun)))
class_end begun (b ∷ bytes) (suc at) within here none =
    rw (first_other CLASS_END b bytes at none)
    (class_end (begun ++ b ∷ []) bytes at (omega arith) here (later_none CLASS_END b bytes at none)
    ∙ ap (λ l. option_and_then (λ class. with_glob_item class (items_from None (drop (suc at) bytes))) (class_of l)) (append_assoc begun (b ∷ []) (take at bytes)))

class_open : (begun bytes : List ℕ) → NoneBelow CLASS_END bytes (length bytes) → items_from (Some begun) bytes ≡ None
unfolding items_from
class_open begun [] none = refl
class_open begun (b ∷ bytes) none = rw (first_other CLASS_END b bytes (length bytes) none) (class_open (begun ++ b ∷ []) bytes (later_none CLASS_END b bytes (length bytes) none))

pub items_class : (b : ℕ) (bytes : List ℕ) (at : ℕ) → b ≡ CLASS_BEGIN → at < length bytes → (slice_index bytes at == CLASS_END) ≡ true → NoneBelow CLASS_END bytes at →
    items_from None (b ∷ bytes) ≡ option_and_then (λ class. with_glob_item class (items_from None (drop (at + 1) bytes))) (class_of (take at bytes))
unfolding items_from
items_class b bytes at begin within here none = rw (eq-eqb b CLASS_BEGIN begin) (rw (add-one at) (class_end [] bytes at within here none))

pub items_open : (b : ℕ) (bytes : List ℕ) → b ≡ CLASS_BEGIN → NoneBelow CLASS_END bytes (length bytes) → items_from None (b ∷ bytes) ≡ None
unfolding items_from
items_open b bytes begin none = rw (eq-eqb b CLASS_BEGIN begin) (class_open [] bytes none)

-- ---- steps of the walks

pub first_range_pair : (bytes : List ℕ) → 2 < length bytes → slice_index bytes 1 ≡ DASH → class_ranges bytes ≡ with_range (slice_index bytes 0) (slice_index bytes 2) (class_ranges (take (length bytes - 3) (drop 3 bytes)))
first_range_pair [] long dash = absurd (omega arith)
first_range_pair (a ∷ []) long dash = absurd (omega arith)
first_range_pair (a ∷ b ∷ []) long dash = absurd (omega arith)
first_range_pair (a ∷ b ∷ c ∷ rest) long dash = range_pair a b c rest dash ∙ ap (λ l. with_range a c (class_ranges l)) (sym (take_rest (a ∷ b ∷ c ∷ rest) 3))

pub first_range_single : (bytes : List ℕ) → 0 < length bytes → (2 < length bytes → slice_index bytes 1 ≢ DASH) → class_ranges bytes ≡ with_range (slice_index bytes 0) (slice_index bytes 0) (class_ranges (take (length bytes - 1) (drop 1 bytes)))
first_range_single [] some apart = absurd (omega arith)
first_range_single (a ∷ rest) some apart = range_single a rest apart ∙ ap (λ l. with_range a a (class_ranges l)) (sym (take_rest (a ∷ rest) 1))

-- a list that holds something begins with its first element
pub first_of_list : (bytes : List ℕ) → (length bytes == 0) ≡ false → bytes ≡ slice_index bytes 0 ∷ take (length bytes - 1) (drop 1 bytes)
first_of_list [] some = absurd (eqb-false 0 0 some refl)
first_of_list (b ∷ bytes) some = ap (λ l. b ∷ l) (sym (take_rest (b ∷ bytes) 1))

-- a range that ends before it begins
pub bad_range : (ranges : List ClassRange) (first last : ℕ) (rest : Option (List ClassRange)) → last < first → with_front ranges (with_range first last rest) ≡ None
bad_range ranges first last rest bad = rw (lt-leb first last bad) refl

pub next_range : (ranges : List ClassRange) (range : ClassRange) (rest : Option (List ClassRange)) → range.first ≤ range.last → with_front ranges (with_range range.first range.last rest) ≡ with_front (ranges ++ range ∷ []) rest
next_range ranges range rest good = rw (le-leb range.first range.last good) (with_front-push ranges range rest)

pub ranges_done : (bytes rest : List ℕ) (ranges : List ClassRange) → class_ranges bytes ≡ with_front ranges (class_ranges rest) → (length rest == 0) ≡ true → class_ranges bytes ≡ Some ranges
unfolding class_ranges
ranges_done bytes [] ranges is empty = is ∙ with_front-done ranges
ranges_done bytes (b ∷ rest) ranges is empty = absurd (omega (arith, eqb-true (length (b ∷ rest)) 0 empty))

pub items_done : (text rest : List ℕ) (items : List LabelItem) → items_from None text ≡ with_front items (items_from None rest) → (length rest == 0) ≡ true → items_from None text ≡ Some items
unfolding items_from
items_done text [] items is empty = is ∙ with_front-done items
items_done text (b ∷ rest) items is empty = absurd (omega (arith, eqb-true (length (b ∷ rest)) 0 empty))

-- the rest of a label behind its first byte
abbrev behind_first_byte : List ℕ → List ℕ
behind_first_byte rest = take (length rest - 1) (drop 1 rest)

-- a class is read, or another item
pub next_class : (items pushed : List LabelItem) (rest content after : List ℕ) (at : ℕ) (class : LabelItem) → (length rest == 0) ≡ false → slice_index rest 0 ≡ CLASS_BEGIN → at < length (behind_first_byte rest) →
    (slice_index (behind_first_byte rest) at == CLASS_END) ≡ true → NoneBelow CLASS_END (behind_first_byte rest) at → content ≡ take at (behind_first_byte rest) → after ≡ drop at (behind_first_byte rest) →
    class_of content ≡ Some class → pushed ≡ items ++ class ∷ [] → with_front items (items_from None rest) ≡ with_front pushed (items_from None (take (length after - 1) (drop 1 after)))
next_class items pushed rest content after at class some begin within here none front back read is =
    let behind = behind_first_byte rest in
    ap (λ l. with_front items (items_from None l)) (first_of_list rest some)
    ∙ ap (with_front items)
    (items_class (slice_index rest 0) behind at begin within here none
    ∙ ap (option_and_then (λ item. with_glob_item item (items_from None (drop (at + 1) behind)))) (ap class_of (sym front) ∙ read))
    ∙ with_front-push items class (items_from None (drop (at + 1) behind))
    ∙ ap (λ (l : List LabelItem). with_front l (items_from None (drop (at + 1) behind))) (sym is)
    ∙ ap (λ l. with_front pushed (items_from None l)) (sym (drop-drop 1 at behind) ∙ ap (drop 1) (sym back) ∙ sym (take_rest after 1))

pub bad_class : (items : List LabelItem) (text rest content : List ℕ) (at : ℕ) → items_from None text ≡ with_front items (items_from None rest) → (length rest == 0) ≡ false → slice_index rest 0 ≡ CLASS_BEGIN → at < length (behind_first_byte rest) →
    (slice_index (behind_first_byte rest) at == CLASS_END) ≡ true → NoneBelow CLASS_END (behind_first_byte rest) at → content ≡ take at (behind_first_byte rest) →
    class_of content ≡ None → items_from None text ≡ None
bad_class items text rest content at is some begin within here none front unread =
    let behind = behind_first_byte rest in
    is ∙ ap (λ l. with_front items (items_from None l)) (first_of_list rest some)
    ∙ ap (with_front items)
    (items_class (slice_index rest 0) behind at begin within here none
    ∙ ap (option_and_then (λ item. with_glob_item item (items_from None (drop (at + 1) behind)))) (ap class_of (sym front) ∙ unread))

pub open_class : (items : List LabelItem) (text rest : List ℕ) → items_from None text ≡ with_front items (items_from None rest) → (length rest == 0) ≡ false → slice_index rest 0 ≡ CLASS_BEGIN →
    NoneBelow CLASS_END (behind_first_byte rest) (length (behind_first_byte rest)) → items_from None text ≡ None
open_class items text rest is some begin none =
    is ∙ ap (λ l. with_front items (items_from None l)) (first_of_list rest some) ∙ ap (with_front items) (items_open (slice_index rest 0) (behind_first_byte rest) begin none)

pub next_item : (items pushed : List LabelItem) (rest : List ℕ) (item : LabelItem) → (length rest == 0) ≡ false → slice_index rest 0 ≢ CLASS_BEGIN → item ≡ glob_item (slice_index rest 0) → pushed ≡ items ++ item ∷ [] →
    with_front items (items_from None rest) ≡ with_front pushed (items_from None (behind_first_byte rest))
next_item items pushed rest item some other is added =
    ap (λ l. with_front items (items_from None l)) (first_of_list rest some)
    ∙ ap (with_front items) (items_other (slice_index rest 0) (behind_first_byte rest) other)
    ∙ with_front-push items (glob_item (slice_index rest 0)) (items_from None (behind_first_byte rest))
    ∙ ap (λ (l : List LabelItem). with_front l (items_from None (behind_first_byte rest))) (ap (λ (i : LabelItem). items ++ i ∷ []) (sym is) ∙ sym added)

-- ---- labels between dots

pub empty_here : (bytes label : List ℕ) (behind : Option (List ℕ)) → labels_in bytes ≡ label ∷ parts_of DOT behind → (length label == 0) ≡ true → list_any (λ l. length l == 0) (labels_in bytes) ≡ true
empty_here bytes label behind cut empty = ap (list_any (λ l. length l == 0)) cut ∙ ap (λ t. t || list_any (λ l. length l == 0) (parts_of DOT behind)) empty

pub empty_later : (bytes label : List ℕ) (behind : Option (List ℕ)) → labels_in bytes ≡ label ∷ parts_of DOT behind → (length label == 0) ≡ false →
    list_any (λ l. length l == 0) (labels_in bytes) ≡ list_any (λ l. length l == 0) (parts_of DOT behind)
empty_later bytes label behind cut some = ap (list_any (λ l. length l == 0)) cut ∙ ap (λ t. t || list_any (λ l. length l == 0) (parts_of DOT behind)) some

pub next_label : (labels pushed : List LabelPattern) (bytes label : List ℕ) (behind : Option (List ℕ)) (pattern : LabelPattern) → labels_in bytes ≡ label ∷ parts_of DOT behind → label_of label ≡ Some pattern →
    pushed ≡ labels ++ pattern ∷ [] → with_front labels (labels_of (labels_in bytes)) ≡ with_front pushed (labels_of (parts_of DOT behind))
next_label labels pushed bytes label behind pattern cut read added =
    ap (λ l. with_front labels (labels_of l)) cut
    ∙ ap (λ o. with_front labels (with_label o (labels_of (parts_of DOT behind)))) read
    ∙ with_front-push labels pattern (labels_of (parts_of DOT behind))
    ∙ ap (λ (l : List LabelPattern). with_front l (labels_of (parts_of DOT behind))) (sym added)

pub bad_label : (labels : List LabelPattern) (text bytes label : List ℕ) (behind : Option (List ℕ)) → labels_of (labels_in text) ≡ with_front labels (labels_of (labels_in bytes)) → labels_in bytes ≡ label ∷ parts_of DOT behind →
    label_of label ≡ None → labels_of (labels_in text) ≡ None
bad_label labels text bytes label behind is cut unread =
    is ∙ ap (λ l. with_front labels (labels_of l)) cut ∙ ap (λ o. with_front labels (with_label o (labels_of (parts_of DOT behind)))) unread

pub labels_done : (labels pushed : List LabelPattern) (text bytes label : List ℕ) (pattern : LabelPattern) → labels_of (labels_in text) ≡ with_front labels (labels_of (labels_in bytes)) → labels_in bytes ≡ label ∷ [] →
    label_of label ≡ Some pattern → pushed ≡ labels ++ pattern ∷ [] → labels_of (labels_in text) ≡ Some pushed
labels_done labels pushed text bytes label pattern is cut read added = is ∙ next_label labels pushed bytes label None pattern cut read added ∙ with_front-done pushed

-- ---- host patterns

pub host_always : (text : List ℕ) → is_every_host text ≡ true → host_pattern text ≡ Ok Always
unfolding host_pattern
host_always text every = rw every refl

host_inside : (text inside : List ℕ) → is_every_host text ≡ false → inside ≡ without_last_dot (without_first_dot text) → host_pattern text ≡ labels_pattern (begins_with_dot text) (ends_with_dot text) (labels_in inside)
unfolding host_pattern
host_inside text inside other is = rw other (ap (λ l. labels_pattern (begins_with_dot text) (ends_with_dot text) (labels_in l)) (sym is))

pub host_inside_is : (text once inside : List ℕ) → once ≡ without_first_dot text → inside ≡ without_last_dot once → inside ≡ without_last_dot (without_first_dot text)
host_inside_is text once inside first last = last ∙ ap without_last_dot first

pub host_empty_label : (text inside : List ℕ) → is_every_host text ≡ false → inside ≡ without_last_dot (without_first_dot text) → list_any (λ l. length l == 0) (labels_in inside) ≡ true → host_pattern text ≡ Err EmptyLabel
host_empty_label text inside other is empty = host_inside text inside other is ∙ rw empty refl

pub host_bad_class : (text inside : List ℕ) → is_every_host text ≡ false → inside ≡ without_last_dot (without_first_dot text) → list_any (λ l. length l == 0) (labels_in inside) ≡ false → labels_of (labels_in inside) ≡ None →
    host_pattern text ≡ Err BadClass
host_bad_class text inside other is some unread = host_inside text inside other is ∙ rw (some, unread) refl

pub host_of_labels : (text inside : List ℕ) (front end : Bool) (labels : List LabelPattern) → is_every_host text ≡ false → inside ≡ without_last_dot (without_first_dot text) →
    list_any (λ l. length l == 0) (labels_in inside) ≡ false → labels_of (labels_in inside) ≡ Some labels → front ≡ begins_with_dot text → end ≡ ends_with_dot text →
    host_pattern text ≡ Ok (Labels record { open_front = front; open_end = end; labels = labels })
host_of_labels text inside front end labels other is some read at_front at_end =
    host_inside text inside other is ∙ rw (some, read)
    (ap (λ (b : Bool). Ok (Labels record { open_front = b; open_end = ends_with_dot text; labels = labels })) (sym at_front)
    ∙ ap (λ (b : Bool). Ok (Labels record { open_front = front; open_end = b; labels = labels })) (sym at_end))
