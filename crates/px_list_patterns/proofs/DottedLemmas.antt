-- The pattern of a host matches what the host's name stands for.
use Rattle.std.proofs.Common.{not, ◌≡◌, ℕ, suc, ◌+◌, ◌-◌, Bool, true, false, cond, List, [], ◌∷◌, length, map, take, refl, ap, sym, ◌∙◌, arith, true≢false, All}
use Rattle.std.specs.Prelude.{◌==◌, ◌&&◌, ◌||◌, nat_lt, slice_index, Some, None, Ok, Err, option_map}
use Rattle.std.specs.Char.{to_ascii_lowercase, eq_ignore_ascii_case}
use Rattle.std.specs.List.{after_first, before_first, list_all, list_any, onto_first, position_or_len}
use Rattle.std.specs.Str.{str_eq_ignore_ascii_case}
use Rattle.std.proofs.lemmas.Bool.{eqb-true, ltb-false, ne_eqb}
use Rattle.std.proofs.lemmas.List.Elements.{All-head, All-tail}
use Rattle.px_host_lists.specs.Hosts.{HostEntry, is_listed, is_named_above, is_named_by, without_end_dot}
use Rattle.px_host_lists.specs.Names.{is_host, is_host_label, is_label_byte, is_numeric}
use Rattle.px_host_lists.specs.Readings.{list_entries}
use Rattle.px_host_lists.proofs.AddressLemmas.{label-bytes, passes, weaker}
use Rattle.px_host_lists.proofs.HeldLemmas.{entries-hosts}
use Rattle.px_host_lists.proofs.ListedLemmas.{listed-any}
use Rattle.px_patterns.specs.Globs.{is_wild, items_from, label_of, some_tail}
use Rattle.px_patterns.specs.Hosts.{ends_with_dot, host_matches, host_pattern, is_every_host, labels_in, labels_match, labels_of, labels_pattern, with_label, with_labels, without_last_dot}
use Rattle.px_patterns.specs.Patterns.{begins_path, begins_ports, path_expression, path_pattern, pattern_of_parts, port_text, ports_of, url_matches, url_pattern, with_host_pattern, with_parts}
use Rattle.px_patterns.specs.declared.faults.PatternFault.TheVariants.{EmptyLabel}
use Rattle.px_patterns.specs.declared.hosts.HostLabels.{HostLabels}
use Rattle.px_patterns.specs.declared.hosts.HostPart.TheVariants.{Pattern}
use Rattle.px_patterns.specs.declared.hosts.HostPattern.TheVariants.{Always, Labels}
use Rattle.px_patterns.specs.declared.labels.LabelPattern.{LabelPattern}
use Rattle.px_patterns.specs.declared.labels.LabelPattern.TheVariants.{Glob, Plain}
use Rattle.px_patterns.specs.declared.urls.Url.{Url}
use Rattle.px_list_patterns.specs.Dotted.{is_matched, read_matches}

abbrev is_dot : ℕ → Bool
is_dot b = b == 46

abbrev plain : List (List ℕ) → List LabelPattern
plain labels = map (λ label. Plain label) labels

-- whether labels are others one by one, without case
abbrev same_labels : List (List ℕ) → List (List ℕ) → Bool
same_labels names labels = labels_match false (plain names) labels

-- ---- labels, and texts with dots

and-assoc : (a b c : Bool) → ((a && b) && c) ≡ (a && (b && c))
and-assoc true b c = refl
and-assoc false b c = refl

-- a text's labels where a byte stands before it
cut_cond : (b : ℕ) (bytes : List ℕ) (s : Bool) → is_dot b ≡ s → labels_in (b ∷ bytes) ≡ cond s ([] ∷ labels_in bytes) (onto_first b (labels_in bytes))
cut_cond b bytes s e = ap (λ v. cond v ([] ∷ labels_in bytes) (onto_first b (labels_in bytes))) e

-- labels are never none
record HasFirst (labels : List (List ℕ)) : Type 0 where
  first : List ℕ
  more : List (List ℕ)
  is : labels ≡ first ∷ more

first_by : (b : ℕ) (bytes : List ℕ) (s : Bool) → HasFirst (labels_in bytes) → HasFirst (cond s ([] ∷ labels_in bytes) (onto_first b (labels_in bytes)))
first_by b bytes true has = record { first = []; more = labels_in bytes; is = refl }
first_by b bytes false has = record { first = b ∷ has.first; more = has.more; is = ap (onto_first b) has.is }

has-first : (bytes : List ℕ) → HasFirst (labels_in bytes)
has-first [] = record { first = []; more = []; is = refl }
has-first (b ∷ bytes) = first_by b bytes (is_dot b) (has-first bytes)

lower_dot_by : (c : ℕ) (x y : Bool) → nat_lt c 65 ≡ x → nat_lt c 91 ≡ y → cond x c (cond y (c + 32) c) ≡ 46 → c ≡ 46
lower_dot_by c true y less below e = e
lower_dot_by c false true less below e = absurd (omega (arith, ltb-false c 65 less, e))
lower_dot_by c false false less below e = e

lower_dot : (c : ℕ) → to_ascii_lowercase c ≡ 46 → c ≡ 46
lower_dot c e = lower_dot_by c (nat_lt c 65) (nat_lt c 91) refl refl e

is-dot : (b : ℕ) → is_dot b ≡ true → b ≡ 46
is-dot b e = eqb-true b 46 e

other_by : (c : ℕ) (s : Bool) → (46 == to_ascii_lowercase c) ≡ s → is_dot c ≡ false → s ≡ false
other_by c true e away = absurd (true≢false (ap (λ b. b == 46) (sym (lower_dot c (sym (eqb-true 46 (to_ascii_lowercase c) e)))) ∙ away))
other_by c false e away = refl

-- a dot is no other byte in either case
dot-other : (a c : ℕ) → is_dot a ≡ true → is_dot c ≡ false → eq_ignore_ascii_case a c ≡ false
dot-other a c one away = ap (λ b. eq_ignore_ascii_case b c) (is-dot a one) ∙ other_by c (46 == to_ascii_lowercase c) refl away

other_back_by : (a : ℕ) (s : Bool) → (to_ascii_lowercase a == 46) ≡ s → is_dot a ≡ false → s ≡ false
other_back_by a true e away = absurd (true≢false (ap (λ b. b == 46) (sym (lower_dot a (eqb-true (to_ascii_lowercase a) 46 e))) ∙ away))
other_back_by a false e away = refl

other-dot : (a c : ℕ) → is_dot a ≡ false → is_dot c ≡ true → eq_ignore_ascii_case a c ≡ false
other-dot a c away one = ap (λ b. eq_ignore_ascii_case a b) (is-dot c one) ∙ other_back_by a (to_ascii_lowercase a == 46) refl away

dots : (a c : ℕ) → is_dot a ≡ true → is_dot c ≡ true → eq_ignore_ascii_case a c ≡ true
dots a c one other = ap (λ b. eq_ignore_ascii_case b c) (is-dot a one) ∙ ap (λ b. eq_ignore_ascii_case 46 b) (is-dot c other)

none-left : (labels : List (List ℕ)) → HasFirst labels → labels_match false [] labels ≡ false
unfolding labels_match
none-left labels has = ap (λ l. labels_match false [] l) has.is

none-right : (names : List (List ℕ)) → HasFirst names → same_labels names [] ≡ false
unfolding labels_match
none-right names has = ap (λ l. same_labels l []) has.is

onto-none : (c : ℕ) (names labels : List (List ℕ)) → HasFirst labels → same_labels ([] ∷ names) (onto_first c labels) ≡ false
unfolding labels_match
onto-none c names labels has = ap (λ l. same_labels ([] ∷ names) (onto_first c l)) has.is

none-onto : (a : ℕ) (names labels : List (List ℕ)) → HasFirst names → same_labels (onto_first a names) ([] ∷ labels) ≡ false
unfolding labels_match
none-onto a names labels has = ap (λ l. same_labels (onto_first a l) ([] ∷ labels)) has.is

onto-onto : (a c : ℕ) (names labels : List (List ℕ)) → HasFirst names → HasFirst labels → same_labels (onto_first a names) (onto_first c labels) ≡ (eq_ignore_ascii_case a c && same_labels names labels)
unfolding labels_match
onto-onto a c names labels one other =
    ap (λ l. same_labels (onto_first a l) (onto_first c labels)) one.is
    ∙ (ap (λ l. same_labels (onto_first a (one.first ∷ one.more)) (onto_first c l)) other.is
    ∙ (and-assoc (eq_ignore_ascii_case a c) (str_eq_ignore_ascii_case one.first other.first) (same_labels one.more other.more)
    ∙ (ap (λ l. eq_ignore_ascii_case a c && same_labels l (other.first ∷ other.more)) (sym one.is) ∙ ap (λ l. eq_ignore_ascii_case a c && same_labels names l) (sym other.is))))

same_by : (a c : ℕ) (text bytes : List ℕ) (x y : Bool) → is_dot a ≡ x → is_dot c ≡ y → same_labels (labels_in text) (labels_in bytes) ≡ str_eq_ignore_ascii_case text bytes →
    same_labels (cond x ([] ∷ labels_in text) (onto_first a (labels_in text))) (cond y ([] ∷ labels_in bytes) (onto_first c (labels_in bytes))) ≡ (eq_ignore_ascii_case a c && str_eq_ignore_ascii_case text bytes)
unfolding labels_match
same_by a c text bytes true true one other same = same ∙ ap (λ b. b && str_eq_ignore_ascii_case text bytes) (sym (dots a c one other))
same_by a c text bytes true false one other same =
    onto-none c (labels_in text) (labels_in bytes) (has-first bytes) ∙ ap (λ b. b && str_eq_ignore_ascii_case text bytes) (sym (dot-other a c one other))
same_by a c text bytes false true one other same =
    none-onto a (labels_in text) (labels_in bytes) (has-first text) ∙ ap (λ b. b && str_eq_ignore_ascii_case text bytes) (sym (other-dot a c one other))
same_by a c text bytes false false one other same =
    onto-onto a c (labels_in text) (labels_in bytes) (has-first text) (has-first bytes) ∙ ap (λ b. eq_ignore_ascii_case a c && b) same

end_left : (c : ℕ) (bytes : List ℕ) (y : Bool) → same_labels ([] ∷ []) (cond y ([] ∷ labels_in bytes) (onto_first c (labels_in bytes))) ≡ false
unfolding labels_match
end_left c bytes true = none-left (labels_in bytes) (has-first bytes)
end_left c bytes false = onto-none c [] (labels_in bytes) (has-first bytes)

end_right : (a : ℕ) (text : List ℕ) (x : Bool) → same_labels (cond x ([] ∷ labels_in text) (onto_first a (labels_in text))) ([] ∷ []) ≡ false
unfolding labels_match
end_right a text true = none-right (labels_in text) (has-first text)
end_right a text false = none-onto a (labels_in text) [] (has-first text)

-- two texts are the same without case where their labels are
same-texts : (text bytes : List ℕ) → same_labels (labels_in text) (labels_in bytes) ≡ str_eq_ignore_ascii_case text bytes
unfolding labels_match
same-texts [] [] = refl
same-texts [] (c ∷ bytes) = end_left c bytes (is_dot c)
same-texts (a ∷ text) [] = end_right a text (is_dot a)
same-texts (a ∷ text) (c ∷ bytes) = same_by a c text bytes (is_dot a) (is_dot c) refl refl (same-texts text bytes)

-- ---- the labels at the end of a host

record Tails (name host : List ℕ) (labels : List (List ℕ)) : Type 0 where
  first : List ℕ
  more : List (List ℕ)
  is : labels ≡ first ∷ more
  above : some_tail (same_labels (labels_in name)) more ≡ is_named_above name host

-- all labels, or those behind one of them
ends : (name host : List ℕ) → Tails name host (labels_in host) → some_tail (same_labels (labels_in name)) (labels_in host) ≡ is_named_by name host
ends name host tails =
    ap (some_tail (same_labels (labels_in name))) tails.is
    ∙ (ap (λ b. b || some_tail (same_labels (labels_in name)) tails.more) (ap (same_labels (labels_in name)) (sym tails.is) ∙ same-texts name host)
    ∙ ap (λ b. str_eq_ignore_ascii_case name host || b) tails.above)

tails_by : (name : List ℕ) (b : ℕ) (bytes : List ℕ) (s : Bool) → is_dot b ≡ s → Tails name bytes (labels_in bytes) → Tails name (b ∷ bytes) (cond s ([] ∷ labels_in bytes) (onto_first b (labels_in bytes)))
tails_by name b bytes true e tails =
    record {
      first = [];
      more = labels_in bytes;
      is = refl;
      above = ends name bytes tails ∙ ap (λ v. cond v (is_named_by name bytes) (is_named_above name bytes)) (sym e);
    }
tails_by name b bytes false e tails =
    record {
      first = b ∷ tails.first;
      more = tails.more;
      is = ap (onto_first b) tails.is;
      above = tails.above ∙ ap (λ v. cond v (is_named_by name bytes) (is_named_above name bytes)) (sym e);
    }

tails-of : (name host : List ℕ) → Tails name host (labels_in host)
tails-of name [] = record { first = []; more = []; is = refl; above = none-right (labels_in name) (has-first name) }
tails-of name (b ∷ bytes) = tails_by name b bytes (is_dot b) refl (tails-of name bytes)

named-ends : (name host : List ℕ) → some_tail (same_labels (labels_in name)) (labels_in host) ≡ is_named_by name host
named-ends name host = ends name host (tails-of name host)

-- ---- what the pattern of a host is

and-first : (a b : Bool) → (a && b) ≡ true → a ≡ true
and-first true b e = refl
and-first false b e = e

and-second : (a b : Bool) → (a && b) ≡ true → b ≡ true
and-second true b e = e
and-second false b e = absurd (true≢false (sym e))

host_by : (a b c d : Bool) → cond a false (cond b false (c && d)) ≡ true → d ≡ true
host_by true b c d e = absurd (true≢false (sym e))
host_by false true c d e = absurd (true≢false (sym e))
host_by false false c d e = and-second c d e

host-labels : (name : List ℕ) → is_host name ≡ true → list_all is_host_label (labels_in name) ≡ true
unfolding is_host
host-labels name e = host_by (nat_lt 253 (length name)) (is_numeric name) (list_any (λ b. b == 46) name) (list_all is_host_label (labels_in name)) e

label_by : (label : List ℕ) (a b : Bool) → cond (a || b) false (list_all is_label_byte label) ≡ true → (a ≡ false) × (list_all is_label_byte label ≡ true)
label_by label true b e = absurd (true≢false (sym e))
label_by label false true e = absurd (true≢false (sym e))
label_by label false false e = (refl, e)

label-parts : (label : List ℕ) → is_host_label label ≡ true → ((length label == 0) ≡ false) × (list_all is_label_byte label ≡ true)
label-parts label e = label_by label (length label == 0) (nat_lt 63 (length label)) e

-- no label of a host is empty
none-empty : (labels : List (List ℕ)) → list_all is_host_label labels ≡ true → list_any (λ label. length label == 0) labels ≡ false
none-empty [] e = refl
none-empty (label ∷ labels) e =
    ap (λ b. b || list_any (λ one. length one == 0) labels) ((label-parts label (and-first (is_host_label label) (list_all is_host_label labels) e)).0)
    ∙ none-empty labels (and-second (is_host_label label) (list_all is_host_label labels) e)

byte_by : (b : ℕ) (x y z : Bool) → (b == 42) ≡ x → (b == 63) ≡ y → (b == 91) ≡ z → is_label_byte b ≡ true → ((x || y) || z) ≡ false
byte_by b true y z one two three e = absurd (true≢false (sym (ap is_label_byte (sym (eqb-true b 42 one)) ∙ e)))
byte_by b false true z one two three e = absurd (true≢false (sym (ap is_label_byte (sym (eqb-true b 63 two)) ∙ e)))
byte_by b false false true one two three e = absurd (true≢false (sym (ap is_label_byte (sym (eqb-true b 91 three)) ∙ e)))
byte_by b false false false one two three e = refl

tame-byte : (b : ℕ) → is_label_byte b ≡ true → is_wild b ≡ false
tame-byte b e = byte_by b (b == 42) (b == 63) (b == 91) refl refl refl e

tame : (label : List ℕ) → list_all is_label_byte label ≡ true → list_any is_wild label ≡ false
tame [] e = refl
tame (b ∷ label) e =
    ap (λ v. v || list_any is_wild label) (tame-byte b (and-first (is_label_byte b) (list_all is_label_byte label) e)) ∙ tame label (and-second (is_label_byte b) (list_all is_label_byte label) e)

label-plain : (label : List ℕ) → list_any is_wild label ≡ false → label_of label ≡ Some (Plain label)
unfolding label_of
label-plain label e = ap (λ v. cond v (option_map (λ items. Glob items) (items_from None label)) (Some (Plain label))) e

-- the labels of a host stand for themselves
labels-plain : (labels : List (List ℕ)) → list_all is_host_label labels ≡ true → labels_of labels ≡ Some (plain labels)
labels-plain [] e = refl
labels-plain (label ∷ labels) e =
    ap (λ one. with_label one (labels_of labels)) (label-plain label (tame label ((label-parts label (and-first (is_host_label label) (list_all is_host_label labels) e)).1)))
    ∙ ap (option_map (λ more. Plain label ∷ more)) (labels-plain labels (and-second (is_host_label label) (list_all is_host_label labels) e))

-- a text that ends with a dot has an empty label behind it
record EndsEmpty (labels : List (List ℕ)) : Type 0 where
  first : List ℕ
  more : List (List ℕ)
  is : labels ≡ first ∷ more
  any : list_any (λ label. length label == 0) more ≡ true

or-second : (a b : Bool) → b ≡ true → (a || b) ≡ true
or-second true b e = refl
or-second false b e = e

empty_by : (b : ℕ) (bytes : List ℕ) (s : Bool) → EndsEmpty (labels_in bytes) → EndsEmpty (cond s ([] ∷ labels_in bytes) (onto_first b (labels_in bytes)))
empty_by b bytes true has =
    record {
      first = [];
      more = labels_in bytes;
      is = refl;
      any = ap (λ l. list_any (λ label. length label == 0) l) has.is ∙ or-second (length has.first == 0) (list_any (λ label. length label == 0) has.more) has.any;
    }
empty_by b bytes false has = record { first = b ∷ has.first; more = has.more; is = ap (onto_first b) has.is; any = has.any }

last-of : (b c : ℕ) (bytes : List ℕ) → slice_index (b ∷ c ∷ bytes) (length (b ∷ c ∷ bytes) - 1) ≡ slice_index (c ∷ bytes) (length (c ∷ bytes) - 1)
last-of b c bytes =
    let here : length (b ∷ c ∷ bytes) - 1 ≡ suc (length bytes) = omega arith in
    let below : length (c ∷ bytes) - 1 ≡ length bytes = omega arith in
    ap (λ n. slice_index (b ∷ c ∷ bytes) n) here ∙ ap (λ n. slice_index (c ∷ bytes) n) (sym below)

one_by : (b : ℕ) (s : Bool) → is_dot b ≡ s → s ≡ true → EndsEmpty (cond s ([] ∷ ([] ∷ [])) (onto_first b ([] ∷ [])))
one_by b true e one = record { first = []; more = [] ∷ []; is = refl; any = refl }
one_by b false e one = absurd (true≢false (sym one))

ends-empty : (b : ℕ) (bytes : List ℕ) → (slice_index (b ∷ bytes) (length (b ∷ bytes) - 1) == 46) ≡ true → EndsEmpty (labels_in (b ∷ bytes))
ends-empty b [] e = one_by b (is_dot b) refl (ap (λ n. slice_index (b ∷ []) n == 46) (let here : 0 ≡ length (b ∷ []) - 1 = omega arith in here) ∙ e)
ends-empty b (c ∷ bytes) e = empty_by b (c ∷ bytes) (is_dot b) (ends-empty c bytes (ap (λ n. n == 46) (sym (last-of b c bytes)) ∙ e))

ends_by : (b : ℕ) (bytes : List ℕ) (s : Bool) → (slice_index (b ∷ bytes) (length (b ∷ bytes) - 1) == 46) ≡ s → list_any (λ label. length label == 0) (labels_in (b ∷ bytes)) ≡ false → s ≡ false
ends_by b bytes true e none =
    let has : EndsEmpty (labels_in (b ∷ bytes)) = ends-empty b bytes e in
    absurd (true≢false (sym (ap (λ l. list_any (λ label. length label == 0) l) has.is ∙ or-second (length has.first == 0) (list_any (λ label. length label == 0) has.more) has.any) ∙ none))
ends_by b bytes false e none = refl

every_by : (x y z : Bool) → x ≡ false → y ≡ false → (x || (y && z)) ≡ false
every_by true y z one other = absurd (true≢false one)
every_by false true z one other = absurd (true≢false other)
every_by false false z one other = refl

-- the labels of a host behind a dot, open at the front
abbrev dotted : List ℕ → HostLabels
dotted name = record { open_front = true; open_end = false; labels = plain (labels_in name) }

host-dotted : (b : ℕ) (bytes : List ℕ) → list_all is_host_label (labels_in (b ∷ bytes)) ≡ true → host_pattern (46 ∷ b ∷ bytes) ≡ Ok (Labels (dotted (b ∷ bytes)))
unfolding host_pattern
host-dotted b bytes e =
    let none : list_any (λ label. length label == 0) (labels_in (b ∷ bytes)) ≡ false = none-empty (labels_in (b ∷ bytes)) e in
    let away : ends_with_dot (b ∷ bytes) ≡ false = ends_by b bytes (ends_with_dot (b ∷ bytes)) refl none in
    let every : is_every_host (46 ∷ b ∷ bytes) ≡ false =
    every_by (length (46 ∷ b ∷ bytes) == 0) (length (46 ∷ b ∷ bytes) == 1) true (ne_eqb (length (46 ∷ b ∷ bytes)) 0 (λ z. omega (arith, z))) (ne_eqb (length (46 ∷ b ∷ bytes)) 1 (λ z. omega (arith, z))) in
    ap (λ v. cond v (Ok Always) (labels_pattern true (ends_with_dot (46 ∷ b ∷ bytes)) (labels_in (without_last_dot (b ∷ bytes))))) every
    ∙ (ap (λ v. labels_pattern true v (labels_in (without_last_dot (b ∷ bytes)))) (ap (λ n. n == 46) (last-of 46 b bytes) ∙ away)
    ∙ (ap (λ v. labels_pattern true false (labels_in (cond v (take (length (b ∷ bytes) - 1) (b ∷ bytes)) (b ∷ bytes)))) away
    ∙ (ap (λ v. cond v (Err EmptyLabel) (with_labels true false (labels_of (labels_in (b ∷ bytes))))) none
    ∙ ap (with_labels true false) (labels-plain (labels_in (b ∷ bytes)) e))))

-- ---- the URL pattern of a host

one-more : (n : ℕ) → 1 + n ≡ suc n
one-more n = omega arith

before_by : (p : ℕ → Bool) (x : ℕ) (bytes : List ℕ) (s : Bool) → p x ≡ s → (s || list_any p bytes) ≡ false → (list_any p bytes ≡ false → before_first p bytes ≡ bytes) →
    take (cond (not s) (1 + position_or_len p bytes) 0) (x ∷ bytes) ≡ x ∷ bytes
before_by p x bytes true is e below = absurd (true≢false e)
before_by p x bytes false is e below = ap (λ n. take n (x ∷ bytes)) (one-more (position_or_len p bytes)) ∙ ap (λ l. x ∷ l) (below e)

before-none : (p : ℕ → Bool) (bytes : List ℕ) → list_any p bytes ≡ false → before_first p bytes ≡ bytes
before-none p [] e = refl
before-none p (x ∷ bytes) e = before_by p x bytes (p x) refl e (before-none p bytes)

abbrev is_name_byte : ℕ → Bool
is_name_byte b = is_label_byte b || b == 46

foreign_by : (byte b : ℕ) (s : Bool) → (b == byte) ≡ s → is_name_byte byte ≡ false → is_name_byte b ≡ true → s ≡ false
foreign_by byte b true is foreign e = absurd (true≢false (sym e ∙ (ap is_name_byte (eqb-true b byte is) ∙ foreign)))
foreign_by byte b false is foreign e = refl

foreign-none : (byte : ℕ) (bytes : List ℕ) → is_name_byte byte ≡ false → list_all is_name_byte bytes ≡ true → list_any (λ b. b == byte) bytes ≡ false
foreign-none byte [] foreign e = refl
foreign-none byte (b ∷ bytes) foreign e =
    ap (λ v. v || list_any (λ x. x == byte) bytes) (foreign_by byte b (b == byte) refl foreign (and-first (is_name_byte b) (list_all is_name_byte bytes) e))
    ∙ foreign-none byte bytes foreign (and-second (is_name_byte b) (list_all is_name_byte bytes) e)

name-bytes : (name : List ℕ) → list_all is_host_label (labels_in name) ≡ true → list_all is_name_byte name ≡ true
name-bytes name e = passes (λ b. b == 46) is_label_byte name (weaker is_host_label (λ part. list_all is_label_byte part) label-bytes (labels_in name) e)

url-dotted : (b : ℕ) (bytes : List ℕ) → list_all is_host_label (labels_in (b ∷ bytes)) ≡ true →
    url_pattern (46 ∷ b ∷ bytes) ≡ Ok (record { host = Pattern (Labels (dotted (b ∷ bytes))); ports = None; path = None })
unfolding url_pattern ports_of path_expression
url-dotted b bytes e =
    let slashes : list_any begins_path (46 ∷ b ∷ bytes) ≡ false = foreign-none 47 (b ∷ bytes) refl (name-bytes (b ∷ bytes) e) in
    let colons : list_any begins_ports (46 ∷ b ∷ bytes) ≡ false = foreign-none 58 (b ∷ bytes) refl (name-bytes (b ∷ bytes) e) in
    ap (λ part. pattern_of_parts part (path_pattern (46 ∷ b ∷ bytes))) (before-none begins_path (46 ∷ b ∷ bytes) slashes)
    ∙ (ap (λ v. pattern_of_parts (46 ∷ b ∷ bytes) (cond v (Some (47 ∷ after_first begins_path (46 ∷ b ∷ bytes))) None)) slashes
    ∙ (ap (λ part. with_parts (host_pattern part) (ports_of (port_text (46 ∷ b ∷ bytes))) None) (before-none begins_ports (46 ∷ b ∷ bytes) colons)
    ∙ (ap (λ v. with_parts (host_pattern (46 ∷ b ∷ bytes)) (ports_of (cond v (Some (after_first begins_ports (46 ∷ b ∷ bytes))) None)) None) colons
    ∙ ap (λ host. with_host_pattern None host None) (host-dotted b bytes e))))

and-true : (a : Bool) → ((a && true) && true) ≡ a
and-true true = refl
and-true false = refl

-- a host's pattern matches what its name stands for
matched-named : (name : List ℕ) (url : Url) → list_all is_host_label (labels_in name) ≡ true → is_matched name url ≡ is_named_by name (without_end_dot url.host)
unfolding host_matches url_matches
matched-named [] url e = absurd (true≢false (sym e))
matched-named (b ∷ bytes) url e =
    ap (λ r. read_matches r url) (url-dotted b bytes e)
    ∙ (and-true (some_tail (same_labels (labels_in (b ∷ bytes))) (labels_in (without_last_dot url.host))) ∙ named-ends (b ∷ bytes) (without_last_dot url.host))

abbrev IsHostEntry : HostEntry → Type 0
IsHostEntry entry = is_host entry.host ≡ true

any-matched : (entries : List HostEntry) (url : Url) → All IsHostEntry entries → list_any (λ entry. is_named_by entry.host (without_end_dot url.host)) entries ≡ list_any (λ entry. is_matched entry.host url) entries
any-matched [] url held = refl
any-matched (entry ∷ entries) url held =
    ap (λ b. b || list_any (λ one. is_named_by one.host (without_end_dot url.host)) entries) (sym (matched-named entry.host url (host-labels entry.host (All-head IsHostEntry entry entries held))))
    ∙ ap (λ b. is_matched entry.host url || b) (any-matched entries url (All-tail IsHostEntry entry entries held))

-- a URL's host is on a file's list where the pattern of one of its hosts matches the URL
pub listed-matched : (bytes : List ℕ) (url : Url) → is_listed (list_entries bytes) url.host ≡ list_any (λ entry. is_matched entry.host url) (list_entries bytes)
listed-matched bytes url = listed-any (list_entries bytes) url.host ∙ any-matched (list_entries bytes) url (entries-hosts bytes)
