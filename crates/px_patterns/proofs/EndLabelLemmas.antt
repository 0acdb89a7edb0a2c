-- The first and the last label of a host, compared with a text.
use Rattle.std.proofs.Common.{◌≡◌, ◌≢◌, ℕ, zero, suc, ◌+◌, ◌-◌, ◌<◌, ◌≤◌, ◌⊎◌, Bool, true, false, not, ◌&&◌, List, [], ◌∷◌, ◌++◌, length, take, drop, map, refl, ap, sym, ◌∙◌, arith, inl, inr, None, Some, length-append}
use Rattle.std.specs.Prelude.{◌==◌, slice_index, slice_index_or}
use Rattle.std.specs.Char.{eq_ignore_ascii_case, to_ascii_lowercase}
use Rattle.std.specs.List.{list_any, onto_first}
use Rattle.std.specs.Str.{str_eq_ignore_ascii_case}
use Rattle.std.proofs.Math.Seq.{drop-append-add, get_or-append_seam, take-append_seam}
use Rattle.std.proofs.lemmas.Bool.{and_parts, both_ways, cases_Bool, eqb-true, not-true, or_from, or_parts}
use Rattle.std.proofs.lemmas.List.{drop_all, drop_more, length-map, take-append-drop, take_all, take_rest}
use Rattle.std.proofs.lemmas.Slice.Eq.{bytes_eq-Decides}
use Rattle.px_patterns.specs.declared.TheConstants.{DOT}
use Rattle.px_patterns.specs.declared.labels.LabelPattern.TheVariants.{Plain}
use Rattle.px_patterns.specs.Hosts.{HasFirstLabel, HasLast, LacksFirst, LacksLast, is_in_label, is_label, labels_in}
use Rattle.px_patterns.proofs.HostLemmas.{labels_in-last, labels_in-one}

abbrev pub is_dot : ℕ → Bool
is_dot b = b == DOT

-- ---- the walk over a label

pub label_at : (text bytes : List ℕ) (at : ℕ) → at < length text → at < length bytes →
    is_label (drop at text) (drop at bytes) ≡ (is_in_label (slice_index text at) (slice_index bytes at) && is_label (drop (at + 1) text) (drop (at + 1) bytes))
unfolding is_label
label_at text bytes at in_text within =
    ap (λ l. is_label l (drop at bytes)) (drop_more text at 0 in_text) ∙ ap (λ l. is_label (slice_index text at ∷ drop (at + 1) text) l) (drop_more bytes at 0 within)

pub label_past : (text bytes : List ℕ) (at : ℕ) → length text ≤ at → length bytes ≤ at → is_label (drop at text) (drop at bytes) ≡ true
unfolding is_label
label_past text bytes at past_text past = ap (λ l. is_label l (drop at bytes)) (drop_all at text past_text) ∙ ap (is_label []) (drop_all at bytes past)

-- what doesn't hold of the ends doesn't hold of the whole
label_tail : (text bytes : List ℕ) (at : ℕ) → is_label text bytes ≡ true → is_label (drop at text) (drop at bytes) ≡ true
unfolding is_label
label_tail text bytes zero is = is
label_tail [] [] (suc at) is = refl
label_tail [] (b ∷ bytes) (suc at) is = absurd (cc is)
label_tail (a ∷ text) [] (suc at) is = absurd (cc is)
label_tail (a ∷ text) (b ∷ bytes) (suc at) is = label_tail text bytes at (and_parts (is_in_label a b) (is_label text bytes) is).1

pub label_fails : (text bytes : List ℕ) (at : ℕ) → is_label (drop at text) (drop at bytes) ≡ false → is_label text bytes ≡ false
label_fails text bytes at fails = elim (cases_Bool (is_label text bytes)) [
  | inl does ↦ absurd (both_ways (is_label (drop at text) (drop at bytes)) fails (label_tail text bytes at does))
  | inr not_so ↦ not_so
]

-- ---- labels hold no dot

label_same : (text label : List ℕ) → list_any is_dot label ≡ false → is_label text label ≡ str_eq_ignore_ascii_case text label
unfolding is_label
label_same [] [] none = refl
label_same [] (b ∷ label) none = refl
label_same (a ∷ text) [] none = refl
label_same (a ∷ text) (b ∷ label) none =
    let parts = or_parts (b == DOT) (list_any is_dot label) none in
    rw parts.0 (ap (λ t. eq_ignore_ascii_case a b && t) (label_same text label parts.1))

label-no_dot : (text label : List ℕ) → is_label text label ≡ true → list_any is_dot label ≡ false
unfolding is_label
label-no_dot [] [] is = refl
label-no_dot [] (b ∷ label) is = absurd (cc is)
label-no_dot (a ∷ text) [] is = refl
label-no_dot (a ∷ text) (b ∷ label) is =
    let parts = and_parts (is_in_label a b) (is_label text label) is in
    or_from (b == DOT) (list_any is_dot label) (not-true (b == DOT) (and_parts (not (b == DOT)) (eq_ignore_ascii_case a b) parts.0).0) (label-no_dot text label parts.1)

pub no_dot_at : (label : List ℕ) → list_any is_dot label ≡ false → (k d : ℕ) → k < length label → (slice_index_or label k d == DOT) ≡ false
no_dot_at [] none k d short = absurd (omega arith)
no_dot_at (b ∷ label) none zero d short = (or_parts (b == DOT) (list_any is_dot label) none).0
no_dot_at (b ∷ label) none (suc k) d short = no_dot_at label (or_parts (b == DOT) (list_any is_dot label) none).1 k d (omega arith)

pub alone : (bytes : List ℕ) → list_any is_dot bytes ≡ false → labels_in bytes ≡ bytes ∷ []
alone bytes none = labels_in-one bytes (no_dot_at bytes none)

same_length : (text label : List ℕ) → str_eq_ignore_ascii_case text label ≡ true → length text ≡ length label
same_length text label same =
    sym (length-map text to_ascii_lowercase) ∙ ap length ((bytes_eq-Decides (map to_ascii_lowercase text) (map to_ascii_lowercase label)).0 same) ∙ length-map label to_ascii_lowercase

-- ---- the last label

-- a list holds no dot, or is cut at its last one
last_dot : (bytes : List ℕ) → (list_any is_dot bytes ≡ false) ⊎ ((front : List ℕ) × (label : List ℕ) × (bytes ≡ front ++ DOT ∷ label) × (list_any is_dot label ≡ false))
last_dot [] = inl refl
last_dot (b ∷ bytes) = elim (last_dot bytes) [
  | inl none ↦ elim (cases_Bool (b == DOT)) [
    | inl does ↦ inr ([], bytes, ap (λ x. x ∷ bytes) (eqb-true b DOT does), none)
    | inr fails ↦ inl (or_from (b == DOT) (list_any is_dot bytes) fails none)
  ]
  | inr found ↦ inr (b ∷ found.0, found.1, ap (λ l. b ∷ l) found.2, found.3)
]

-- the walk from the end
pub no_dot_behind : (bytes : List ℕ) → list_any is_dot (drop (length bytes) bytes) ≡ false
no_dot_behind bytes = ap (list_any is_dot) (drop_all (length bytes) bytes (omega arith))

pub cut_at_last : (bytes : List ℕ) (start : ℕ) → 0 < start → start ≤ length bytes → slice_index bytes (start - 1) ≡ DOT → list_any is_dot (drop start bytes) ≡ false →
    labels_in bytes ≡ labels_in (take (start - 1) bytes) ++ take (length bytes - start) (drop start bytes) ∷ []
cut_at_last bytes start some within dot none =
    let next : start - 1 + 1 ≡ start = omega (arith, some) in
    let split : bytes ≡ take (start - 1) bytes ++ DOT ∷ drop start bytes =
    sym (take-append-drop (start - 1) bytes)
    ∙ (ap (λ l. take (start - 1) bytes ++ l) (drop_more bytes (start - 1) 0 (omega (arith, some, within)))
    ∙ (ap (λ b. take (start - 1) bytes ++ b ∷ drop (start - 1 + 1) bytes) dot ∙ ap (λ n. take (start - 1) bytes ++ DOT ∷ drop n bytes) next)) in
    ap labels_in split
    ∙ (labels_in-last (take (start - 1) bytes) (drop start bytes) (no_dot_at (drop start bytes) none)
    ∙ ap (λ l. labels_in (take (start - 1) bytes) ++ l ∷ []) (sym (take_rest bytes start)))

-- where the text stands at the end, it isn't the whole, and another byte than a dot stands before it
abbrev pub StandsInside : List ℕ → List ℕ → Type 0
StandsInside text bytes = (start : ℕ) → start + length text ≡ length bytes → is_label text (drop start bytes) ≡ true → (start ≢ 0) × (slice_index bytes (start - 1) ≢ DOT)

fails_unless : (text label : List ℕ) → ¬ (str_eq_ignore_ascii_case text label ≡ true) → str_eq_ignore_ascii_case text label ≡ false
fails_unless text label other = elim (cases_Bool (str_eq_ignore_ascii_case text label)) [ inl same ↦ absurd (other same) | inr fails ↦ fails ]

pub lacks_last : (text bytes : List ℕ) → StandsInside text bytes → LacksLast (Plain text) bytes
lacks_last text bytes inside = elim (last_dot bytes) [
  | inl none ↦ record {
    front = None;
    label = bytes;
    cut = labels_in-one bytes (no_dot_at bytes none);
    fails = fails_unless text bytes (λ same. (inside 0 (omega (arith, same_length text bytes same)) (label_same text bytes none ∙ same)).0 refl);
  }
  | inr found ↦ record {
    front = Some found.0;
    label = found.1;
    cut = ap labels_in found.2 ∙ labels_in-last found.0 found.1 (no_dot_at found.1 found.3);
    fails = fails_unless text found.1
        (λ same.
        let whole : length found.0 + 1 + length text ≡ length bytes = omega (arith, same_length text found.1 same, ap length found.2, length-append found.0 (DOT ∷ found.1)) in
        let back : drop (length found.0 + 1) bytes ≡ found.1 = ap (drop (length found.0 + 1)) found.2 ∙ drop-append-add found.0 (DOT ∷ found.1) 1 in
        let before : slice_index bytes (length found.0 + 1 - 1) ≡ DOT =
        ap (slice_index bytes) (omega arith) ∙ (ap (λ l. slice_index l (length found.0)) found.2 ∙ get_or-append_seam found.0 DOT found.1 0) in
        (inside (length found.0 + 1) whole (ap (is_label text) back ∙ (label_same text found.1 found.3 ∙ same))).1 before);
  }
]

pub has_last_alone : (text bytes : List ℕ) → is_label text bytes ≡ true → HasLast (Plain text) bytes None
has_last_alone text bytes is =
    let none = label-no_dot text bytes is in
    record { label = bytes; cut = labels_in-one bytes (no_dot_at bytes none); fits = sym (label_same text bytes none) ∙ is }

pub has_last : (text bytes : List ℕ) (at : ℕ) → at < length bytes → slice_index bytes at ≡ DOT → is_label text (drop (at + 1) bytes) ≡ true → HasLast (Plain text) bytes (Some (take at bytes))
has_last text bytes at within dot is =
    let none = label-no_dot text (drop (at + 1) bytes) is in
    let split : bytes ≡ take at bytes ++ DOT ∷ drop (at + 1) bytes =
    sym (take-append-drop at bytes) ∙ (ap (λ l. take at bytes ++ l) (drop_more bytes at 0 within) ∙ ap (λ b. take at bytes ++ b ∷ drop (at + 1) bytes) dot) in
    record {
      label = drop (at + 1) bytes;
      cut = ap labels_in split ∙ labels_in-last (take at bytes) (drop (at + 1) bytes) (no_dot_at (drop (at + 1) bytes) none);
      fits = sym (label_same text (drop (at + 1) bytes) none) ∙ is;
    }

-- ---- the first label

-- a list holds no dot, or is cut at its first one
pub first_dot : (bytes : List ℕ) → (list_any is_dot bytes ≡ false) ⊎ ((label : List ℕ) × (behind : List ℕ) × (bytes ≡ label ++ DOT ∷ behind) × (list_any is_dot label ≡ false))
first_dot [] = inl refl
first_dot (b ∷ bytes) = elim (cases_Bool (b == DOT)) [
  | inl does ↦ inr ([], bytes, ap (λ x. x ∷ bytes) (eqb-true b DOT does), refl)
  | inr fails ↦ elim (first_dot bytes) [
    | inl none ↦ inl (or_from (b == DOT) (list_any is_dot bytes) fails none)
    | inr found ↦ inr (b ∷ found.0, found.1, ap (λ l. b ∷ l) found.2, or_from (b == DOT) (list_any is_dot found.0) fails found.3)
  ]
]

-- a text is cut at its first dot
pub labels_in-first : (label behind : List ℕ) → list_any is_dot label ≡ false → labels_in (label ++ DOT ∷ behind) ≡ label ∷ labels_in behind
labels_in-first [] behind none = refl
labels_in-first (b ∷ label) behind none =
    let parts = or_parts (b == DOT) (list_any is_dot label) none in
    rw parts.0 (ap (onto_first b) (labels_in-first label behind parts.1))

-- where the text stands at the front, it isn't the whole, and another byte than a dot follows
abbrev pub StandsBefore : List ℕ → List ℕ → Type 0
StandsBefore text bytes = length text ≤ length bytes → is_label text (take (length text) bytes) ≡ true → (length bytes ≢ length text) × (slice_index bytes (length text) ≢ DOT)

pub lacks_first : (text bytes : List ℕ) → StandsBefore text bytes → LacksFirst (Plain text) bytes
lacks_first text bytes before = elim (first_dot bytes) [
  | inl none ↦ record {
    label = bytes;
    behind = None;
    cut = labels_in-one bytes (no_dot_at bytes none);
    fails = fails_unless text bytes
        (λ same.
        let long = same_length text bytes same in
        (before (omega (arith, long)) (ap (is_label text) (take_all (length text) bytes (omega (arith, long))) ∙ (label_same text bytes none ∙ same))).0 (sym long));
  }
  | inr found ↦ record {
    label = found.0;
    behind = Some found.1;
    cut = ap labels_in found.2 ∙ labels_in-first found.0 found.1 found.3;
    fails = fails_unless text found.0
        (λ same.
        let long = same_length text found.0 same in
        let whole : length text ≤ length bytes = omega (arith, long, ap length found.2, length-append found.0 (DOT ∷ found.1)) in
        let front : take (length text) bytes ≡ found.0 = ap (λ n. take n bytes) long ∙ (ap (take (length found.0)) found.2 ∙ take-append_seam found.0 (DOT ∷ found.1)) in
        let next : slice_index bytes (length text) ≡ DOT = ap (slice_index bytes) long ∙ (ap (λ l. slice_index l (length found.0)) found.2 ∙ get_or-append_seam found.0 DOT found.1 0) in
        (before whole (ap (is_label text) front ∙ (label_same text found.0 found.3 ∙ same))).1 next);
  }
]

pub has_first_alone : (text bytes : List ℕ) → length bytes ≡ length text → is_label text (take (length text) bytes) ≡ true → HasFirstLabel (Plain text) bytes None
has_first_alone text bytes long is =
    let here : is_label text bytes ≡ true = ap (is_label text) (sym (take_all (length text) bytes (omega (arith, long)))) ∙ is in
    let none = label-no_dot text bytes here in
    record { label = bytes; cut = labels_in-one bytes (no_dot_at bytes none); fits = sym (label_same text bytes none) ∙ here }

pub has_first : (text bytes : List ℕ) → length text < length bytes → slice_index bytes (length text) ≡ DOT → is_label text (take (length text) bytes) ≡ true → HasFirstLabel (Plain text) bytes (Some (drop (length text + 1) bytes))
has_first text bytes within dot is =
    let none = label-no_dot text (take (length text) bytes) is in
    let split : bytes ≡ take (length text) bytes ++ DOT ∷ drop (length text + 1) bytes =
    sym (take-append-drop (length text) bytes)
    ∙ (ap (λ l. take (length text) bytes ++ l) (drop_more bytes (length text) 0 within) ∙ ap (λ b. take (length text) bytes ++ b ∷ drop (length text + 1) bytes) dot) in
    record {
      label = take (length text) bytes;
      cut = ap labels_in split ∙ labels_in-first (take (length text) bytes) (drop (length text + 1) bytes) none;
      fits = sym (label_same text (take (length text) bytes) none) ∙ is;
    }
