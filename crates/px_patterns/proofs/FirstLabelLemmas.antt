-- The first label of a host, and what a walk over items says of it.
use Rattle.std.proofs.Common.{◌≡◌, ◌≢◌, ℕ, ◌+◌, ◌-◌, ◌<◌, ◌≤◌, true, false, ◌&&◌, List, [], ◌∷◌, ◌++◌, length, take, drop, refl, ap, sym, ◌∙◌, subst, arith, inl, inr, Option, None, Some}
use Rattle.std.specs.Prelude.{◌==◌, MatchOption, slice_index, slice_index_or}
use Rattle.std.specs.List.{list_any, onto_first}
use Rattle.std.proofs.lemmas.Bool.{and_from, ne_eqb}
use Rattle.std.proofs.lemmas.List.{drop_all, drop_more, take-append-drop, take_rest}
use Rattle.px_base.specs.Cuts.{parts_of}
use Rattle.px_patterns.specs.declared.TheConstants.{DOT}
use Rattle.px_patterns.specs.declared.labels.LabelItem.{LabelItem}
use Rattle.px_patterns.specs.declared.labels.LabelPattern.TheVariants.{Glob}
use Rattle.px_patterns.specs.Globs.{glob_matches, takes}
use Rattle.px_patterns.specs.Hosts.{HasFirstLabel, LacksFirst, labels_in}
use Rattle.px_patterns.specs.Runs.{is_run}
use Rattle.px_patterns.proofs.EndLabelLemmas.{alone, first_dot, is_dot, labels_in-first}
use Rattle.px_patterns.proofs.GlobLemmas.{glob-fixed, item_at}
use Rattle.px_patterns.proofs.OptionLemmas.{MatchOption-weaker}

-- ---- the first label

pub cut_at_first : (bytes : List ℕ) (at : ℕ) → at < length bytes → slice_index bytes at ≡ DOT → list_any is_dot (take at bytes) ≡ false → labels_in bytes ≡ take at bytes ∷ labels_in (drop (at + 1) bytes)
cut_at_first bytes at within dot none =
    let split : bytes ≡ take at bytes ++ DOT ∷ drop (at + 1) bytes =
    sym (take-append-drop at bytes) ∙ (ap (λ l. take at bytes ++ l) (drop_more bytes at 0 within) ∙ ap (λ b. take at bytes ++ b ∷ drop (at + 1) bytes) dot) in
    ap labels_in split ∙ labels_in-first (take at bytes) (drop (at + 1) bytes) none

label_of_front : (bytes : List ℕ) → (label : List ℕ) × (behind : Option (List ℕ)) × (labels_in bytes ≡ label ∷ parts_of DOT behind)
label_of_front bytes = elim (first_dot bytes) [
  | inl none ↦ (bytes, None, alone bytes none)
  | inr found ↦ (found.0, Some found.1, ap labels_in found.2 ∙ labels_in-first found.0 found.1 found.3)
]

-- a byte before the first label, or a dot
labels_in-byte : (b : ℕ) (bytes label : List ℕ) (behind : Option (List ℕ)) → b ≢ DOT → labels_in bytes ≡ label ∷ parts_of DOT behind → labels_in (b ∷ bytes) ≡ (b ∷ label) ∷ parts_of DOT behind
labels_in-byte b bytes label behind other cut = let fails : (b == DOT) ≡ false = ne_eqb b DOT other in rw fails (ap (onto_first b) cut)

labels_in-dot : (b : ℕ) (bytes : List ℕ) → b ≡ DOT → labels_in (b ∷ bytes) ≡ [] ∷ labels_in bytes
labels_in-dot b bytes dot = ap (λ x. labels_in (x ∷ bytes)) dot ∙ labels_in-first [] bytes refl

-- ---- no items

pub has_empty : (bytes : List ℕ) → length bytes ≡ 0 → HasFirstLabel (Glob []) bytes None
unfolding glob_matches
has_empty [] none = record { label = []; cut = refl; fits = refl }
has_empty (b ∷ bytes) none = absurd (omega (arith, none))

pub has_dot : (bytes : List ℕ) → (length bytes ≡ 0 → ⊥) → slice_index bytes 0 ≡ DOT → HasFirstLabel (Glob []) bytes (Some (take (length bytes - 1) (drop 1 bytes)))
unfolding glob_matches
has_dot [] some dot = absurd (some refl)
has_dot (b ∷ bytes) some dot = record { label = []; cut = labels_in-dot b bytes dot ∙ ap (λ l. [] ∷ labels_in l) (sym (take_rest (b ∷ bytes) 1)); fits = refl }

pub lacks_empty : (bytes : List ℕ) → (length bytes ≡ 0 → ⊥) → slice_index bytes 0 ≢ DOT → LacksFirst (Glob []) bytes
unfolding glob_matches
lacks_empty [] some other = absurd (some refl)
lacks_empty (b ∷ bytes) some other =
    let front = label_of_front bytes in
    record { label = b ∷ front.0; behind = front.1; cut = labels_in-byte b bytes front.0 front.1 other front.2; fails = ne_eqb (length (b ∷ front.0)) 0 (λ e. omega (arith, e)) }

-- ---- an item that stands for one byte

has_more : (item : LabelItem) (items : List LabelItem) (b : ℕ) (bytes : List ℕ) (behind : Option (List ℕ)) → is_run item ≡ false → takes item b ≡ true → b ≢ DOT → HasFirstLabel (Glob items) bytes behind →
    HasFirstLabel (Glob (item ∷ items)) (b ∷ bytes) behind
has_more item items b bytes behind fixed taken other rest = record {
  label = b ∷ rest.label;
  cut = labels_in-byte b bytes rest.label behind other rest.cut;
  fits = glob-fixed item items (b ∷ rest.label) fixed ∙ and_from (takes item b) (glob_matches items rest.label) taken rest.fits;
}

lacks_more : (item : LabelItem) (items : List LabelItem) (b : ℕ) (bytes : List ℕ) → is_run item ≡ false → takes item b ≡ true → b ≢ DOT → LacksFirst (Glob items) bytes → LacksFirst (Glob (item ∷ items)) (b ∷ bytes)
lacks_more item items b bytes fixed taken other rest = record {
  label = b ∷ rest.label;
  behind = rest.behind;
  cut = labels_in-byte b bytes rest.label rest.behind other rest.cut;
  fails = glob-fixed item items (b ∷ rest.label) fixed ∙ (ap (λ t. t && glob_matches items rest.label) taken ∙ rest.fails);
}

lacks_byte : (item : LabelItem) (items : List LabelItem) (b : ℕ) (bytes : List ℕ) → is_run item ≡ false → takes item b ≡ false → b ≢ DOT → LacksFirst (Glob (item ∷ items)) (b ∷ bytes)
lacks_byte item items b bytes fixed refused other =
    let front = label_of_front bytes in
    record {
      label = b ∷ front.0;
      behind = front.1;
      cut = labels_in-byte b bytes front.0 front.1 other front.2;
      fails = glob-fixed item items (b ∷ front.0) fixed ∙ ap (λ t. t && glob_matches items front.0) refused;
    }

lacks_dot : (item : LabelItem) (items : List LabelItem) (b : ℕ) (bytes : List ℕ) → is_run item ≡ false → b ≡ DOT → LacksFirst (Glob (item ∷ items)) (b ∷ bytes)
lacks_dot item items b bytes fixed dot = record { label = []; behind = Some bytes; cut = labels_in-dot b bytes dot; fails = glob-fixed item items [] fixed }

lacks_end : (item : LabelItem) (items : List LabelItem) → is_run item ≡ false → LacksFirst (Glob (item ∷ items)) []
lacks_end item items fixed = record { label = []; behind = None; cut = refl; fails = glob-fixed item items [] fixed }

-- ---- the walk over items and bytes

-- the items before this place take the bytes before it, none of them a dot: what holds of the rest holds of the whole
pub record Reaches (items : List LabelItem) (bytes : List ℕ) (at : ℕ) : Type 0 where
  pub in_items : at ≤ length items
  pub within : at ≤ length bytes
  pub has : (behind : Option (List ℕ)) → HasFirstLabel (Glob (drop at items)) (drop at bytes) behind → HasFirstLabel (Glob items) bytes behind
  pub lacks : LacksFirst (Glob (drop at items)) (drop at bytes) → LacksFirst (Glob items) bytes

pub reaches_front : (items : List LabelItem) (bytes : List ℕ) → Reaches items bytes 0
reaches_front items bytes = record { in_items = omega arith; within = omega arith; has = λ behind rest. rest; lacks = λ rest. rest }

pub reaches_next : (items : List LabelItem) (bytes : List ℕ) (at : ℕ) (item : LabelItem) → at < length items → at < length bytes → item ≡ slice_index_or items at item → is_run item ≡ false →
    takes item (slice_index bytes at) ≡ true → slice_index bytes at ≢ DOT → Reaches items bytes at → Reaches items bytes (at + 1)
reaches_next items bytes at item in_items within is fixed taken other reached =
    let items_at : item ∷ drop (at + 1) items ≡ drop at items = sym (item_at items at item in_items is) in
    let bytes_at : slice_index bytes at ∷ drop (at + 1) bytes ≡ drop at bytes = sym (drop_more bytes at 0 within) in
    record {
      in_items = omega arith;
      within = omega arith;
      has = λ behind rest. reached.has behind
          (subst (λ l. HasFirstLabel (Glob l) (drop at bytes) behind) items_at
          (subst (λ l. HasFirstLabel (Glob (item ∷ drop (at + 1) items)) l behind) bytes_at
          (has_more item (drop (at + 1) items) (slice_index bytes at) (drop (at + 1) bytes) behind fixed taken other rest)));
      lacks = λ rest. reached.lacks
          (subst (λ l. LacksFirst (Glob l) (drop at bytes)) items_at
          (subst (λ l. LacksFirst (Glob (item ∷ drop (at + 1) items)) l) bytes_at
          (lacks_more item (drop (at + 1) items) (slice_index bytes at) (drop (at + 1) bytes) fixed taken other rest)));
    }

-- what is found of the rest
pub reached_rest : {X : Type 0} (r : Option X) (shown : X → Option (List ℕ)) (items more : List LabelItem) (bytes rest : List ℕ) (at : ℕ) → Reaches items bytes at → more ≡ drop at items → rest ≡ drop at bytes →
    MatchOption r (LacksFirst (Glob more) rest) (λ x. HasFirstLabel (Glob more) rest (shown x)) → MatchOption r (LacksFirst (Glob items) bytes) (λ x. HasFirstLabel (Glob items) bytes (shown x))
reached_rest r shown items more bytes rest at reached same_items same_bytes fact =
    MatchOption-weaker r fact
    (λ lacks. reached.lacks (subst (λ l. LacksFirst (Glob l) (drop at bytes)) same_items (subst (λ l. LacksFirst (Glob more) l) same_bytes lacks)))
    (λ x has. reached.has (shown x) (subst (λ l. HasFirstLabel (Glob l) (drop at bytes) (shown x)) same_items (subst (λ l. HasFirstLabel (Glob more) l (shown x)) same_bytes has)))

lacks_from : (items : List LabelItem) (bytes : List ℕ) (at : ℕ) (item : LabelItem) (rest : List ℕ) → at < length items → item ≡ slice_index_or items at item → drop at bytes ≡ rest → Reaches items bytes at →
    LacksFirst (Glob (item ∷ drop (at + 1) items)) rest → LacksFirst (Glob items) bytes
lacks_from items bytes at item rest in_items is same reached lacks =
    reached.lacks
    (subst (λ l. LacksFirst (Glob l) (drop at bytes)) (sym (item_at items at item in_items is))
    (subst (λ l. LacksFirst (Glob (item ∷ drop (at + 1) items)) l) (sym same) lacks))

pub ends_at : (items : List LabelItem) (bytes : List ℕ) (at : ℕ) (item : LabelItem) → at < length items → item ≡ slice_index_or items at item → is_run item ≡ false → at ≡ length bytes → Reaches items bytes at → LacksFirst (Glob items) bytes
ends_at items bytes at item in_items is fixed end reached =
    lacks_from items bytes at item [] in_items is (drop_all at bytes (omega (arith, end))) reached (lacks_end item (drop (at + 1) items) fixed)

pub dot_at : (items : List LabelItem) (bytes : List ℕ) (at : ℕ) (item : LabelItem) → at < length items → at < length bytes → item ≡ slice_index_or items at item → is_run item ≡ false → slice_index bytes at ≡ DOT →
    Reaches items bytes at → LacksFirst (Glob items) bytes
dot_at items bytes at item in_items within is fixed dot reached =
    lacks_from items bytes at item (slice_index bytes at ∷ drop (at + 1) bytes) in_items is (drop_more bytes at 0 within) reached
    (lacks_dot item (drop (at + 1) items) (slice_index bytes at) (drop (at + 1) bytes) fixed dot)

pub refused_at : (items : List LabelItem) (bytes : List ℕ) (at : ℕ) (item : LabelItem) → at < length items → at < length bytes → item ≡ slice_index_or items at item → is_run item ≡ false →
    takes item (slice_index bytes at) ≡ false → slice_index bytes at ≢ DOT → Reaches items bytes at → LacksFirst (Glob items) bytes
refused_at items bytes at item in_items within is fixed refused other reached =
    lacks_from items bytes at item (slice_index bytes at ∷ drop (at + 1) bytes) in_items is (drop_more bytes at 0 within) reached
    (lacks_byte item (drop (at + 1) items) (slice_index bytes at) (drop (at + 1) bytes) fixed refused other)
