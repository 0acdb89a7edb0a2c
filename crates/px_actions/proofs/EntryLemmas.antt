-- What entries keep of the settings of kinds.
use Rattle.std.proofs.Common.{◌≡◌, ◌≢◌, ℕ, ◌<◌, Bool, true, false, List, [], ◌∷◌, ◌++◌, length, None, Some, refl, sym, ap, subst, ◌∙◌, inl, inr, ◌⊎◌, arith, get_or, zero, suc, length-set}
use Rattle.std.specs.Prelude.{◌==◌, ◌≤◌, if◌then◌else◌, nat_lt, slice_set}
use Rattle.std.specs.List.{position, position_or_len}
use Rattle.std.proofs.lemmas.List.{get_or-set_same, get_or-set_other, set-set, set_comm, set-get_or}
use Rattle.std.proofs.lemmas.List.Quantifiers.{position-Some}
use Rattle.std.proofs.lemmas.List.Sums.{fails_before_first}
use Rattle.std.proofs.lemmas.Bool.{cases_eq}
use Rattle.std.proofs.lemmas.Bool.Decides.{nat_tests}
use Rattle.px_actions.specs.Kinds.{entry_of}
use Rattle.px_actions.specs.Shapes.{TakesMemory}
use Rattle.px_actions.specs.Sets.{changed_setting, empty_set, empty_setting, setting_of, updated}
use Rattle.px_actions.specs.Tables.{AreMarked, first_entry, is_of_kind, settings_in}
use Rattle.px_actions.proofs.SetLemmas.{length-empty_set, setting_of-empty}
use Rattle.px_actions.proofs.Table.{place_within}
use Rattle.px_actions.proofs.TableLemmas.{unchanged_empty}
use Rattle.px_actions.specs.declared.kinds.Kind.{Kind}
use Rattle.px_actions.specs.declared.kinds.Shape.TheVariants as shape
use Rattle.px_actions.specs.declared.changes.Change.{Change}
use Rattle.px_actions.specs.declared.changes.Change.TheVariants as change
use Rattle.px_actions.specs.declared.entries.SetEntry.{SetEntry}
use Rattle.px_actions.specs.declared.settings.Setting.{Setting}
use Rattle.px_actions.specs.declared.settings.Setting.TheVariants as setting

length-settings_in : (entries : List SetEntry) → length (settings_in entries) ≡ 41
length-settings_in [] = length-empty_set
length-settings_in (e ∷ entries) = length-set (settings_in entries) (entry_of e.kind).place e.setting ∙ length-settings_in entries

-- the first entry of a kind stands there
record IsFirst (k : Kind) (entries : List SetEntry) (at : ℕ) : Type 0 where
  pub within : at < length entries
  pub of : (d : SetEntry) → is_of_kind k (get_or entries at d) ≡ true
  pub before : (i : ℕ) (d : SetEntry) → i < at → is_of_kind k (get_or entries i d) ≡ false

-- no entry is of a kind
abbrev HasNone : Kind → List SetEntry → Type 0
HasNone k entries = (i : ℕ) (d : SetEntry) → i < length entries → is_of_kind k (get_or entries i d) ≡ false

same_at : (a b : ℕ) → (a == b) ≡ true → a ≡ b
same_at a b h = grind (arith, nat_tests)

other_at : (a b : ℕ) → (a == b) ≡ false → a ≢ b
other_at a b h = grind (arith, nat_tests)

-- ---- what is read

read_none : (entries : List SetEntry) (k : Kind) (d : Setting) → HasNone k entries → get_or (settings_in entries) (entry_of k).place d ≡ get_or empty_set (entry_of k).place d
read_none [] k d none = refl
read_none (e ∷ entries) k d none =
    let ne : (entry_of k).place ≢ (entry_of e.kind).place = λ same. other_at _ _ (none 0 e (omega arith)) (sym same) in
    get_or-set_other (settings_in entries) (entry_of e.kind).place (entry_of k).place e.setting d ne
    ∙ read_none entries k d (λ i x lt. none (suc i) x (omega arith))

read_first : (entries : List SetEntry) (k : Kind) (at : ℕ) (d : Setting) (x : SetEntry) → IsFirst k entries at → get_or (settings_in entries) (entry_of k).place d ≡ (get_or entries at x).setting
read_first [] k at d x h = absurd (omega (arith, h.within))
read_first (e ∷ entries) k zero d x h =
    let same : (entry_of e.kind).place ≡ (entry_of k).place = same_at _ _ (h.of e) in
    let within : (entry_of k).place < length (settings_in entries) = rw (length-settings_in entries) (place_within k) in
    rw same (get_or-set_same (settings_in entries) (entry_of k).place e.setting d within)
read_first (e ∷ entries) k (suc at) d x h =
    let ne : (entry_of k).place ≢ (entry_of e.kind).place = λ same. other_at _ _ (h.before 0 e (omega arith)) (sym same) in
    get_or-set_other (settings_in entries) (entry_of e.kind).place (entry_of k).place e.setting d ne
    ∙ read_first entries k at d x (record { within = omega (arith, h.within); of = h.of; before = λ i y lt. h.before (suc i) y (omega arith) })

-- ---- what is changed

put_first : (entries : List SetEntry) (k : Kind) (at : ℕ) (new : SetEntry) → IsFirst k entries at → (entry_of new.kind).place ≡ (entry_of k).place
    → settings_in (slice_set entries at new) ≡ slice_set (settings_in entries) (entry_of k).place new.setting
put_first [] k at new h same = absurd (omega (arith, h.within))
put_first (e ∷ entries) k zero new h same =
    let here : (entry_of e.kind).place ≡ (entry_of k).place = same_at _ _ (h.of e) in
    rw (same, here) (sym (set-set (settings_in entries) (entry_of k).place e.setting new.setting))
put_first (e ∷ entries) k (suc at) new h same =
    let ne : (entry_of k).place ≢ (entry_of e.kind).place = λ p. other_at _ _ (h.before 0 e (omega arith)) (sym p) in
    ap (λ (s : List Setting). slice_set s (entry_of e.kind).place e.setting)
    (put_first entries k at new (record { within = omega (arith, h.within); of = h.of; before = λ i y lt. h.before (suc i) y (omega arith) }) same)
    ∙ set_comm (settings_in entries) (entry_of k).place (entry_of e.kind).place new.setting e.setting ne

put_last : (entries : List SetEntry) (k : Kind) (new : SetEntry) → HasNone k entries → (entry_of new.kind).place ≡ (entry_of k).place
    → settings_in (entries ++ new ∷ []) ≡ slice_set (settings_in entries) (entry_of k).place new.setting
put_last [] k new none same = ap (λ (at : ℕ). slice_set empty_set at new.setting) same
put_last (e ∷ entries) k new none same =
    let ne : (entry_of k).place ≢ (entry_of e.kind).place = λ p. other_at _ _ (none 0 e (omega arith)) (sym p) in
    ap (λ (s : List Setting). slice_set s (entry_of e.kind).place e.setting)
    (put_last entries k new (λ i x lt. none (suc i) x (omega arith)) same)
    ∙ set_comm (settings_in entries) (entry_of k).place (entry_of e.kind).place new.setting e.setting ne

-- ---- what the place of an entry tells

first_of_place : (entries : List SetEntry) (k : Kind) (at : ℕ) → position (is_of_kind k) entries ≡ Some at → IsFirst k entries at
first_of_place entries k at h = record {
  within = (position-Some (is_of_kind k) entries at (first_entry k change.On) h).0;
  of = λ d. (position-Some (is_of_kind k) entries at d h).1;
  before = λ i d lt. (position-Some (is_of_kind k) entries at d h).2 i lt;
}

not_below : (a b : ℕ) → (if nat_lt a b then Some a else None) ≡ None → b ≤ a
not_below a b h = grind (arith, nat_tests)

none_of_place : (entries : List SetEntry) (k : Kind) → position (is_of_kind k) entries ≡ None → HasNone k entries
none_of_place entries k h i d lt =
    fails_before_first (is_of_kind k) entries i d (omega (arith, not_below (position_or_len (is_of_kind k) entries) (length entries) h))

pub setting_first : (entries : List SetEntry) (k : Kind) (at : ℕ) (d : SetEntry) → position (is_of_kind k) entries ≡ Some at → setting_of (settings_in entries) k ≡ (get_or entries at d).setting
setting_first entries k at d h = read_first entries k at (setting.Flag false) d (first_of_place entries k at h)

pub setting_none : (entries : List SetEntry) (k : Kind) → position (is_of_kind k) entries ≡ None → setting_of (settings_in entries) k ≡ empty_setting (entry_of k).shape
setting_none entries k h = read_none entries k (setting.Flag false) (none_of_place entries k h) ∙ setting_of-empty k

-- an entry's change is that of its kind
pub entry_changed : (entries : List SetEntry) (k : Kind) (at : ℕ) (change : Change) (new d : SetEntry) → position (is_of_kind k) entries ≡ Some at → new.kind ≡ (get_or entries at d).kind
    → new.setting ≡ changed_setting (get_or entries at d).setting change → settings_in (slice_set entries at new) ≡ updated (settings_in entries) k change
unfolding updated
entry_changed entries k at change new d h same is =
    let first = first_of_place entries k at h in
    put_first entries k at new first (ap (λ (j : Kind). (entry_of j).place) same ∙ same_at _ _ (first.of d))
    ∙ ap (λ (s : Setting). slice_set (settings_in entries) (entry_of k).place s) (is ∙ ap (λ (s : Setting). changed_setting s change) (sym (setting_first entries k at d h)))

pub entry_added : (entries new : List SetEntry) (k : Kind) (change : Change) → position (is_of_kind k) entries ≡ None → new ≡ entries ++ first_entry k change ∷ []
    → settings_in new ≡ updated (settings_in entries) k change
unfolding updated
entry_added entries new k change h is =
    ap settings_in is
    ∙ put_last entries k (first_entry k change) (none_of_place entries k h) refl
    ∙ ap (λ (s : Setting). slice_set (settings_in entries) (entry_of k).place (changed_setting s change)) (sym (setting_none entries k h))

-- where a kind has no entry, a change that takes no memory changes nothing
pub entry_still : (entries : List SetEntry) (k : Kind) (change : Change) → position (is_of_kind k) entries ≡ None → (entry_of k).shape ≢ shape.Flag → (TakesMemory change → ⊥)
    → settings_in entries ≡ updated (settings_in entries) k change
unfolding updated
entry_still entries k change h ne free =
    let is = setting_none entries k h in
    let same : changed_setting (setting_of (settings_in entries) k) change ≡ setting_of (settings_in entries) k =
    ap (λ (s : Setting). changed_setting s change) is ∙ unchanged_empty (entry_of k).shape change ne free ∙ sym is in
    sym (ap (λ (s : Setting). slice_set (settings_in entries) (entry_of k).place s) same ∙ set-get_or (settings_in entries) (entry_of k).place (setting.Flag false))

-- ---- marks

unmarked-length : (marks : List Bool) (entries : List SetEntry) (k : Kind) → AreMarked marks entries → get_or marks (entry_of k).place false ≡ false
    → position_or_len (is_of_kind k) entries ≡ length entries
unmarked-length marks [] k h off = refl
unmarked-length marks (e ∷ entries) k h off =
    let on : get_or marks (entry_of e.kind).place false ≡ true = grind arith in
    let ne : (entry_of e.kind).place ≢ (entry_of k).place = λ same. let e : true ≡ false = sym on ∙ (ap (λ (at : ℕ). get_or marks at false) same ∙ off) in (cc) in
    let other : is_of_kind k e ≡ false = grind (arith, nat_tests) in
    grind (arith, unmarked-length marks entries k)

at_end : (a b : ℕ) → a ≡ b → None ≡ (if nat_lt a b then Some a else None)
at_end a b h = grind (arith, nat_tests)

-- a kind without a mark has no entry
pub unmarked : (marks : List Bool) (entries : List SetEntry) (k : Kind) → AreMarked marks entries → get_or marks (entry_of k).place false ≡ false → None ≡ position (is_of_kind k) entries
unmarked marks entries k h off = at_end (position_or_len (is_of_kind k) entries) (length entries) (unmarked-length marks entries k h off)

still_on : (marks : List Bool) (i j : ℕ) → i < length marks → get_or marks j false ≡ true → (j ≡ i) ⊎ (j ≢ i) → get_or (slice_set marks i true) j false ≡ true
still_on marks i j within h (inl e) = rw e (get_or-set_same marks i true false within)
still_on marks i j within h (inr ne) = get_or-set_other marks i j true false ne ∙ h

marked_push : (marks : List Bool) (entries : List SetEntry) (k : Kind) (new : SetEntry) → length marks ≡ 41 → AreMarked marks entries → new.kind ≡ k
    → AreMarked (slice_set marks (entry_of k).place true) (entries ++ new ∷ [])
marked_push marks [] k new len h same =
    let within : (entry_of k).place < length marks = rw len (place_within k) in
    let on : get_or (slice_set marks (entry_of k).place true) (entry_of k).place false ≡ true = get_or-set_same marks (entry_of k).place true false within in
    let on-new : get_or (slice_set marks (entry_of k).place true) (entry_of new.kind).place false ≡ true =
    ap (λ (j : Kind). get_or (slice_set marks (entry_of k).place true) (entry_of j).place false) same ∙ on in
    grind arith
marked_push marks (e ∷ entries) k new len h same =
    let within : (entry_of k).place < length marks = rw len (place_within k) in
    let on : get_or marks (entry_of e.kind).place false ≡ true = grind arith in
    let still = still_on marks (entry_of k).place (entry_of e.kind).place within on (cases_eq (entry_of e.kind).place (entry_of k).place) in
    let rest : AreMarked marks entries = grind arith in
    let pushed = marked_push marks entries k new len rest same in
    grind arith

pub marked_set : (marks : List Bool) (entries : List SetEntry) (at : ℕ) (new d : SetEntry) → new.kind ≡ (get_or entries at d).kind → AreMarked marks entries → AreMarked marks (slice_set entries at new)
marked_set marks [] at new d same h = h
marked_set marks (e ∷ entries) zero new d same h = rw same h
marked_set marks (e ∷ entries) (suc at) new d same h =
    let rest : AreMarked marks entries = grind arith in
    let set = marked_set marks entries at new d same rest in
    grind arith

pub marked_added : (marks : List Bool) (entries new : List SetEntry) (k : Kind) (change : Change) → length marks ≡ 41 → AreMarked marks entries → new ≡ entries ++ first_entry k change ∷ []
    → AreMarked (slice_set marks (entry_of k).place true) new
marked_added marks entries new k change len h is =
    subst (λ (xs : List SetEntry). AreMarked (slice_set marks (entry_of k).place true) xs) (sym is) (marked_push marks entries k (first_entry k change) len h refl)
