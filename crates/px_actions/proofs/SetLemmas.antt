-- What action sets keep.
use Rattle.std.proofs.Common.{◌≡◌, ◌≢◌, ℕ, ◌<◌, Bool, true, false, List, [], ◌∷◌, ◌++◌, length, filter, Some, None, Ok, Err, refl, sym, ap, subst, ◌∙◌, inl, inr, ◌⊎◌, arith, length-set, ◌+◌, take, get_or}
use Rattle.std.specs.Prelude.{◌&&◌, ◌||◌, not, if◌then◌else◌, slice_index_or, slice_set, Result, OnOk, OnErr}
use Rattle.std.specs.List.{list_all}
use Rattle.std.specs.Str.{bytes_eq}
use Rattle.std.proofs.lemmas.List.{take_more, get_or_default, get_or-map, get_or-set_same, get_or-set_other}
use Rattle.std.proofs.lemmas.Bool.{cases_eq}
use Rattle.std.proofs.lemmas.Bool.Decides.{nat_tests}
use Rattle.px_actions.specs.Kinds.{entry_of}
use Rattle.px_actions.specs.Rules.{keeps_rule}
use Rattle.px_actions.specs.Shapes.{fits_by, fits}
use Rattle.px_actions.specs.Sets.{updated, updated_all, is_among, changed_setting, setting_of, empty_setting, empty_set, is_distinct, fits_setting, IsSoundSet}
use Rattle.px_actions.proofs.Table.{kinds_place, place_within, same_place}
use Rattle.px_actions.specs.declared.kinds.TheConstants.{KINDS}
use Rattle.px_actions.specs.declared.kinds.Kind.{Kind}
use Rattle.px_actions.specs.declared.kinds.Rule.{Rule}
use Rattle.px_actions.specs.declared.kinds.Shape.{Shape}
use Rattle.px_actions.specs.declared.kinds.Shape.TheVariants as shape
use Rattle.px_actions.specs.declared.changes.Change.{Change}
use Rattle.px_actions.specs.declared.changes.Change.TheVariants as change
use Rattle.px_actions.specs.declared.updates.Update.{Update}
use Rattle.px_actions.specs.declared.settings.Setting.{Setting}
use Rattle.px_actions.specs.declared.settings.Setting.TheVariants as setting

-- an empty setting fits its kind
empty-fits : (shape : Shape) (rule : Rule) → fits_setting shape rule (empty_setting shape) ≡ true
empty-fits shape.Flag rule = refl
empty-fits shape.Single rule = refl
empty-fits shape.Multi rule = refl

pub setting_of-empty : (k : Kind) → setting_of empty_set k ≡ empty_setting (entry_of k).shape
unfolding empty_set
setting_of-empty k =
    get_or-map (λ kind. empty_setting (entry_of kind).shape) KINDS (entry_of k).place k (setting.Flag false) (place_within k)
    ∙ ap (λ kind. empty_setting (entry_of kind).shape) (kinds_place k k)

pub length-empty_set : length empty_set ≡ 41
unfolding empty_set
length-empty_set = refl

pub empty_set-sound : IsSoundSet empty_set
empty_set-sound = record {
  len = length-empty_set;
  each = λ k. rw (setting_of-empty k) (empty-fits (entry_of k).shape (entry_of k).rule);
}

-- a value is in the list with a value where it is in the list or is that value
is_among-append : (v p : List ℕ) (values : List (List ℕ)) → is_among v (values ++ p ∷ []) ≡ (is_among v values || bytes_eq p v)
is_among-append v p [] = grind arith
is_among-append v p (w ∷ values) = grind (arith, is_among-append v p values)

list_all-append : (test : List ℕ → Bool) (values : List (List ℕ)) (p : List ℕ) → list_all test values ≡ true → test p ≡ true → list_all test (values ++ p ∷ []) ≡ true
list_all-append test [] p h k = grind arith
list_all-append test (w ∷ values) p h k = grind (arith, list_all-append test values p)

bytes_eq-sym : (xs ys : List ℕ) → bytes_eq xs ys ≡ bytes_eq ys xs
bytes_eq-sym [] [] = refl
bytes_eq-sym [] (y ∷ ys) = refl
bytes_eq-sym (x ∷ xs) [] = refl
bytes_eq-sym (x ∷ xs) (y ∷ ys) = grind (arith, nat_tests, bytes_eq-sym xs ys)

is_distinct-append : (values : List (List ℕ)) (p : List ℕ) → is_distinct values ≡ true → is_among p values ≡ false → is_distinct (values ++ p ∷ []) ≡ true
is_distinct-append [] p h k = refl
is_distinct-append (w ∷ values) p h k = grind (arith, is_distinct-append values p, is_among-append w p values, bytes_eq-sym p w)

list_all-filter : (test kept : List ℕ → Bool) (values : List (List ℕ)) → list_all test values ≡ true → list_all test (filter kept values) ≡ true
list_all-filter test kept [] h = refl
list_all-filter test kept (w ∷ values) h = grind (arith, list_all-filter test kept values)

is_among-filter : (kept : List ℕ → Bool) (v : List ℕ) (values : List (List ℕ)) → is_among v values ≡ false → is_among v (filter kept values) ≡ false
is_among-filter kept v [] h = refl
is_among-filter kept v (w ∷ values) h = grind (arith, is_among-filter kept v values)

is_distinct-filter : (kept : List ℕ → Bool) (values : List (List ℕ)) → is_distinct values ≡ true → is_distinct (filter kept values) ≡ true
is_distinct-filter kept [] h = refl
is_distinct-filter kept (w ∷ values) h = grind (arith, is_distinct-filter kept values, is_among-filter kept w values)

with_value-fits : (test : List ℕ → Bool) (p : List ℕ) (values : List (List ℕ)) (found : Bool) → is_among p values ≡ found → list_all test values ≡ true → is_distinct values ≡ true → test p ≡ true
    → (list_all test (if found then values else values ++ p ∷ []) && is_distinct (if found then values else values ++ p ∷ [])) ≡ true
with_value-fits test p values true e h k t = grind arith
with_value-fits test p values false e h k t = grind (arith, list_all-append test values p h t, is_distinct-append values p k e)

-- what is set of a kind still fits it after a change that fits it
pub changed-fits : (shape : Shape) (rule : Rule) (old : Setting) (change : Change) → fits_setting shape rule old ≡ true → fits_by shape rule change ≡ true
    → fits_setting shape rule (changed_setting old change) ≡ true
changed-fits shape rule (setting.Flag on) change.On h k = h
changed-fits shape rule (setting.Flag on) change.Off h k = h
changed-fits shape rule (setting.Flag on) (change.Set p) h k = h
changed-fits shape rule (setting.Flag on) (change.Add p) h k = h
changed-fits shape rule (setting.Flag on) (change.Remove p) h k = h
changed-fits shape rule (setting.Flag on) change.Clear h k = h
changed-fits shape rule (setting.Single value) change.On h k = h
changed-fits shape rule (setting.Single None) change.Off h k = h
changed-fits shape rule (setting.Single (Some v)) change.Off h k = grind arith
changed-fits shape rule (setting.Single value) (change.Set p) h k = k
changed-fits shape rule (setting.Single value) (change.Add p) h k = h
changed-fits shape rule (setting.Single value) (change.Remove p) h k = h
changed-fits shape rule (setting.Single value) change.Clear h k = h
changed-fits shape rule (setting.Multi values) change.On h k = h
changed-fits shape rule (setting.Multi values) change.Off h k = h
changed-fits shape rule (setting.Multi values) (change.Set p) h k = h
changed-fits shape rule (setting.Multi values) (change.Add p) h k =
    let kept : list_all (keeps_rule rule) values ≡ true = grind arith in
    let distinct : is_distinct values ≡ true = grind arith in
    let rule_kept : keeps_rule rule p ≡ true = grind arith in
    grind (arith, with_value-fits (keeps_rule rule) p values (is_among p values) refl kept distinct rule_kept)
changed-fits shape rule (setting.Multi values) (change.Remove p) h k =
    let kept : list_all (keeps_rule rule) values ≡ true = grind arith in
    let distinct : is_distinct values ≡ true = grind arith in
    grind (arith, list_all-filter (keeps_rule rule) (λ v. not (bytes_eq v p)) values kept, is_distinct-filter (λ v. not (bytes_eq v p)) values distinct)
changed-fits shape rule (setting.Multi values) change.Clear h k = grind arith

set-fits : (set : List Setting) (k j : Kind) (new : Setting) → IsSoundSet set → fits_setting (entry_of k).shape (entry_of k).rule new ≡ true
    → ((entry_of j).place ≡ (entry_of k).place) ⊎ ((entry_of j).place ≢ (entry_of k).place)
    → fits_setting (entry_of j).shape (entry_of j).rule (setting_of (slice_set set (entry_of k).place new) j) ≡ true
set-fits set k j new h fit (inl e) =
    let within : (entry_of k).place < length set = rw h.len (place_within k) in
    subst (λ (x : Kind). fits_setting (entry_of x).shape (entry_of x).rule (setting_of (slice_set set (entry_of k).place new) x) ≡ true) (sym (same_place j k e))
    (rw (get_or-set_same set (entry_of k).place new (setting.Flag false) within) fit)
set-fits set k j new h fit (inr ne) = rw (get_or-set_other set (entry_of k).place (entry_of j).place new (setting.Flag false) ne) (h.each j)

-- a set stays sound where what is set of one kind is replaced by what fits it
pub sound-set : (set : List Setting) (k : Kind) (new : Setting) → IsSoundSet set → fits_setting (entry_of k).shape (entry_of k).rule new ≡ true
    → IsSoundSet (slice_set set (entry_of k).place new)
sound-set set k new h fit = record {
  len = length-set set (entry_of k).place new ∙ h.len;
  each = λ j. set-fits set k j new h fit (cases_eq (entry_of j).place (entry_of k).place);
}

-- a set stays sound behind an update that fits its kind
sound_updated : (set : List Setting) (k : Kind) (change : Change) → IsSoundSet set → fits k change ≡ true → IsSoundSet (updated set k change)
unfolding fits updated
sound_updated set k change h fit = sound-set set k (changed_setting (setting_of set k) change) h (changed-fits (entry_of k).shape (entry_of k).rule (setting_of set k) change (h.each k) fit)

pub sound_by : {T E : Type 0} (old new : List Setting) (k : Kind) (change : Change) (r : Result T E) → IsSoundSet old → fits k change ≡ true
    → OnOk r (new ≡ updated old k change) → OnErr r (new ≡ old) → IsSoundSet new
sound_by old new k change (Ok t) h fit ok err = subst IsSoundSet (sym ok) (sound_updated old k change h fit)
sound_by old new k change (Err e) h fit ok err = subst IsSoundSet (sym err) h

-- what is read of a sound set at a kind's place
pub read_at : (set : List Setting) (k : Kind) (at : ℕ) (d : Setting) → IsSoundSet set → at ≡ (entry_of k).place → slice_index_or set at d ≡ setting_of set k
read_at set k at d h e = rw e (get_or_default set (entry_of k).place d (setting.Flag false) (rw h.len (place_within k)))

-- one update more
pub updated_all_push : (set : List Setting) (updates : List Update) (u : Update) → updated_all set (updates ++ u ∷ []) ≡ updated (updated_all set updates) u.kind u.change
updated_all_push set [] u = refl
updated_all_push set (v ∷ updates) u = updated_all_push (updated set v.kind v.change) updates u

pub updated_all_step : (set : List Setting) (updates : List Update) (i : ℕ) (u d : Update) → i < length updates → u ≡ get_or updates i d
    → updated_all set (take (i + 1) updates) ≡ updated (updated_all set (take i updates)) u.kind u.change
updated_all_step set updates i u d within is =
    ap (updated_all set) (take_more updates i d within)
    ∙ rw (← is) (updated_all_push set (take i updates) u)
