-- Flags that lie over what is set of the other kinds.
use Rattle.std.proofs.Common.{◌≡◌, ◌≢◌, ℕ, ◌<◌, ◌≤◌, Bool, true, false, List, [], ◌∷◌, length, None, Some, refl, sym, ap, subst, ◌∙◌, arith, get_or, zero, suc}
use Rattle.std.specs.Prelude.{slice_set}
use Rattle.px_actions.specs.Kinds.{entry_of}
use Rattle.px_actions.specs.Shapes.{TakesMemory}
use Rattle.px_actions.specs.Sets.{IsSoundSet, changed_setting, empty_setting, fits_setting, multi_values, setting_lines, setting_of, single_value, updated}
use Rattle.px_actions.specs.Tables.{laid, laid_over}
use Rattle.px_actions.proofs.Table.{place_within}
use Rattle.px_actions.specs.declared.kinds.Kind.{Kind}
use Rattle.px_actions.specs.declared.kinds.Rule.{Rule}
use Rattle.px_actions.specs.declared.kinds.Shape.{Shape}
use Rattle.px_actions.specs.declared.kinds.Shape.TheVariants as shape
use Rattle.px_actions.specs.declared.changes.Change.{Change}
use Rattle.px_actions.specs.declared.changes.Change.TheVariants as change
use Rattle.px_actions.specs.declared.settings.Setting.{Setting}
use Rattle.px_actions.specs.declared.settings.Setting.TheVariants as setting

-- ---- lists

laid-long : (flags : List Bool) (settings : List Setting) → length (laid_over flags settings) ≤ length settings
laid-long [] settings = omega arith
laid-long (on ∷ flags) [] = omega arith
laid-long (on ∷ flags) (s ∷ settings) = omega (arith, laid-long flags settings)

get_or-laid : (flags : List Bool) (settings : List Setting) (i : ℕ) (d : Setting) → i < length (laid_over flags settings)
    → get_or (laid_over flags settings) i d ≡ laid (get_or flags i false) (get_or settings i d)
get_or-laid [] settings i d lt = absurd (omega arith)
get_or-laid (on ∷ flags) [] i d lt = absurd (omega arith)
get_or-laid (on ∷ flags) (s ∷ settings) zero d lt = refl
get_or-laid (on ∷ flags) (s ∷ settings) (suc i) d lt = get_or-laid flags settings i d (omega arith)

laid-set : (flags : List Bool) (settings : List Setting) (i : ℕ) (new : Setting) → laid_over flags (slice_set settings i new) ≡ slice_set (laid_over flags settings) i (laid (get_or flags i false) new)
laid-set [] settings i new = refl
laid-set (on ∷ flags) [] i new = refl
laid-set (on ∷ flags) (s ∷ settings) zero new = refl
laid-set (on ∷ flags) (s ∷ settings) (suc i) new = ap (λ rest. laid on s ∷ rest) (laid-set flags settings i new)

laid-set_flag : (flags : List Bool) (settings : List Setting) (i : ℕ) (new : Bool) (d : Setting) → laid_over (slice_set flags i new) settings ≡ slice_set (laid_over flags settings) i (laid new (get_or settings i d))
laid-set_flag [] settings i new d = refl
laid-set_flag (on ∷ flags) [] zero new d = refl
laid-set_flag (on ∷ flags) [] (suc i) new d = refl
laid-set_flag (on ∷ flags) (s ∷ settings) zero new d = refl
laid-set_flag (on ∷ flags) (s ∷ settings) (suc i) new d = ap (λ rest. laid on s ∷ rest) (laid-set_flag flags settings i new d)

-- ---- what is set of a kind

setting_of-laid : (flags : List Bool) (settings : List Setting) (k : Kind) → IsSoundSet (laid_over flags settings)
    → setting_of (laid_over flags settings) k ≡ laid (get_or flags (entry_of k).place false) (setting_of settings k)
setting_of-laid flags settings k h = get_or-laid flags settings (entry_of k).place (setting.Flag false) (rw h.len (place_within k))

-- where the kind is a flag, what is set is the flag that lies over it
flag_laid : (sort : Shape) (rule : Rule) (on : Bool) (s : Setting) → fits_setting sort rule (laid on s) ≡ true → sort ≡ shape.Flag → laid on s ≡ setting.Flag on
flag_laid sort rule on (setting.Flag b) h e = refl
flag_laid shape.Flag rule on (setting.Single None) h e = absurd (grind arith)
flag_laid shape.Flag rule on (setting.Single (Some p)) h e = absurd (grind arith)
flag_laid shape.Flag rule on (setting.Multi values) h e = absurd (grind arith)
flag_laid shape.Single rule on s h e = absurd (grind arith)
flag_laid shape.Multi rule on s h e = absurd (grind arith)

-- where the kind is another one, it is what is set of it
value_laid : (sort : Shape) (rule : Rule) (on : Bool) (s : Setting) → fits_setting sort rule (laid on s) ≡ true → sort ≢ shape.Flag → laid on s ≡ s
value_laid sort rule on (setting.Single value) h ne = refl
value_laid sort rule on (setting.Multi values) h ne = refl
value_laid shape.Flag rule on (setting.Flag b) h ne = absurd (ne refl)
value_laid shape.Single rule on (setting.Flag b) h ne = absurd (grind arith)
value_laid shape.Multi rule on (setting.Flag b) h ne = absurd (grind arith)

setting_of_flag : (flags : List Bool) (settings : List Setting) (k : Kind) → IsSoundSet (laid_over flags settings) → (entry_of k).shape ≡ shape.Flag
    → setting_of (laid_over flags settings) k ≡ setting.Flag (get_or flags (entry_of k).place false)
setting_of_flag flags settings k h e =
    let is = setting_of-laid flags settings k h in
    is ∙ flag_laid (entry_of k).shape (entry_of k).rule (get_or flags (entry_of k).place false) (setting_of settings k)
    (subst (λ (s : Setting). fits_setting (entry_of k).shape (entry_of k).rule s ≡ true) is (h.each k)) e

setting_of_value : (flags : List Bool) (settings : List Setting) (k : Kind) → IsSoundSet (laid_over flags settings) → (entry_of k).shape ≢ shape.Flag
    → setting_of (laid_over flags settings) k ≡ setting_of settings k
setting_of_value flags settings k h ne =
    let is = setting_of-laid flags settings k h in
    is ∙ value_laid (entry_of k).shape (entry_of k).rule (get_or flags (entry_of k).place false) (setting_of settings k)
    (subst (λ (s : Setting). fits_setting (entry_of k).shape (entry_of k).rule s ≡ true) is (h.each k)) ne

single-laid : (on : Bool) (s : Setting) → single_value (laid on s) ≡ single_value s
single-laid on (setting.Flag b) = refl
single-laid on (setting.Single value) = refl
single-laid on (setting.Multi values) = refl

multi-laid : (on : Bool) (s : Setting) → multi_values (laid on s) ≡ multi_values s
multi-laid on (setting.Flag b) = refl
multi-laid on (setting.Single value) = refl
multi-laid on (setting.Multi values) = refl

single_of : (flags : List Bool) (settings : List Setting) (k : Kind) → IsSoundSet (laid_over flags settings)
    → single_value (setting_of (laid_over flags settings) k) ≡ single_value (setting_of settings k)
single_of flags settings k h = ap single_value (setting_of-laid flags settings k h) ∙ single-laid (get_or flags (entry_of k).place false) (setting_of settings k)

multi_of : (flags : List Bool) (settings : List Setting) (k : Kind) → IsSoundSet (laid_over flags settings)
    → multi_values (setting_of (laid_over flags settings) k) ≡ multi_values (setting_of settings k)
multi_of flags settings k h = ap multi_values (setting_of-laid flags settings k h) ∙ multi-laid (get_or flags (entry_of k).place false) (setting_of settings k)

pub single-empty : (sort : Shape) → single_value (empty_setting sort) ≡ None
single-empty shape.Flag = refl
single-empty shape.Single = refl
single-empty shape.Multi = refl

pub multi-empty : (sort : Shape) → multi_values (empty_setting sort) ≡ []
multi-empty shape.Flag = refl
multi-empty shape.Single = refl
multi-empty shape.Multi = refl

pub lines-empty : (sort : Shape) (name : List ℕ) → setting_lines name (empty_setting sort) ≡ []
lines-empty shape.Flag name = refl
lines-empty shape.Single name = refl
lines-empty shape.Multi name = refl

-- ---- changes

laid-changed : (sort : Shape) (rule : Rule) (on : Bool) (s : Setting) (change : Change) → fits_setting sort rule (laid on s) ≡ true → sort ≢ shape.Flag
    → laid on (changed_setting s change) ≡ changed_setting (laid on s) change
laid-changed sort rule on (setting.Single value) change.On h ne = refl
laid-changed sort rule on (setting.Single value) change.Off h ne = refl
laid-changed sort rule on (setting.Single value) (change.Set p) h ne = refl
laid-changed sort rule on (setting.Single value) (change.Add p) h ne = refl
laid-changed sort rule on (setting.Single value) (change.Remove p) h ne = refl
laid-changed sort rule on (setting.Single value) change.Clear h ne = refl
laid-changed sort rule on (setting.Multi values) change.On h ne = refl
laid-changed sort rule on (setting.Multi values) change.Off h ne = refl
laid-changed sort rule on (setting.Multi values) (change.Set p) h ne = refl
laid-changed sort rule on (setting.Multi values) (change.Add p) h ne = refl
laid-changed sort rule on (setting.Multi values) (change.Remove p) h ne = refl
laid-changed sort rule on (setting.Multi values) change.Clear h ne = refl
laid-changed shape.Flag rule on (setting.Flag b) change h ne = absurd (ne refl)
laid-changed shape.Single rule on (setting.Flag b) change h ne = absurd (grind arith)
laid-changed shape.Multi rule on (setting.Flag b) change h ne = absurd (grind arith)

pub unchanged_empty : (sort : Shape) (change : Change) → sort ≢ shape.Flag → (TakesMemory change → ⊥) → changed_setting (empty_setting sort) change ≡ empty_setting sort
unchanged_empty shape.Flag change ne free = absurd (ne refl)
unchanged_empty shape.Single change.On ne free = refl
unchanged_empty shape.Single change.Off ne free = refl
unchanged_empty shape.Single (change.Set p) ne free = absurd (free tt)
unchanged_empty shape.Single (change.Add p) ne free = refl
unchanged_empty shape.Single (change.Remove p) ne free = refl
unchanged_empty shape.Single change.Clear ne free = refl
unchanged_empty shape.Multi change.On ne free = refl
unchanged_empty shape.Multi change.Off ne free = refl
unchanged_empty shape.Multi (change.Set p) ne free = refl
unchanged_empty shape.Multi (change.Add p) ne free = absurd (free tt)
unchanged_empty shape.Multi (change.Remove p) ne free = refl
unchanged_empty shape.Multi change.Clear ne free = refl

-- an update of a kind that isn't a flag
value_updated : (flags : List Bool) (settings : List Setting) (k : Kind) (change : Change) → IsSoundSet (laid_over flags settings) → (entry_of k).shape ≢ shape.Flag
    → laid_over flags (updated settings k change) ≡ updated (laid_over flags settings) k change
unfolding updated
value_updated flags settings k change h ne =
    let is = setting_of-laid flags settings k h in
    let on = get_or flags (entry_of k).place false in
    let new = changed_setting (setting_of settings k) change in
    let same : laid on new ≡ changed_setting (setting_of (laid_over flags settings) k) change =
    laid-changed (entry_of k).shape (entry_of k).rule on (setting_of settings k) change
    (subst (λ (s : Setting). fits_setting (entry_of k).shape (entry_of k).rule s ≡ true) is (h.each k)) ne
    ∙ ap (λ (s : Setting). changed_setting s change) (sym is) in
    laid-set flags settings (entry_of k).place new ∙ ap (λ (s : Setting). slice_set (laid_over flags settings) (entry_of k).place s) same

-- another flag lies over what a flag lay over
relaid : (new : Bool) (s : Setting) (on : Bool) → laid on s ≡ setting.Flag on → laid new s ≡ setting.Flag new
relaid new (setting.Flag b) on e = refl
relaid new (setting.Single value) on e = absurd (grind arith)
relaid new (setting.Multi values) on e = absurd (grind arith)

-- an update of a flag
flag_updated : (flags : List Bool) (settings : List Setting) (k : Kind) (change : Change) (new : Bool) → IsSoundSet (laid_over flags settings) → (entry_of k).shape ≡ shape.Flag
    → setting.Flag new ≡ changed_setting (setting.Flag (get_or flags (entry_of k).place false)) change
    → laid_over (slice_set flags (entry_of k).place new) settings ≡ updated (laid_over flags settings) k change
unfolding updated
flag_updated flags settings k change new h e made =
    let at = (entry_of k).place in
    let on = get_or flags at false in
    let flagged = setting_of_flag flags settings k h e in
    let under : laid new (setting_of settings k) ≡ setting.Flag new =
    relaid new (setting_of settings k) on (sym (setting_of-laid flags settings k h) ∙ flagged) in
    laid-set_flag flags settings at new (setting.Flag false)
    ∙ ap (λ (s : Setting). slice_set (laid_over flags settings) at s) (under ∙ made ∙ ap (λ (s : Setting). changed_setting s change) (sym flagged))

-- ---- what a table tells

pub table_flag : (self : List Setting) (flags : List Bool) (values : List Setting) (k : Kind) → laid_over flags values ≡ self → IsSoundSet self
    → (entry_of k).shape ≡ shape.Flag → setting_of self k ≡ setting.Flag (get_or flags (entry_of k).place false)
table_flag self flags values k view h e =
    ap (λ s. setting_of s k) (sym view) ∙ setting_of_flag flags values k (subst IsSoundSet (sym view) h) e

pub table_value : (self : List Setting) (flags : List Bool) (values : List Setting) (k : Kind) → laid_over flags values ≡ self → IsSoundSet self
    → (entry_of k).shape ≢ shape.Flag → setting_of self k ≡ setting_of values k
table_value self flags values k view h ne =
    ap (λ s. setting_of s k) (sym view) ∙ setting_of_value flags values k (subst IsSoundSet (sym view) h) ne

pub table_single : (self : List Setting) (flags : List Bool) (values : List Setting) (k : Kind) → laid_over flags values ≡ self → IsSoundSet self
    → single_value (setting_of self k) ≡ single_value (setting_of values k)
table_single self flags values k view h =
    ap (λ s. single_value (setting_of s k)) (sym view) ∙ single_of flags values k (subst IsSoundSet (sym view) h)

pub table_multi : (self : List Setting) (flags : List Bool) (values : List Setting) (k : Kind) → laid_over flags values ≡ self → IsSoundSet self
    → multi_values (setting_of self k) ≡ multi_values (setting_of values k)
table_multi self flags values k view h =
    ap (λ s. multi_values (setting_of s k)) (sym view) ∙ multi_of flags values k (subst IsSoundSet (sym view) h)

pub table_changed : (self : List Setting) (flags : List Bool) (values : List Setting) (k : Kind) (change : Change) (new : List Setting)
    → laid_over flags values ≡ self → IsSoundSet self → (entry_of k).shape ≢ shape.Flag → new ≡ updated values k change → laid_over flags new ≡ updated self k change
table_changed self flags values k change new view h ne is =
    ap (laid_over flags) is ∙ value_updated flags values k change (subst IsSoundSet (sym view) h) ne ∙ ap (λ s. updated s k change) view

pub table_flagged : (self : List Setting) (flags : List Bool) (values : List Setting) (k : Kind) (change : Change) (new : Bool)
    → laid_over flags values ≡ self → IsSoundSet self → (entry_of k).shape ≡ shape.Flag → setting.Flag new ≡ changed_setting (setting.Flag (get_or flags (entry_of k).place false)) change
    → laid_over (slice_set flags (entry_of k).place new) values ≡ updated self k change
table_flagged self flags values k change new view h e made =
    flag_updated flags values k change new (subst IsSoundSet (sym view) h) e made ∙ ap (λ s. updated s k change) view
