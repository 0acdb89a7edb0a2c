-- Files of sections, and lists of sections that are for something.
use Rattle.std.proofs.Common.{◌≡◌, ℕ, ◌+◌, ◌<◌, ◌≤◌, Bool, true, cond, List, [], ◌∷◌, ◌++◌, map, length, refl, sym, ap, ◌∙◌, subst, arith}
use Rattle.std.specs.List.{All, list_any}
use mathlib.Core.Logic.{⊎_elim}
use Rattle.std.proofs.lemmas.Bool.{false≢true, cases_Bool, or_cases, or_left, or_right}
use Rattle.std.proofs.lemmas.List.{length-map}
use Rattle.std.proofs.lemmas.List.Elements.{All-append, All-filter, All-map, All-nil}
use Rattle.px_action_files.specs.declared.files.ActionFile.{ActionFile}
use Rattle.px_action_files.specs.declared.patterns.Pattern.{Pattern}
use Rattle.px_action_files.specs.declared.patterns.Pattern.TheVariants as pattern
use Rattle.px_merge.specs.declared.places.Placed.{Placed}
use Rattle.px_merge.specs.declared.places.SectionRef.{SectionRef}
use Rattle.px_merge.specs.declared.lists.Purpose.TheVariants as purpose
use Rattle.px_merge.specs.declared.sides.Side.{Side}
use Rattle.px_merge.specs.declared.sides.Side.TheVariants as side
use Rattle.px_merge.specs.Merged.{names_of, placed, sections_from}
use Rattle.px_merge.specs.Merging.{absent, is_for_absent, is_for_tag, ref_of, sections_with, tagged_sections}
use Rattle.px_merge.specs.Selections.{Selects, is_of_purpose, picked}

-- ---- the numbers of files

sections_within : (number total : ℕ) (files : List (List ℕ × ActionFile)) → number + length files ≤ total → All (λ (p : Placed). p.file < total) (sections_from number files)
sections_within number total [] few = All-nil (λ (p : Placed). p.file < total)
sections_within number total (file ∷ files) few =
    All-append (λ (p : Placed). p.file < total) (map (placed number) file.1.sections) (sections_from (number + 1) files)
    (All-map (λ (p : Placed). p.file < total) (placed number) file.1.sections (λ k d within. omega (arith, few)))
    (sections_within (number + 1) total files (omega (arith, few)))

pub kept_within : (files : List (List ℕ × ActionFile)) (no_names names : List (List ℕ)) (no_sections sections : List Placed) → no_names ≡ [] → no_sections ≡ []
    → names ≡ no_names ++ names_of files → sections ≡ no_sections ++ sections_from 0 files → All (λ (p : Placed). p.file < length names) sections
kept_within files no_names names no_sections sections no_n no_s are_names are_sections =
    let is_names : names ≡ names_of files = are_names ∙ ap (λ (xs : List (List ℕ)). xs ++ names_of files) no_n in
    let is_sections : sections ≡ sections_from 0 files = are_sections ∙ ap (λ (xs : List Placed). xs ++ sections_from 0 files) no_s in
    let count : length names ≡ length files = ap length is_names ∙ length-map files (λ (file : List ℕ × ActionFile). file.0) in
    subst (λ xs. All (λ (p : Placed). p.file < length names) xs) (sym is_sections)
    (sections_within 0 (length names) files (omega (arith, count)))

pub refs_within : (test : Pattern → Bool) (total : ℕ) (sections : List Placed) (hits : List ℕ) (refs : List SectionRef) → Selects test sections hits
    → All (λ (p : Placed). p.file < total) sections → refs ≡ map ref_of (picked sections hits) → All (λ (r : SectionRef). r.file < total) refs
refs_within test total sections hits refs selects within are =
    subst (λ rs. All (λ (r : SectionRef). r.file < total) rs) (sym (are ∙ ap (map ref_of) selects))
    (All-map (λ (r : SectionRef). r.file < total) ref_of (sections_with test sections)
    (All-filter (λ (p : Placed). list_any test p.section.patterns) (λ (p : Placed). p.file < total) sections within))

-- ---- lists of sections

any_narrow : (test kind : Pattern → Bool) → ((p : Pattern) → test p ≡ true → kind p ≡ true) → (patterns : List Pattern) → list_any test patterns ≡ true → list_any kind patterns ≡ true
any_narrow test kind narrow [] e = e
any_narrow test kind narrow (p ∷ patterns) e =
    ⊎_elim (λ here. or_left (kind p) (list_any kind patterns) (narrow p here))
    (λ later. or_right (kind p) (list_any kind patterns) (any_narrow test kind narrow patterns later))
    (or_cases (test p) (list_any test patterns) e)

with_narrow : (test kind : Pattern → Bool) → ((p : Pattern) → test p ≡ true → kind p ≡ true) → (sections : List Placed)
    → sections_with test (sections_with kind sections) ≡ sections_with test sections
with_narrow test kind narrow [] = refl
with_narrow test kind narrow (p ∷ sections) =
    let rest = with_narrow test kind narrow sections in
    let patterns = p.section.patterns in
    ⊎_elim
    (λ yes. ap (λ b. sections_with test (cond b (p ∷ sections_with kind sections) (sections_with kind sections))) yes
    ∙ ap (λ xs. cond (list_any test patterns) (p ∷ xs) xs) rest)
    (λ none. ap (λ b. sections_with test (cond b (p ∷ sections_with kind sections) (sections_with kind sections))) none
    ∙ rest
    ∙ ap (λ b. cond b (p ∷ sections_with test sections) (sections_with test sections))
    (sym (⊎_elim (λ t. absurd (false≢true (sym none ∙ any_narrow test kind narrow patterns t))) (λ f. f) (cases_Bool (list_any test patterns)))))
    (cases_Bool (list_any kind patterns))

tag_is : (tag : List ℕ) (p : Pattern) → is_for_tag tag p ≡ true → is_of_purpose purpose.Tag p ≡ true
tag_is tag (pattern.Url p) e = absurd (false≢true e)
tag_is tag (pattern.Tag p) e = refl
tag_is tag (pattern.NoRequestTag p) e = absurd (false≢true e)
tag_is tag (pattern.NoResponseTag p) e = absurd (false≢true e)
tag_is tag (pattern.ClientTag p) e = absurd (false≢true e)

absent_is : (s : Side) (tags : List (List ℕ)) (p : Pattern) → is_for_absent s tags p ≡ true → is_of_purpose (purpose.Absent s) p ≡ true
absent_is s tags (pattern.Url p) e = absurd (false≢true e)
absent_is s tags (pattern.Tag p) e = absurd (false≢true e)
absent_is side.Request tags (pattern.NoRequestTag p) e = refl
absent_is side.Response tags (pattern.NoRequestTag p) e = absurd (false≢true e)
absent_is side.Request tags (pattern.NoResponseTag p) e = absurd (false≢true e)
absent_is side.Response tags (pattern.NoResponseTag p) e = refl
absent_is s tags (pattern.ClientTag p) e = absurd (false≢true e)

pub tagged_of : (sections : List Placed) (numbers : List ℕ) (tag : List ℕ) → Selects (is_of_purpose purpose.Tag) sections numbers → tagged_sections (picked sections numbers) tag ≡ tagged_sections sections tag
tagged_of sections numbers tag selects = ap (λ xs. tagged_sections xs tag) selects ∙ with_narrow (is_for_tag tag) (is_of_purpose purpose.Tag) (tag_is tag) sections

pub absent_of : (sections : List Placed) (numbers : List ℕ) (tags : List (List ℕ)) (s : Side) → Selects (is_of_purpose (purpose.Absent s)) sections numbers
    → absent (picked sections numbers) tags s ≡ absent sections tags s
absent_of sections numbers tags s selects = ap (λ xs. absent xs tags s) selects ∙ with_narrow (is_for_absent s tags) (is_of_purpose (purpose.Absent s)) (absent_is s tags) sections
