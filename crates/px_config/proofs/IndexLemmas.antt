-- What a map from names and a set of names have, once a name is added.
use Rattle.std.proofs.Common.{◌≡◌, ℕ, Bool, true, false, ◌||◌, cond, List, [], ◌∷◌, ◌++◌, Option, Some, Vec, refl, sym, ap, subst, ◌∙◌, ⊎_elim, nat_cmp, bytes_eq, option_copied}
use Rattle.std.proofs.lemmas.Bool.{cases_Bool, cond-true, cond-false}
use Rattle.std.proofs.lemmas.Map.Text.{is_eq-slice_cmp}
use Rattle.std.specs.Borrow.{Bor}
use Rattle.std.specs.BTreeMap.{BTreeMap}
use Rattle.std.specs.BTreeMap as tree
use Rattle.std.specs.BTreeSet.{BTreeSet}
use Rattle.std.specs.BTreeSet as sorted
use Rattle.std.specs.Cmp.{eq_by_cmp_equiv}
use Rattle.std.specs.Cmp.Lexicographic.{bytes_decides, nat_list_cmp_total, nat_list_eq_equiv, slice_cmp}
use Rattle.std.specs.List.{list_any}
use Rattle.std.specs.Map.{lookup, AreApart, IsKeyTest, KeepsOthers}
use Rattle.std.specs.Ordering.{is_eq}
use Rattle.std.specs.Prelude.{unwrap_or}
use Rattle.std.specs.Set.{KeepsOthers as KeepsOtherNames}
use Rattle.px_base.specs.declared.files.Content.{Content}
use Rattle.px_base.specs.declared.files.Content.TheVariants as content
use Rattle.px_config.specs.Indexes.{HasNames, content_at, found_in, names_hold}
use Rattle.px_config.specs.Sets.{Item, content_in, is_in}

module _ {K : Type 0} (eq : K → K → Bool) (test : K → Bool) where
  other_entries : {X : Type 0} (old new : List (K × X)) → KeepsOthers eq test old new → (other : K → Bool) → IsKeyTest eq other → AreApart test other →
      lookup other new ≡ lookup other old
  unfolding KeepsOthers
  other_entries old new h = h

  other_names : (old new : List K) → KeepsOtherNames eq test old new → (other : K → Bool) → IsKeyTest eq other → AreApart test other →
      list_any other new ≡ list_any other old
  unfolding KeepsOtherNames
  other_names old new h = h

apart : (name other key : List ℕ) → bytes_eq name other ≡ false → is_eq (slice_cmp nat_cmp name key) ≡ true → is_eq (slice_cmp nat_cmp other key) ≡ false
apart name other key differ same =
    is_eq-slice_cmp other key ∙ nat_list_eq_equiv.symm other key
    ∙ sym (nat_list_eq_equiv.congr name key other (sym (is_eq-slice_cmp name key) ∙ same)) ∙ differ

-- what is so at a name, and as before at each other
at_name : {W : Type 0} (old new : List ℕ → W) (name : List ℕ) (here : W) → new name ≡ here → ((other : List ℕ) → bytes_eq name other ≡ false → new other ≡ old other) →
    (other : List ℕ) → new other ≡ cond (bytes_eq name other) here (old other)
at_name old new name here is others other =
    ⊎_elim
    (λ same. subst (λ n. new n ≡ here) ((bytes_decides name other).0 same) is ∙ sym (cond-true (bytes_eq name other) here (old other) same))
    (λ differ. others other differ ∙ sym (cond-false (bytes_eq name other) here (old other) differ))
    (cases_Bool (bytes_eq name other))

pub found_once_added : {X Y : Type 0} (name : List ℕ) (old new : BTreeMap (Vec ℕ Y) X) (here : Option X) →
    tree.UpdatesBy (λ x y. slice_cmp nat_cmp x.items y.items) (λ k. slice_cmp nat_cmp name k.items) old new here →
    (other : List ℕ) → found_in new other ≡ cond (bytes_eq name other) here (found_in old other)
found_once_added name old new here updates =
    at_name (found_in old) (found_in new) name here updates.1
    (λ other differ. other_entries _ _ _ _ updates.3 _ (λ x y. (eq_by_cmp_equiv nat_list_cmp_total).congr other x.items y.items) (λ k. apart name other k.items differ))

pub named_once_added : {Y : Type 0} (name : List ℕ) (old new : BTreeSet (Vec ℕ Y)) (here : Bool) →
    sorted.UpdatesBy (λ x y. slice_cmp nat_cmp x.items y.items) (λ k. slice_cmp nat_cmp name k.items) old new here →
    (other : List ℕ) → names_hold new other ≡ cond (bytes_eq name other) here (names_hold old other)
named_once_added name old new here updates =
    at_name (names_hold old) (names_hold new) name here updates.1
    (λ other differ. other_names _ _ _ _ updates.3 _ (λ x y. (eq_by_cmp_equiv nat_list_cmp_total).congr other x.items y.items) (λ k. apart name other k.items differ))

-- ---- contents from the last item to the first

-- what items have of a name, where something else stands for a missing one
abbrev pub content_or : List Item → List ℕ → Content → Content
content_or [] name other = other
content_or (item ∷ items) name other = cond (bytes_eq item.0 name) item.1 (content_or items name other)

or_missing : (items : List Item) (name : List ℕ) → content_or items name content.Missing ≡ content_in items name
or_missing [] name = refl
or_missing (item ∷ items) name = ap (cond (bytes_eq item.0 name) item.1) (or_missing items name)

pub none_added : {Y : Type 0} (map : BTreeMap (Vec ℕ Y) (Bor Content)) (items : List Item) → tree.IsEmpty map → (name : List ℕ) → content_or items name (content_at map name) ≡ content_in items name
none_added {Y} map items empty name =
    ap (λ entries. content_or items name (unwrap_or (option_copied (lookup (tree.is_at (λ (k : Vec ℕ Y). slice_cmp nat_cmp name k.items)) entries)) content.Missing)) empty
    ∙ or_missing items name

or_last : (front : List Item) (item : Item) (name : List ℕ) (other : Content) → content_or (front ++ item ∷ []) name other ≡ content_or front name (cond (bytes_eq item.0 name) item.1 other)
or_last [] item name other = refl
or_last (first ∷ front) item name other = ap (cond (bytes_eq first.0 name) first.1) (or_last front item name other)

at_either : (b : Bool) (here : Bor Content) (old : Option (Bor Content)) →
    unwrap_or (option_copied (cond b (Some here) old)) content.Missing ≡ cond b here.now (unwrap_or (option_copied old) content.Missing)
at_either true here old = refl
at_either false here old = refl

pub one_item_more : {Y : Type 0} (old new : BTreeMap (Vec ℕ Y) (Bor Content)) (rest front : List Item) (item : Item) (key : List ℕ) (here : Bor Content) →
    rest ≡ front ++ item ∷ [] → key ≡ item.0 → here.now ≡ item.1 →
    tree.UpdatesBy (λ x y. slice_cmp nat_cmp x.items y.items) (λ k. slice_cmp nat_cmp key k.items) old new (Some here) →
    (name : List ℕ) → content_or rest name (content_at old name) ≡ content_or front name (content_at new name)
one_item_more old new rest front item key here ends named is updates name =
    ap (λ items. content_or items name (content_at old name)) ends
    ∙ or_last front item name (content_at old name)
    ∙ ap (λ n. content_or front name (cond (bytes_eq n name) item.1 (content_at old name))) (sym named)
    ∙ ap (λ found. content_or front name (cond (bytes_eq key name) found (content_at old name))) (sym is)
    ∙ ap (content_or front name)
    (sym (ap (λ found. unwrap_or (option_copied found) content.Missing) (found_once_added key old new (Some here) updates name) ∙ at_either (bytes_eq key name) here (found_in old name)))

-- ---- names of items in their order

or_swapped : (a b : Bool) → cond a true b ≡ (b || a)
or_swapped true true = refl
or_swapped true false = refl
or_swapped false true = refl
or_swapped false false = refl

or_false : (a b c : Bool) → (a || (b || c)) ≡ ((a || b) || c)
or_false true b c = refl
or_false false b c = refl

in_last : (items : List Item) (item : Item) (name : List ℕ) → is_in (items ++ item ∷ []) name ≡ (is_in items name || bytes_eq item.0 name)
in_last [] item name = by (bytes_eq item.0 name)
  where
    by : (b : Bool) → (b || false) ≡ b
    by true = refl
    by false = refl
in_last (first ∷ items) item name = ap (λ b. bytes_eq first.0 name || b) (in_last items item name) ∙ or_false (bytes_eq first.0 name) (is_in items name) (bytes_eq item.0 name)

pub one_name_more : {Y : Type 0} (old new : BTreeSet (Vec ℕ Y)) (items after : List Item) (item : Item) (key : List ℕ) →
    HasNames items old → after ≡ items ++ item ∷ [] → key ≡ item.0 →
    sorted.UpdatesBy (λ x y. slice_cmp nat_cmp x.items y.items) (λ k. slice_cmp nat_cmp key k.items) old new true →
    HasNames after new
one_name_more old new items after item key has ends named updates = λ name.
    named_once_added key old new true updates name
    ∙ or_swapped (bytes_eq key name) (names_hold old name)
    ∙ ap (λ b. b || bytes_eq key name) (has name)
    ∙ ap (λ n. is_in items name || bytes_eq n name) named
    ∙ sym (in_last items item name)
    ∙ ap (λ l. is_in l name) (sym ends)
