-- What a map from names has, once a name is added.
use Rattle.std.proofs.Common.{◌≡◌, ℕ, Bool, true, false, cond, List, Option, Vec, sym, subst, ◌∙◌, ⊎_elim, nat_cmp, bytes_eq}
use Rattle.std.proofs.lemmas.Bool.{cases_Bool, cond-true, cond-false}
use Rattle.std.proofs.lemmas.Map.Text.{is_eq-slice_cmp}
use Rattle.std.specs.BTreeMap.{BTreeMap}
use Rattle.std.specs.BTreeMap as tree
use Rattle.std.specs.Cmp.{eq_by_cmp_equiv}
use Rattle.std.specs.Cmp.Lexicographic.{bytes_decides, nat_list_cmp_total, nat_list_eq_equiv, slice_cmp}
use Rattle.std.specs.Map.{lookup, AreApart, IsKeyTest, KeepsOthers}
use Rattle.std.specs.Ordering.{is_eq}
use Rattle.px_filter_files.specs.Places.{place_in}

module _ {K : Type 0} (eq : K → K → Bool) (test : K → Bool) where
  other_entries : {X : Type 0} (old new : List (K × X)) → KeepsOthers eq test old new → (other : K → Bool) → IsKeyTest eq other → AreApart test other →
      lookup other new ≡ lookup other old
  unfolding KeepsOthers
  other_entries old new h = h

apart : (name other key : List ℕ) → bytes_eq name other ≡ false → is_eq (slice_cmp nat_cmp name key) ≡ true → is_eq (slice_cmp nat_cmp other key) ≡ false
apart name other key differ same =
    is_eq-slice_cmp other key ∙ nat_list_eq_equiv.symm other key
    ∙ sym (nat_list_eq_equiv.congr name key other (sym (is_eq-slice_cmp name key) ∙ same)) ∙ differ

-- a map that was given a place at a name has it there, and at each other name what it had
pub place_added : {Y : Type 0} (name : List ℕ) (old new : BTreeMap (Vec ℕ Y) ℕ) (place : Option ℕ) →
    tree.UpdatesBy (λ x y. slice_cmp nat_cmp x.items y.items) (λ k. slice_cmp nat_cmp name k.items) old new place →
    (other : List ℕ) → place_in new other ≡ cond (bytes_eq name other) place (place_in old other)
place_added name old new place updates other =
    ⊎_elim
    (λ same. subst (λ n. place_in new n ≡ place) ((bytes_decides name other).0 same) updates.1 ∙ sym (cond-true (bytes_eq name other) place (place_in old other) same))
    (λ differ. other_entries _ _ _ _ updates.3 _ (λ x y. (eq_by_cmp_equiv nat_list_cmp_total).congr other x.items y.items) (λ k. apart name other k.items differ)
    ∙ sym (cond-false (bytes_eq name other) place (place_in old other) differ))
    (cases_Bool (bytes_eq name other))
