-- A place noted in a map from names.
use Rattle.std.proofs.Common.{◌≡◌, ℕ, Bool, true, false, ◌&&◌, cond, List, Option, Some, None, is_some, refl, sym, ap, ◌∙◌, ⊎_elim, true≢false, bytes_eq}
use Rattle.std.proofs.lemmas.Bool.{cases_Bool}
use Rattle.std.specs.BTreeMap.{BTreeMap}
use Rattle.std.specs.Cmp.Lexicographic.{bytes_decides, nat_list_eq_equiv}
use Rattle.std.specs.Prelude.{Vec}
use Rattle.px_filter_files.specs.Places.{or_here, place_in}

-- a filter of another kind changes nothing
pub stays_other : (o : Option ℕ) (a b : Bool) (at : ℕ) → a ≡ false → o ≡ or_here o (a && b) at
stays_other (Some n) a b at e = refl
stays_other None true b at e = absurd (true≢false e)
stays_other None false b at e = refl

stays_unnamed : (o : Option ℕ) (a b : Bool) (at : ℕ) → b ≡ false → o ≡ or_here o (a && b) at
stays_unnamed (Some n) a b at e = refl
stays_unnamed None true true at e = absurd (true≢false e)
stays_unnamed None true false at e = refl
stays_unnamed None false b at e = refl

stays_some : (o : Option ℕ) (h : Bool) (at : ℕ) → is_some o ≡ true → o ≡ or_here o h at
stays_some (Some n) h at e = refl
stays_some None h at e = absurd (true≢false (sym e))

goes_here : (o : Option ℕ) (a b : Bool) (at : ℕ) → a ≡ true → b ≡ true → is_some o ≡ false → Some at ≡ or_here o (a && b) at
goes_here (Some n) a b at p q e = absurd (true≢false e)
goes_here None true true at p q e = refl
goes_here None true false at p q e = absurd (true≢false (sym q))
goes_here None false b at p q e = absurd (true≢false (sym p))

module _ {Y : Type 0} (names : BTreeMap (Vec ℕ Y) ℕ) (key : List ℕ) (a : Bool) (at : ℕ) where
  -- nor does one whose name has a place
  pub stays_there : is_some (place_in names key) ≡ true → (name : List ℕ) → place_in names name ≡ or_here (place_in names name) (a && bytes_eq name key) at
  stays_there there name =
      ⊎_elim
      (λ same. stays_some (place_in names name) (a && bytes_eq name key) at (ap (λ n. is_some (place_in names n)) ((bytes_decides name key).0 same) ∙ there))
      (λ differ. stays_unnamed (place_in names name) a (bytes_eq name key) at differ)
      (cases_Bool (bytes_eq name key))

  pub goes_there : a ≡ true → is_some (place_in names key) ≡ false → (name : List ℕ) →
      cond (bytes_eq key name) (Some at) (place_in names name) ≡ or_here (place_in names name) (a && bytes_eq name key) at
  goes_there kind absent name = by_test (bytes_eq key name) refl
    where
      by_test : (b : Bool) → bytes_eq key name ≡ b → cond b (Some at) (place_in names name) ≡ or_here (place_in names name) (a && bytes_eq name key) at
      by_test true e =
          goes_here (place_in names name) a (bytes_eq name key) at kind (nat_list_eq_equiv.symm name key ∙ e)
          (ap (λ n. is_some (place_in names n)) (sym ((bytes_decides key name).0 e)) ∙ absent)
      by_test false e = stays_unnamed (place_in names name) a (bytes_eq name key) at (nat_list_eq_equiv.symm name key ∙ e)
