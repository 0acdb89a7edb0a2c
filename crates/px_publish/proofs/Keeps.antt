-- Steps that only add to the shared list keep the rule.
use Rattle.std.proofs.Common.{◌≡◌, ℕ, ◌≢◌, List, [], ◌∷◌, ◌++◌, fold, set, refl, sym, ap, ◌∙◌, subst, ⊎_elim, Option, Some, None, Result, Ok, Err}
use Rattle.std.specs.Prelude.{MatchResult, IsOk}
use mathlib.Core.Option.{some}
use lib.ListN.{get_elem?}
use Rattle.crossbeam_utils.specs.Register.{Admits, TurnsAt, Forks, Merges}
use Rattle.atomic_table.proofs.Lists.{at_set, at_snoc}
use Rattle.px_publish.specs.declared.shared.SharedList.{SharedList}
use Rattle.px_publish.specs.Lists.{IsFront}
use Rattle.px_publish.specs.Rules.{Known, BeginsSameList, KnownBegins, EachBegins, Sees}
use Rattle.px_publish.proofs.FrontLemmas.{prefix_self, prefix_trans, front_prefix}

module _ {C : Type 0} where
  pub begins_self : (s : Known C) → BeginsSameList s s
  begins_self s = (refl, prefix_self s.log)

  pub begins_trans : (s t u : Known C) → BeginsSameList s t → BeginsSameList t u → BeginsSameList s u
  begins_trans s t u p q = (p.0 ∙ q.0, prefix_trans s.log t.log u.log p.1 q.1)

  known_trans : (v : Option (Known C)) (t u : Known C) → KnownBegins v t → BeginsSameList t u → KnownBegins v u
  known_trans None t u p q = tt
  known_trans (Some s) t u p q = begins_trans s t u p q

  set_keeps : (x : SharedList C) (views : List (Option (Known C))) (seat : ℕ) (v : Option (Known C)) → EachBegins x views → KnownBegins v x.front.seen → EachBegins x (set views seat v)
  set_keeps x views seat v h p j u e =
      ⊎_elim (λ (t : (j ≡ seat) × (v ≡ u)). subst (λ z. KnownBegins z x.front.seen) t.1 p) (λ (t : (j ≢ seat) × (get_elem? views j ≡ some u)). h j u t.1) (at_set views seat j v u e)

  pub grows : (seat : ℕ) (v : Option (Known C)) (x y : SharedList C) → BeginsSameList x.front.seen y.front.seen → TurnsAt EachBegins seat v x y Sees
  grows seat v x y more views h at = (
    Some y.front.seen,
    set_keeps y views seat (Some y.front.seen) (λ j u e. known_trans u x.front.seen y.front.seen (h j u e) more) (begins_self y.front.seen),
    (h seat v at, refl),
  )

  pub stays : (seat : ℕ) (v : Option (Known C)) (x : SharedList C) → TurnsAt EachBegins seat v x x Sees
  stays seat v x = grows seat v x x (begins_self x.front.seen)

  -- a new reader knows nothing yet
  pub admits : Admits {T = SharedList C} EachBegins None
  admits x views h j u e =
      ⊎_elim (h j u) (λ (same : None ≡ u). subst (λ z. KnownBegins z x.front.seen) same tt) (at_snoc views None u j e)

  pub forks : (seat : ℕ) (v : Option (Known C)) → Forks EachBegins seat v v v
  forks seat v x views h at j u e =
      ⊎_elim (set_keeps x views seat v h (h seat v at) j u) (λ (same : v ≡ u). subst (λ z. KnownBegins z x.front.seen) same (h seat v at)) (at_snoc (set views seat v) v u j e)

  pub merges : (seat : ℕ) (v : Option (Known C)) (other : ℕ) (w : Option (Known C)) → Merges EachBegins seat v other w w None
  merges seat v other w x views h at apart there =
      let told : KnownBegins w x.front.seen = ⊎_elim (λ (t : (other ≡ seat) × (w ≡ w)). absurd (apart t.0)) (λ (t : (other ≢ seat) × (get_elem? views other ≡ some w)). h other w t.1) (at_set views seat other w w there) in
      set_keeps x (set views seat w) other None (set_keeps x views seat w h told) tt

  -- the last operation alone counts
  last_counts : (s : Known C) (ops : List (SharedList C)) (op : SharedList C)
      → fold (λ _ (o : SharedList C). o.front.seen) s (ops ++ op ∷ []) ≡ op.front.seen
  last_counts s [] op = refl
  last_counts s (o ∷ ops) op = last_counts o.front.seen ops op

  pub begins_as : (s t u : Known C) → u ≡ t → BeginsSameList s t → BeginsSameList s u
  begins_as s t u e p = subst (λ z. BeginsSameList s z) (sym e) p

  pub begins_from : (s t u : Known C) → t ≡ s → BeginsSameList s u → BeginsSameList t u
  begins_from s t u e p = subst (λ z. BeginsSameList z u) (sym e) p

  -- what is pending ends in the entry, which alone counts
  newest : (shown entry : SharedList C) (before after : List (SharedList C)) → after ≡ before ++ entry ∷ []
      → fold (λ _ (o : SharedList C). o.front.seen) shown.front.seen after ≡ entry.front.seen
  newest shown entry before after e = rw e (last_counts shown.front.seen before entry)

  pub step_grows : (old shown next entry : SharedList C) (before after : List (SharedList C)) → shown ≡ old → after ≡ before ++ entry ∷ []
      → next.front.seen ≡ fold (λ _ (o : SharedList C). o.front.seen) shown.front.seen after → BeginsSameList old.front.seen entry.front.seen
      → BeginsSameList shown.front.seen next.front.seen
  step_grows old shown next entry before after same e is p =
      begins_as shown.front.seen entry.front.seen next.front.seen (is ∙ newest shown entry before after e)
      (begins_from old.front.seen shown.front.seen entry.front.seen (ap (λ (s : SharedList C). s.front.seen) same) p)

  pub shown_begins : {U E : Type 0} (r : Result U E) (P Q : Type 0) (old shown after entry : SharedList C) (pending before : List (SharedList C))
      → MatchResult r (λ _. (after.front.seen ≡ fold (λ _ (o : SharedList C). o.front.seen) shown.front.seen pending) × P) (λ _. (after ≡ shown) × Q)
      → shown ≡ old → pending ≡ before ++ entry ∷ [] → BeginsSameList old.front.seen entry.front.seen → BeginsSameList after.front.seen entry.front.seen
  shown_begins (Ok u) P Q old shown after entry pending before m same e p =
      begins_from entry.front.seen after.front.seen entry.front.seen (m.0 ∙ newest shown entry before pending e) (begins_self entry.front.seen)
  shown_begins (Err u) P Q old shown after entry pending before m same e p =
      begins_from old.front.seen after.front.seen entry.front.seen (ap (λ (s : SharedList C). s.front.seen) (m.0 ∙ same)) p

  -- absorbing can't fail, so the entry is known afterwards
  pub told_entry : {U E : Type 0} (r : Result U E) (P Q Q' : Type 0) (K : Type 0) (w : Option (Known C)) (shown after entry : SharedList C) (pending before : List (SharedList C))
      → IsOk r
      → MatchResult r (λ _. (after.front.seen ≡ fold (λ _ (o : SharedList C). o.front.seen) shown.front.seen pending) × P) (λ _. Q)
      → MatchResult r (λ _. K × (w ≡ Some after.front.seen)) (λ _. Q')
      → pending ≡ before ++ entry ∷ [] → w ≡ Some entry.front.seen
  told_entry (Ok u) P Q Q' K w shown after entry pending before ok m n e =
      n.1 ∙ ap Some (m.0 ∙ newest shown entry before pending e)
  told_entry (Err u) P Q Q' K w shown after entry pending before ok m n e = absurd (cc (ok))

  -- what begins a list begins the longer one
  pub begins_added : (s t t' u v : Known C) (e : C) → s.book ≡ t.book → IsFront s.log t.log → t' ≡ t → u.book ≡ t'.book → u.log ≡ t'.log ++ e ∷ [] → v ≡ u → BeginsSameList s v
  begins_added s t t' u v e book front same book' log same' =
      begins_as s u v same'
      (begins_trans s t' u (book ∙ sym (ap (λ k. k.book) same), front_prefix s.log t'.log (rw same front)) (sym book', (e ∷ [], sym log)))

  pub begins_same : (s t : Known C) → s ≡ t → BeginsSameList s t
  begins_same s t e = begins_as s s t (sym e) (begins_self s)
