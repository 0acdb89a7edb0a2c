-- Sets that have had some first ones of updates.
use Rattle.std.proofs.Common.{◌≡◌, ℕ, suc, ◌+◌, ◌≤◌, List, [], ◌∷◌, ◌++◌, length, take, refl, sym, ap, ◌∙◌, arith, append_assoc, append-nil, length-append, Result, Ok, Err}
use Rattle.std.specs.Prelude.{OnErr}
use Rattle.std.proofs.lemmas.List.{take-append-le}
use Rattle.px_actions.specs.Sets.{IsUpdatedByFront, updated, updated_all}
use Rattle.px_actions.specs.declared.settings.Setting.{Setting}
use Rattle.px_actions.specs.declared.updates.Update.{Update}

-- of some updates a set has had those before the ones that are left
pub record HasDone (old now : List Setting) (all left : List Update) : Type 0 where
  pub done : List Update
  pub whole : done ++ left ≡ all
  pub had : now ≡ updated_all old done

updated_all-append : (set : List Setting) (front back : List Update) → updated_all set (front ++ back) ≡ updated_all (updated_all set front) back
updated_all-append set [] back = refl
updated_all-append set (u ∷ front) back = updated_all-append (updated set u.kind u.change) front back

pub done_none : (set : List Setting) (all : List Update) → HasDone set set all all
done_none set all = record { done = []; whole = refl; had = refl }

pub done_more : (old now new : List Setting) (all front left : List Update) → HasDone old now all (front ++ left) → new ≡ updated_all now front → HasDone old new all left
done_more old now new all front left had e = record {
  done = had.done ++ front;
  whole = append_assoc had.done front left ∙ had.whole;
  had = e ∙ ap (λ s. updated_all s front) had.had ∙ sym (updated_all-append old had.done front);
}

pub done_all : (old now : List Setting) (all : List Update) → HasDone old now all [] → now ≡ updated_all old all
done_all old now all had = had.had ∙ ap (updated_all old) (sym (append-nil had.done) ∙ had.whole)

take_front : (done front left : List Update) (k : ℕ) → k ≤ length front → take (length done + k) (done ++ (front ++ left)) ≡ done ++ take k front
take_front [] front left k few =
    let same : 0 + k ≡ k = omega arith in
    ap (λ n. take n (front ++ left)) same ∙ take-append-le k front left few
take_front (u ∷ done) front left k few =
    let next : suc (length done) + k ≡ suc (length done + k) = omega arith in
    ap (λ n. take n (u ∷ (done ++ (front ++ left)))) next ∙ ap (λ us. u ∷ us) (take_front done front left k few)

pub stopped : (old now new : List Setting) (all front left : List Update) → HasDone old now all (front ++ left) → IsUpdatedByFront now front new → IsUpdatedByFront old all new
stopped old now new all front left had part = record {
  count = length had.done + part.count;
  within = omega (arith, part.within, ap length had.whole, length-append had.done (front ++ left), length-append front left);
  applied =
      part.applied
      ∙ ap (λ s. updated_all s (take part.count front)) had.had
      ∙ sym (updated_all-append old had.done (take part.count front))
      ∙ ap (updated_all old) (sym (take_front had.done front left part.count part.within) ∙ ap (take (length had.done + part.count)) had.whole);
}

pub on_err_given : {T E P : Type 0} (r : Result T E) → P → OnErr r P
on_err_given (Ok x) h = tt
on_err_given (Err e) h = h

pub ruleset fronts = (done_none, done_all)
