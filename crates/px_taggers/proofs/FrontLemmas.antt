-- Work that is done item by item, and its fronts.
use Rattle.std.proofs.Common.{◌≡◌, ◌⊎◌, ℕ, true, false, cond, List, [], ◌∷◌, ◌++◌, Option, None, Some, Result, Ok, Err, refl, sym, ap, ap₂, ◌∙◌, subst, inl, inr}
use Rattle.std.specs.Prelude.{OnErr, fold}
use mathlib.Core.Logic.{⊎_elim}
use Rattle.px_actions.specs.Sets.{IsUpdatedByFront}
use Rattle.px_merge.specs.Merging.{tagged_sections, updates_in}
use Rattle.px_taggers.specs.Fronts.{IsFrontOfWork, IsWithinLine, IsWithinLines, IsWithinTag, IsWithinTagger}
use Rattle.px_taggers.specs.Tagging.{Rules, Tagged, after_line, after_tag, after_tagger, in_force, is_left_out, with_tag, state, tag_of}

-- ---- item by item

-- from a state over the rest the work goes on as from the start over all
pub record RunsOn {X : Type 0} (part : Tagged → X → Tagged → Type 0) (step : Tagged → X → Tagged) (start : Tagged) (items : List X) (s : Tagged) (rest : List X) : Type 0 where
  pub whole : fold step s rest ≡ fold step start items
  pub fronts : (now : Tagged) → IsFrontOfWork part step s rest now → IsFrontOfWork part step start items now

pub runs_begin : {X : Type 0} (part : Tagged → X → Tagged → Type 0) (step : Tagged → X → Tagged) (start : Tagged) (items : List X) → RunsOn part step start items start items
runs_begin part step start items = record { whole = refl; fronts = λ now front. front }

pub runs_more : {X : Type 0} (part : Tagged → X → Tagged → Type 0) (step : Tagged → X → Tagged) (start : Tagged) (items : List X) (s next : Tagged) (rest others : List X) (x : X)
    → rest ≡ x ∷ others → next ≡ step s x → RunsOn part step start items s rest → RunsOn part step start items next others
runs_more part step start items s next rest others x cut is runs = record {
  whole = ap (λ n. fold step n others) is ∙ ap (fold step s) (sym cut) ∙ runs.whole;
  fronts = λ now front. runs.fronts now (subst (λ xs. IsFrontOfWork part step s xs now) (sym cut) (inr (subst (λ n. IsFrontOfWork part step n others now) is front)));
}

pub runs_stop : {X : Type 0} (part : Tagged → X → Tagged → Type 0) (step : Tagged → X → Tagged) (start : Tagged) (items : List X) (s now : Tagged) (rest others : List X) (x : X)
    → rest ≡ x ∷ others → part s x now → RunsOn part step start items s rest → IsFrontOfWork part step start items now
runs_stop part step start items s now rest others x cut within runs = runs.fronts now (subst (λ xs. IsFrontOfWork part step s xs now) (sym cut) (inl within))

-- ---- nothing done is a front

front_begins : {X : Type 0} (part : Tagged → X → Tagged → Type 0) (step : Tagged → X → Tagged) → ((s : Tagged) (x : X) → part s x s) → (s : Tagged) (xs : List X) → IsFrontOfWork part step s xs s
front_begins part step begins s [] = refl
front_begins part step begins s (x ∷ xs) = inl (begins s x)

pub tag_begins : (rules : Rules) (s : Tagged) (tag : Option (List ℕ)) → IsWithinTag rules s tag s
tag_begins rules s None = refl
tag_begins rules s (Some tag) = inl refl

tagger_begins : (rules : Rules) (line : List ℕ) (s : Tagged) (name : List ℕ) → IsWithinTagger rules line s name s
tagger_begins rules line s name = tag_begins rules s (tag_of rules line name)

line_begins : (rules : Rules) (s : Tagged) (line : List ℕ) → IsWithinLine rules s line s
line_begins rules s line = front_begins (IsWithinTagger rules line) (after_tagger rules line) (tagger_begins rules line) s (in_force rules.side s.set)

pub lines_begin : (rules : Rules) (s : Tagged) (lines : List (List ℕ)) → IsWithinLines rules s lines s
lines_begin rules s lines = front_begins (IsWithinLine rules) (after_line rules) (line_begins rules) s lines

pub lines_pause : (rules : Rules) (start : Tagged) (lines : List (List ℕ)) (s : Tagged) (rest : List (List ℕ)) → RunsOn (IsWithinLine rules) (after_line rules) start lines s rest
    → IsWithinLines rules start lines s
lines_pause rules start lines s rest runs = runs.fronts s (lines_begin rules s rest)

-- ---- one tagger

pub made_none : (rules : Rules) (s : Tagged) (made : Option (List ℕ)) → made ≡ None → s ≡ after_tag rules s made
made_none rules s made is = ap (after_tag rules s) (sym is)

pub made_left_out : (rules : Rules) (s : Tagged) (made : Option (List ℕ)) (tag : List ℕ) → made ≡ Some tag → is_left_out s tag ≡ true → s ≡ after_tag rules s made
made_left_out rules s made tag is among = sym (ap (after_tag rules s) is ∙ ap (λ b. cond b s (with_tag rules s tag)) among)

pub made_new : (rules : Rules) (s now : Tagged) (made : Option (List ℕ)) (tag : List ℕ) → made ≡ Some tag → is_left_out s tag ≡ false → now ≡ with_tag rules s tag → now ≡ after_tag rules s made
made_new rules s now made tag is new done = done ∙ sym (ap (after_tag rules s) is ∙ ap (λ b. cond b s (with_tag rules s tag)) new)

pub put_stopped : (rules : Rules) (s now : Tagged) (made : Option (List ℕ)) (tag : List ℕ) → made ≡ Some tag → is_left_out s tag ≡ false
    → ((now.set ≡ s.set) × (now.tags ≡ s.tags)) ⊎ ((now.tags ≡ s.tags ++ tag ∷ []) × IsUpdatedByFront s.set (updates_in (tagged_sections rules.sections tag)) now.set)
    → IsWithinTag rules s made now
put_stopped rules s now made tag is new stopped =
    subst (λ o. IsWithinTag rules s o now) (sym is)
    (⊎_elim
    (λ none. inl (ap₂ state none.0 none.1))
    (λ some. inr (record { is_new = new; tags = some.0; updates = some.1 }))
    stopped)

-- ---- after want of memory

pub on_err_given : {T E P : Type 0} (r : Result T E) → P → OnErr r P
on_err_given (Ok x) h = tt
on_err_given (Err e) h = h
