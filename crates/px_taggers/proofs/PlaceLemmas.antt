-- Taggers by their places do what those of their names do.
use Rattle.std.proofs.Common.{◌≡◌, ℕ, List, [], ◌∷◌, map, None, Option, sym, ap, ◌∙◌, subst, inl, inr}
use Rattle.std.specs.Prelude.{fold}
use Rattle.std.proofs.lemmas.List.Folds.{fold-map}
use Rattle.px_filter_files.specs.FilterFiles.{FiltersOfFiles}
use Rattle.px_filter_files.specs.Places.{jobs_at_place}
use Rattle.px_merge.specs.Merged.{Merged}
use Rattle.px_merge.specs.declared.sides.Side.{Side}
use Rattle.px_subst.specs.Jobs.{JobParts, run_filter, unchanged}
use Rattle.px_subst.specs.declared.words.Vars.{Vars}
use Rattle.px_taggers.specs.Fronts.{IsFrontOfWork, IsWithinLine, IsWithinTag, IsWithinTaggers}
use Rattle.px_taggers.specs.Places.{AreInForce, AreTaggerPlaces, IsWithinPlace, after_place, jobs_named, tag_by}
use Rattle.px_taggers.specs.Tagging.{Rules, Tagged, after_line, after_tag, after_tagger, in_force, rules, tag_in, tag_of}
use Rattle.px_taggers.proofs.FrontLemmas.{RunsOn, runs_more, runs_stop}

module _ (rules : Rules) (line : List ℕ) where
  abbrev after_jobs : Tagged → List JobParts → Tagged
  after_jobs s jobs = after_tag rules s (tag_by jobs rules.vars line)

  abbrev IsWithinJobs : Tagged → List JobParts → Tagged → Type 0
  IsWithinJobs s jobs now = IsWithinTag rules s (tag_by jobs rules.vars line) now

  module _ {X : Type 0} (jobs : X → List JobParts) where
    to_jobs : (s : Tagged) (xs : List X) (now : Tagged) → IsFrontOfWork (λ t x. IsWithinJobs t (jobs x)) (λ t x. after_jobs t (jobs x)) s xs now
        → IsFrontOfWork IsWithinJobs after_jobs s (map jobs xs) now
    to_jobs s [] now front = front
    to_jobs s (x ∷ xs) now (inl here) = inl here
    to_jobs s (x ∷ xs) now (inr later) = inr (to_jobs (after_jobs s (jobs x)) xs now later)

    from_jobs : (s : Tagged) (xs : List X) (now : Tagged) → IsFrontOfWork IsWithinJobs after_jobs s (map jobs xs) now
        → IsFrontOfWork (λ t x. IsWithinJobs t (jobs x)) (λ t x. after_jobs t (jobs x)) s xs now
    from_jobs s [] now front = front
    from_jobs s (x ∷ xs) now (inl here) = inl here
    from_jobs s (x ∷ xs) now (inr later) = inr (from_jobs (after_jobs s (jobs x)) xs now later)

  pub places_done : (s : Tagged) (names : List (List ℕ)) (places : List (Option ℕ)) → AreTaggerPlaces rules.filters rules.side names places
      → fold (after_place rules line) s places ≡ fold (after_tagger rules line) s names
  unfolding tag_by tag_of
  places_done s names places are =
      sym (fold-map after_jobs (jobs_at_place rules.filters) s places)
      ∙ ap (fold after_jobs s) are.jobs
      ∙ fold-map after_jobs (jobs_named rules.filters rules.side) s names

  pub places_front : (s : Tagged) (names : List (List ℕ)) (places : List (Option ℕ)) (now : Tagged) → AreTaggerPlaces rules.filters rules.side names places
      → IsFrontOfWork (IsWithinPlace rules line) (after_place rules line) s places now → IsWithinTaggers rules line s names now
  unfolding tag_by tag_of
  places_front s names places now are front =
      from_jobs (jobs_named rules.filters rules.side) s names now
      (subst (λ js. IsFrontOfWork IsWithinJobs after_jobs s js now) are.jobs (to_jobs (jobs_at_place rules.filters) s places now front))

-- what is left as it is makes no tag
pub no_tag : (jobs : List JobParts) (vars : Vars) (line : List ℕ) → run_filter jobs vars line ≡ unchanged line → None ≡ tag_by jobs vars line
unfolding tag_by
no_tag jobs vars line miss = sym (ap tag_in miss)

-- ---- a line's turn, place by place

module _ (rules : Rules) (line : List ℕ) (start s : Tagged) (places rest : List (Option ℕ)) (are : AreInForce rules.filters rules.side start.set places)
    (runs : RunsOn (IsWithinPlace rules line) (after_place rules line) start places s rest) where
  pub line_done : rest ≡ [] → s ≡ after_line rules start line
  unfolding after_line
  line_done none =
      ap (fold (after_place rules line) s) (sym none) ∙ runs.whole ∙ places_done rules line start (in_force rules.side start.set) places are

  pub line_stopped : (now : Tagged) (place : Option ℕ) (others : List (Option ℕ)) → rest ≡ place ∷ others → IsWithinPlace rules line s place now
      → IsWithinLine rules start line now
  line_stopped now place others cut within =
      places_front rules line start (in_force rules.side start.set) places now are
      (runs_stop (IsWithinPlace rules line) (after_place rules line) start places s now rest others place cut within runs)

-- the tagger at a place has run, by sections and filters that are those of the start
pub next_place : (m m' : Merged) (filters filters' : FiltersOfFiles) (side : Side) (vars : Vars) (line : List ℕ) (start before behind : Tagged)
    (places rest others : List (Option ℕ)) (place : Option ℕ) → m ≡ m' → filters ≡ filters' → rest ≡ place ∷ others
    → behind ≡ after_place (rules m.sections filters side vars) line before place
    → let all = rules m'.sections filters' side vars in
    RunsOn (IsWithinPlace all line) (after_place all line) start places before rest → RunsOn (IsWithinPlace all line) (after_place all line) start places behind others
next_place m m' filters filters' side vars line start before behind places rest others place same_sections same_filters cut done runs =
    let all = rules m'.sections filters' side vars in
    runs_more (IsWithinPlace all line) (after_place all line) start places before behind rest others place cut
    (done
    ∙ ap (λ (m : Merged). after_place (rules m.sections filters side vars) line before place) same_sections
    ∙ ap (λ filters. after_place (rules m'.sections filters side vars) line before place) same_filters)
    runs
