use Rattle.std.proofs.Common.{◌≡◌, [], ◌∷◌, All, arith, rules, subst, sym, ◌∙◌}
use Rattle.std.proofs.lemmas.Grind.{common_steps}
use Rattle.std.proofs.lemmas.List.Elements.{All-rest}
use Rattle.px_merge.specs.Merged.{Merged}
use Rattle.px_taggers.specs.Places.{IsPlaceOf, IsWithinPlace}
use Rattle.px_taggers.specs.Tagging as tagging
use Rattle.px_taggers.proofs.FrontLemmas.{on_err_given}
use Rattle.px_taggers.proofs.PlaceLemmas.{line_done, line_stopped, next_place}
use Rattle.px_taggers.proofs.taggers.run_taggers.Goals as goal

pub returns-clause-done : goal.returns-clause-done
returns-clause-done c =
    let all = tagging.rules c.args.sections.now.sections c.args.filters.now c.args.turn.now.side c.args.turn.now.vars.now in
    let none : c.places.rest.now ≡ [] = grind (arith, common_steps) in
    line_done all c.args.turn.now.line.now (tagging.state c.args.set.now c.args.tags.now) (tagging.state c.places.set c.places.tags)
    c.args.places.now c.places.rest.now c.requires c.places.invariant.runs none

pub returns-in_err-is_new-clause-err : goal.returns-in_err-is_new-clause-err
returns-in_err-is_new-clause-err c =
    let side = c.args.turn.now.side in
    let vars = c.args.turn.now.vars.now in
    let line = c.args.turn.now.line.now in
    let sections = c.args.sections.now.sections in
    let before = tagging.state c.places.set c.places.tags in
    let now = tagging.state c.run_tagger.new.set c.run_tagger.new.tags in
    let place = c.in-Some.place.now in
    let cut : c.places.rest.now ≡ place ∷ c.in-Some.others.now = grind (arith, common_steps) in
    on_err_given c.from_residual.result
    (line_stopped (tagging.rules sections c.args.filters.now side vars) line (tagging.state c.args.set.now c.args.tags.now) before
    c.args.places.now c.places.rest.now c.requires c.places.invariant.runs now place c.in-Some.others.now cut
    (subst (λ filters. IsWithinPlace (tagging.rules sections filters side vars) line before place now) c.places.invariant.filters
    (subst (λ (m : Merged). IsWithinPlace (tagging.rules m.sections c.places.filters side vars) line before place now) c.places.invariant.sections
    c.in_err-is_new.ensures.err)))

pub places-preserved-then-has_new : goal.places-preserved-then-has_new
places-preserved-then-has_new c =
    let place = c.in-Some.place.now in
    let rest = c.places.rest.now in
    let others = c.in-Some.others.now in
    let cut : rest ≡ place ∷ others = grind (arith, common_steps) in
    record {
      sections = c.in_ok-is_new.ensures.sections ∙ c.places.invariant.sections;
      filters = c.in_ok-is_new.ensures.filters ∙ c.places.invariant.filters;
      within = subst (λ filters. All (IsPlaceOf filters) others) (sym c.in_ok-is_new.ensures.filters)
          (All-rest (IsPlaceOf c.places.filters) place others rest cut c.places.invariant.within);
      runs = next_place c.places.sections c.args.sections.now c.places.filters c.args.filters.now c.args.turn.now.side c.args.turn.now.vars.now
          c.args.turn.now.line.now (tagging.state c.args.set.now c.args.tags.now) (tagging.state c.places.set c.places.tags)
          (tagging.state c.run_tagger.new.set c.run_tagger.new.tags) c.args.places.now rest others place c.places.invariant.sections
          c.places.invariant.filters cut c.in_ok-is_new.ensures.done c.places.invariant.runs;
      still = search rules;
    }

pub places-preserved : goal.places-preserved
places-preserved c =
    let place = c.in-Some.place.now in
    let rest = c.places.rest.now in
    let others = c.in-Some.others.now in
    let cut : rest ≡ place ∷ others = grind (arith, common_steps) in
    record {
      sections = c.in_ok-is_new.ensures.sections ∙ c.places.invariant.sections;
      filters = c.in_ok-is_new.ensures.filters ∙ c.places.invariant.filters;
      within = subst (λ filters. All (IsPlaceOf filters) others) (sym c.in_ok-is_new.ensures.filters)
          (All-rest (IsPlaceOf c.places.filters) place others rest cut c.places.invariant.within);
      runs = next_place c.places.sections c.args.sections.now c.places.filters c.args.filters.now c.args.turn.now.side c.args.turn.now.vars.now
          c.args.turn.now.line.now (tagging.state c.args.set.now c.args.tags.now) (tagging.state c.places.set c.places.tags)
          (tagging.state c.run_tagger.new.set c.run_tagger.new.tags) c.args.places.now rest others place c.places.invariant.sections
          c.places.invariant.filters cut c.in_ok-is_new.ensures.done c.places.invariant.runs;
      still = λ e. c.in_ok-is_new.ensures.still e ∙ c.places.invariant.still c.if-has_new.false;
    }
