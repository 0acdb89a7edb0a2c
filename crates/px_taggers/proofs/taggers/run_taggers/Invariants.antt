use Rattle.std.proofs.Common.{◌≡◌, All, false, length}
use Rattle.px_taggers.specs.Places.{IsPlaceOf, IsWithinPlace, after_place}
use Rattle.px_taggers.specs.Tagging.{rules, state}
use Rattle.px_taggers.proofs.FrontLemmas.{RunsOn}
use Rattle.px_taggers.proofs.taggers.run_taggers.Given as goal

abbrev pub invariant-places : goal.invariant-places
invariant-places l =
    let all = rules l.initial.sections.sections l.initial.filters l.turn.side l.turn.vars.now in
    record {
      sections : l.sections ≡ l.initial.sections;
      filters : l.filters ≡ l.initial.filters;
      within : All (IsPlaceOf l.filters) l.rest;
      runs : RunsOn (IsWithinPlace all l.turn.line.now) (after_place all l.turn.line.now) (state l.initial.set l.initial.tags) l.places (state l.set l.tags) l.rest;
      still : l.has_new ≡ false → l.set ≡ l.initial.set;
    }

abbrev pub decreases-places : goal.decreases-places
decreases-places l = length l.rest
