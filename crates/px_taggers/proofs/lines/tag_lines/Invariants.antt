use Rattle.std.proofs.Common.{◌≡◌, length}
use Rattle.px_taggers.specs.Fronts.{IsWithinLine}
use Rattle.px_taggers.specs.Places.{AreInForce}
use Rattle.px_taggers.specs.Tagging.{after_line, rules, state}
use Rattle.px_taggers.proofs.FrontLemmas.{RunsOn}
use Rattle.px_taggers.proofs.lines.tag_lines.Given as goal

abbrev pub invariant-lines : goal.invariant-lines
invariant-lines l =
    let all = rules l.initial.sections.sections l.initial.filters l.headers.side l.headers.vars.now in
    record {
      sections : l.sections ≡ l.initial.sections;
      filters : l.filters ≡ l.initial.filters;
      places : AreInForce l.filters l.headers.side l.set l.places.items;
      runs : RunsOn (IsWithinLine all) (after_line all) (state l.initial.set l.initial.tags) l.headers.lines.now (state l.set l.tags) l.rest;
    }

abbrev pub decreases-lines : goal.decreases-lines
decreases-lines l = length l.rest
