use Rattle.std.proofs.Common.{◌+◌, ◌&&◌, ◌∙◌, sym, ap, subst, arith, drop, [], None, Some}
use Rattle.px_base.specs.Cuts.{parts_of}
use Rattle.px_patterns.specs.declared.TheConstants.{DOT}
use Rattle.px_patterns.specs.Hosts.{HasFirstLabel, labels_in, labels_match, rest_bytes}
use Rattle.px_patterns.proofs.HostLemmas.{front_open, front_step, front_whole}
use Rattle.px_patterns.proofs.hosts.matches_from_front.Goals as goal

pub returns-in-None : goal.returns-in-None
returns-in-None c =
    let lacks = c.in-None.ensures in
    sym
    (c.loop-at.invariant
    ∙ front_step c.args.open_end c.args.patterns.now c.loop-at.at c.index-patterns-at.result c.loop-at.rest.now lacks.label lacks.behind c.loop-at-test.true c.index-patterns-at.is lacks.cut
    ∙ ap (λ t. t && labels_match c.args.open_end (drop (c.loop-at.at + 1) c.args.patterns.now) (parts_of DOT lacks.behind)) lacks.fails)

pub returns-in-Some-Nothing : goal.returns-in-Some-Nothing
returns-in-Some-Nothing c =
    let has : HasFirstLabel c.index-patterns-at.result c.loop-at.rest.now None =
    subst (λ r. HasFirstLabel c.index-patterns-at.result c.loop-at.rest.now (rest_bytes r)) c.in-Some-Nothing.field-0-is c.in-Some-Nothing.ensures in
    sym
    (c.loop-at.invariant
    ∙ front_step c.args.open_end c.args.patterns.now c.loop-at.at c.index-patterns-at.result c.loop-at.rest.now has.label None c.loop-at-test.true c.index-patterns-at.is has.cut
    ∙ ap (λ t. t && labels_match c.args.open_end (drop (c.loop-at.at + 1) c.args.patterns.now) []) has.fits
    ∙ front_whole c.args.open_end c.args.patterns.now (c.loop-at.at + 1) (omega (arith, c.loop-at-test.true)))

pub loop-at-preserved : goal.loop-at-preserved
loop-at-preserved c =
    let has : HasFirstLabel c.index-patterns-at.result c.loop-at.rest.now (Some c.in-Some-Labels.behind.now) =
    subst (λ r. HasFirstLabel c.index-patterns-at.result c.loop-at.rest.now (rest_bytes r)) c.in-Some-Labels.field-0-is c.in-Some-Labels.ensures in
    c.loop-at.invariant
    ∙ front_step c.args.open_end c.args.patterns.now c.loop-at.at c.index-patterns-at.result c.loop-at.rest.now has.label (Some c.in-Some-Labels.behind.now) c.loop-at-test.true c.index-patterns-at.is has.cut
    ∙ ap (λ t. t && labels_match c.args.open_end (drop (c.loop-at.at + 1) c.args.patterns.now) (labels_in c.in-Some-Labels.behind.now)) has.fits

pub returns : goal.returns
returns c = sym (c.loop-at.invariant ∙ front_open c.args.open_end c.args.patterns.now c.loop-at.at c.loop-at.rest.now c.loop-at-test.false)
