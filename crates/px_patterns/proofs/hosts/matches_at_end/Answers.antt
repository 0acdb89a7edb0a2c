use Rattle.std.proofs.Common.{◌&&◌, ◌∙◌, sym, ap, subst, [], None, Some}
use Rattle.px_base.specs.Cuts.{parts_of}
use Rattle.px_patterns.specs.declared.TheConstants.{DOT}
use Rattle.px_patterns.specs.Hosts.{HasLast, labels_in, rest_bytes}
use Rattle.px_patterns.proofs.HostLemmas.{end_done, end_step, end_whole, ends}
use Rattle.px_patterns.proofs.hosts.matches_at_end.Goals as goal

pub returns-in-None : goal.returns-in-None
returns-in-None c =
    let lacks = c.in-None.ensures in
    sym
    (c.labels.invariant ∙ end_step c.labels.left.now c.in-Some.before.now c.in-Some.last.now c.labels.rest.now lacks.label lacks.front c.in-Some.ensures.cases.0 lacks.cut
    ∙ ap (λ t. t && ends c.in-Some.before.now (parts_of DOT lacks.front)) lacks.fails)

pub returns-in-Some-Nothing : goal.returns-in-Some-Nothing
returns-in-Some-Nothing c =
    let has : HasLast c.in-Some.last.now c.labels.rest.now None = subst (λ r. HasLast c.in-Some.last.now c.labels.rest.now (rest_bytes r)) c.in-Some-Nothing.field-0-is c.in-Some-Nothing.ensures in
    c.is_empty.ensures
    ∙ sym
    (c.labels.invariant ∙ end_step c.labels.left.now c.in-Some.before.now c.in-Some.last.now c.labels.rest.now has.label None c.in-Some.ensures.cases.0 has.cut
    ∙ ap (λ t. t && ends c.in-Some.before.now []) has.fits
    ∙ end_whole c.in-Some.before.now)

pub labels-preserved : goal.labels-preserved
labels-preserved c =
    let has : HasLast c.in-Some.last.now c.labels.rest.now (Some c.in-Some-Labels.front.now) =
    subst (λ r. HasLast c.in-Some.last.now c.labels.rest.now (rest_bytes r)) c.in-Some-Labels.field-0-is c.in-Some-Labels.ensures in
    c.labels.invariant
    ∙ end_step c.labels.left.now c.in-Some.before.now c.in-Some.last.now c.labels.rest.now has.label (Some c.in-Some-Labels.front.now) c.in-Some.ensures.cases.0 has.cut
    ∙ ap (λ t. t && ends c.in-Some.before.now (labels_in c.in-Some-Labels.front.now)) has.fits

pub returns : goal.returns
returns c = sym (c.labels.invariant ∙ end_done c.labels.left.now (labels_in c.labels.rest.now) c.in_default.ensures.cases)
