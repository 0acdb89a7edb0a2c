use Rattle.std.proofs.Common.{◌∙◌, sym, ap, inl, arith, Ok}
use Rattle.px_head.proofs.HeadLemmas.{finds-response, one-response, one-response-count}
use Rattle.px_head.proofs.responses.ResponseHead.read.Goals as goal

pub returns-then-found-gt-FIELD_LIMIT-clause-read : goal.returns-then-found-gt-FIELD_LIMIT-clause-read
returns-then-found-gt-FIELD_LIMIT-clause-read c head is =
    let found = finds-response _ _ _ c.in-Some.ensures.reads c.in-Some.ensures.whole c.in-Some.ensures.within.section.count_fits in
    absurd (omega (arith, one-response-count _ is.tree found.tree is.reads found.reads, found.count, is.few))

pub returns-clause-read : goal.returns-clause-read
returns-clause-read c head is =
    let found = finds-response _ _ _ c.in-Some.ensures.reads c.in-Some.ensures.whole c.in-Some.ensures.within.section.count_fits in
    inl (ap Ok (c.in_ok-build.ensures ∙ sym found.parts ∙ sym (one-response _ head found.tree is found.reads)))

pub returns-clause-head : goal.returns-clause-head
returns-clause-head c =
    let found = finds-response _ _ _ c.in-Some.ensures.reads c.in-Some.ensures.whole c.in-Some.ensures.within.section.count_fits in
    record { tree = found.tree; reads = found.reads; few = omega (arith, found.count); parts = c.in_ok-build.ensures ∙ sym found.parts }

pub returns-clause-too_many : goal.returns-clause-too_many
returns-clause-too_many c =
    let found = finds-response _ _ _ c.in-Some.ensures.reads c.in-Some.ensures.whole c.in-Some.ensures.within.section.count_fits in
    record {
      only = λ e. absurd (cc);
      always = λ many. omega (arith, one-response-count _ many.0 found.tree many.1 found.reads, found.count, many.2);
    }
