use Rattle.std.proofs.Common.{◌<◌, length, sym, ◌∙◌, arith}
use Rattle.std.proofs.lemmas.Bool.{eqb-true, eqb-false}
use Rattle.px_commands.proofs.OriginLemmas.{one_more, no_origin, whole}
use Rattle.px_commands.proofs.origins.read_origin.Goals as goal

pub entries-preserved : goal.entries-preserved
entries-preserved c =
    let some : 0 < length c.entries.rest.now = omega (arith, eqb-false _ _ (sym c.is_empty.ensures ∙ c.entries-test.true)) in
    let entry = rw c.in-Some.is at c.in_ok-answer.ensures.entry in
    rw c.in_ok-push-in-Some.ensures.items (one_more c.args.text.now c.entries.rest.now c.in-Some.behind.now c.entries.answers.items c.in-Some.answer entry some c.entries.invariant)

pub returns-in-None-clause-bad_form : goal.returns-in-None-clause-bad_form
returns-in-None-clause-bad_form c e answers h =
    let some : 0 < length c.entries.rest.now = omega (arith, eqb-false _ _ (sym c.is_empty.ensures ∙ c.entries-test.true)) in
    let left = c.entries.invariant.to_come answers h in
    no_origin c.entries.rest.now left.0 (rw c.in-None.is at c.in_ok-answer.ensures.entry) some left.2

pub returns-clause-origin : goal.returns-clause-origin
returns-clause-origin c = rw c.from_vec.ensures (whole c.args.text.now c.entries.rest.now c.entries.answers.items (eqb-true _ _ (sym c.is_empty.ensures ∙ c.entries-test.false)) c.entries.invariant)
