use Rattle.std.proofs.Common.{◌∙◌, sym}
use Rattle.std.specs.Prelude.{None}
use Rattle.std.proofs.lemmas.Result.{err_from_is_err_and}
use Rattle.px_patterns.specs.Globs.{class_of, items_from}
use Rattle.px_patterns.proofs.FaultLemmas.{class_refusal_on}
use Rattle.px_patterns.proofs.ReadingLemmas.{bad_class, items_done, next_class, next_item, open_class}
use Rattle.px_patterns.proofs.label_readings.read_items.Goals as goal

pub returns-in_err-class-in-Some-clause-refused : goal.returns-in_err-class-in-Some-clause-refused
returns-in_err-class-in-Some-clause-refused c =
    let p = err_from_is_err_and c.from_residual.result c.from_residual.ensures.1 in
    rw (p.1, p.2)
    (class_refusal_on (class_of c.split_at.result.0.now) (items_from None c.args.text.now) c.in_err-class-in-Some.field-0.0 c.in_err-class-in-Some.ensures.refused
    (λ unread. bad_class c.reads.items c.args.text.now c.reads.rest.now c.split_at.result.0.now c.in-Some.at c.reads.invariant (sym c.is_empty.ensures ∙ c.reads-test.true) c.if-first-eq-CLASS_BEGIN.true
    c.in-Some.ensures.0.high c.in-Some.ensures.1 c.in-Some.ensures.0.before c.split_at.ensures.front unread))

pub reads-preserved-in-Some : goal.reads-preserved-in-Some
reads-preserved-in-Some c =
    c.reads.invariant
    ∙ next_class c.reads.items c.add.new.self c.reads.rest.now c.split_at.result.0.now c.split_at.result.1.now c.in-Some.at c.in_ok-class-in-Some.class (sym c.is_empty.ensures ∙ c.reads-test.true)
    c.if-first-eq-CLASS_BEGIN.true c.in-Some.ensures.0.high c.in-Some.ensures.1 c.in-Some.ensures.0.before c.split_at.ensures.front c.split_at.ensures.back c.in_ok-class-in-Some.ensures.class
    c.in_ok-add-in-Some.ensures.ok

pub returns-in-None-clause-refused : goal.returns-in-None-clause-refused
returns-in-None-clause-refused c =
    open_class c.reads.items c.args.text.now c.reads.rest.now c.reads.invariant (sym c.is_empty.ensures ∙ c.reads-test.true) c.if-first-eq-CLASS_BEGIN.true c.in-None.ensures

pub reads-preserved : goal.reads-preserved
reads-preserved c =
    c.reads.invariant
    ∙ next_item c.reads.items c.add-else-first-eq-CLASS_BEGIN.new.self c.reads.rest.now c.item_of.result (sym c.is_empty.ensures ∙ c.reads-test.true) c.if-first-eq-CLASS_BEGIN.false c.item_of.ensures
    c.in_ok-add.ensures.ok

pub returns-clause-items : goal.returns-clause-items
returns-clause-items c = items_done c.args.text.now c.reads.rest.now c.reads.items c.reads.invariant (sym c.is_empty.ensures ∙ c.reads-test.false)
