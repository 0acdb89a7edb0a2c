use Rattle.std.proofs.Common.{◌∙◌, refl}
use Rattle.std.specs.Prelude.{option_copied}
use Rattle.std.proofs.lemmas.Result.{err_from_is_err_and}
use Rattle.px_patterns.specs.Globs.{label_of}
use Rattle.px_patterns.specs.Hosts.{labels_in, labels_of}
use Rattle.px_patterns.proofs.FaultLemmas.{class_refusal_on}
use Rattle.px_patterns.proofs.ReadingLemmas.{bad_label, labels_done, next_label}
use Rattle.px_patterns.proofs.host_readings.read_labels.Goals as goal

pub returns-in_err-label-clause-refused : goal.returns-in_err-label-clause-refused
returns-in_err-label-clause-refused c =
    let p = err_from_is_err_and c.from_residual.result c.from_residual.ensures.1 in
    rw (p.1, p.2)
    (class_refusal_on (label_of c.cut.result.0.now) (labels_of (labels_in c.args.text.now)) c.in_err-label.field-0.0 c.in_err-label.ensures.refused
    (bad_label c.reads.labels c.args.text.now c.reads.rest.now c.cut.result.0.now (option_copied c.cut.result.1) c.reads.invariant c.cut.ensures.parts))

pub returns-in-None-clause-labels : goal.returns-in-None-clause-labels
returns-in-None-clause-labels c =
    labels_done c.reads.labels c.add.new.self c.args.text.now c.reads.rest.now c.cut.result.0.now c.in_ok-label.label c.reads.invariant (rw c.in-None.is at c.cut.ensures.parts) c.in_ok-label.ensures.label
    c.in_ok-add.ensures.ok

pub reads-preserved : goal.reads-preserved
reads-preserved c =
    c.reads.invariant
    ∙ next_label c.reads.labels c.add.new.self c.reads.rest.now c.cut.result.0.now (option_copied c.cut.result.1) c.in_ok-label.label c.cut.ensures.parts c.in_ok-label.ensures.label c.in_ok-add.ensures.ok
    ∙ rw c.in-Some.is refl
