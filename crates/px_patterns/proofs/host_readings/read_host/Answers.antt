use Rattle.std.proofs.Common.{◌∙◌, sym}
use Rattle.std.proofs.lemmas.Result.{err_from_is_err_and}
use Rattle.px_patterns.specs.Hosts.{host_pattern, labels_in, labels_of}
use Rattle.px_patterns.proofs.FaultLemmas.{bad_class_on}
use Rattle.px_patterns.proofs.ReadingLemmas.{host_always, host_bad_class, host_empty_label, host_inside_is, host_of_labels}
use Rattle.px_patterns.proofs.host_readings.read_host.Goals as goal

pub returns-then-is_every_host-clause-pattern : goal.returns-then-is_every_host-clause-pattern
returns-then-is_every_host-clause-pattern c = host_always c.args.text.now (sym c.is_every_host.ensures ∙ c.if-is_every_host.true)

pub returns-then-has_empty_label-clause-refused : goal.returns-then-has_empty_label-clause-refused
returns-then-has_empty_label-clause-refused c =
    host_empty_label c.args.text.now c.without_last_dot-inside.result.now (sym c.is_every_host.ensures ∙ c.if-is_every_host.false)
    (host_inside_is c.args.text.now c.without_first_dot.result.now c.without_last_dot-inside.result.now c.without_first_dot.ensures c.without_last_dot-inside.ensures.text)
    (sym c.has_empty_label.ensures ∙ c.if-has_empty_label.true)

pub returns-in_err-labels-clause-refused : goal.returns-in_err-labels-clause-refused
returns-in_err-labels-clause-refused c =
    let p = err_from_is_err_and c.from_residual.result c.from_residual.ensures.1 in
    rw (p.1, p.2)
    (bad_class_on (labels_of (labels_in c.without_last_dot-inside.result.now)) (host_pattern c.args.text.now) c.in_err-labels.field-0.0 c.in_err-labels.ensures.refused
    (host_bad_class c.args.text.now c.without_last_dot-inside.result.now (sym c.is_every_host.ensures ∙ c.if-is_every_host.false)
    (host_inside_is c.args.text.now c.without_first_dot.result.now c.without_last_dot-inside.result.now c.without_first_dot.ensures c.without_last_dot-inside.ensures.text)
    (sym c.has_empty_label.ensures ∙ c.if-has_empty_label.false)))

pub returns-clause-pattern : goal.returns-clause-pattern
returns-clause-pattern c =
    host_of_labels c.args.text.now c.without_last_dot-inside.result.now c.begins_with_dot.result c.ends_with_dot.result c.in_ok-labels.labels (sym c.is_every_host.ensures ∙ c.if-is_every_host.false)
    (host_inside_is c.args.text.now c.without_first_dot.result.now c.without_last_dot-inside.result.now c.without_first_dot.ensures c.without_last_dot-inside.ensures.text)
    (sym c.has_empty_label.ensures ∙ c.if-has_empty_label.false) c.in_ok-labels.ensures.labels c.begins_with_dot.ensures c.ends_with_dot.ensures
