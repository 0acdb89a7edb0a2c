use Rattle.std.proofs.Common.{◌∙◌, sym, ap, Some}
use Rattle.px_patterns.proofs.HostLemmas.{glob_last, plain_last}
use Rattle.px_patterns.proofs.hosts.last_plain.Goals as goal

pub returns-in-Plain : goal.returns-in-Plain
returns-in-Plain c =
    ap (λ t. Some t) c.as_bytes.ensures
    ∙ sym (c.labels.invariant ∙ plain_last c.labels.left.now c.in-Some.before.now c.in-Some.last.now c.in-Plain.text c.in-Some.ensures.cases.0 c.in-Plain.is)

pub labels-preserved : goal.labels-preserved
labels-preserved c = c.labels.invariant ∙ glob_last c.labels.left.now c.in-Some.before.now c.in-Some.last.now c.in_default-last.field-0 c.in-Some.ensures.cases.0 c.in_default-last.is
