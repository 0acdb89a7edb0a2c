use Rattle.px_patterns.proofs.HostLemmas.{address_kept, labels_kept}
use Rattle.px_patterns.proofs.hosts.HostPattern.bucket.Goals as goal

pub returns-in-Address-clause-keeps : goal.returns-in-Address-clause-keeps
returns-in-Address-clause-keeps c = λ host matches. address_kept c.args.self.now c.in-Address.text host c.as_bytes.result.now c.in-Address.is c.as_bytes.ensures matches

pub returns-in-Some-clause-keeps : goal.returns-in-Some-clause-keeps
returns-in-Some-clause-keeps c = λ host matches.
    labels_kept c.args.self.now c.in-Labels.labels c.as_slice.result.now host c.in-Some.text.now c.in-Labels.is c.as_slice.ensures c.in-Some.ensures matches
