use Rattle.px_patterns.proofs.HostLemmas.{candidate-from, labels_value}
use Rattle.px_patterns.proofs.hosts.HostPattern.matches.Goals as goal

pub returns-in-Labels-clause-fits : goal.returns-in-Labels-clause-fits
returns-in-Labels-clause-fits c =
    labels_value c.args.self.now c.in-Labels.labels c.args.host.now c.without_last_dot.result.now c.matches.result c.in-Labels.is c.without_last_dot.ensures.text c.matches.ensures

pub returns-in-Labels-clause-candidate : goal.returns-in-Labels-clause-candidate
returns-in-Labels-clause-candidate c =
    candidate-from c.args.self.now c.in-Labels.labels c.args.host.now c.without_last_dot.result.now c.matches.result c.in-Labels.is c.without_last_dot.ensures.text c.matches.ensures
