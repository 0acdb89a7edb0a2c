use Rattle.std.proofs.Common.{None}
use Rattle.px_framing.proofs.ExtractLemmas.{line-divides, line-goes}
use Rattle.px_framing.proofs.extracts.line_run.Goals as goal

pub returns-in-Some-clause-divides : goal.returns-in-Some-clause-divides
returns-in-Some-clause-divides c data_bytes some line w = line-divides c.args.before c.args.bytes.now data_bytes c.in-Some.line some line c.in-Some.ensures.line w

pub returns-in-None-clause-divides : goal.returns-in-None-clause-divides
returns-in-None-clause-divides c data_bytes some line w =
    let g = line-goes c.args.before c.args.bytes.now data_bytes None some line c.in-None.ensures.line w in
    let e = g.1 in cc
