use Rattle.px_templates.proofs.LineLemmas.{lines_of-at, lines_of-last}
use Rattle.px_templates.proofs.lines.split_line.Goals as goal

pub returns-in-None-clause-split : goal.returns-in-None-clause-split
returns-in-None-clause-split c = lines_of-last c.args.text.now c.requires c.in-None.ensures

pub returns-in-Some-clause-split : goal.returns-in-Some-clause-split
returns-in-Some-clause-split c =
    lines_of-at c.args.text.now c.split_at.result.0.now c.split_at.result.1.now c.in-Some.at c.in-Some.ensures.0.high c.in-Some.ensures.1
    c.in-Some.ensures.0.before c.split_at.ensures.front c.split_at.ensures.back
