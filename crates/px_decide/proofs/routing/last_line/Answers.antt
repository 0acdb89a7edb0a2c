use Rattle.std.proofs.Common.{◌-◌, ◌∙◌, Some, ap, arith, get_or}
use Rattle.std.proofs.lemmas.List.{get_or_default}
use Rattle.px_decide.specs.declared.forwards.ForwardLine.{ForwardLine}
use Rattle.px_decide.specs.Lines.{forward_line_of}
use Rattle.px_decide.proofs.RouteLemmas.{line_earlier, line_found, line_none}
use Rattle.px_decide.proofs.routing.last_line.Goals as goal

pub returns-then-branch : goal.returns-then-branch
returns-then-branch g c =
    let fits = c.lines.invariant.0 in
    let lines = c.args.lines.now in
    let at = c.lines.at - 1 in
    let first = c.index-lines-at.result in
    let line = get_or lines at first in
    ap (λ (l : ForwardLine). Some (forward_line_of l)) (c.index-lines-at-then-branch.is ∙ get_or_default lines at c.index-lines-at-then-branch.result first (omega arith))
    ∙ line_found c.args.url.now lines at c.lines.at line c.in_ok-matches.field-0 (omega arith) (omega arith) (get_or_default lines at first line (omega arith))
    c.in_ok-matches.ensures.value c.if-branch.true c.lines.invariant.1

pub lines-preserved : goal.lines-preserved
lines-preserved g c =
    let fits = c.lines.invariant.0 in
    let lines = c.args.lines.now in
    let at = c.lines.at - 1 in
    let first = c.index-lines-at.result in
    let line = get_or lines at first in (
      omega arith,
      line_earlier c.args.url.now lines at c.lines.at line c.in_ok-matches.field-0 (omega arith) (omega arith) (get_or_default lines at first line (omega arith))
          c.in_ok-matches.ensures.value c.if-branch.false c.lines.invariant.1,
    )

pub returns : goal.returns
returns g c = line_none c.args.url.now c.args.lines.now c.lines.at (omega arith) c.lines.invariant.1
