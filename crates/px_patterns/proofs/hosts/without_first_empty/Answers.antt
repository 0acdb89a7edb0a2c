use Rattle.std.proofs.Common.{◌∙◌, sym, length}
use Rattle.std.proofs.lemmas.Bool.{eqb-true, eqb-false}
use Rattle.px_patterns.proofs.FirstLabelLemmas.{has_dot, has_empty, lacks_empty}
use Rattle.px_patterns.proofs.hosts.without_first_empty.Goals as goal

pub returns-then-is_empty : goal.returns-then-is_empty
returns-then-is_empty c = has_empty c.args.bytes.now (eqb-true (length c.args.bytes.now) 0 (sym c.is_empty.ensures ∙ c.if-is_empty.true))

pub returns-then-first-ne-DOT : goal.returns-then-first-ne-DOT
returns-then-first-ne-DOT c = lacks_empty c.args.bytes.now (eqb-false (length c.args.bytes.now) 0 (sym c.is_empty.ensures ∙ c.if-is_empty.false)) c.if-first-ne-DOT.true

pub returns : goal.returns
returns c = has_dot c.args.bytes.now (eqb-false (length c.args.bytes.now) 0 (sym c.is_empty.ensures ∙ c.if-is_empty.false)) c.if-first-ne-DOT.false
