use Rattle.std.proofs.lemmas.List.{take_all}
use Rattle.px_log_lines.specs.declared.texts.TheConstants.{LINE_SHOWN}
use Rattle.px_log_lines.proofs.texts.LineText.end.Goals as goal

pub returns : goal.returns
returns c = rw (take_all LINE_SHOWN c.args.self (rw c.self.view_is at c.self.invariant)) (rw c.self.view_is at c.push.ensures.items)
