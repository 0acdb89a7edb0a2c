use Rattle.std.proofs.Common.{◌∙◌, ap, take}
use Rattle.std.proofs.lemmas.List.{take_min}
use Rattle.px_log_lines.specs.declared.requests.TheConstants.{REQUEST_SHOWN}
use Rattle.px_log_lines.proofs.requests.shown_front.Goals as goal

pub returns : goal.returns
returns c = ap (λ n. take n c.args.line.now) c.min.ensures ∙ take_min REQUEST_SHOWN c.args.line.now
