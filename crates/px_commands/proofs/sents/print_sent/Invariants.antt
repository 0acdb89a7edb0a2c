use Rattle.std.proofs.Common.{◌≡◌, ◌++◌, drop}
use Rattle.px_commands.specs.Sents.{sent_text}
use Rattle.px_commands.proofs.sents.print_sent.Given as goal

abbrev pub invariant-links : goal.invariant-links
invariant-links l = sent_text l.links ≡ l.text ++ sent_text (drop l.link-index l.links)
