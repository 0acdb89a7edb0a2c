use Rattle.std.proofs.Common.{length}
use Rattle.px_commands.proofs.OriginLemmas.{ReadsOrigin}
use Rattle.px_commands.proofs.origins.read_origin.Given as goal

abbrev pub invariant-entries : goal.invariant-entries
invariant-entries l = ReadsOrigin l.fn.text l.rest l.answers.items

abbrev pub decreases-entries : goal.decreases-entries
decreases-entries l = length l.rest
