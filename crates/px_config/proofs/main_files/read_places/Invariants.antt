use Rattle.std.proofs.Common.{length}
use Rattle.px_config.proofs.MainFileLemmas.{Walks}
use Rattle.px_config.proofs.main_files.read_places.Given as goal

abbrev pub invariant-lines : goal.invariant-lines
invariant-lines l = Walks l.lines l.rest l.named

abbrev pub decreases-lines : goal.decreases-lines
decreases-lines l = length l.rest
