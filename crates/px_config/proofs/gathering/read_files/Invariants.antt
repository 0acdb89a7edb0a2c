use Rattle.std.proofs.Common.{length, option_copied}
use Rattle.px_config.proofs.GatherLemmas.{Gathers}
use Rattle.px_config.proofs.gathering.read_files.Given as goal

abbrev pub invariant-names : goal.invariant-names
invariant-names g l = Gathers l.limit (g.F.Files.state l.initial.files) (g.F.Files.state l.files) (option_copied l.folder) l.initial.items l.items l.names l.rest

abbrev pub decreases-names : goal.decreases-names
decreases-names g l = length l.rest
