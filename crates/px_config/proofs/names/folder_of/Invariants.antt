use Rattle.std.proofs.Common.{◌≡◌, length}
use Rattle.px_config.specs.Names.{folder_of}
use Rattle.px_config.proofs.names.folder_of.Given as goal

abbrev pub invariant-bytes : goal.invariant-bytes
invariant-bytes l = folder_of l.name ≡ folder_of l.rest

abbrev pub decreases-bytes : goal.decreases-bytes
decreases-bytes l = length l.rest
