use Rattle.std.proofs.Common.{◌≡◌, length}
use Rattle.px_config.specs.Mains.{main_of, with_lines}
use Rattle.px_config.proofs.mains.Main.read.Given as goal

abbrev pub invariant-lines : goal.invariant-lines
invariant-lines l = main_of l.file l.lines ≡ with_lines l.file l.main l.rest

abbrev pub decreases-lines : goal.decreases-lines
decreases-lines l = length l.rest
