use Rattle.std.proofs.Common.{◌≡◌, length, [], map}
use Rattle.px_action_files.specs.Aliases.{aliases_of}
use Rattle.px_action_files.specs.Meanings.{seen_alias}
use Rattle.px_action_files.proofs.aliases.read_aliases.Given as goal

abbrev pub invariant-lines : goal.invariant-lines
invariant-lines l = aliases_of l.rest (map seen_alias l.known) ≡ aliases_of l.lines []

abbrev pub decreases-lines : goal.decreases-lines
decreases-lines l = length l.rest
