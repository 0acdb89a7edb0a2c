use Rattle.std.proofs.Common.{◌≡◌, ◌+◌, length, map}
use Rattle.px_action_files.specs.Meanings.{seen_section}
use Rattle.px_config.specs.Actions.{pattern_total}
use Rattle.px_config.proofs.actions.patterns_in.Given as goal

abbrev pub invariant-sections : goal.invariant-sections
invariant-sections l = pattern_total (map seen_section l.sections) ≡ l.count + pattern_total (map seen_section l.rest)

abbrev pub decreases-sections : goal.decreases-sections
decreases-sections l = length l.rest
