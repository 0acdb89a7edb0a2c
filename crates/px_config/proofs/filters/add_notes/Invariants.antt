use Rattle.std.proofs.Common.{◌≡◌, ◌++◌, length, map}
use Rattle.px_config.specs.Filters.{skip_note}
use Rattle.px_config.proofs.filters.add_notes.Given as goal

abbrev pub invariant-lines : goal.invariant-lines
invariant-lines l = l.initial.notes ++ map (skip_note l.name) l.skipped ≡ l.notes ++ map (skip_note l.name) l.rest

abbrev pub decreases-lines : goal.decreases-lines
decreases-lines l = length l.rest
