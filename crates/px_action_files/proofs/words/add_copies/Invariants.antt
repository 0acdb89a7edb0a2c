use Rattle.std.proofs.Common.{◌≡◌, ◌++◌, length, map}
use Rattle.px_action_files.specs.Meanings.{seen_update}
use Rattle.px_action_files.proofs.words.add_copies.Given as goal

abbrev pub invariant-copies : goal.invariant-copies
invariant-copies l = map seen_update l.updates ++ map seen_update l.rest ≡ map seen_update l.initial.updates ++ map seen_update l.copied

abbrev pub decreases-copies : goal.decreases-copies
decreases-copies l = length l.rest
