use Rattle.std.proofs.Common.{◌≡◌, length, option_copied}
use Rattle.px_config.specs.Listings.{host_lists, no_lists, seen_lists}
use Rattle.px_config.proofs.listings.HostLists.read.Given as goal

abbrev pub invariant-lines : goal.invariant-lines
invariant-lines l = host_lists l.set (option_copied l.folder) (no_lists l.fn.notes) l.lines ≡ host_lists l.set (option_copied l.folder) (seen_lists l.lists) l.rest

abbrev pub decreases-lines : goal.decreases-lines
decreases-lines l = length l.rest
