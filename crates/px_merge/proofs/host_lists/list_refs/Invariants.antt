use Rattle.std.proofs.Common.{◌≡◌, ◌++◌, drop}
use Rattle.px_merge.specs.Merging.{list_refs, list_refs_from}
use Rattle.px_merge.proofs.host_lists.list_refs.Given as goal

abbrev pub invariant-loop-number : goal.invariant-loop-number
invariant-loop-number l = l.refs.items ++ list_refs_from l.number (drop l.number l.lists) l.host ≡ list_refs l.lists l.host
