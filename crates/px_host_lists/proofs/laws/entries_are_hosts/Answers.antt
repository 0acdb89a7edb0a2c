use Rattle.px_host_lists.proofs.HeldLemmas.{entries-hosts}
use Rattle.px_host_lists.proofs.laws.entries_are_hosts.Goals as goal

pub returns : goal.returns
returns c = entries-hosts
