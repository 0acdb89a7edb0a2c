use Rattle.px_host_lists.proofs.AddressLemmas.{address-no_host}
use Rattle.px_host_lists.proofs.laws.addresses_are_no_hosts.Goals as goal

pub returns : goal.returns
returns c = address-no_host
