use Rattle.std.proofs.Common.{◌≡◌, length}
use Rattle.std.specs.Prelude.{◌==◌}
use Rattle.std.specs.List.{list_all, slice_split}
use Rattle.px_host_lists.specs.Addresses.{is_octet}
use Rattle.px_host_lists.proofs.addresses.are_octets.Given as goal

abbrev pub invariant-octets : goal.invariant-octets
invariant-octets l = list_all is_octet (slice_split (λ b. b == 46) l.word) ≡ list_all is_octet (slice_split (λ b. b == 46) l.rest)

abbrev pub decreases-octets : goal.decreases-octets
decreases-octets l = length l.rest
