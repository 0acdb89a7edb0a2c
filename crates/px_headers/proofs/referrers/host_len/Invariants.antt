use Rattle.std.proofs.Common.{◌≡◌, ◌+◌, length}
use Rattle.px_headers.specs.Referrers.{host_len}
use Rattle.px_headers.proofs.referrers.host_len.Given as goal

abbrev pub invariant-bytes : goal.invariant-bytes
invariant-bytes l = record {
  len : l.len + host_len l.rest ≡ host_len l.part;
  within : l.len + length l.rest ≡ length l.part;
}

abbrev pub decreases-bytes : goal.decreases-bytes
decreases-bytes l = length l.rest
