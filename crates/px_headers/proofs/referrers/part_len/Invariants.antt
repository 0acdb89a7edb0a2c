use Rattle.std.proofs.Common.{◌≡◌, ◌+◌, length}
use Rattle.px_headers.specs.Referrers.{part_len}
use Rattle.px_headers.proofs.referrers.part_len.Given as goal

abbrev pub invariant-bytes : goal.invariant-bytes
invariant-bytes l = record {
  len : l.len + part_len l.rest ≡ part_len l.text;
  within : l.len + length l.rest ≡ length l.text;
}

abbrev pub decreases-bytes : goal.decreases-bytes
decreases-bytes l = length l.rest
