use Rattle.std.proofs.Common.{◌≡◌, ◌<◌, length}
use Rattle.std.specs.Str.{str_to_ascii_lowercase}
use Rattle.px_merge.specs.Keys.{number_behind}
use Rattle.px_merge.proofs.keys.key_number.Given as goal

abbrev pub invariant-bytes : goal.invariant-bytes
invariant-bytes l = record {
  same : number_behind l.number (str_to_ascii_lowercase l.rest) ≡ number_behind 0 (str_to_ascii_lowercase l.text);
  within : l.number < 4294967291;
}

abbrev pub decreases-bytes : goal.decreases-bytes
decreases-bytes l = length l.rest
