use Rattle.std.proofs.Common.{◌≡◌, ◌≤◌, drop}
use Rattle.px_base.specs.Numbers.{all_digits, with_digits}
use Rattle.px_base.proofs.numbers.read_decimal.Given as goal

abbrev pub invariant-digits : goal.invariant-digits
invariant-digits l = record {
  digits : all_digits l.bytes ≡ all_digits (drop l.byte-index l.bytes);
  value : with_digits 0 l.bytes ≡ with_digits l.value (drop l.byte-index l.bytes);
  within : l.value ≤ l.most;
}
