use Rattle.std.proofs.Common.{◌≡◌, ◌+◌, ◌<◌, ◌^◌, drop, length}
use Rattle.std.specs.Str.Parse.{digits_value, digits_value_after}
use Rattle.px_framing.specs.Lines.{front_while, is_hex}
use Rattle.px_framing.proofs.lines.digits_at.Given as goal

abbrev pub invariant-loop-i : goal.invariant-loop-i
invariant-loop-i l = record {
  fits : l.value < 2 ^ 63;
  gives : digits_value_after 16 l.value (front_while is_hex (drop l.i l.bytes)) ≡ digits_value 16 (front_while is_hex l.bytes);
  passed : l.i + length (front_while is_hex (drop l.i l.bytes)) ≡ length (front_while is_hex l.bytes);
}
