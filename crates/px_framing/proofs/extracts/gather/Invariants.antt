use Rattle.std.proofs.Common.{◌≡◌, ℕ, ◌-◌, ◌≤◌, List, ◌++◌, length, take, drop}
use Rattle.px_framing.specs.Elements.{AreWhole}
use Rattle.px_framing.proofs.extracts.gather.Given as goal

abbrev pub invariant-runs : goal.invariant-runs
invariant-runs l = record {
  len : length l.bytes ≡ length l.initial.bytes;
  within : l.at ≤ length l.bytes;
  behind : l.to ≤ l.at;
  rest : drop l.at l.bytes ≡ drop l.at l.initial.bytes;
  data_bytes : (data_bytes : List ℕ) → AreWhole l.fn.start (drop l.fn.from l.initial.bytes) data_bytes → (more : List ℕ) × AreWhole l.before (drop l.at l.bytes) more × (take l.fn.from l.initial.bytes ++ data_bytes ≡ take l.to l.bytes ++ more);
}

abbrev pub decreases-runs : goal.decreases-runs
decreases-runs l = length l.bytes - l.at
