-- The sections so far, and the draws behind them.
use Rattle.std.proofs.Common.{◌≡◌, ◌++◌, ◌*◌}
use Rattle.px_generated.specs.Draws.{after_draws}
use Rattle.px_generated.specs.Files.{sections}
use Rattle.px_generated.proofs.files.push_sections.Given as goal

abbrev pub invariant-sections : goal.invariant-sections
invariant-sections l = record {
  text : l.out ≡ l.fn.out ++ sections l.counter l.fn.draws;
  draws : l.draws ≡ after_draws (3 * l.counter) l.fn.draws;
}
