-- The requests and answers so far, and the draws behind them.
use Rattle.std.proofs.Common.{◌≡◌, ◌++◌, ◌*◌}
use Rattle.px_generated.specs.Draws.{after_draws}
use Rattle.px_generated.specs.Sessions.{answers, requests}
use Rattle.px_generated.proofs.sessions.push_requests.Given as goal

abbrev pub invariant-requests : goal.invariant-requests
invariant-requests l = record {
  input : l.session.input ≡ l.fn.session.input ++ requests l.counter l.fn.draws;
  answers : l.session.answers ≡ l.fn.session.answers ++ answers l.counter l.fn.draws;
  draws : l.draws ≡ after_draws (3 * l.counter) l.fn.draws;
}
