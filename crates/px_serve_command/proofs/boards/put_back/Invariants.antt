use Rattle.std.proofs.Common.{◌≡◌, ◌+◌, ◌≤◌, vec_len, vec_capacity}
use Rattle.px_serve_command.proofs.boards.put_back.Given as goal

abbrev pub invariant-each : goal.invariant-each
invariant-each g l = record {
  each : vec_len l.insides + vec_len l.seats ≡ vec_len l.fn.insides;
  room : vec_len l.fn.insides ≤ vec_capacity l.seats;
}

abbrev pub decreases-each : goal.decreases-each
decreases-each g l = vec_len l.insides
