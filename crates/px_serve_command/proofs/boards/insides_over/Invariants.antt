use Rattle.std.proofs.Common.{◌≡◌, ◌+◌, ◌≤◌, vec_len, vec_capacity}
use Rattle.px_serve_command.proofs.boards.insides_over.Given as goal

abbrev pub invariant-each : goal.invariant-each
invariant-each g l = record {
  each : vec_len l.seats + vec_len l.room ≡ vec_len l.initial.seats;
  room : vec_len l.initial.seats ≤ vec_capacity l.room;
  capacity : vec_len l.initial.seats ≤ vec_capacity l.seats;
}

abbrev pub decreases-each : goal.decreases-each
decreases-each g l = vec_len l.seats
