use Rattle.std.proofs.Common.{◌-◌, length, refl, arith}
use Rattle.px_framing.specs.declared.places.State.TheVariants.{Cut}
use Rattle.px_framing.specs.declared.stages.Stage.TheVariants as stage
use Rattle.px_framing.proofs.PassLemmas.{full-pass, part-pass}
use Rattle.px_framing.proofs.advances.pass_rest.Goals as goal

pub returns-then-room-piece : goal.returns-then-room-piece
returns-then-room-piece c = record {
  passes = full-pass c.args.room Cut (stage.Rest c.args.room) c.args.piece.now (λ rest. refl) (omega arith) (omega arith);
  settled_stage = (refl, λ e. cc);
  short = omega arith;
  whole = omega arith;
  used = record { within = omega arith; all = λ e. absurd (cc) };
  left = λ e. absurd (cc);
  stays = λ open_. absurd (open_ refl);
}

pub returns-else-room-piece : goal.returns-else-room-piece
returns-else-room-piece c = record {
  passes = part-pass c.args.room Cut (stage.Rest c.args.room) (stage.Rest (c.args.room - length c.args.piece.now)) c.args.piece.now (λ rest. refl) (λ rest. refl) (record { ended = λ e. refl; to_close = λ e. refl }) (omega arith);
  settled_stage = (refl, omega arith);
  short = omega arith;
  whole = omega arith;
  used = record { within = omega arith; all = λ e. refl };
  left = λ e. omega arith;
  stays = λ open_. absurd (open_ refl);
}
