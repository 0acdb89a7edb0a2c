use Rattle.std.proofs.Common.{◌-◌, length, refl, arith}
use Rattle.px_framing.specs.declared.places.State.TheVariants.{Whole}
use Rattle.px_framing.specs.declared.stages.Stage.TheVariants as stage
use Rattle.px_framing.proofs.PassLemmas.{full-pass, part-pass}
use Rattle.px_framing.proofs.advances.pass_bytes.Goals as goal

pub returns-then-left-piece : goal.returns-then-left-piece
returns-then-left-piece c = record {
  passes = full-pass c.args.left Whole (stage.Bytes c.args.left) c.args.piece.now (λ rest. refl) (omega arith) (omega arith);
  settled_stage = (refl, λ e. cc);
  short = omega arith;
  whole = omega arith;
  used = record { within = omega arith; all = λ e. absurd (cc) };
  left = λ e. absurd (cc);
  stays = λ open_. absurd (open_ refl);
}

pub returns-else-left-piece : goal.returns-else-left-piece
returns-else-left-piece c = record {
  passes = part-pass c.args.left Whole (stage.Bytes c.args.left) (stage.Bytes (c.args.left - length c.args.piece.now)) c.args.piece.now (λ rest. refl) (λ rest. refl) (record { ended = λ e. refl; to_close = λ e. refl }) (omega arith);
  settled_stage = (refl, omega arith);
  short = omega arith;
  whole = omega arith;
  used = record { within = omega arith; all = λ e. refl };
  left = λ e. omega arith;
  stays = λ open_. absurd (open_ refl);
}
