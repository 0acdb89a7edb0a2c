use Rattle.std.proofs.Common.{◌-◌, length, refl, arith}
use Rattle.std.proofs.lemmas.List.{take_all}
use Rattle.px_framing.proofs.MoveLemmas.{move-data, data-place-some}
use Rattle.px_framing.proofs.passes.pass_data.Goals as goal

pub returns-else-left-rest : goal.returns-else-left-rest
returns-else-left-rest c =
    let n = c.args.left in
    let run = c.args.rest.now in
    record {
      used = (c.requires.some, omega arith);
      held = (omega arith, refl);
      goes = rw (take_all (length run) run (omega arith))
          (move-data n run _ c.requires.some (omega arith) (data-place-some (n - length run) (omega arith)));
      fresh = λ e. refl;
      grows = λ e more. absurd (cc);
    }
