use Rattle.std.proofs.Common.{◌-◌, ℕ, length, arith, subst, ◌≡◌}
use Rattle.px_framing.specs.declared.places.ChunkPlace.TheVariants.{Data, Gap}
use Rattle.px_framing.specs.Elements.{AreWhole}
use Rattle.std.proofs.lemmas.Bool.Decides.{nat_tests}
use Rattle.px_framing.proofs.MoveLemmas.{data-place-zero, data-place-some}
use Rattle.px_framing.proofs.ExtractLemmas.{data-divides, no-data}
use Rattle.px_framing.proofs.extracts.data_run.Goals as goal

pub returns-then-left-eq0-clause-divides : goal.returns-then-left-eq0-clause-divides
returns-then-left-eq0-clause-divides c data_bytes w =
    let none : c.args.left ≡ 0 = grind (arith, nat_tests) in
    no-data c.args.bytes.now data_bytes c.requires.some (subst (λ (n : ℕ). AreWhole (Data n) c.args.bytes.now data_bytes) none w)

pub returns-then-left-bytes-clause-divides : goal.returns-then-left-bytes-clause-divides
returns-then-left-bytes-clause-divides c data_bytes w =
    data-divides c.args.left c.args.left Gap c.args.bytes.now data_bytes (grind (arith, nat_tests)) (omega arith) (grind (arith, nat_tests)) (data-place-zero (c.args.left - c.args.left) (omega arith)) w

pub returns-else-left-bytes-clause-divides : goal.returns-else-left-bytes-clause-divides
returns-else-left-bytes-clause-divides c data_bytes w =
    data-divides c.args.left (length c.args.bytes.now) (Data (c.args.left - length c.args.bytes.now)) c.args.bytes.now data_bytes (grind (arith, nat_tests)) (grind (arith, nat_tests)) (omega arith)
    (data-place-some (c.args.left - length c.args.bytes.now) (grind (arith, nat_tests))) w
