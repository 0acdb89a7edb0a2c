use Rattle.std.proofs.Common.{◌≡◌, ◌<◌, length, sym, subst, arith}
use Rattle.px_publish.specs.Published.{reader_pair}
use Rattle.px_part_tests.proofs.publish.first_of.Goals as goal

pub returns : goal.returns
returns c = λ pair all.
    let some : 0 < length c.args.readers.items = omega (arith, c.args.readers.ok) in
    subst (λ r. reader_pair r ≡ pair) (sym c.remove.ensures.value) (all 0 c.remove.result some)
