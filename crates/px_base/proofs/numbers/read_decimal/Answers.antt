use Rattle.std.proofs.Common.{sym, arith}
use Rattle.px_base.proofs.NumberLemmas.{too_large}
use Rattle.px_base.proofs.numbers.read_decimal.Goals as goal

pub returns-then-value-from-clause-value : goal.returns-then-value-from-clause-value
returns-then-value-from-clause-value c = sym (too_large c.args.most c.digits.value c.digits.byte-index c.args.bytes.now (omega arith) c.digits.invariant.value (omega arith))
