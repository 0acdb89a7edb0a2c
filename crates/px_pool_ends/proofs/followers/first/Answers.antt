use Rattle.std.proofs.Common.{arith}
use Rattle.px_head.specs.declared.TheConstants.{HEAD_LIMIT}
use Rattle.px_pool_ends.proofs.AnswerLemmas.{none_yet}
use Rattle.px_pool_ends.proofs.followers.first.Goals as goal

pub returns-clause-settled : goal.returns-clause-settled
returns-clause-settled c = rw c.new.ensures (omega arith, none_yet, c.new-2.ensures HEAD_LIMIT)
