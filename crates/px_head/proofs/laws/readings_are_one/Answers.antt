use Rattle.px_head.proofs.ReadingLemmas.{request_is_one, response_is_one}
use Rattle.px_head.proofs.laws.readings_are_one.Goals as goal

pub returns-clause-request : goal.returns-clause-request
returns-clause-request c = request_is_one

pub returns-clause-response : goal.returns-clause-response
returns-clause-response c = response_is_one
