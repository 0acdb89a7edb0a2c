use Rattle.px_head.proofs.GrammarBlocks.{request-block, response-block}
use Rattle.px_head.proofs.blocks.find_head.Goals as goal

pub returns-clause-request : goal.returns-clause-request
returns-clause-request c h rest reads fits =
    c.go_on.ensures.found _ rest reads.1 fits (request-block h reads.0)

pub returns-clause-response : goal.returns-clause-response
returns-clause-response c h rest reads fits =
    c.go_on.ensures.found _ rest reads.1 fits (response-block h reads.0)
