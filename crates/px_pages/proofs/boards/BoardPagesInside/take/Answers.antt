use Rattle.px_config.specs.Insides.{asked}
use Rattle.px_pages.proofs.BoardLemmas.{gives_full, gives_settled}
use Rattle.px_pages.proofs.boards.BoardPagesInside.take.Goals as goal

pub returns-in-Ok-clause-gives : goal.returns-in-Ok-clause-gives
returns-in-Ok-clause-gives g c =
    let a = asked c.args.config.now c.args.number c.args.url.now c.args.page_request c.args.peer.now.address in
    gives_settled c.taking.result c.take.new.self a c.in_ok-asked.asked _ _ c.in-Ok.worn c.in_ok-asked.ensures c.change.ensures c.as_bytes.ensures
    c.in-Ok.ensures.worn c.in-Ok.ensures.settled c.taking.ensures.place c.taking.ensures.tags c.taking.ensures.page

pub returns-in-Err-Full-clause-gives : goal.returns-in-Err-Full-clause-gives
returns-in-Err-Full-clause-gives g c =
    let a = asked c.args.config.now c.args.number c.args.url.now c.args.page_request c.args.peer.now.address in
    gives_full c.full_taking.result c.take.new.self a c.in_ok-asked.asked _ _ c.in-Err-Full.worn c.in_ok-asked.ensures c.change.ensures c.as_bytes.ensures
    (rw c.in-Err-Full.field-0-is at c.in-Err-Full.ensures.full) c.full_taking.ensures.place c.full_taking.ensures.tags c.full_taking.ensures.page
