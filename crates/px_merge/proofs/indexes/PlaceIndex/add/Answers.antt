use Rattle.px_merge.specs.Indexes.{host_keys}
use Rattle.px_merge.proofs.indexes.PlaceIndex.add.Goals as goal

pub returns-in_ok-add_always-in-ClientTag-clause-added : goal.returns-in_ok-add_always-in-ClientTag-clause-added
returns-in_ok-add_always-in-ClientTag-clause-added c = λ url tags e. c.in_ok-add_always-in-ClientTag.ensures.added (host_keys url.host)
