use Rattle.px_merge.specs.Indexes.{host_keys}
use Rattle.px_merge.proofs.indexes.PlaceIndex.add_url.Goals as goal

pub returns-in_ok-add_key-in-Some-clause-added : goal.returns-in_ok-add_key-in-Some-clause-added
returns-in_ok-add_key-in-Some-clause-added c = λ url e. c.in_ok-add_key-in-Some.ensures.added (host_keys url.host) (c.in-Some.ensures url e)

pub returns-in_ok-add_always-in-None-clause-added : goal.returns-in_ok-add_always-in-None-clause-added
returns-in_ok-add_always-in-None-clause-added c = λ url e. c.in_ok-add_always-in-None.ensures.added (host_keys url.host)
