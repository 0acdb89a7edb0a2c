use Rattle.std.proofs.Common.{◌≡◌, arith}
use Rattle.std.proofs.lemmas.Grind.{common_steps}
use Rattle.px_merge.specs.Merging.{list_refs}
use Rattle.px_merge.proofs.HostListLemmas.{refs_of_lists}
use Rattle.px_merge.proofs.host_lists.list_refs.Goals as goal

pub returns-clause-lists : goal.returns-clause-lists
returns-clause-lists c =
    let e : c.from_vec.result ≡ list_refs c.args.lists.now c.args.host.now = grind (arith, common_steps) in
    refs_of_lists c.args.lists.now c.args.host.now c.from_vec.result e
