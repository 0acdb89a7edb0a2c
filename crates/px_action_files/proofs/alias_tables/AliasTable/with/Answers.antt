use Rattle.std.proofs.Common.{rules}
use Rattle.px_action_files.proofs.IndexLemmas.{index_pushed}
use Rattle.px_action_files.proofs.alias_tables.AliasTable.with.Goals as goal

pub invariant_of-result : goal.invariant_of-result
invariant_of-result c =
    index_pushed c.args.self c.self.inside.list c.add.new.self c.args.alias c.as_bytes.result.now c.in_ok-key.key.items c.len.result c.self.inside.places c.insert.new.self
    c.self.invariant (search rules) c.as_bytes.ensures c.in_ok-key.ensures c.len.ensures c.requires c.in_ok-add.ensures.ok c.in_ok-insert.ensures.updates
