use Rattle.std.proofs.Common.{◌≡◌, ◌++◌, ◌∷◌, [], rules}
use Rattle.px_config.proofs.IndexLemmas.{one_name_more}
use Rattle.px_config.proofs.indexes.Gathered.add.Goals as goal

pub invariant_of-drop : goal.invariant_of-drop
invariant_of-drop c =
    let before = c.items.inside in
    let key = c.in_ok-to_vec.field-0.items in
    let ends : c.add.new.self ≡ before.items ++ (c.args.name, c.args.content) ∷ [] = search rules in
    let named : key ≡ c.args.name = search rules in
    one_name_more before.names c.insert.new.self before.items c.add.new.self (c.args.name, c.args.content) key c.items.invariant ends named c.in_ok-insert.ensures.updates
