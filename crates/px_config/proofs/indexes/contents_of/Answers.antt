use Rattle.std.proofs.Common.{◌≡◌, ◌++◌, ◌∷◌, [], refl, rules, sym, ◌∙◌}
use Rattle.px_config.proofs.IndexLemmas.{none_added, one_item_more}
use Rattle.px_config.proofs.indexes.contents_of.Goals as goal

pub items-init : goal.items-init
items-init c = none_added c.new-contents.result c.args.items.now c.new-contents.ensures.empty

pub items-preserved : goal.items-preserved
items-preserved c = λ name.
    let item = c.in-Some.item.now in
    let key = c.in_ok-to_vec.field-0.items in
    let ends : c.items.rest.now ≡ c.in-Some.front.now ++ item ∷ [] = search rules in
    let named : key ≡ item.0 = search rules in
    sym (one_item_more c.items.contents c.insert.new.self c.items.rest.now c.in-Some.front.now item key _ ends named refl c.in_ok-insert.ensures.updates name)
    ∙ c.items.invariant name
