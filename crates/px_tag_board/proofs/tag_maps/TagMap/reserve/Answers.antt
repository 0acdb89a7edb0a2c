use Rattle.std.proofs.Common.{rules, ◌≡◌, sym, ap, ◌∙◌, is_some, false}
use Rattle.px_tag_board.specs.Wearing.{tags_in}
use Rattle.px_tag_board.proofs.TagMapLemmas.{worn_reserved}
use Rattle.px_tag_board.proofs.tag_maps.TagMap.reserve.Goals as goal

pub returns-clause-same : goal.returns-clause-same
returns-clause-same c = λ other.
    let old = c.args.self.now.worn in
    let key = c.in_ok-to_vec.field-0.items in
    let named : key ≡ c.args.address.now = search rules in
    let none : is_some (tags_in old key) ≡ false = ap (λ a. is_some (tags_in old a)) named ∙ (sym c.contains_key.ensures ∙ c.if-contains_key.false) in
    worn_reserved key old c.insert.new.self (rw c.new.ensures at c.in_ok-insert.ensures.updates) none other
