use Rattle.std.proofs.Common.{◌≡◌, ◌==◌, ◌&&◌, Some, is_some, false, true, ap, sym, ◌∙◌, bytes_eq, rules}
use Rattle.px_filter_files.specs.Headings.{rank}
use Rattle.px_filter_files.specs.Places.{or_here, place_in}
use Rattle.px_filter_files.proofs.NameLemmas.{place_added}
use Rattle.px_filter_files.proofs.PlaceLemmas.{goes_there}
use Rattle.px_filter_files.proofs.places.add_place.Goals as goal

pub returns : goal.returns
returns c = λ name.
    let names = c.args.map.now in
    let at = c.args.at in
    let key = c.in_ok-to_vec.field-0.items in
    let same_kind = rank c.args.kind == rank c.args.filter.now.kind in
    let named : key ≡ c.args.filter.now.name = search rules in
    let of_kind : same_kind ≡ true = sym c.is.ensures ∙ c.if-not-is.false in
    let absent : is_some (place_in names key) ≡ false =
    ap (λ n. is_some (place_in names n)) (named ∙ sym c.as_bytes-name.ensures) ∙ sym c.contains_key.ensures ∙ c.if-contains_key.false in
    place_added key names c.insert.new.self (Some at) c.in_ok-insert.ensures.updates name
    ∙ goes_there names key same_kind at of_kind absent name
    ∙ ap (λ n. or_here (place_in names name) (same_kind && bytes_eq name n) at) named
