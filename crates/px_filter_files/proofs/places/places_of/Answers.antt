use Rattle.std.proofs.Common.{ap, sym, ◌∙◌}
use Rattle.px_filter_files.specs.FilterFiles.{has_key}
use Rattle.px_filter_files.specs.Headings.{Key}
use Rattle.px_filter_files.specs.Places.{or_here}
use Rattle.px_filter_files.proofs.FindLemmas.{first_place-more}
use Rattle.px_filter_files.proofs.places.places_of.Goals as goal

pub loop-at-preserved : goal.loop-at-preserved
loop-at-preserved c = λ name.
    let key : Key = record { kind = c.args.kind; name = name } in
    let filter = c.index-filters-at.result in
    c.in_ok-add_place.ensures name
    ∙ ap (λ o. or_here o (has_key key filter) c.loop-at.at) (c.loop-at.invariant name)
    ∙ sym (first_place-more (has_key key) c.args.filters.now c.loop-at.at filter c.loop-at-test.true c.index-filters-at.is)
