use Rattle.std.proofs.Common.{◌≡◌, None, map, take}
use Rattle.px_filter_files.proofs.warm_filters.none_kept.Given as goal

abbrev pub invariant-filters : goal.invariant-filters
invariant-filters l = l.kept.items ≡ map (λ _. None) (take l._filter-index l.filters)
