-- Headings and the kinds and names of filters, as the program has them.
use Rattle.std.specs.Prelude.{ℕ, Bool, false, List, Option, option_map}
use Rattle.std.specs.Borrow.{Bor}
use Rattle.std.specs.BTreeSet.{BTreeSet, contains_by}
use Rattle.std.specs.Cmp.Lexicographic.{slice_cmp}
use Rattle.std.specs.Option.{option_and_then, option_map_or}
use Rattle.std.specs.Ordering.{nat_cmp, ordering_then}
use Rattle.px_filter_files.specs.declared.kinds.FilterHeading.{FilterHeading}
use Rattle.px_filter_files.specs.Headings.{HeadingParts, Key, key_in, rank, same_key}

-- a filter of this kind and name is in the set, by the kind's rank
abbrev pub has_seen : BTreeSet (ℕ × Bor (List ℕ)) → Key → Bool
has_seen seen key = contains_by (λ k. ordering_then (nat_cmp (rank key.kind) k.0) (slice_cmp nat_cmp key.name k.1.now)) seen

-- the heading begins a filter of this kind and name
abbrev pub begins_filter : Option HeadingParts → Key → Bool
begins_filter heading key = option_map_or (same_key key) (option_and_then key_in heading) false

-- the heading's kind and name
abbrev pub parts_seen : FilterHeading → HeadingParts
parts_seen h = record { kind = h.kind; name = h.name.now }

abbrev pub heading_seen : Option FilterHeading → Option HeadingParts
heading_seen = option_map parts_seen
