use Rattle.std.proofs.Common.{◌≡◌, ◌++◌, length, map, ◌||◌}
use Rattle.px_host_lists.specs.Names.{host_named}
use Rattle.px_host_lists.specs.Readings.{entries_on, has_other, items_behind}
use Rattle.px_host_lists.specs.Slots.{IsGathered, gathered_entries}
use Rattle.px_host_lists.specs.Words.{used_words}
use Rattle.px_host_lists.proofs.gathering.Gathered.take_names.Given as goal

abbrev pub invariant-names : goal.invariant-names
invariant-names l = record {
  gathered : IsGathered l.self;
  added : gathered_entries l.fn.self ++ entries_on l.number (items_behind (used_words l.fn.text)) ≡ gathered_entries l.self ++ entries_on l.number (map host_named (used_words l.rest));
  other : has_other (items_behind (used_words l.fn.text)) ≡ (l.other || has_other (map host_named (used_words l.rest)));
}

abbrev pub decreases-names : goal.decreases-names
decreases-names l = length l.rest
