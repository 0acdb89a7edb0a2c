use Rattle.std.proofs.Common.{◌≡◌, false, length}
use Rattle.regex_hir.specs.Find.{find_all}
use Rattle.regex.specs.Bytes.{matcher_pattern, matcher_names}
use Rattle.regex.specs.Search.{matches_after}
use Rattle.regex.specs.Locations.{location_count}
use Rattle.px_subst.specs.Substitutes.{written_items}
use Rattle.px_subst.specs.Replacers.{items_in_all}
use Rattle.px_subst.proofs.MatchLemmas.{Replaced}
use Rattle.px_subst.proofs.searches.JobSearch.replace_matches.Given as goal

abbrev pub invariant-matches : goal.invariant-matches
invariant-matches l = record {
  same : matcher_pattern l.self.matcher ≡ matcher_pattern l.fn.self.matcher;
  room : location_count l.self.places ≡ length (matcher_names l.self.matcher);
  so_far : Replaced (written_items l.text (items_in_all l.parts)) l.text l.limit (find_all (matcher_pattern l.fn.self.matcher) l.text)
      (matches_after false (matcher_pattern l.fn.self.matcher) l.text l.after) l.out.items l.last l.hits;
}

abbrev pub decreases-matches : goal.decreases-matches
decreases-matches l = length (matches_after false (matcher_pattern l.fn.self.matcher) l.text l.after)
