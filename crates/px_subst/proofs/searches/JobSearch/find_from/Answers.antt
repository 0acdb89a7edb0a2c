use Rattle.std.proofs.Common.{ap₂, ◌∙◌, false, subst, sym, arith}
use Rattle.std.specs.Prelude.{length}
use Rattle.regex.specs.Bytes.{matcher_pattern}
use Rattle.regex.specs.Search.{LiesWithin}
use Rattle.regex.proofs.SearchLemmas.{leftmost_within}
use Rattle.px_subst.proofs.MatchLemmas.{read_groups}
use Rattle.px_subst.proofs.searches.JobSearch.find_from.Goals as goal

pub returns-clause-some : goal.returns-clause-some
returns-clause-some c =
    let found = c.in_ok-found.ensures.found in
    let m = found.0 in
    let groups = read_groups c.args.self.now.matcher c.args.text.now c.args.start m c.captures_read_at.new.locations found.1
    (c.captures_read_at.ensures.count ∙ c.requires) found.2.1 in (
      m,
      found.1,
      record {
        place_is = ap₂ (λ x y. (x, y)) c.start.ensures c.end.ensures ∙ found.2.0;
        groups_are = groups.0;
        within = groups.1;
      },
    )

pub returns-clause-within : goal.returns-clause-within
returns-clause-within c =
    let found = c.in_ok-found.ensures.found in
    let inside = leftmost_within (matcher_pattern c.args.self.now.matcher) c.args.text.now false c.args.start found.0 found.1 in
    subst (LiesWithin 0 (length c.args.text.now)) (sym (ap₂ (λ x y. (x, y)) c.start.ensures c.end.ensures ∙ found.2.0)) (omega arith, inside.1, inside.2)
