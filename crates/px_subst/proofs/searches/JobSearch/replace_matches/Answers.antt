use Rattle.std.proofs.Common.{◌≡◌, ◌+◌, ◌++◌, ◌∷◌, ℕ, false, flat_map, slice_range, refl, ap, subst, subst₂, sym, ◌∙◌}
use Rattle.regex_hir.specs.Find.{find_all}
use Rattle.regex.specs.Bytes.{matcher_pattern}
use Rattle.regex.specs.Search.{matches_after}
use Rattle.regex.proofs.SearchLemmas.{matches_after_bytes}
use Rattle.px_subst.specs.Substitutes.{written_items}
use Rattle.px_subst.specs.Replacers.{items_in_all, part_bytes}
use Rattle.px_subst.proofs.MatchLemmas.{Replaced, none_replaced, one_more, all_replaced, as_outcome, nothing_hit, all_in_order, few_matches, in_order_fits, parts_write}
use Rattle.px_subst.proofs.searches.JobSearch.replace_matches.Goals as goal

pub matches-init : goal.matches-init
matches-init c =
    let re = matcher_pattern c.args.self.now.matcher in
    let text = c.args.text.now in
    record {
      same = refl;
      room = c.requires;
      so_far = rw (matches_after_bytes re text, c.new-out.ensures.items)
          (none_replaced (written_items text (items_in_all c.args.parts.now)) text c.args.limit (find_all re text) (all_in_order re text) (few_matches re text));
    }

pub matches-preserved : goal.matches-preserved
matches-preserved c =
    let text = c.args.text.now in
    let re = matcher_pattern c.args.self.now.matcher in
    let all = find_all re text in
    let W = written_items text (items_in_all c.args.parts.now) in
    let next = c.in-Some.ensures.some in
    let takes = next.1 in
    let here = parts_write text next.0 c.next_wanted.new.self.places takes.lies.groups_are c.args.parts.now in
    let first : matches_after false re text c.matches.after ≡ next.0 ∷ matches_after false re text (c.in-Some.place.1 + 1) =
    subst (λ r. matches_after false r text c.matches.after ≡ next.0 ∷ matches_after false r text (c.in-Some.place.1 + 1)) c.matches.invariant.same takes.first in
    let so_far = subst (λ ms. Replaced W text c.args.limit all ms c.matches.out.items c.matches.last c.matches.hits) first c.matches.invariant.so_far in
    let more = one_more W text c.args.limit all next.0 (matches_after false re text (c.in-Some.place.1 + 1)) c.matches.out.items _ c.matches.last c.matches.hits takes.wants here so_far in
    record {
      same = c.next_wanted.ensures.same ∙ c.matches.invariant.same;
      room = c.next_wanted.ensures.room;
      so_far = subst₂ (λ out last. Replaced W text c.args.limit all (matches_after false re text (c.in-Some.place.1 + 1)) out last (c.matches.hits + 1))
          (ap (λ start. c.matches.out.items ++ (slice_range text c.matches.last start ++ flat_map (part_bytes text c.next_wanted.new.self.places) c.args.parts.now))
          (sym (ap (λ (s : ℕ × ℕ). s.0) takes.lies.place_is))
          ∙ sym (rw c.make_room.ensures at c.in_ok-write_match.ensures))
          (sym (ap (λ (s : ℕ × ℕ). s.1) takes.lies.place_is)) more;
    }

pub push_rest-requires : goal.push_rest-requires
push_rest-requires c = in_order_fits _ _ _ c.matches.invariant.so_far.ordered

pub returns-then-hits-eq0-clause-value : goal.returns-then-hits-eq0-clause-value
returns-then-hits-eq0-clause-value c =
    let text = c.args.text.now in
    let all = find_all (matcher_pattern c.args.self.now.matcher) text in
    let W = written_items text (items_in_all c.args.parts.now) in
    let none = rw c.matches.invariant.same at c.in_default.ensures.none in
    let done = all_replaced W text c.args.limit all _ _ _ _ none c.matches.invariant.so_far in
    let none = sym c.if-hits-eq0.true ∙ done.1 in
    as_outcome W text c.args.limit all text 0 (nothing_hit W text c.args.limit all none, none)

pub returns-clause-value : goal.returns-clause-value
returns-clause-value c =
    let text = c.args.text.now in
    let all = find_all (matcher_pattern c.args.self.now.matcher) text in
    let W = written_items text (items_in_all c.args.parts.now) in
    let none = rw c.matches.invariant.same at c.in_default.ensures.none in
    let done = all_replaced W text c.args.limit all _ _ _ _ none c.matches.invariant.so_far in
    as_outcome W text c.args.limit all c.from_vec.result c.matches.hits (c.from_vec.ensures ∙ c.in_ok-push_rest.ensures ∙ done.0, done.1)
