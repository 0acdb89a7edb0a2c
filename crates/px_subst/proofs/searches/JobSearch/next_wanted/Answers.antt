use Rattle.std.proofs.Common.{◌∷◌, ◌+◌, ◌≤◌, ℕ, false, ap, subst, sym, ◌∙◌, arith}
use Rattle.regex.specs.Bytes.{matcher_pattern}
use Rattle.regex.specs.Search.{matches_after}
use Rattle.px_subst.proofs.MatchLemmas.{first_left, first_later, if_none, if_none_then, if_some_then, none_later, none_left, take_of_none}
use Rattle.px_subst.proofs.searches.JobSearch.next_wanted.Goals as goal

pub returns-in_err-first-clause-none : goal.returns-in_err-first-clause-none
returns-in_err-first-clause-none c =
    let none = rw c.saturating_sub.ensures at c.in_err-first.ensures.none in
    if_none c.from_residual.result (take_of_none c.args.wanted (none_left (matcher_pattern c.args.self.now.matcher) c.args.text.now c.args.after none))

pub returns-then-first-after-clause-some : goal.returns-then-first-after-clause-some
returns-then-first-after-clause-some c =
    let re = matcher_pattern c.args.self.now.matcher in
    let text = c.args.text.now in
    let some = c.in_ok-first.ensures.some in
    let behind = subst (λ (s : ℕ × ℕ). c.args.after ≤ s.1) some.2.place_is c.if-first-after.true in (
      some.0,
      record {
        wants = omega arith;
        first = first_left re text c.args.after some.0 (rw c.saturating_sub.ensures at some.1) behind
            ∙ ap (λ n. some.0 ∷ matches_after false re text (n + 1)) (sym (ap (λ (s : ℕ × ℕ). s.1) some.2.place_is));
        lies = some.2;
      },
    )

pub returns-clause-none : goal.returns-clause-none
returns-clause-none c =
    let re = matcher_pattern c.args.self.now.matcher in
    let text = c.args.text.now in
    let some = c.in_ok-first.ensures.some in
    let ends = ap (λ (s : ℕ × ℕ). s.1) some.2.place_is in
    if_none_then c.find_from-2.result
    (λ none. take_of_none c.args.wanted
    (none_later re text c.args.after some.0 (rw c.saturating_sub.ensures at some.1) (omega (arith, ends, c.if-first-after.false)) none))
    (rw c.find_from.ensures.same at c.find_from-2.ensures.none)

pub returns-clause-some : goal.returns-clause-some
returns-clause-some c =
    let re = matcher_pattern c.args.self.now.matcher in
    let text = c.args.text.now in
    let some = c.in_ok-first.ensures.some in
    let ends = ap (λ (s : ℕ × ℕ). s.1) some.2.place_is in
    if_some_then c.find_from-2.result
    (λ place later. (
      later.0,
      record {
        wants = omega arith;
        first = first_later re text c.args.after some.0 later.0 (rw c.saturating_sub.ensures at some.1) (omega (arith, ends, c.if-first-after.false)) later.1
            ∙ ap (λ n. later.0 ∷ matches_after false re text (n + 1)) (sym (ap (λ (s : ℕ × ℕ). s.1) later.2.place_is));
        lies = later.2;
      },
    ))
    (rw c.find_from.ensures.same at c.find_from-2.ensures.some)
