-- What is not found leaves a text as it is, and what is found is a hit.
use Rattle.std.proofs.Common.{◌≡◌, ◌++◌, ℕ, ◌+◌, ◌<◌, ◌^◌, ◌-◌, Bool, true, false, List, [], ◌∷◌, Option, Some, None, is_some, take, drop, length, get_or, fold, slice_index, refl, sym, ap, subst, ◌∙◌, true≢false, arith}
use Rattle.std.proofs.lemmas.List.{take_more, take-append-drop}
use Rattle.std.proofs.lemmas.List.Sums.{fold-append}
use Rattle.regex_hir.specs.Re.{Re}
use Rattle.regex_hir.specs.Find.{Match, find, find_all}
use Rattle.regex.specs.Replace.{replaced_by}
use Rattle.regex.proofs.SearchLemmas.{matches_after_bytes}
use Rattle.px_subst.specs.declared.items.SubstituteItem.{SubstituteItem}
use Rattle.px_subst.specs.declared.outcomes.JobOutcome.{JobOutcome}
use Rattle.px_subst.specs.declared.words.Vars.{Vars}
use Rattle.px_subst.specs.Substitutes.{written_items}
use Rattle.px_subst.specs.Expressions.{IsJobBuiltFrom}
use Rattle.px_subst.specs.Jobs.{JobParts, replaced, run_filter, run_job, run_next, unchanged}
use Rattle.px_subst.specs.Replacers.{Built, replaces}
use Rattle.px_subst.proofs.MatchLemmas.{none_left, first_left}
use Rattle.px_subst.proofs.Alike.{built_replaces}

-- ---- an expression in a text

module _ (every : Bool) (items : List SubstituteItem) (re : Re) (text : List ℕ) where
  abbrev outcome_by : List Match → JobOutcome
  outcome_by taken = record { text = replaced_by (written_items text items) text 0 taken; hits = length taken }

  without_match : (b : Bool) → find_all re text ≡ [] → replaced b items re text ≡ unchanged text
  unfolding replaced_by
  without_match true none = ap outcome_by none
  without_match false none = ap (λ ms. outcome_by (take 1 ms)) none

  with_match : (b : Bool) (m : Match) (ms : List Match) → find_all re text ≡ m ∷ ms → 0 < (replaced b items re text).hits
  with_match true m ms is = subst (λ all. 0 < length all) (sym is) (omega arith)
  with_match false m ms is = subst (λ all. 0 < length (take 1 all)) (sym is) (omega arith)

  not_found : (o : Option Match) → find re text 0 ≡ o → is_some o ≡ false → replaced every items re text ≡ unchanged text
  not_found None is missing = without_match every (sym (matches_after_bytes re text) ∙ none_left re text 0 is)
  not_found (Some m) is missing = absurd (true≢false missing)

  is_found : (o : Option Match) → find re text 0 ≡ o → is_some o ≡ true → 0 < (replaced every items re text).hits
  is_found None is there = absurd (true≢false (sym there))
  is_found (Some m) is there = with_match every m _ (sym (matches_after_bytes re text) ∙ first_left re text 0 m is (omega arith))

module _ (b : Built) (re : Re) (text : List ℕ) (from : IsJobBuiltFrom b.flags b.pattern re) (bytes : (k : ℕ) → slice_index text k < 256) where
  pub replaces_nothing : is_some (find re text 0) ≡ false → replaces b text ≡ unchanged text
  replaces_nothing missing = sym (built_replaces b re text from bytes) ∙ not_found b.flags.every b.items re text _ refl missing

  pub replaces_some : is_some (find re text 0) ≡ true → 0 < (replaces b text).hits
  replaces_some there = subst (λ (o : JobOutcome). 0 < o.hits) (built_replaces b re text from bytes) (is_found b.flags.every b.items re text _ refl there)

-- ---- a filter's jobs

module _ (vars : Vars) where
  -- hits stay
  more_hits : (jobs : List JobParts) (done : JobOutcome) → 0 < done.hits → 0 < (fold (run_next vars) done jobs).hits
  more_hits [] done some = some
  more_hits (job ∷ jobs) done some = more_hits jobs (run_next vars done job) (omega arith)

  -- a job that hits something in the text, where those before it hit nothing
  pub one_hits : (text : List ℕ) (jobs : List JobParts) (n : ℕ) (job : JobParts) → n < length jobs → job ≡ get_or jobs n job →
      fold (run_next vars) (unchanged text) (take n jobs) ≡ unchanged text → 0 < (run_job job vars text).hits → 0 < (run_filter jobs vars text).hits
  unfolding run_filter
  one_hits text jobs n job within here before hit =
      let one : fold (run_next vars) (unchanged text) (take (n + 1) jobs) ≡ run_next vars (unchanged text) job =
      ap (fold (run_next vars) (unchanged text)) (take_more jobs n job within)
      ∙ fold-append (run_next vars) (unchanged text) (take n jobs) (get_or jobs n job ∷ [])
      ∙ ap (λ done. run_next vars done (get_or jobs n job)) before
      ∙ ap (run_next vars (unchanged text)) (sym here) in
      let some : 0 < (run_next vars (unchanged text) job).hits = omega (arith, hit) in
      subst (λ js. 0 < (fold (run_next vars) (unchanged text) js).hits) (take-append-drop (n + 1) jobs)
      (subst (λ (o : JobOutcome). 0 < o.hits) (sym (fold-append (run_next vars) (unchanged text) (take (n + 1) jobs) (drop (n + 1) jobs)))
      (more_hits (drop (n + 1) jobs) _ (subst (λ (o : JobOutcome). 0 < o.hits) (sym one) some)))
