-- What is returned of an answer whose head stands whole, by the bytes behind its head.
use Rattle.std.specs.Prelude.{ℕ, Bool, ◌&&◌, List, [], ◌∷◌, ◌++◌, length, fold, Option, Some, None, if◌then◌else◌}
use Rattle.px_framing.specs.Body.{Part}
use Rattle.px_framing.specs.declared.places.State.{State}
use Rattle.px_framing.specs.declared.rules.BodyRule.{BodyRule}
use Rattle.px_framing.specs.declared.rules.BodyRule.TheVariants as rule
use Rattle.px_filter_files.specs.FilterFiles.{FiltersOfFiles, jobs_of}
use Rattle.px_filter_files.specs.declared.kinds.FilterKind.TheVariants as kind
use Rattle.px_subst.specs.Jobs.{run_filter}
use Rattle.px_subst.specs.declared.words.Vars.{Vars}
use Rattle.px_answers.specs.declared.forms.Framed.{Framed}
use Rattle.px_answers.specs.declared.forms.AnswerOutcome.{AnswerOutcome}
use Rattle.px_answers.specs.declared.forms.Returned.{Returned}
use Rattle.px_answers.specs.declared.forms.Returned.TheVariants as returned
use Rattle.px_answers.specs.Forms.{formed, head_with, is_open_to_filters, is_whole, keeps_behind_answer, length_field, may_filter, passed_head, state_at_end}

-- what filters run with
pub record Work : Type 0 where
  pub filters : FiltersOfFiles
  pub vars : Vars

-- what is due for an answer: the bytes, and what comes of it by them
pub record FinishedAnswer : Type 0 where
  pub bytes : List ℕ
  pub outcome : AnswerOutcome

-- what a named content filter makes of a text; a name that no filter has does nothing
abbrev pub run_one : Work → List ℕ → List ℕ → List ℕ
run_one w text name = (run_filter (jobs_of w.filters (record { kind = kind.Content; name = name })) w.vars text).text

-- what the named content filters make of a text, in their order
unfoldable pub run_content_filters : Work → List (List ℕ) → List ℕ → List ℕ
run_content_filters w names text = fold (run_one w) text names

abbrev pub allowed_names : Option (List (List ℕ)) → List (List ℕ)
allowed_names None = []
allowed_names (Some names) = names

-- the filtered form before a text that filters made: the length is the text's
abbrev pub filtered_with : Framed → List ℕ → FinishedAnswer
filtered_with f text = record {
  bytes = head_with f (length_field (length text) ∷ []) f.keep ++ text;
  outcome = record { returned = returned.Filtered; keep = f.keep };
}

-- the filtered form of a whole body
abbrev pub filtered : Work → Framed → List ℕ → FinishedAnswer
filtered w f plain = filtered_with f (run_content_filters w (allowed_names f.filters) plain)

abbrev pub passed_or_cut : Bool → Returned
passed_or_cut whole = if whole then returned.Passed else returned.CutFront

-- how an unfiltered answer is returned: without a body, with its whole body, or with the front of it that came
abbrev pub passed_as : BodyRule → Bool → Returned
passed_as rule.Absent whole = returned.Bodiless
passed_as (rule.Length n) whole = passed_or_cut whole
passed_as rule.Chunked whole = passed_or_cut whole
passed_as rule.ToClose whole = passed_or_cut whole

-- what comes of it; behind a body that isn't whole the connection closes
abbrev pub passed_outcome : Framed → Bool → AnswerOutcome
passed_outcome f whole = record { returned = passed_as f.rule whole; keep = keeps_behind_answer f && whole }

-- the unfiltered form; of a body that isn't whole the front that came
abbrev pub passed : Framed → List ℕ → List ℕ → Bool → FinishedAnswer
passed f raw plain whole = record { bytes = passed_head f ++ formed f.form raw plain; outcome = passed_outcome f whole }

-- by how the body stands at its end: filtered where it is whole, the head allows it and its raw bytes are within the limit
abbrev pub by_end : Work → Framed → List ℕ → List ℕ → State → FinishedAnswer
by_end w f raw plain s = if is_open_to_filters f (length raw) && is_whole s then filtered w f plain else passed f raw plain (is_whole s)

-- what is returned of the bytes behind the head, which are read to that part; failed is whether their reading failed
abbrev pub finished : Work → Framed → Part → Bool → FinishedAnswer
finished w f p failed = by_end w f p.raw p.plain (state_at_end f.rule failed p.state)

-- what may be returned of the bytes so far, whatever follows: nothing while they may still be filtered
abbrev pub returned_so_far : Framed → Part → List ℕ
returned_so_far f p = if may_filter f (length p.raw) p.state then [] else passed_head f ++ formed f.form p.raw p.plain
