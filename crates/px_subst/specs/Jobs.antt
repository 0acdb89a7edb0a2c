-- What a job's text spells, and what a job and a filter make of bytes.
use Rattle.std.specs.Prelude.{ℕ, ◌+◌, ◌-◌, ◌^◌, min, Bool, false, ◌&&◌, ◌==◌, List, [], ◌∷◌, take, drop, length, fold, Result, Ok, Err, is_some, if◌then◌else◌}
use Rattle.std.specs.Option.{option_map_or}
use Rattle.std.specs.Str.{byte}
use Rattle.regex_hir.specs.Re.{Re}
use Rattle.regex_hir.specs.Find.{find_all}
use Rattle.regex.specs.Replace.{replaced_by}
use Rattle.px_subst.specs.declared.flags.Flags.{Flags}
use Rattle.px_subst.specs.declared.items.SubstituteItem.{SubstituteItem}
use Rattle.px_subst.specs.declared.words.Vars.{Vars}
use Rattle.px_subst.specs.declared.outcomes.JobOutcome.{JobOutcome}
use Rattle.px_subst.specs.declared.faults.JobFault.{JobFault}
use Rattle.px_subst.specs.declared.faults.JobFault.TheVariants.{NoDelimiter, Unfinished, BadFlag, BadRegex}
use Rattle.px_subst.specs.Fields.{is_delimiter, field_end, unescaped_field}
use Rattle.px_subst.specs.JobFlags.{flags_of}
use Rattle.px_subst.specs.Substitutes.{items_by_flag, written_items}
use Rattle.px_subst.specs.Words.{filled}
use Rattle.px_subst.specs.Expressions.{job_expression}

-- A job: a pattern, the items of its substitute and its flags. With the flag `D`, whose words are replaced at each run, it is
-- the texts of the pattern and of the substitute, and the flags.
pub data JobParts : Type 0 where
  Fixed : List ℕ → List SubstituteItem → Flags → JobParts
  Worded : List ℕ → List ℕ → Flags → JobParts

-- the job of a pattern, a substitute and flags, or BadRegex where its expression isn't read; that of a job with `D` is read
-- at each run
abbrev pub job_with : List ℕ → List ℕ → Flags → Result JobParts JobFault
job_with pattern substitute flags =
    if flags.dynamic then Ok (Worded pattern substitute flags)
    else if is_some (job_expression flags pattern) then Ok (Fixed pattern (items_by_flag flags.plain substitute) flags)
    else Err BadRegex

-- the job of two fields and letters, or the first refusal
abbrev pub with_flags : List ℕ → List ℕ → List ℕ → Result JobParts JobFault
with_flags pattern substitute letters = option_map_or (job_with pattern substitute) (flags_of letters) (Err BadFlag)

-- the job of a pattern and of what follows the second delimiter
abbrev pub with_substitute : ℕ → List ℕ → List ℕ → Result JobParts JobFault
with_substitute d pattern rest =
    option_map_or (λ n. with_flags pattern (unescaped_field d false (take n rest)) (drop (n + 1) rest))
    (field_end d false rest) (Err Unfinished)

-- the job of what follows the first delimiter
abbrev pub with_delimiter : ℕ → List ℕ → Result JobParts JobFault
with_delimiter d rest =
    option_map_or (λ n. with_substitute d (unescaped_field d false (take n rest)) (drop (n + 1) rest))
    (field_end d false rest) (Err Unfinished)

-- what a text spells: `s`, a delimiter, a pattern, the delimiter, a substitute, the delimiter, flags; or the first refusal
unfoldable pub job_of : List ℕ → Result JobParts JobFault
job_of [] = Err NoDelimiter
job_of (b ∷ []) = Err NoDelimiter
job_of (b ∷ d ∷ rest) = if b == byte "s" && is_delimiter d then with_delimiter d rest else Err NoDelimiter

-- the text as it is, with no hit
abbrev pub unchanged : List ℕ → JobOutcome
unchanged text = record { text = text; hits = 0 }

-- the gaps between the matches, joined with what the items write at each; without `every` the first match is the only one
abbrev pub replaced : Bool → List SubstituteItem → Re → List ℕ → JobOutcome
replaced every items re text =
    let taken = if every then find_all re text else take 1 (find_all re text) in
    record { text = replaced_by (written_items text items) text 0 taken; hits = length taken }

-- what a pattern, items and flags make of bytes; where the expression isn't read they change nothing
unfoldable pub run_with : List ℕ → List SubstituteItem → Flags → List ℕ → JobOutcome
run_with pattern items flags text =
    option_map_or (λ re. replaced flags.every items re text) (job_expression flags pattern) (unchanged text)

-- what a job makes of bytes; with the flag `D` values stand in the place of the words
abbrev pub run_job : JobParts → Vars → List ℕ → JobOutcome
run_job (Fixed pattern items flags) vars text = run_with pattern items flags text
run_job (Worded pattern substitute flags) vars text =
    run_with (filled vars pattern) (items_by_flag flags.plain (filled vars substitute)) flags text

-- an outcome with the hits of the jobs before it, up to the greatest u64
abbrev pub with_hits : ℕ → JobOutcome → JobOutcome
with_hits before next = record { text = next.text; hits = min (before + next.hits) (2 ^ 64 - 1) }

-- one job after the others: the text of the one before is its own, and the hits are added
abbrev pub run_next : Vars → JobOutcome → JobParts → JobOutcome
run_next vars done job = with_hits done.hits (run_job job vars done.text)

-- what a filter makes of bytes, by its jobs in order
unfoldable pub run_filter : List JobParts → Vars → List ℕ → JobOutcome
run_filter jobs vars text = fold (run_next vars) (unchanged text) jobs
