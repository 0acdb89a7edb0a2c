-- What the five lines count, and how they are spelled.
use Rattle.std.specs.Prelude.{ℕ, Bool, true, false, List, ◌++◌, length, codes, decimal, count_by}
use Rattle.px_notes.specs.declared.sessions.ExchangeNote.{ExchangeNote}
use Rattle.px_notes.specs.declared.endings.Ending.{Ending}
use Rattle.px_notes.specs.declared.endings.Ending.TheVariants as ending
use Rattle.px_templates.specs.declared.pages.Page.TheVariants as page
use Rattle.px_exercise.specs.declared.runs.Total.{Total}

-- the page of a block was returned
abbrev pub is_blocked : Ending → Bool
is_blocked (ending.Page page.Blocked) = true
is_blocked e = false

-- the answer was returned filtered
abbrev pub is_filtered : Ending → Bool
is_filtered ending.Filtered = true
is_filtered e = false

-- the answer was returned unfiltered with its body
abbrev pub is_passed : Ending → Bool
is_passed ending.Passed = true
is_passed e = false

-- how many notes have such an ending
abbrev pub ending_count : (Ending → Bool) → List ExchangeNote → ℕ
ending_count is_such notes = count_by (λ n. is_such n.ending) notes

-- a name and a number, ended by LF
abbrev pub named_count : List ℕ → ℕ → List ℕ
named_count name number = name ++ codes " " ++ decimal number ++ codes "\n"

-- the five lines
unfoldable pub lines : Total → List ℕ
lines total =
    named_count (codes "requests") (length total.notes)
    ++ named_count (codes "blocked") (ending_count is_blocked total.notes)
    ++ named_count (codes "filtered") (ending_count is_filtered total.notes)
    ++ named_count (codes "passed") (ending_count is_passed total.notes)
    ++ named_count (codes "returned") total.returned
