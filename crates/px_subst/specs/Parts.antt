-- What a job is, by what is built of it, and what is built for values of its words.
use Rattle.std.specs.Prelude.{◌≡◌, Option, None, MatchOption}
use Rattle.px_subst.specs.declared.worded.WordedJob.{WordedJob}
use Rattle.px_subst.specs.declared.words.Vars.{Vars}
use Rattle.px_subst.specs.Expressions.{job_expression}
use Rattle.px_subst.specs.Jobs.{JobParts, Fixed, Worded}
use Rattle.px_subst.specs.Replacers.{Built, SpellsJob}
use Rattle.px_subst.specs.Substitutes.{items_by_flag}
use Rattle.px_subst.specs.Words.{filled}

abbrev pub fixed_job : Built → JobParts
fixed_job b = Fixed b.pattern b.items b.flags

abbrev pub worded_job : WordedJob → JobParts
worded_job w = Worded w.pattern w.substitute w.flags

-- what was built of a job for these values, or that its expression isn't read
abbrev pub IsMadeOf : WordedJob → Vars → Option Built → Type 0
IsMadeOf w vars made =
    MatchOption made (job_expression w.flags (filled vars w.pattern) ≡ None)
    (SpellsJob (filled vars w.pattern) (items_by_flag w.flags.plain (filled vars w.substitute)) w.flags)
