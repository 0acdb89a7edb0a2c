use Rattle.std.proofs.Common.{◌≡◌, ◌+◌, ◌-◌, length}
use Rattle.std.specs.Prelude.{codes}
use Rattle.memchr.specs.Find.{first_of, matches, matches_from}
use Rattle.px_headers.proofs.referrers.scheme_end.Given as goal

abbrev pub invariant-loop-at : goal.invariant-loop-at
invariant-loop-at l = first_of (matches l.text (codes "://") 0) ≡ first_of (matches_from l.text (codes "://") 0 l.at (length l.text + 1 - l.at))
