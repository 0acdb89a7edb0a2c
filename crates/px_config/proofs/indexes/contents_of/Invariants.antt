use Rattle.std.proofs.Common.{◌≡◌, ℕ, List, length}
use Rattle.px_config.specs.Indexes.{content_at}
use Rattle.px_config.specs.Sets.{content_in}
use Rattle.px_config.proofs.IndexLemmas.{content_or}
use Rattle.px_config.proofs.indexes.contents_of.Given as goal

abbrev pub invariant-items : goal.invariant-items
invariant-items l = (name : List ℕ) → content_or l.rest name (content_at l.contents name) ≡ content_in l.items name

abbrev pub decreases-items : goal.decreases-items
decreases-items l = length l.rest
