use Rattle.std.proofs.Common.{◌≡◌, ◌+◌, ◌==◌, length}
use Rattle.std.specs.Prelude.{count_by}
use Rattle.px_head.proofs.fields.line_feeds.Given as goal

abbrev pub invariant-pieces : goal.invariant-pieces
invariant-pieces l = l.count + count_by (λ b. b == 10) l.rest ≡ count_by (λ b. b == 10) l.block

abbrev pub decreases-pieces : goal.decreases-pieces
decreases-pieces l = length l.rest
