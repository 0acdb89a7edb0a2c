use Rattle.std.proofs.Common.{◌≡◌, ℕ, Bool, true, List, length}
use Rattle.px_merge.specs.Indexes.{PlainPass}
use Rattle.px_merge.proofs.labels.rarest.Given as goal

abbrev pub invariant-labels : goal.invariant-labels
invariant-labels l = (test : List ℕ → Bool) → test l.first ≡ true → PlainPass test l.labels → (test l.best ≡ true) × PlainPass test l.rest

abbrev pub decreases-labels : goal.decreases-labels
decreases-labels l = length l.rest
