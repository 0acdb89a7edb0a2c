-- A fact for each variant of an option, weakened.
use Rattle.std.proofs.Common.{Option, None, Some}
use Rattle.std.specs.Prelude.{MatchOption}

pub MatchOption-weaker : {X : Type 0} (r : Option X) {P P' : Type 0} {Q Q' : X → Type 0} → MatchOption r P Q → (P → P') → ((x : X) → Q x → Q' x) → MatchOption r P' Q'
MatchOption-weaker None fact none some = none fact
MatchOption-weaker (Some x) fact none some = some x fact
