-- The rule of what left_right shares: each view that knows something begins the shared list.
use Rattle.std.specs.Prelude.{◌≡◌, ℕ, List, Option, Some, None, ⊤}
use mathlib.Core.Option.{some}
use mathlib.Core.List.{IsPrefix}
use lib.ListN.{get_elem?}
use Rattle.logbook.specs.declared.tokens.Seen.{Seen}
use Rattle.px_publish.specs.declared.fronts.Law.{Law}
use Rattle.px_publish.specs.declared.shared.SharedList.{SharedList}

-- what is known of a list
abbrev pub Known : Type 0 → Type 0
Known C = Seen C (Unit {0}) (Law C)

-- s begins t, of the same list
abbrev pub BeginsSameList : {C : Type 0} → Known C → Known C → Type 0
BeginsSameList s t = (s.book ≡ t.book) × IsPrefix s.log t.log

abbrev pub KnownBegins : {C : Type 0} → Option (Known C) → Known C → Type 0
KnownBegins None t = ⊤
KnownBegins (Some s) t = BeginsSameList s t

abbrev pub EachBegins : {C : Type 0} → SharedList C → List (Option (Known C)) → Type 0
EachBegins {C} shared views = (seat : ℕ) (v : Option (Known C)) → get_elem? views seat ≡ some v → KnownBegins v shared.front.seen

-- a step: what was known begins the list found, and afterwards the list left is known
abbrev pub Sees : {C : Type 0} → Option (Known C) → SharedList C → SharedList C → Option (Known C) → Type 0
Sees v found left w = KnownBegins v found.front.seen × (w ≡ Some left.front.seen)
