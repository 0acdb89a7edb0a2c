-- The parted connections in order.
use Rattle.std.specs.Prelude.{List, [], ◌∷◌, ◌++◌}
use Rattle.px_base.specs.Dials.{DialerState}
use Rattle.px_doors.specs.Parted.{PartedState}
use Rattle.px_shared.specs.declared.partings.Partings.{Partings, Nothing, Behind'}

-- each is what was parted below joined with its pool
abbrev pub parted_of : {P D : Type 0} → (P → D → PartedState) → Partings P D → List PartedState
parted_of joined Nothing = []
parted_of joined (Behind' shape before below pool) = parted_of joined before ++ joined below.value pool.value ∷ []

-- a connection that was parted below, as it was with the pool over its dialer
abbrev pub over_pool : {D : Type 0} → (D → DialerState) → PartedState → D → PartedState
over_pool dials p pool = record { number = p.number; handed = p.handed; session = p.session; ends = record p.ends { dialer = dials pool } }
