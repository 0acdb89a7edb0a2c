-- Connections that are in use, among those that a listener gave.
use Rattle.std.specs.Prelude.{List, [], ◌∷◌, if◌then◌else◌}
use Rattle.px_sockets.specs.declared.guests.Guest.{Guest}

-- those that weren't seen to have ended, in order
abbrev pub in_use : List Guest → List Guest
in_use [] = []
in_use (g ∷ gs) = if g.ended then in_use gs else g ∷ in_use gs
