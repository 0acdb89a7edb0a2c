-- Doors that put a pool of links over the dialer of each connection, and the doors below them.
use Rattle.std.specs.Prelude.{◌≡◌, ℕ, IsTrue, List, [], ◌∷◌, map}
use Rattle.px_link_pool.specs.Histories.{Views}
use Rattle.px_doors.specs.Doors.{DoorsState}
use Rattle.px_doors.specs.Parted.{PartedState}
use Rattle.px_shared.specs.Sharing.{Unpools, pooled_ends}

-- doors whose connections have a pool, with those that were parted
abbrev pub with_pools : DoorsState → List PartedState → DoorsState
with_pools d parted = record { listens_at = d.listens_at; tells = d.tells; conns = map pooled_ends d.conns; accepted = d.accepted; parted = parted; faults = d.faults; steady = d.steady }

-- A connection is parted below as it was parted, but for its dialer: that is the one that the pool leaves, and what was done with
-- the pool tells its dials, of which there were none before.
pub record ComesOf {S T : Type 0} (v : Views S T) (parted below : PartedState) : Type 0 where
  pub number : below.number ≡ parted.number
  pub handed : below.handed ≡ parted.handed
  pub session : below.session ≡ parted.session
  pub wanting : ℕ
  pub ends : Unpools v parted.ends below.ends wanting

-- so it is of each, in order
abbrev pub EachComesOf : {S T : Type 0} → Views S T → List PartedState → List PartedState → Type 0
EachComesOf v [] [] = Unit {0}
EachComesOf v (p ∷ ps) (q ∷ qs) = ComesOf v p q × EachComesOf v ps qs
EachComesOf v [] (q ∷ qs) = ⊥
EachComesOf v (p ∷ ps) [] = ⊥

-- The doors below, which are as the doors over them, but for the dialers: those of the connections to come have no pool, and of
-- those that were parted the pool was taken apart.
pub record IsBelow {S T : Type 0} (v : Views S T) (doors below : DoorsState) : Type 0 where
  pub same : doors ≡ with_pools below doors.parted
  pub parted : IsTrue below.tells → ∥ EachComesOf v doors.parted below.parted ∥₁
