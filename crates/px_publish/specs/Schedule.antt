-- The schedule core: publishes, hand-outs of sessions and uses of configurations, in any order, by any workers.
use Rattle.std.specs.Prelude.{◌≡◌, ℕ, ◌-◌, ◌≤◌, List, [], ◌∷◌, ◌++◌, length, take, Contains, ◌==◌, if◌then◌else◌, ⊤}

pub record Session : Type 0 where
  pub worker : ℕ
  -- the newest number as it was handed out
  pub handed : ℕ
  -- the numbers of the entries that it used, in order
  pub numbers : List ℕ

pub record Core (C : Type 0) : Type 0 where
  pub published : List C
  -- the number that each worker has seen
  pub seen : ℕ → ℕ
  -- the newest first
  pub sessions : List Session

pub data Event (C : Type 0) : Type 0 where
  Publish : C → Event C
  -- a session of that worker begins
  HandOut : ℕ → Event C
  -- the last session of that worker uses the entry with that number
  Use : ℕ → ℕ → Event C

abbrev pub newest : {C : Type 0} → Core C → ℕ
newest core = length core.published - 1

-- one entry, and no session
abbrev pub start : {C : Type 0} → C → Core C
start first = record { published = first ∷ []; seen = λ _. 0; sessions = [] }

-- that worker has seen that number
abbrev pub with_seen : (ℕ → ℕ) → ℕ → ℕ → ℕ → ℕ
with_seen seen worker number other = if other == worker then number else seen other

-- the worker's last session used that number
abbrev pub with_used : ℕ → ℕ → List Session → List Session
with_used worker number [] = []
with_used worker number (s ∷ ss) = if s.worker == worker then (record { worker = s.worker; handed = s.handed; numbers = s.numbers ++ number ∷ [] }) ∷ ss else s ∷ with_used worker number ss

abbrev pub core_after : {C : Type 0} → Core C → Event C → Core C
core_after core (Publish config) = record { published = core.published ++ config ∷ []; seen = core.seen; sessions = core.sessions }
core_after core (HandOut worker) = record {
  published = core.published;
  seen = with_seen core.seen worker (newest core);
  sessions = (record { worker = worker; handed = newest core; numbers = [] }) ∷ core.sessions;
}
core_after core (Use worker number) = record {
  published = core.published;
  seen = with_seen core.seen worker number;
  sessions = with_used worker number core.sessions;
}

-- a use is by a worker with a session, of an entry that isn't older than what the worker has seen
abbrev pub MayCome : {C : Type 0} → Core C → Event C → Type 0
MayCome core (Publish config) = ⊤
MayCome core (HandOut worker) = ⊤
MayCome core (Use worker number) = ((s : Session) × Contains core.sessions s × (s.worker ≡ worker)) × (core.seen worker ≤ number) × (number ≤ newest core)

abbrev pub run : {C : Type 0} → Core C → List (Event C) → Core C
run core [] = core
run core (event ∷ events) = run (core_after core event) events

abbrev pub MayAllCome : {C : Type 0} → Core C → List (Event C) → Type 0
MayAllCome core [] = ⊤
MayAllCome core (event ∷ events) = MayCome core event × MayAllCome (core_after core event) events

-- the numbers never fall; none is below the first number, nor above the last
abbrev pub Rises : ℕ → List ℕ → ℕ → Type 0
Rises first [] last = first ≤ last
Rises first (n ∷ ns) last = (first ≤ n) × Rises n ns last

-- the sessions that began since
abbrev pub begun_since : {C : Type 0} → Core C → Core C → List Session
begun_since before now = take (length now.sessions - length before.sessions) now.sessions
