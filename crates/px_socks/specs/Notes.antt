-- The notes of a dialer, one for each of its dials, and the dials that they make of the inner ones, those of the dialer below.
use Rattle.std.specs.Prelude.{◌≡◌, ℕ, ◌<◌, ◌≤◌, ◌⊎◌, true, false, IsTrue, List, [], ◌∷◌, ◌++◌, length, take, drop, Some}
use Rattle.px_base.specs.Sinks.{AddsFront}
use Rattle.px_base.specs.Dials.{Traffic, is_open, is_open_at}
use Rattle.px_base.specs.declared.dials.Dial.{Dial}
use Rattle.px_base.specs.declared.dials.DialOutcome.{DialOutcome}
use Rattle.px_base.specs.declared.dials.DialOutcome.TheVariants as outcome
use Rattle.px_socks.specs.declared.ends.HandshakePassage.{HandshakePassage}
use Rattle.px_socks.specs.declared.notes.DialNote.{DialNote}
use Rattle.px_socks.specs.declared.notes.DialNote.TheVariants as note
use Rattle.px_socks.specs.Marks.{mark_behind}
use Rattle.px_socks.specs.Messages.{messages, due_messages, IsAccepted, Took, NoneAhead}
use Rattle.px_socks.specs.Replies.{IsHeardFront}
use Rattle.px_base.specs.DialNames.{is_dial_name, target_of, server_of}

-- the passage of a link without a handshake
abbrev pub no_handshake : HandshakePassage
no_handshake = record { heard = 0; messages = [] }

-- the passage of a link to the target of that name: so many bytes were heard, and both messages were sent
abbrev pub passage_of : List ℕ → ℕ → ℕ → HandshakePassage
passage_of name port heard = record { heard = heard; messages = messages (target_of name) port }

-- the outcome of a dial behind a handshake
abbrev pub outcome_behind : HandshakePassage → DialOutcome → DialOutcome
outcome_behind p outcome.NoName = outcome.NoName
outcome_behind p outcome.NotReached = outcome.NotReached
outcome_behind p (outcome.Open mark offered) = outcome.Open (mark_behind true p mark) (drop p.heard offered)
outcome_behind p (outcome.Link seen) = outcome.Link (record {
  offered = drop p.heard seen.offered;
  heard = drop p.heard seen.heard;
  sent = drop (length p.messages) seen.sent;
  read_failed = seen.read_failed;
  write_failed = seen.write_failed;
  finished = seen.finished;
})

-- what went over a link behind a handshake
abbrev pub traffic_behind : HandshakePassage → Traffic → Traffic
traffic_behind p t = record { heard = drop p.heard t.heard; sent = drop (length p.messages) t.sent; read_failed = t.read_failed; write_failed = t.write_failed; finished = t.finished }

-- a dial of that host and port, behind a handshake over the inner one
abbrev pub dial_behind : List ℕ → ℕ → HandshakePassage → Dial → Dial
dial_behind host port p d = record { host = host; port = port; outcome = outcome_behind p d.outcome }

-- a dial of that host and port that isn't reached
abbrev pub refused_dial : List ℕ → ℕ → Dial
refused_dial host port = record { host = host; port = port; outcome = outcome.NotReached }

-- the outer dials, by the notes and the inner dials
abbrev pub outer_dials : List DialNote → List Dial → List Dial
outer_dials [] ds = []
outer_dials (note.Plain ∷ ns) [] = []
outer_dials (note.Plain ∷ ns) (d ∷ ds) = dial_behind d.host d.port no_handshake d ∷ outer_dials ns ds
outer_dials (note.Accepted name port heard ∷ ns) [] = []
outer_dials (note.Accepted name port heard ∷ ns) (d ∷ ds) = dial_behind name port (passage_of name port heard) d ∷ outer_dials ns ds
outer_dials (note.Refused name port ∷ ns) [] = []
outer_dials (note.Refused name port ∷ ns) (d ∷ ds) = refused_dial name port ∷ outer_dials ns ds
outer_dials (note.TooLong name port ∷ ns) ds = refused_dial name port ∷ outer_dials ns ds
outer_dials (note.Lost name port ∷ ns) [] = []
outer_dials (note.Lost name port ∷ ns) (d ∷ ds) = outer_dials ns ds

-- the inner outcome of an accepted dial: a link whose first bytes offered are those that are accepted, so many as were heard,
-- and, once it is hung up, whose first bytes sent are both messages
abbrev pub IsAcceptedBy : HandshakePassage → DialOutcome → Type 0
IsAcceptedBy p outcome.NoName = ⊥
IsAcceptedBy p outcome.NotReached = ⊥
IsAcceptedBy p (outcome.Open mark offered) = Took IsAccepted p.heard offered (drop p.heard offered)
IsAcceptedBy p (outcome.Link seen) =
    Took IsAccepted p.heard seen.offered (drop p.heard seen.offered) × (seen.sent ≡ p.messages ++ drop (length p.messages) seen.sent)

-- the inner outcome of a refused dial: refused too, or a link that is hung up and was sent what was due by the bytes heard, or
-- where a write failed a front of that; a read or a write of it failed, or what the server offers doesn't begin with accepted
-- bytes
abbrev pub IsRefusedBy : List ℕ → DialOutcome → Type 0
IsRefusedBy bytes outcome.NoName = Unit {0}
IsRefusedBy bytes outcome.NotReached = Unit {0}
IsRefusedBy bytes (outcome.Open mark offered) = ⊥
IsRefusedBy bytes (outcome.Link seen) =
    IsHeardFront seen.heard × AddsFront [] seen.sent (due_messages seen.heard bytes) × (seen.write_failed ≡ false → seen.sent ≡ due_messages seen.heard bytes)
    × ((seen.read_failed ≡ true) ⊎ ((seen.write_failed ≡ true) ⊎ NoneAhead IsAccepted seen.offered))

-- the inner outcome of a dial in whose handshake memory was wanting: a link that is hung up and was sent a front of what was
-- due by the bytes heard
abbrev pub IsLostBy : List ℕ → DialOutcome → Type 0
IsLostBy bytes outcome.NoName = ⊥
IsLostBy bytes outcome.NotReached = ⊥
IsLostBy bytes (outcome.Open mark offered) = ⊥
IsLostBy bytes (outcome.Link seen) = IsHeardFront seen.heard × AddsFront [] seen.sent (due_messages seen.heard bytes)

-- a dial name whose target's host has more than 255 bytes, so no request can tell its length
abbrev pub IsTooLong : List ℕ → Type 0
IsTooLong name = IsTrue (is_dial_name name) × (255 < length (target_of name))

-- an inner dial of the server of a name whose target's host fits into a request; of its outcome P is true
pub record IsServedDial (name : List ℕ) (P : DialOutcome → Type 0) (d : Dial) : Type 0 where
  pub named : IsTrue (is_dial_name name)
  pub short : length (target_of name) ≤ 255
  pub server : server_of name ≡ Some (record { host = d.host; port = d.port })
  pub outcome : P d.outcome

-- each note stands for one inner dial, but that of a name that is too long, which stands for none
abbrev pub AreTied : List DialNote → List Dial → Type 0
AreTied [] [] = Unit {0}
AreTied [] (d ∷ ds) = ⊥
AreTied (note.Plain ∷ ns) [] = ⊥
AreTied (note.Plain ∷ ns) (d ∷ ds) = (is_dial_name d.host ≡ false) × AreTied ns ds
AreTied (note.Accepted name port heard ∷ ns) [] = ⊥
AreTied (note.Accepted name port heard ∷ ns) (d ∷ ds) = IsServedDial name (IsAcceptedBy (passage_of name port heard)) d × AreTied ns ds
AreTied (note.Refused name port ∷ ns) [] = ⊥
AreTied (note.Refused name port ∷ ns) (d ∷ ds) = IsServedDial name (IsRefusedBy (messages (target_of name) port)) d × AreTied ns ds
AreTied (note.TooLong name port ∷ ns) ds = IsTooLong name × AreTied ns ds
AreTied (note.Lost name port ∷ ns) [] = ⊥
AreTied (note.Lost name port ∷ ns) (d ∷ ds) = IsServedDial name (IsLostBy (messages (target_of name) port)) d × AreTied ns ds

-- no two open links have one mark
abbrev pub AreDistinct : List Dial → Type 0
AreDistinct [] = Unit {0}
AreDistinct (d ∷ ds) = ((mark : ℕ) → is_open_at mark d.outcome ≡ true → is_open mark ds ≡ false) × AreDistinct ds

-- what a dialer keeps of the dials of the inner one
pub record KeepsNotes (ns : List DialNote) (ds : List Dial) : Type 0 where
  pub tied : AreTied ns ds
  pub distinct : AreDistinct ds
