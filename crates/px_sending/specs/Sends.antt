-- Sending: what goes to the next server and to the client for a message, by what came of it.
use Rattle.std.specs.Prelude.{◌≡◌, ℕ, Bool, true, false, if◌then◌else◌, nat_le, List, [], ◌++◌, length, drop, codes, MatchBool}
use Rattle.px_base.specs.Causes.{Rose}
use Rattle.px_base.specs.Sinks.{AddsFront, AddsProperFront}
use Rattle.px_streams.specs.Streams.{IsStream}
use Rattle.px_framing.specs.Body.{Part, at_end}
use Rattle.px_framing.specs.Reading.{first, goes_on}
use Rattle.px_framing.specs.declared.places.State.{State}
use Rattle.px_framing.specs.declared.places.State.TheVariants as state
use Rattle.px_notes.specs.declared.messages.Message.{Message}
use Rattle.px_notes.specs.declared.messages.Sent.{Sent}
use Rattle.px_notes.specs.declared.messages.Sent.TheVariants as sent

-- ---- what is due

-- the request's body at the front of the client's stream
abbrev pub body_in : Message → List ℕ → Part
body_in m stream = goes_on (first m.rule) stream

-- how the body stands where the stream ends
abbrev pub end_of_body : Message → List ℕ → State
end_of_body m stream = at_end m.rule (body_in m stream).state

-- the client's stream behind the body
abbrev pub behind_body : Message → List ℕ → List ℕ
behind_body m stream = drop (body_in m stream).used stream

-- what is sent: the head, and the raw front of the body
abbrev pub all_of : Message → List ℕ → List ℕ
all_of m stream = m.head ++ (body_in m stream).raw

-- what is written to the client between the two (RFC 9110, section 15.2.1)
abbrev pub interim_for : Bool → List ℕ
interim_for expects = if expects then codes "HTTP/1.1 100 Continue\r\n\r\n" else []

abbrev pub interim : Message → List ℕ
interim m = interim_for m.expects

-- the same, where the head was sent whole
abbrev pub interim_behind : Message → List ℕ → List ℕ
interim_behind m out = if nat_le (length m.head) (length out) then interim m else []

-- ---- what came of it

-- The message, the client's stream, what is left of it, what was sent and what was written to the client, by what came of it.
abbrev pub SendsBy : Message → List ℕ → List ℕ → List ℕ → List ℕ → Sent → Type 0
SendsBy m stream rest out back sent.Whole =
    (end_of_body m stream ≡ state.Whole) × (out ≡ all_of m stream) × (back ≡ interim m) × (rest ≡ behind_body m stream)
SendsBy m stream rest out back sent.Cut =
    (end_of_body m stream ≡ state.Cut) × (out ≡ all_of m stream) × (back ≡ interim m) × (rest ≡ behind_body m stream)
SendsBy m stream rest out back sent.Misframed =
    (end_of_body m stream ≡ state.Misframed) × (out ≡ all_of m stream) × (back ≡ interim m) × (rest ≡ behind_body m stream)
SendsBy m stream rest out back sent.ReadFailed =
    ((body_in m stream).state ≡ state.More) × (out ≡ all_of m stream) × (back ≡ interim m)
SendsBy m stream rest out back sent.LinkFailed = AddsProperFront [] out (all_of m stream) × (back ≡ interim_behind m out)
SendsBy m stream rest out back sent.WriteFailed = (out ≡ m.head) × AddsProperFront [] back (interim m)
SendsBy m stream rest out back sent.NoMemory = AddsFront [] out (all_of m stream) × AddsFront [] back (interim_behind m out)

abbrev pub is_link_failed : Sent → Bool
is_link_failed sent.LinkFailed = true
is_link_failed how = false

abbrev pub is_read_failed : Sent → Bool
is_read_failed sent.ReadFailed = true
is_read_failed how = false

abbrev pub is_write_failed : Sent → Bool
is_write_failed sent.WriteFailed = true
is_write_failed how = false

-- A message was sent: what was left of the client's stream before and after, and what the link's and the client's sinks had
-- taken. Where the source failed, the stream is what came of it.
pub record Sends (m : Message) (left left' link link' taken taken' : List ℕ) (how : Sent) : Type 0 where
  pub came : List ℕ
  pub is_stream : IsStream (is_read_failed how) came left left'
  pub out : List ℕ
  pub sent : link' ≡ link ++ out
  pub back : List ℕ
  pub returned : taken' ≡ taken ++ back
  pub by : SendsBy m came left' out back how

-- a count of faults rose exactly where its object failed
abbrev pub RoseWhere : Bool → ℕ → ℕ → Type 0
RoseWhere failed before now = MatchBool failed (Rose before now) (now ≡ before)
