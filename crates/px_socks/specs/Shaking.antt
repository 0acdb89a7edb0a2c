-- What one handshake does with both ends of a link.
use Rattle.std.specs.Prelude.{◌≡◌, ℕ, ◌≤◌, ◌⊎◌, IsTrue, List, ◌++◌, length, take, Result, MatchResult}
use Rattle.px_base.specs.Sources.{SourceState}
use Rattle.px_base.specs.Sinks.{SinkState, AddsFront}
use Rattle.px_base.specs.Causes.{Rose}
use Rattle.px_socks.specs.Messages.{due_messages, IsAccepted, NoneAhead}
use Rattle.px_socks.specs.Replies.{IsHeardFront}
use Rattle.px_socks.specs.declared.handshakes.Refusal.{Refusal}
use Rattle.px_socks.specs.declared.handshakes.Refusal.TheVariants as refusal

-- all bytes were sent, or after a refusal a front of them
abbrev pub SendsToServer : {T E : Type 0} → SinkState → SinkState → Result T E → List ℕ → Type 0
SendsToServer old new result bytes = IsTrue old.tells → MatchResult result (λ _. new.taken ≡ old.taken ++ bytes) (λ _. AddsFront old.taken new.taken bytes)

-- what a handshake hears and sends that gives no link: it reads on only where what it heard may be accepted, and sends a front of
-- what is due by that; all of it, unless a write was refused
pub record SendsDue (i i' : SourceState) (o o' : SinkState) (messages : List ℕ) (r : Refusal) : Type 0 where
  pub heard : List ℕ
  pub moved : i.left ≡ heard ++ i'.left
  pub enough : IsHeardFront heard
  pub front : AddsFront o.taken o'.taken (due_messages heard messages)
  pub whole : r ≡ refusal.NotReached → ¬ (Rose o.faults o'.faults) → o'.taken ≡ o.taken ++ due_messages heard messages

-- why a handshake is refused: a count of the link rose, or the server's bytes end before or leave the accepted form
abbrev pub IsHandshakeRefused : SourceState → SourceState → SinkState → SinkState → Type 0
IsHandshakeRefused i i' o o' = Rose i.faults i'.faults ⊎ (Rose o.faults o'.faults ⊎ (IsTrue i.tells → NoneAhead IsAccepted i.left))
