-- The lines of a session's exchanges in the log.
use Rattle.std.specs.Prelude.{◌≡◌, ℕ, List, [], ◌∷◌, length, drop, Option, None, Some}
use Rattle.px_base.specs.Sinks.{SinkState}
use Rattle.px_config.specs.Insides.{TakesLine}
use Rattle.px_judging.specs.declared.readings.HeadSeen.{HeadSeen}
use Rattle.px_judging.specs.declared.readings.HeadSeen.TheVariants as seen
use Rattle.px_notes.specs.declared.endings.Ending.{Ending}
use Rattle.px_log_lines.specs.Lines.{log_line}
use Rattle.px_metered.specs.Returned.{returned_of}
use Rattle.px_metered.specs.declared.responses.Tally.{Tally}
use Rattle.px_serve.specs.Histories.{Begun}

-- the bytes of a head, of which none are kept where it is too long
abbrev pub head_bytes : HeadSeen → List ℕ
head_bytes (seen.Block block) = block
head_bytes seen.Over = []

-- what was returned of an exchange, if it was measured: by what the client's sink had taken before and after
abbrev pub IsReturned : List ℕ → List ℕ → Option Tally → Type 0
IsReturned taken taken' None = Unit {0}
IsReturned taken taken' (Some r) = r ≡ returned_of (drop (length taken) taken')

-- the line of an exchange for a client with that address, by its moment, its head, what was returned of it and its ending
abbrev pub exchange_line : List ℕ → ℕ → HeadSeen → Tally → Ending → List ℕ
exchange_line peer moment seen r ending = log_line peer moment (head_bytes seen) r.status r.body ending

-- the log, if there is one, took that line of an exchange, of which what was returned was measured
abbrev pub LogsLine : List ℕ → ℕ → HeadSeen → Option Tally → Ending → Option SinkState → Option SinkState → Type 0
LogsLine peer moment seen returned ending None None = Unit {0}
LogsLine peer moment seen returned ending None (Some t) = ⊥
LogsLine peer moment seen returned ending (Some s) None = ⊥
LogsLine peer moment seen returned ending (Some s) (Some t) = (r : Tally) × (returned ≡ Some r) × TakesLine s t (exchange_line peer moment seen r ending)

-- the log, if there is one, took the line of each exchange that was begun, in their order
abbrev pub Logged : List ℕ → Option SinkState → Option SinkState → List Begun → Type 0
Logged peer log log' [] = log' ≡ log
Logged peer log log' (b ∷ bs) = (m : Option SinkState) × LogsLine peer b.moment b.seen b.returned b.concluded.ending log m × Logged peer m log' bs
