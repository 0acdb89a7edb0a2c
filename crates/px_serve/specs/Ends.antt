-- How sessions end.
use Rattle.std.specs.Prelude.{◌≡◌, ℕ, Bool, true, false, not, ◌&&◌, ◌==◌, if◌then◌else◌, List, [], ◌∷◌, Option, None, Some}
use Rattle.px_base.specs.Causes.{Rose}
use Rattle.px_base.specs.Sinks.{SinkState}
use Rattle.px_ends.specs.Ends.{EndsState}
use Rattle.px_notes.specs.declared.endings.After.{After}
use Rattle.px_notes.specs.declared.endings.After.TheVariants as after
use Rattle.px_notes.specs.declared.endings.Conclusion.{Conclusion}
use Rattle.px_notes.specs.declared.endings.Ending.{Ending}
use Rattle.px_notes.specs.declared.endings.Ending.TheVariants as ending
use Rattle.px_notes.specs.declared.sessions.SessionEnd.{SessionEnd}
use Rattle.px_notes.specs.declared.sessions.SessionEnd.TheVariants as end

-- the bytes are empty lines: each is LF, or CR LF
abbrev pub only_empty : List ℕ → Bool
only_empty [] = true
only_empty (b ∷ []) = b == 10
only_empty (b ∷ c ∷ bs) = if b == 10 then only_empty (c ∷ bs) else (if b == 13 && c == 10 then only_empty bs else false)

-- how a session ends where the client's bytes end, by those behind the last request
abbrev pub end_of_bytes : List ℕ → SessionEnd
end_of_bytes bytes = if only_empty bytes then end.Ended else end.Cut

-- a tunnel was carried
abbrev pub is_tunnel : Ending → Bool
is_tunnel (ending.Page p) = false
is_tunnel ending.Image = false
is_tunnel ending.Empty = false
is_tunnel ending.Redirect = false
is_tunnel ending.Inside = false
is_tunnel ending.Passed = false
is_tunnel ending.Filtered = false
is_tunnel ending.Bodiless = false
is_tunnel ending.CutFront = false
is_tunnel ending.Tunnel = true
is_tunnel ending.Broken = false

-- how a session ends behind an exchange, if it does; the last one that a connection may have ends it
abbrev pub end_by : Bool → Bool → After → Option SessionEnd
end_by last tunnel after.Keep = if last then Some end.Spent else None
end_by last tunnel after.Close = Some (if last && not tunnel then end.Spent else end.Closed)
end_by last tunnel after.Cut = Some end.Cut
end_by last tunnel after.ReadFailed = Some end.ReadFailed
end_by last tunnel after.WriteFailed = Some end.WriteFailed
end_by last tunnel after.NoMemory = Some end.NoMemory

abbrev pub end_after : Bool → Conclusion → Option SessionEnd
end_after last x = end_by last (is_tunnel x.ending) x.after

-- how often the client's source and its sink have failed
pub record Faults : Type 0 where
  pub source : ℕ
  pub sink : ℕ

abbrev pub faults_of : EndsState → Faults
faults_of e = record { source = e.client.source.faults; sink = e.client_out.faults }

-- each fault is at the end that names it; beside it the client's sink may have failed, too, in a tunnel whose source failed, and
-- both may have in one that wanted memory
abbrev pub EndCause : Faults → Faults → SessionEnd → Type 0
EndCause old new end.Ended = new ≡ old
EndCause old new end.Cut = new ≡ old
EndCause old new end.Closed = new ≡ old
EndCause old new end.Spent = new ≡ old
EndCause old new end.ReadFailed = Rose old.source new.source
EndCause old new end.WriteFailed = (new.source ≡ old.source) × Rose old.sink new.sink
EndCause old new end.NoMemory = Unit {0}

-- the same before an end is known
abbrev pub TurnCause : Faults → Faults → Option SessionEnd → Type 0
TurnCause old new None = new ≡ old
TurnCause old new (Some e) = EndCause old new e

-- the client's sink is as open as it was, save behind a tunnel
abbrev pub SessionStaysOpen : SinkState → SinkState → SessionEnd → Type 0
SessionStaysOpen old new end.Ended = new.finished ≡ old.finished
SessionStaysOpen old new end.Cut = new.finished ≡ old.finished
SessionStaysOpen old new end.Spent = new.finished ≡ old.finished
SessionStaysOpen old new end.Closed = Unit {0}
SessionStaysOpen old new end.ReadFailed = Unit {0}
SessionStaysOpen old new end.WriteFailed = Unit {0}
SessionStaysOpen old new end.NoMemory = Unit {0}

abbrev pub TurnStaysOpen : SinkState → SinkState → Option SessionEnd → Type 0
TurnStaysOpen old new None = new.finished ≡ old.finished
TurnStaysOpen old new (Some e) = SessionStaysOpen old new e
