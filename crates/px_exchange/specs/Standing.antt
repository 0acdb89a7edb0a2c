-- How much of a line of the table stands, by what stopped an exchange.
use Rattle.std.specs.Prelude.{◌≡◌, ℕ, ◌⊎◌, List, [], ◌++◌, Option, Some, None, if◌then◌else◌}
use Rattle.px_base.specs.Sinks.{AddsFront, AddsProperFront}
use Rattle.px_base.specs.declared.dials.LinkSeen.{LinkSeen}
use Rattle.px_templates.specs.declared.pages.Page.{Page}
use Rattle.px_templates.specs.declared.pages.Page.TheVariants as page
use Rattle.px_notes.specs.declared.messages.Sent.{Sent}
use Rattle.px_notes.specs.declared.messages.Sent.TheVariants as sent
use Rattle.px_notes.specs.Endings.{broken}
use Rattle.px_notes.specs.declared.endings.After.TheVariants as after
use Rattle.px_notes.specs.declared.endings.Conclusion.{Conclusion}
use Rattle.px_pumps.specs.Answering.{Answered}
use Rattle.px_pumps.specs.Returning.{HasDue}
use Rattle.px_pumps.specs.declared.dues.Due.{Due}
use Rattle.px_pumps.specs.declared.talks.Talked.{Talked}
use Rattle.px_pumps.specs.declared.talks.Talked.TheVariants as talked
use Rattle.px_exchange.specs.Rows.{Came, Over, Owed, Is, Answer, Ended, ExchangeRow, Through}

-- what stopped an exchange: nothing, a sink that failed, or want of memory
pub data Stop : Type 0 where
  Nothing : Stop
  Sink : Stop
  Memory : Stop

-- of those bytes all were added, a proper front, or a front
abbrev pub Adds : Stop → List ℕ → List ℕ → List ℕ → Type 0
Adds Nothing taken taken' bytes = taken' ≡ taken ++ bytes
Adds Sink taken taken' bytes = AddsProperFront taken taken' bytes
Adds Memory taken taken' bytes = AddsFront taken taken' bytes

-- an exchange is concluded as is due, or broken off by what stopped it
abbrev pub Concludes : Stop → Due → Conclusion → Type 0
Concludes Nothing due x = x ≡ record { ending = due.ending; after = due.after }
Concludes Sink due x = x ≡ broken after.WriteFailed
Concludes Memory due x = x ≡ broken after.NoMemory

-- what is due was returned, as far as the stop let it: what the client's sink had taken before and after, and how it was concluded
pub record ReturnsDue (due : Due) (taken taken' : List ℕ) (x : Conclusion) : Type 0 where
  pub stop : Stop
  pub returned : Adds stop taken taken' due.bytes
  pub concluded : Concludes stop due x

-- the bytes of the answer that came over a link: all that its source offered, or, where that failed, those that were heard
abbrev pub answer_of : LinkSeen → List ℕ
answer_of seen = if seen.read_failed then seen.heard else seen.offered

-- that is what is owed
abbrev pub IsOwed : Owed → Due → Type 0
IsOwed (Is due) d = d ≡ due
IsOwed (Answer ask seen) d = Answered ask (answer_of seen) seen.read_failed d
IsOwed (Ended y) d = ⊥

-- what is owed was returned, as far as the stop let it; of an answer nothing may be, where memory was wanting before
abbrev pub ReturnsOwed : Owed → List ℕ → List ℕ → Conclusion → Type 0
ReturnsOwed (Is due) taken taken' x = ReturnsDue due taken taken' x
ReturnsOwed (Answer ask seen) taken taken' x =
    HasDue (IsOwed (Answer ask seen)) (λ due. ReturnsDue due taken taken' x) ⊎ ((taken' ≡ taken) × (x ≡ broken after.NoMemory))
ReturnsOwed (Ended y) taken taken' x = (taken' ≡ taken) × (x ≡ y)

-- the same, where a page that is owed may be left to be returned
abbrev pub TalksOf : (Page → Due) → Owed → List ℕ → List ℕ → Talked → Type 0
TalksOf pages owed taken taken' (talked.Page p) = (taken' ≡ taken) × IsOwed owed (pages p)
TalksOf pages owed taken taken' (talked.Ended x) = ReturnsOwed owed taken taken' x

-- what stopped the sending over a link
abbrev pub sending_stop : Came → Stop
sending_stop (Over seen stream sent.LinkFailed) = Sink
sending_stop (Over seen stream sent.NoMemory) = Memory
sending_stop came = Nothing

-- what stopped what is returned first
abbrev pub first_stop : Came → Stop
first_stop (Over seen stream sent.WriteFailed) = Sink
first_stop (Over seen stream sent.NoMemory) = Memory
first_stop came = Nothing

-- what went over the link, if there was one
abbrev pub went_over : Came → List ℕ
went_over (Over seen stream how) = seen.sent
went_over (Through seen carried out back) = seen.sent
went_over came = []

-- how much of a line stands: of what is sent, and of what is returned, by what the client's sink had taken before and after
pub record Stands (pages : Page → Due) (row : ExchangeRow) (came : Came) (taken taken' : List ℕ) (t : Talked) : Type 0 where
  pub sent : Adds (sending_stop came) [] (went_over came) row.sent
  -- what the client's sink had taken behind what is returned first
  pub mid : List ℕ
  pub first : Adds (first_stop came) taken mid row.first
  pub talks : TalksOf pages row.owed mid taken' t

-- what came of a request that wasn't sent on whole
abbrev pub stopped : Sent → Option Talked
stopped sent.Whole = None
stopped sent.LinkFailed = Some (talked.Page page.SendFailed)
stopped sent.Misframed = Some (talked.Page page.InvalidRequest)
stopped sent.Cut = Some (talked.Ended (broken after.Cut))
stopped sent.ReadFailed = Some (talked.Ended (broken after.ReadFailed))
stopped sent.WriteFailed = Some (talked.Ended (broken after.WriteFailed))
stopped sent.NoMemory = Some (talked.Ended (broken after.NoMemory))
