-- Returning: what the client's sink took of what is due, and what comes after.
use Rattle.std.specs.Prelude.{◌≡◌, ℕ, ◌⊎◌, List, ◌++◌}
use Rattle.px_base.specs.Causes.{Rose}
use Rattle.px_base.specs.Sinks.{SinkState, AddsFront, AddsProperFront}
use Rattle.px_templates.specs.declared.pages.Page.{Page}
use Rattle.px_templates.specs.declared.pages.Page.TheVariants as page
use Rattle.px_notes.specs.declared.endings.Ending.{Ending}
use Rattle.px_notes.specs.declared.endings.Ending.TheVariants as ending
use Rattle.px_notes.specs.declared.endings.After.{After}
use Rattle.px_notes.specs.declared.endings.After.TheVariants as after
use Rattle.px_notes.specs.declared.endings.Conclusion.{Conclusion}
use Rattle.px_notes.specs.Endings.{IsAnswerAfter, broken}
use Rattle.px_pumps.specs.declared.dues.Due.{Due}
use Rattle.px_pumps.specs.declared.talks.Talked.{Talked}
use Rattle.px_pumps.specs.declared.talks.Talked.TheVariants as talked

-- what is due was returned whole
abbrev pub ReturnsWhole : Due → List ℕ → List ℕ → Conclusion → Type 0
ReturnsWhole due taken taken' x = (taken' ≡ taken ++ due.bytes) × (x ≡ record { ending = due.ending; after = due.after })

-- a proper front of it was, since the client's sink failed
abbrev pub ReturnsFront : Due → List ℕ → List ℕ → Conclusion → Type 0
ReturnsFront due taken taken' x = AddsProperFront taken taken' due.bytes × (x ≡ broken after.WriteFailed)

-- what is due was returned: what the client's sink had taken before and after, and how it was concluded
abbrev pub Returns : Due → List ℕ → List ℕ → Conclusion → Type 0
Returns due taken taken' x = ReturnsWhole due taken taken' x ⊎ ReturnsFront due taken taken' x

-- what is due was returned, by what came of a talk; where it is a page, nothing was returned yet
abbrev pub SaysDue : (Page → Due) → Due → List ℕ → List ℕ → Talked → Type 0
SaysDue page_due due taken taken' (talked.Page p) = (due ≡ page_due p) × (taken' ≡ taken)
SaysDue page_due due taken taken' (talked.Ended x) = Returns due taken taken' x

-- something is due, and that is so of it
pub record HasDue (IsDue IsSo : Due → Type 0) : Type 0 where
  pub due : Due
  pub is_due : IsDue due
  pub is_so : IsSo due

-- memory was wanting in a talk: a front of what is due was returned, or nothing
pub record TalkWants (IsDue : Due → Type 0) (taken taken' : List ℕ) (t : Talked) : Type 0 where
  pub wanting : t ≡ talked.Ended (broken after.NoMemory)
  pub returned : (taken' ≡ taken) ⊎ HasDue IsDue (λ due. AddsFront taken taken' due.bytes)

-- what came of a talk by which that is due
abbrev pub TalkGives : (Page → Due) → (Due → Type 0) → List ℕ → List ℕ → Talked → Type 0
TalkGives page_due IsDue taken taken' t = HasDue IsDue (λ due. SaysDue page_due due taken taken' t) ⊎ TalkWants IsDue taken taken' t

-- the client's sink failed exactly where what comes after says so
abbrev pub WriteCause : SinkState → SinkState → After → Type 0
WriteCause old new after.Keep = new.faults ≡ old.faults
WriteCause old new after.Close = new.faults ≡ old.faults
WriteCause old new after.Cut = new.faults ≡ old.faults
WriteCause old new after.ReadFailed = new.faults ≡ old.faults
WriteCause old new after.WriteFailed = Rose old.faults new.faults
WriteCause old new after.NoMemory = new.faults ≡ old.faults

abbrev pub TalkCause : SinkState → SinkState → Talked → Type 0
TalkCause old new (talked.Page p) = new.faults ≡ old.faults
TalkCause old new (talked.Ended x) = WriteCause old new x.after

-- the pages that are returned in place of an answer
abbrev pub IsAnswerPage : Page → Type 0
IsAnswerPage p = (p ≡ page.NoServerData) ⊎ (p ≡ page.BadReply)

-- the ending of an answer, or of one that wasn't returned whole
abbrev pub IsAnswerEnding : Ending → Type 0
IsAnswerEnding (ending.Page p) = ⊥
IsAnswerEnding ending.Image = ⊥
IsAnswerEnding ending.Empty = ⊥
IsAnswerEnding ending.Redirect = ⊥
IsAnswerEnding ending.Inside = ⊥
IsAnswerEnding ending.Passed = Unit {0}
IsAnswerEnding ending.Filtered = Unit {0}
IsAnswerEnding ending.Bodiless = Unit {0}
IsAnswerEnding ending.CutFront = Unit {0}
IsAnswerEnding ending.Tunnel = ⊥
IsAnswerEnding ending.Broken = Unit {0}

-- what came of it is of an answer
abbrev pub IsHeard : Talked → Type 0
IsHeard (talked.Page p) = IsAnswerPage p
IsHeard (talked.Ended x) = IsAnswerEnding x.ending × IsAnswerAfter x.after
