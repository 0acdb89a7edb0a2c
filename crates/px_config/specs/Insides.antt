-- What contracts see of what gives takings and keeps a log, and what its calls do.
use Rattle.std.specs.Prelude.{◌≡◌, ℕ, ◌+◌, ◌≤◌, Bool, false, IsTrue, List, length, Option, None, Some, Result}
use Rattle.px_base.specs.Sinks.{AddsAll, SinkCause, SinkGoesOn, SinkState}
use Rattle.px_base.specs.declared.faults.SinkFault.{SinkFault}
use Rattle.px_patterns.specs.declared.urls.Url.{Url}
use Rattle.px_config.specs.declared.configs.Config.{Config}
use Rattle.px_config.specs.declared.insides.Taking.{Taking}

-- what a taking is asked for: by the configuration of that number, for a request of that URL, which may ask for a page, from a client
-- with that address
pub record Asked : Type 0 where
  pub config : Config
  pub number : ℕ
  pub url : Url
  pub page_request : Bool
  pub peer : List ℕ

abbrev pub asked : Config → ℕ → Url → Bool → List ℕ → Asked
asked config number url page_request peer = record { config = config; number = number; url = url; page_request = page_request; peer = peer }

-- which takings may be given for what is asked
abbrev pub Law : Type 1
Law = Asked → Taking → Type 0

pub record InsideState : Type 1 where
  -- which takings fit
  pub fits : Law
  -- whether what fits stays as it is, whatever is taken
  pub steady : Bool
  -- a number that never falls
  pub place : ℕ
  -- how many changes were made through it
  pub changes : ℕ
  -- what takes a line of each exchange, if there is a log
  pub log : Option SinkState

-- what lasts, whatever is taken: what fits once, fits after; and where it is steady, nothing else does
pub record InsideGoesOn (old new : InsideState) : Type 0 where
  pub place_later : old.place ≤ new.place
  pub changes_later : old.changes ≤ new.changes
  pub fits_kept : (a : Asked) (t : Taking) → old.fits a t → new.fits a t
  pub steady_kept : IsTrue old.steady → IsTrue new.steady
  pub fits_only : IsTrue old.steady → (a : Asked) (t : Taking) → new.fits a t → old.fits a t

-- a taking is lawful and fits, has the place where it was taken, and gives a page to page requests alone
pub record GivesTaking (lawful : Law) (new : InsideState) (a : Asked) (t : Taking) : Type 0 where
  pub by_law : lawful a t
  pub fits : new.fits a t
  pub place_now : t.place ≡ new.place
  pub unasked : a.page_request ≡ false → t.page ≡ None

-- a taking makes one change at most, and one only for a page request; that holds also where memory was wanting
pub record ChangesLittle (old new : InsideState) (a : Asked) : Type 0 where
  pub one : new.changes ≤ old.changes + 1
  pub unasked : a.page_request ≡ false → new.changes ≡ old.changes

-- a line was taken whole or, where it was refused, a proper front of it
pub record TakesLine (old new : SinkState) (line : List ℕ) : Type 0 where
  pub taken : Result (Unit {0}) SinkFault
  pub bytes : AddsAll old new taken line
  pub cause : SinkCause old new (length line) taken
  pub goes_on : SinkGoesOn old new

-- the same of a log, if there is one
abbrev pub LogTakes : Option SinkState → Option SinkState → List ℕ → Type 0
LogTakes None None line = Unit {0}
LogTakes None (Some t) line = ⊥
LogTakes (Some s) None line = ⊥
LogTakes (Some s) (Some t) line = TakesLine s t line

-- nothing changed but the log
pub record ChangesLogAlone (old new : InsideState) : Type 0 where
  pub fits_kept : (a : Asked) (t : Taking) → old.fits a t → new.fits a t
  pub fits_only : (a : Asked) (t : Taking) → new.fits a t → old.fits a t
  pub steady_same : new.steady ≡ old.steady
  pub place_same : new.place ≡ old.place
  pub changes_same : new.changes ≡ old.changes
