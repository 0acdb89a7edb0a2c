-- What was taken for the requests of a session.
use Rattle.std.specs.Prelude.{◌≡◌, ℕ, ◌+◌, ◌≤◌, Bool, true, false, List, [], ◌∷◌, length, filter, Option, None, Some, All}
use Rattle.px_config.specs.Insides.{Asked, InsideGoesOn, InsideState, Law, asked}
use Rattle.px_config.specs.declared.configs.Config.{Config}
use Rattle.px_config.specs.declared.insides.InsidePage.{InsidePage}
use Rattle.px_config.specs.declared.insides.Taking.{Taking}
use Rattle.px_judging.specs.Requests.{is_page_request}
use Rattle.px_judging.specs.declared.handed.Handed.{Handed}
use Rattle.px_judging.specs.declared.readings.HeadReading.{HeadReading}
use Rattle.px_judging.specs.declared.readings.HeadReading.TheVariants as reading
use Rattle.px_serve.specs.Histories.{Begun}
use Rattle.px_serve.specs.Logging.{Logged}
use Rattle.px_serve.specs.declared.receiving.Received.{Received}

-- what a taking is asked for, by the configuration of that number and for a client: there is one where the head is read and its target
abbrev pub asks : Config → ℕ → List ℕ → HeadReading → Option Asked
asks config number peer reading.Overlong = None
asks config number peer reading.Malformed = None
asks config number peer reading.TooManyFields = None
asks config number peer (reading.NoTarget head fault) = None
asks config number peer (reading.Request head url rule) = Some (asked config number url (is_page_request head rule) peer)

-- there is a taking just where one is asked for, and it is by the law
abbrev pub Suits : Law → Option Asked → Option Taking → Type 0
Suits law None None = Unit {0}
Suits law None (Some t) = ⊥
Suits law (Some a) None = ⊥
Suits law (Some a) (Some t) = law a t

-- the same of what was received for a request; where memory was wanting, nothing was
abbrev pub SuitsReceived : Law → Config → ℕ → List ℕ → Option Received → Type 0
SuitsReceived law config number peer None = Unit {0}
SuitsReceived law config number peer (Some r) = Suits law (asks config number peer r.reading) r.taken

abbrev pub SuitsBegun : Law → List ℕ → Begun → Type 0
SuitsBegun law peer b = SuitsReceived law b.config b.number peer b.received

-- the client's tags, and the page that answers the request, by what was taken
abbrev pub tags_taken : Option Taking → List (List ℕ)
tags_taken None = []
tags_taken (Some t) = t.tags

abbrev pub page_taken : Option Taking → Option InsidePage
page_taken None = None
page_taken (Some t) = t.page

-- what an exchange is handed, where memory was there
abbrev pub handed_of : Bool → ℕ → Option Received → Option Handed
handed_of last moment None = None
handed_of last moment (Some r) = Some (record { reading = r.reading; last = last; tags = tags_taken r.taken; page = page_taken r.taken; moment = moment })

-- the place of what was taken
abbrev pub place_taken : Option Taking → Option ℕ
place_taken None = None
place_taken (Some t) = Some t.place

abbrev pub place_received : Option Received → Option ℕ
place_received None = None
place_received (Some r) = place_taken r.taken

-- the places of takings never fall, from one to another
abbrev pub PlaceRises : Option ℕ → (ℕ → Type 0) → ℕ → Type 0
PlaceRises None rest p = rest p
PlaceRises (Some place) rest p = (p ≤ place) × rest place

abbrev pub PlacesRise : ℕ → List Begun → ℕ → Type 0
PlacesRise p [] q = p ≤ q
PlacesRise p (b ∷ bs) q = PlaceRises (place_received b.received) (λ place. PlacesRise place bs q) p

-- whether a page was asked for
abbrev pub asks_page : HeadReading → Bool
asks_page reading.Overlong = false
asks_page reading.Malformed = false
asks_page reading.TooManyFields = false
asks_page (reading.NoTarget head fault) = false
asks_page (reading.Request head url rule) = is_page_request head rule

-- a page is there for a request that asks for one alone
abbrev pub PageIfAsked : Option Received → Type 0
PageIfAsked None = Unit {0}
PageIfAsked (Some r) = asks_page r.reading ≡ false → page_taken r.taken ≡ None

abbrev pub HasPageIfAsked : Begun → Type 0
HasPageIfAsked b = PageIfAsked b.received

-- whether a request may have made a change: one for a page, or one of which memory was wanting to tell
abbrev pub may_change : Option Received → Bool
may_change None = true
may_change (Some r) = asks_page r.reading

-- how many of the exchanges may have made one
abbrev pub changing : List Begun → ℕ
changing begun = length (filter (λ b. may_change b.received) begun)

-- each taking fits what gave it, in the state that it came to, and has a page only where one is asked for; their places never fall, and
-- each made one change at most; and the log took the line of each exchange
pub record Fits (old new : InsideState) (peer : List ℕ) (begun : List Begun) : Type 0 where
  pub each : All (SuitsBegun new.fits peer) begun
  pub rises : PlacesRise old.place begun new.place
  pub pages : All HasPageIfAsked begun
  pub changes : new.changes ≤ old.changes + changing begun
  pub logged : Logged peer old.log new.log begun
  pub goes_on : InsideGoesOn old new
