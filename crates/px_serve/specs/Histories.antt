-- The exchanges that a session began: the configuration and the moment of each.
use Rattle.std.specs.Prelude.{◌≡◌, ℕ, ◌-◌, ◌≤◌, Bool, IsTrue, List, [], ◌∷◌, length, map, slice_get, Option, Some, All}
use Rattle.px_base.specs.Moments.{ClockState}
use Rattle.px_base.specs.Repeating.{behind_first, behind_firsts, first_or, firsts_or}
use Rattle.px_config.specs.declared.configs.Config.{Config}
use Rattle.px_judging.specs.declared.readings.HeadSeen.{HeadSeen}
use Rattle.px_metered.specs.declared.responses.Tally.{Tally}
use Rattle.px_notes.specs.declared.sessions.ExchangeNote.{ExchangeNote}
use Rattle.px_notes.specs.declared.endings.Conclusion.{Conclusion}
use Rattle.px_publish.specs.Views.{Entry, EndsIn, GoesOn, LookGives, Pair}
use Rattle.px_serve.specs.declared.receiving.Received.{Received}

-- an exchange that was begun: the configuration that it used with that one's number, its moment, its head as it was seen, what was
-- received for it, if memory was there, how it was concluded, and what was returned of it, if that was measured
pub record Begun : Type 0 where
  pub number : ℕ
  pub config : Config
  pub moment : ℕ
  pub seen : HeadSeen
  pub received : Option Received
  pub concluded : Conclusion
  pub returned : Option Tally

abbrev pub note_of : Begun → ExchangeNote
note_of b = record { config = b.number; moment = b.moment; ending = b.concluded.ending }

abbrev pub entry_used : Begun → Entry Config
entry_used b = record { number = b.number; config = b.config }

abbrev pub moment_of : Begun → ℕ
moment_of b = b.moment

-- what contracts see of what gives configurations: whether it tells its looks to come, the entries that it has had, of which it
-- holds the last, the publisher and readers that it is of, and the entries that the next looks will give, of which the last comes again
pub record Looks : Type 0 where
  pub tells : Bool
  pub view : List Config
  pub pair : Option Pair
  pub coming : List (Entry Config)

-- what gives configurations, by what its type tells of it
abbrev pub looks_of : {K : Type 0} → Bool → (K → List Config) → (K → Option Pair) → (K → List (Entry Config)) → K → Looks
looks_of tells view pair coming k = record { tells = tells; view = view k; pair = pair k; coming = coming k }

-- the number of the entry that is held
abbrev pub held_number : Looks → ℕ
held_number looks = length looks.view - 1

-- there is one configuration, with the number 0, and each look gives it
pub record IsFixed (looks : Looks) (config : Config) : Type 0 where
  pub tells : IsTrue looks.tells
  pub view : looks.view ≡ config ∷ []
  pub coming : looks.coming ≡ record { number = 0; config = config } ∷ []

-- the exchange used an entry of that view
abbrev pub UsesOf : List Config → Begun → Type 0
UsesOf view b = slice_get view b.number ≡ Some b.config

-- the exchanges took the values to come, one each and no others; where there is none, that one stands for it
pub record Take {E : Type 0} (value : Begun → E) (none : E) (coming coming' : List E) (begun : List Begun) : Type 0 where
  pub taken : map value begun ≡ firsts_or none coming (length begun)
  pub left : coming' ≡ behind_firsts coming (length begun)

-- the numbers of the exchanges never fall; none is below the first number, nor above the last
abbrev pub NoneOlder : ℕ → List Begun → ℕ → Type 0
NoneOlder first [] last = first ≤ last
NoneOlder first (b ∷ bs) last = (first ≤ b.number) × NoneOlder b.number bs last

-- each exchange used the entry of one look, and took one moment
pub record Noted (looks looks' : Looks) (clock clock' : ClockState) (begun : List Begun) : Type 0 where
  pub looks_tell : looks'.tells ≡ looks.tells
  pub pair : looks'.pair ≡ looks.pair
  pub clock_tells : clock'.tells ≡ clock.tells
  pub entries : IsTrue looks.tells → (none : Entry Config) → Take entry_used none looks.coming looks'.coming begun
  pub moments : IsTrue clock.tells → Take moment_of 0 clock.coming clock'.coming begun
  pub goes_on : GoesOn looks.view looks'.view
  pub used : All (UsesOf looks'.view) begun
  pub none_older : NoneOlder (held_number looks) begun (held_number looks')

-- for one exchange one look was taken, whose entry it used, and one moment
pub record TakesOne (looks looks' : Looks) (clock clock' : ClockState) (b : Begun) : Type 0 where
  pub looks_tell : looks'.tells ≡ looks.tells
  pub pair : looks'.pair ≡ looks.pair
  pub clock_tells : clock'.tells ≡ clock.tells
  pub goes_on : GoesOn looks.view looks'.view
  pub used : EndsIn looks'.view (entry_used b)
  pub look : IsTrue looks.tells → LookGives looks.coming looks'.view
  pub looks_left : IsTrue looks.tells → looks'.coming ≡ behind_first looks.coming
  pub moment : IsTrue clock.tells → b.moment ≡ first_or 0 clock.coming
  pub moments_left : IsTrue clock.tells → clock'.coming ≡ behind_first clock.coming
