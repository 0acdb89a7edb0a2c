-- The one dial of a route.
use Rattle.std.proofs.Common.{◌≡◌, ℕ, Bool, IsTrue, true, false, not, ◌==◌, List, [], ◌∷◌, ◌++◌, Ok, Err, ap, ◌∙◌, refl, subst, rules}
use Rattle.std.specs.Prelude.{MatchBool}
use Rattle.std.proofs.lemmas.Bool.{or_parts, or_right, or_left, eq-eqb}
use Rattle.px_base.specs.Causes.{Rose, RisesWith}
use Rattle.px_base.specs.declared.dials.Dial.{Dial}
use Rattle.px_base.specs.declared.faults.DialFault.TheVariants as fault
use Rattle.px_base.specs.declared.dials.DialOutcome.TheVariants as outcome
use Rattle.px_base.specs.Sources.{SourceState, SourceGoesOn}
use Rattle.px_base.specs.Sinks.{SinkState}
use Rattle.px_base.specs.Dials.{DialerState, DialerGoesOn, Met, offers, nameless, unreached, untold, met, coming_behind, IsFresh, IsTold, HangsUp, traffic, Traffic, is_open, is_open_at, finish, closed_dial, agrees}
use Rattle.px_decide.specs.declared.routes.Route.{Route}
use Rattle.px_exchange.specs.Exchange.{link_seen}
use Rattle.px_exchange.specs.Dialling.{DialsOnce, DialComes}

-- the last dial is open
pub open-last : (mark : ℕ) (d : Dial) (ds : List Dial) → is_open_at mark d.outcome ≡ true → is_open mark (ds ++ d ∷ []) ≡ true
open-last mark d [] h = or_left (is_open_at mark d.outcome) false h
open-last mark d (e ∷ ds) h = or_right (is_open_at mark e.outcome) (is_open mark (ds ++ d ∷ [])) (open-last mark d ds h)

-- hanging up the last dial
pub finish-last : (mark : ℕ) (t : Traffic) (d : Dial) (ds : List Dial) → is_open mark ds ≡ false → is_open_at mark d.outcome ≡ true → finish mark t (ds ++ d ∷ []) ≡ ds ++ closed_dial t d ∷ []
finish-last mark t d [] none h = rw h refl
finish-last mark t d (e ∷ ds) none h =
    let p = or_parts (is_open_at mark e.outcome) (is_open mark ds) none in
    rw p.0 (ap (λ (xs : List Dial). e ∷ xs) (finish-last mark t d ds p.1 h))

-- the link that was just dialled is open, and stays so while it is used
pub dialed_open : {i i' : SourceState} (old mid : List Dial) (host : List ℕ) (port : ℕ)
    → mid ≡ old ++ record { host = host; port = port; outcome = outcome.Open i.mark i.offered } ∷ []
    → SourceGoesOn i i'
    → is_open i'.mark mid ≡ true
dialed_open {i = i} old mid host port em on =
    rw (em, on.mark_same) (open-last i.mark (record { host = host; port = port; outcome = outcome.Open i.mark i.offered }) old (eq-eqb i.mark i.mark refl))

calm : (n : ℕ) → n ≡ 0 → not (n == 0) ≡ false
calm n e = rw e refl

-- an end without failing calls
steady : {now : Bool} {n : ℕ} (b c : Bool) (m : ℕ) → b ≡ c → (IsTrue b → IsTrue now × (n ≡ m)) → m ≡ 0 → IsTrue c → not (n == 0) ≡ false
steady {n = n} b c m e kept none told = calm n ((kept (e ∙ told)).1 ∙ none)

-- what came over the link is what was to come
comes : (m : Met) (i i' : SourceState) (o o' : SinkState)
    → agrees m (Ok (record { link_in = i; link_out = o })) → IsFresh (record { link_in = i; link_out = o }) → SourceGoesOn i i' → (IsTrue o.steady → o'.faults ≡ o.faults)
    → DialComes m (outcome.Link (link_seen i' o'))
comes (offers bytes reads writes) i i' o o' a fresh on_in calm_out = (
  on_in.offered_same ∙ a.0,
  λ told. steady i.steady reads i.faults a.1 on_in.steady_kept fresh.no_read_failed told,
  λ told. calm o'.faults (calm_out (a.2 ∙ told) ∙ fresh.no_write_failed),
)
comes nameless i i' o o' a fresh on_in calm_out = absurd a
comes unreached i i' o o' a fresh on_in calm_out = absurd a
comes untold i i' o o' a fresh on_in calm_out = tt

-- what lasts over a dial, and over hanging up behind it
dialer_goes_on : {a b c : DialerState} → DialerGoesOn a b → DialerGoesOn b c → DialerGoesOn a c
dialer_goes_on h k = search rules

-- an end that failed raised its count
rises_by : (mid new : ℕ) (b : Bool) → MatchBool b (new ≡ mid) (Rose mid new) → not b ≡ true → Rose mid new
rises_by mid new true r failed = absurd (cc)
rises_by mid new false r failed = r

pub rises : (old mid new n : ℕ) → mid ≡ old → RisesWith mid new n → not (n == 0) ≡ true → Rose old new
rises old mid new n e r failed = subst (λ (k : ℕ). Rose k new) e (rises_by mid new (n == 0) r failed)

-- the dial that is added by a dial and hanging up
added_once : (old mid new : DialerState) (i i' : SourceState) (o' : SinkState) (host : List ℕ) (port : ℕ)
    → IsTrue mid.tells
    → mid.dials ≡ old.dials ++ record { host = host; port = port; outcome = outcome.Open i.mark i.offered } ∷ []
    → is_open i.mark old.dials ≡ false
    → SourceGoesOn i i'
    → HangsUp mid new i' o'
    → new.dials ≡ old.dials ++ record { host = host; port = port; outcome = outcome.Link (link_seen i' o') } ∷ []
added_once old mid new i i' o' host port tells em unmarked on_in hung =
    let d : Dial = record { host = host; port = port; outcome = outcome.Open i.mark i.offered } in
    let t : Traffic = traffic i' o' in
    let en : new.dials ≡ finish i.mark t mid.dials = rw (← on_in.mark_same) (hung.dials tells) in
    let seen : closed_dial t d ≡ record { host = host; port = port; outcome = outcome.Link (link_seen i' o') } = rw (← on_in.offered_same) refl in
    en ∙ ap (finish i.mark t) em ∙ finish-last i.mark t d old.dials unmarked (eq-eqb i.mark i.mark refl) ∙ ap (λ (x : Dial). old.dials ++ x ∷ []) seen

-- a dial, a talk over its link, and hanging up
pub dialed_once : (old mid new : DialerState) (i i' : SourceState) (o o' : SinkState) (route : Route)
    → IsTrue mid.tells
    → mid.dials ≡ old.dials ++ record { host = route.host; port = route.port; outcome = outcome.Open i.mark i.offered } ∷ []
    → IsTold old (record { link_in = i; link_out = o })
    → IsFresh (record { link_in = i; link_out = o })
    → (IsTrue old.tells_coming → agrees (met old route.host) (Ok (record { link_in = i; link_out = o })))
    → (IsTrue old.tells_coming → mid.coming ≡ coming_behind old route.host)
    → DialerGoesOn old mid
    → DialerGoesOn mid new
    → (mid.link_reads ≡ old.link_reads) × (mid.link_writes ≡ old.link_writes)
    → SourceGoesOn i i'
    → (IsTrue o.steady → o'.faults ≡ o.faults)
    → HangsUp mid new i' o'
    → DialsOnce route (outcome.Link (link_seen i' o')) old new
dialed_once old mid new i i' o o' route tells em told fresh agree left lasts_dial lasts_hung stay on_in calm_out hung =
    record {
      added = added_once old mid new i i' o' route.host route.port tells em told.new_mark on_in hung;
      comes = λ c. comes (met old route.host) i i' o o' (agree c) fresh on_in calm_out;
      coming_left = λ c. hung.coming_same (lasts_dial.tells_coming_same ∙ c) ∙ left c;
      goes_on = dialer_goes_on lasts_dial lasts_hung;
      cause = (rises old.link_reads mid.link_reads new.link_reads i'.faults stay.0 hung.link_reads, rises old.link_writes mid.link_writes new.link_writes o'.faults stay.1 hung.link_writes);
    }

-- ---- a dial that was refused

no_name_comes : (m : Met) → agrees m (Err fault.NoName) → DialComes m outcome.NoName
no_name_comes (offers bytes reads writes) a = absurd a
no_name_comes nameless a = tt
no_name_comes unreached a = absurd a
no_name_comes untold a = tt

not_reached_comes : (m : Met) → agrees m (Err fault.NotReached) → DialComes m outcome.NotReached
not_reached_comes (offers bytes reads writes) a = absurd a
not_reached_comes nameless a = absurd a
not_reached_comes unreached a = tt
not_reached_comes untold a = tt

pub no_name_once : (old new : DialerState) (route : Route) → new.dials ≡ old.dials ++ record { host = route.host; port = route.port; outcome = outcome.NoName } ∷ []
    → (IsTrue old.tells_coming → agrees (met old route.host) (Err fault.NoName)) → (IsTrue old.tells_coming → new.coming ≡ coming_behind old route.host)
    → DialerGoesOn old new → Rose old.names new.names → DialsOnce route outcome.NoName old new
no_name_once old new route added agree left lasts rose =
    record { added = added; comes = λ c. no_name_comes (met old route.host) (agree c); coming_left = left; goes_on = lasts; cause = rose }

pub not_reached_once : (old new : DialerState) (route : Route) → new.dials ≡ old.dials ++ record { host = route.host; port = route.port; outcome = outcome.NotReached } ∷ []
    → (IsTrue old.tells_coming → agrees (met old route.host) (Err fault.NotReached)) → (IsTrue old.tells_coming → new.coming ≡ coming_behind old route.host)
    → DialerGoesOn old new → Rose old.reach new.reach → DialsOnce route outcome.NotReached old new
not_reached_once old new route added agree left lasts rose =
    record { added = added; comes = λ c. not_reached_comes (met old route.host) (agree c); coming_left = left; goes_on = lasts; cause = rose }
