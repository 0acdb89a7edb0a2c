-- One taking after another.
use Rattle.std.proofs.Common.{◌≡◌, ℕ, Bool, true, false, ◌+◌, ◌≤◌, List, [], ◌∷◌, ◌++◌, length, filter, Option, None, Some, Result, Ok, Err, subst, sym, ap, ◌∙◌, refl, arith, length-append}
use Rattle.std.specs.Prelude.{All, IfOk}
use Rattle.std.specs.Result.{result_ok}
use Rattle.std.proofs.lemmas.List.Elements.{All-append, All-cons, All-nil, All-weaker, filter-append}
use Rattle.px_base.specs.Sinks.{SinkState}
use Rattle.px_config.specs.Insides.{Asked, ChangesLogAlone, InsideGoesOn, InsideState, Law}
use Rattle.px_config.specs.declared.configs.Config.{Config}
use Rattle.px_config.specs.declared.insides.Taking.{Taking}
use Rattle.px_judging.specs.declared.readings.HeadSeen.{HeadSeen}
use Rattle.px_judging.specs.Readings.{ReadsAs}
use Rattle.px_serve.specs.Histories.{Begun}
use Rattle.px_serve.specs.Logging.{Logged}
use Rattle.px_serve.specs.Receiving.{ChangesFor, IsPlaceNow, TakesFor}
use Rattle.px_serve.specs.Sessions.{ReadsReceived}
use Rattle.px_serve.specs.Takings.{Fits, HasPageIfAsked, PageIfAsked, PlacesRise, PlaceRises, Suits, SuitsBegun, SuitsReceived, asks, changing, may_change, place_received, place_taken}
use Rattle.px_serve.specs.declared.receiving.Received.{Received}

-- ---- another law

-- what suits one law suits another that holds wherever the first does
suits : (law law' : Law) → ((a : Asked) (t : Taking) → law a t → law' a t) → (a : Option Asked) (t : Option Taking) → Suits law a t → Suits law' a t
suits law law' f None None h = tt
suits law law' f None (Some t) h = h
suits law law' f (Some a) None h = h
suits law law' f (Some a) (Some t) h = f a t h

suits_received : (law law' : Law) → ((a : Asked) (t : Taking) → law a t → law' a t) → (config : Config) (number : ℕ) (peer : List ℕ) (r : Option Received)
    → SuitsReceived law config number peer r → SuitsReceived law' config number peer r
suits_received law law' f config number peer None h = tt
suits_received law law' f config number peer (Some r) h = suits law law' f (asks config number peer r.reading) r.taken h

pub all_suit : (law law' : Law) → ((a : Asked) (t : Taking) → law a t → law' a t) → (peer : List ℕ) (begun : List Begun) → All (SuitsBegun law peer) begun → All (SuitsBegun law' peer) begun
all_suit law law' f peer begun h = All-weaker (SuitsBegun law peer) (SuitsBegun law' peer) (λ b s. suits_received law law' f b.config b.number peer b.received s) begun h

-- ---- places

first_below : (o : Option ℕ) (rest : ℕ → Type 0) (p q : ℕ) → p ≤ q → (rest q → rest p) → PlaceRises o rest q → PlaceRises o rest p
first_below None rest p q h f k = f k
first_below (Some x) rest p q h f k = (omega (arith, h, k.0), k.1)

-- places that rise from one place rise from one before it
rises_below : (p q r : ℕ) (begun : List Begun) → p ≤ q → PlacesRise q begun r → PlacesRise p begun r
rises_below p q r [] h k = omega (arith, h, k)
rises_below p q r (b ∷ bs) h k = first_below (place_received b.received) (λ (x : ℕ). PlacesRise x bs r) p q h (rises_below p q r bs h) k

then_more : (o : Option ℕ) (rest more : ℕ → Type 0) (p : ℕ) → ((x : ℕ) → rest x → more x) → PlaceRises o rest p → PlaceRises o more p
then_more None rest more p f k = f p k
then_more (Some x) rest more p f k = (k.0, f x k.1)

rises_more : (p q r : ℕ) (xs ys : List Begun) → PlacesRise p xs q → PlacesRise q ys r → PlacesRise p (xs ++ ys) r
rises_more p q r [] ys h k = rises_below p q r ys h k
rises_more p q r (x ∷ xs) ys h k = then_more (place_received x.received) (λ (n : ℕ). PlacesRise n xs q) (λ (n : ℕ). PlacesRise n (xs ++ ys) r) p (λ n rest. rises_more n q r xs ys rest k) h

-- ---- changes

changing_more : (xs ys : List Begun) → changing (xs ++ ys) ≡ changing xs + changing ys
changing_more xs ys =
    ap (λ (zs : List Begun). length zs) (filter-append (λ (b : Begun). may_change b.received) xs ys) ∙ length-append (filter kept xs) (filter kept ys)
  where
    kept : Begun → Bool
    kept b = may_change b.received

changes_more : (a b c : ℕ) (xs ys : List Begun) → b ≤ a + changing xs → c ≤ b + changing ys → c ≤ a + changing (xs ++ ys)
changes_more a b c xs ys h k = rw (changing_more xs ys) (omega (arith, h, k))

changes_one : (p q : ℕ) (b : Begun) → ChangesFor p q b.received → q ≤ p + changing (b ∷ [])
changes_one p q b h = by (may_change b.received) refl
  where
    by : (m : Bool) → may_change b.received ≡ m → q ≤ p + changing (b ∷ [])
    by true e = rw e (rw e at h)
    by false e = rw e (rw e at h)

-- ---- the log

-- the lines of some exchanges, and then those of others
pub logged_more : (peer : List ℕ) (a b c : Option SinkState) (xs ys : List Begun) → Logged peer a b xs → Logged peer b c ys → Logged peer a c (xs ++ ys)
logged_more peer a b c [] ys h k = subst (λ (m : Option SinkState). Logged peer m c ys) h k
logged_more peer a b c (x ∷ xs) ys h k = (h.0, h.1, logged_more peer h.0 b c xs ys h.2 k)

-- ---- what fits

inside_goes_on : {a b c : InsideState} → InsideGoesOn a b → InsideGoesOn b c → InsideGoesOn a c
inside_goes_on h k = record {
  place_later = omega (arith, h.place_later, k.place_later);
  changes_later = omega (arith, h.changes_later, k.changes_later);
  fits_kept = λ a t f. k.fits_kept a t (h.fits_kept a t f);
  steady_kept = λ s. k.steady_kept (h.steady_kept s);
  fits_only = λ s a t f. h.fits_only s a t (k.fits_only (h.steady_kept s) a t f);
}

inside_same : (ins : InsideState) → InsideGoesOn ins ins
inside_same ins = record { place_later = omega arith; changes_later = omega arith; fits_kept = λ a t f. f; steady_kept = λ s. s; fits_only = λ s a t f. f }

-- no exchange
pub fits_none : (ins : InsideState) (peer : List ℕ) → Fits ins ins peer []
fits_none ins peer = record { each = All-nil (SuitsBegun ins.fits peer); rises = omega arith; pages = All-nil HasPageIfAsked; changes = omega arith; logged = refl; goes_on = inside_same ins }

-- what fits once, fits after
pub fits_more : (a b c : InsideState) (now peer : List ℕ) (xs ys : List Begun) → now ≡ peer → Fits a b peer xs → Fits b c now ys → Fits a c peer (xs ++ ys)
fits_more a b c now peer xs ys same h k =
    let more : Fits b c peer ys = subst (λ (p : List ℕ). Fits b c p ys) same k in
    record {
      each = All-append (SuitsBegun c.fits peer) xs ys (all_suit b.fits c.fits more.goes_on.fits_kept peer xs h.each) more.each;
      rises = rises_more a.place b.place c.place xs ys h.rises more.rises;
      pages = All-append HasPageIfAsked xs ys h.pages more.pages;
      changes = changes_more a.changes b.changes c.changes xs ys h.changes more.changes;
      logged = logged_more peer a.log b.log c.log xs ys h.logged more.logged;
      goes_on = inside_goes_on h.goes_on more.goes_on;
    }

pub lawful_more : (law : Law) (now peer : List ℕ) (xs ys : List Begun) → now ≡ peer → All (SuitsBegun law peer) xs → All (SuitsBegun law now) ys → All (SuitsBegun law peer) (xs ++ ys)
lawful_more law now peer xs ys same h k = All-append (SuitsBegun law peer) xs ys h (subst (λ (p : List ℕ). All (SuitsBegun law p) ys) same k)

-- ---- one exchange, by what was received for it

pub reads_received : {E : Type 0} (seen : HeadSeen) (r : Result Received E) (o : Option Received) → o ≡ result_ok r → IfOk r (λ x. ReadsAs seen x.reading) → ReadsReceived seen o
reads_received {E = E} seen r o is h = rw is (by r h)
  where
    by : (r : Result Received E) → IfOk r (λ x. ReadsAs seen x.reading) → ReadsReceived seen (result_ok r)
    by (Ok x) h = h
    by (Err e) h = tt

-- what was taken for a request, if memory was there
abbrev pub TakesMaybe : {E : Type 0} → Law → InsideState → InsideState → Config → ℕ → List ℕ → Result Received E → Type 0
TakesMaybe law old new config number peer r = IfOk r (λ x. TakesFor law old new (asks config number peer x.reading) x.taken)

lawful_received : {E : Type 0} (law : Law) (old new : InsideState) (config : Config) (number : ℕ) (peer : List ℕ) (r : Result Received E) → TakesMaybe law old new config number peer r
    → SuitsReceived law config number peer (result_ok r)
lawful_received law old new config number peer (Ok x) h = h.lawful
lawful_received law old new config number peer (Err e) h = tt

fits_received : {E : Type 0} (law : Law) (old new : InsideState) (config : Config) (number : ℕ) (peer : List ℕ) (r : Result Received E) → TakesMaybe law old new config number peer r
    → SuitsReceived new.fits config number peer (result_ok r)
fits_received law old new config number peer (Ok x) h = h.fits
fits_received law old new config number peer (Err e) h = tt

rises_taken : (p q : ℕ) (t : Option Taking) → p ≤ q → IsPlaceNow p q t → PlaceRises (place_taken t) (λ (x : ℕ). x ≤ q) p
rises_taken p q None h e = h
rises_taken p q (Some t) h e = (omega (arith, h, e), omega (arith, e))

rises_received : {E : Type 0} (law : Law) (old new : InsideState) (config : Config) (number : ℕ) (peer : List ℕ) (r : Result Received E) → old.place ≤ new.place
    → TakesMaybe law old new config number peer r → PlaceRises (place_received (result_ok r)) (λ (x : ℕ). x ≤ new.place) old.place
rises_received law old new config number peer (Ok x) later h = rises_taken old.place new.place x.taken later h.place
rises_received law old new config number peer (Err e) later h = later

pub lawful_one : {E : Type 0} (law : Law) (old new : InsideState) (peer : List ℕ) (b : Begun) (r : Result Received E) → b.received ≡ result_ok r
    → TakesMaybe law old new b.config b.number peer r → All (SuitsBegun law peer) (b ∷ [])
lawful_one law old new peer b r is h =
    All-cons (SuitsBegun law peer) b [] (subst (λ (o : Option Received). SuitsReceived law b.config b.number peer o) (sym is) (lawful_received law old new b.config b.number peer r h)) (All-nil (SuitsBegun law peer))

-- a log alone changes nothing of what lasts
logs_on : {old new : InsideState} → ChangesLogAlone old new → InsideGoesOn old new
logs_on {old = old} {new = new} h = record {
  place_later = omega (arith, h.place_same);
  changes_later = omega (arith, h.changes_same);
  fits_kept = h.fits_kept;
  steady_kept = λ s. h.steady_same ∙ s;
  fits_only = λ s a t f. h.fits_only a t f;
}

-- one exchange, by what was received for it; then the log took its line
pub fits_one : {E : Type 0} (law : Law) (old mid new : InsideState) (peer : List ℕ) (b : Begun) (r : Result Received E) → b.received ≡ result_ok r
    → TakesMaybe law old mid b.config b.number peer r → PageIfAsked (result_ok r) → ChangesFor old.changes mid.changes (result_ok r) → InsideGoesOn old mid
    → ChangesLogAlone mid new → Logged peer old.log new.log (b ∷ []) → Fits old new peer (b ∷ [])
fits_one law old mid new peer b r is h paged few on alone logged = record {
  each = All-cons (SuitsBegun new.fits peer) b [] (suits_received mid.fits new.fits alone.fits_kept b.config b.number peer b.received
      (subst (λ (o : Option Received). SuitsReceived mid.fits b.config b.number peer o) (sym is) (fits_received law old mid b.config b.number peer r h))) (All-nil (SuitsBegun new.fits peer));
  rises = subst (λ (q : ℕ). PlaceRises (place_received b.received) (λ (x : ℕ). x ≤ q) old.place) (sym alone.place_same)
      (subst (λ (o : Option Received). PlaceRises (place_received o) (λ (x : ℕ). x ≤ mid.place) old.place) (sym is) (rises_received law old mid b.config b.number peer r on.place_later h));
  pages = All-cons HasPageIfAsked b [] (subst (λ (o : Option Received). PageIfAsked o) (sym is) paged) (All-nil HasPageIfAsked);
  changes = subst (λ (q : ℕ). q ≤ old.changes + changing (b ∷ [])) (sym alone.changes_same)
      (changes_one old.changes mid.changes b (subst (λ (o : Option Received). ChangesFor old.changes mid.changes o) (sym is) few));
  logged = logged;
  goes_on = inside_goes_on on (logs_on alone);
}
