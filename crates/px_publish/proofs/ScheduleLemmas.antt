-- The schedule core, over every list of events.
use Rattle.std.proofs.Common.{◌≡◌, ℕ, zero, suc, ◌+◌, ◌-◌, ◌≤◌, ◌==◌, Bool, true, false, List, [], ◌∷◌, ◌++◌, length, take, map, All, Contains, refl, ap, sym, subst, arith, length-append}
use Rattle.std.proofs.lemmas.Bool.Decides.{nat_tests}
use Rattle.px_publish.specs.Schedule.{Session, Core, Event, Publish, HandOut, Use, newest, start, with_seen, with_used, core_after, MayCome, run, MayAllCome, Rises, begun_since}

all_cons : {A : Type 0} (P : A → Type 0) (x : A) (xs : List A) → P x → All P xs → All P (x ∷ xs)
all_cons P x xs p all zero d lt = p
all_cons P x xs p all (suc k) d lt = all k d (omega arith)

all_none : {A : Type 0} (P : A → Type 0) → All P []
all_none P k d lt = absurd (omega arith)

all_tail : {A : Type 0} (P : A → Type 0) (x : A) (xs : List A) → All P (x ∷ xs) → All P xs
all_tail P x xs all k d lt = all (suc k) d (omega arith)

all_head : {A : Type 0} (P : A → Type 0) (x : A) (xs : List A) → All P (x ∷ xs) → P x
all_head P x xs all = all 0 x (omega arith)

all_mapped : {A : Type 0} (P Q : A → Type 0) (xs : List A) → ((x : A) → P x → Q x) → All P xs → All Q xs
all_mapped P Q xs f all k d lt = f _ (all k d lt)

all_contains : {A : Type 0} (P : A → Type 0) (xs : List A) (x : A) → All P xs → Contains xs x → P x
all_contains P xs x all c = subst P c.2 (all c.0 x c.1)

rises_up : (first last last' : ℕ) (ns : List ℕ) → Rises first ns last → last ≤ last' → Rises first ns last'
rises_up first last last' [] r le = omega arith
rises_up first last last' (n ∷ ns) r le = (r.0, rises_up n last last' ns r.1 le)

rises_down : (first first' last : ℕ) (ns : List ℕ) → Rises first ns last → first' ≤ first → Rises first' ns last
rises_down first first' last [] r le = omega arith
rises_down first first' last (n ∷ ns) r le = let least = r.0 in (omega arith, r.1)

rises_more : (first last n : ℕ) (ns : List ℕ) → Rises first ns last → last ≤ n → Rises first (ns ++ n ∷ []) n
rises_more first last n [] r le = (omega arith, omega arith)
rises_more first last n (m ∷ ns) r le = (r.0, rises_more m last n ns r.1 le)

rises_most : (first last : ℕ) (ns : List ℕ) → Rises first ns last → All (λ n. n ≤ last) ns
rises_most first last [] r = all_none (λ n. n ≤ last)
rises_most first last (n ∷ ns) r = all_cons (λ m. m ≤ last) n ns (rises_least n last ns r.1) (rises_most n last ns r.1)
  where
    rises_least : (first last : ℕ) (ns : List ℕ) → Rises first ns last → first ≤ last
    rises_least first last [] r = r
    rises_least first last (n ∷ ns) r = let rest = rises_least n last ns r.1 in let least = r.0 in omega arith

-- what a worker has seen bounds the numbers of its sessions
abbrev Sound : (ℕ → ℕ) → Session → Type 0
Sound seen s = Rises s.handed s.numbers (seen s.worker)

record Kept {C : Type 0} (core : Core C) : Type 0 where
  some : length core.published ≡ newest core + 1
  seen : (worker : ℕ) → core.seen worker ≤ newest core
  sound : All (Sound core.seen) core.sessions

seen_rises : (seen : ℕ → ℕ) (worker number other : ℕ) → seen worker ≤ number → seen other ≤ with_seen seen worker number other
seen_rises seen worker number other le = by_test (other == worker) refl
  where
    by_test : (b : Bool) → (other == worker) ≡ b → seen other ≤ with_seen seen worker number other
    by_test true e = let same : other ≡ worker = grind (arith, nat_tests) in rw (e, same) le
    by_test false e = rw e (omega arith)

seen_most : (seen : ℕ → ℕ) (worker number most other : ℕ) → seen other ≤ most → number ≤ most → with_seen seen worker number other ≤ most
seen_most seen worker number most other le le' = by_test (other == worker) refl
  where
    by_test : (b : Bool) → (other == worker) ≡ b → with_seen seen worker number other ≤ most
    by_test true e = rw e le'
    by_test false e = rw e le

sound_up : (seen seen' : ℕ → ℕ) (ss : List Session) → ((worker : ℕ) → seen worker ≤ seen' worker) → All (Sound seen) ss → All (Sound seen') ss
sound_up seen seen' ss up all = all_mapped (Sound seen) (Sound seen') ss (λ s r. rises_up s.handed (seen s.worker) (seen' s.worker) s.numbers r (up s.worker)) all

seen_here : (seen : ℕ → ℕ) (worker number : ℕ) → with_seen seen worker number worker ≡ number
seen_here seen worker number = by_test (worker == worker) refl
  where
    by_test : (b : Bool) → (worker == worker) ≡ b → with_seen seen worker number worker ≡ number
    by_test true e = rw e refl
    by_test false e = absurd (grind (arith, nat_tests))

used_sound : (seen : ℕ → ℕ) (worker number : ℕ) (ss : List Session) → seen worker ≤ number → All (Sound seen) ss
    → All (Sound (with_seen seen worker number)) (with_used worker number ss)
used_sound seen worker number [] le all = all_none (Sound (with_seen seen worker number))
used_sound seen worker number (s ∷ ss) le all = by_test (s.worker == worker) refl (used_sound seen worker number ss le (all_tail (Sound seen) s ss all))
  where
    by_test : (b : Bool) → (s.worker == worker) ≡ b → All (Sound (with_seen seen worker number)) (with_used worker number ss) → All (Sound (with_seen seen worker number)) (with_used worker number (s ∷ ss))
    by_test true e rest =
        let same : s.worker ≡ worker = grind (arith, nat_tests) in
        let here : with_seen seen worker number s.worker ≡ number = rw same (seen_here seen worker number) in
        let old : Rises s.handed s.numbers (seen s.worker) = all_head (Sound seen) s ss all in
        let below : seen s.worker ≤ number = rw same le in
        let more : Rises s.handed (s.numbers ++ number ∷ []) (with_seen seen worker number s.worker) = rw here (rises_more s.handed (seen s.worker) number s.numbers old below) in
        rw e (all_cons (Sound (with_seen seen worker number)) (record { worker = s.worker; handed = s.handed; numbers = s.numbers ++ number ∷ [] }) ss more
        (sound_up seen (with_seen seen worker number) ss (λ w. seen_rises seen worker number w le) (all_tail (Sound seen) s ss all)))
    by_test false e rest =
        let old : Rises s.handed s.numbers (seen s.worker) = all_head (Sound seen) s ss all in
        rw e (all_cons (Sound (with_seen seen worker number)) s (with_used worker number ss)
        (rises_up s.handed (seen s.worker) (with_seen seen worker number s.worker) s.numbers old (seen_rises seen worker number s.worker le)) rest)

module _ {C : Type 0} where
  kept_after : (core : Core C) (event : Event C) → MayCome core event → Kept core → Kept (core_after core event)
  kept_after core (Publish config) may k =
      let some = k.some in
      let len : length (core.published ++ config ∷ []) ≡ length core.published + 1 = length-append core.published (config ∷ []) in record {
        some = omega arith;
        seen = λ w. let le = k.seen w in omega arith;
        sound = k.sound;
      }
  kept_after core (HandOut worker) may k = record {
    some = k.some;
    seen = λ w. seen_most core.seen worker (newest core) (newest core) w (k.seen w) (omega arith);
    sound = all_cons (Sound (with_seen core.seen worker (newest core))) (record { worker = worker; handed = newest core; numbers = [] }) core.sessions
        (let here = seen_here core.seen worker (newest core) in omega arith)
        (sound_up core.seen (with_seen core.seen worker (newest core)) core.sessions (λ w. seen_rises core.seen worker (newest core) w (k.seen worker)) k.sound);
  }
  kept_after core (Use worker number) may k = record {
    some = k.some;
    seen = λ w. seen_most core.seen worker number (newest core) w (k.seen w) may.2;
    sound = used_sound core.seen worker number core.sessions may.1 k.sound;
  }

  kept_run : (core : Core C) (events : List (Event C)) → MayAllCome core events → Kept core → Kept (run core events)
  kept_run core [] may k = k
  kept_run core (event ∷ events) may k = kept_run (core_after core event) events may.1 (kept_after core event may.0 k)

  kept_start : (first : C) → Kept (start first)
  kept_start first = record { some = refl; seen = λ w. omega arith; sound = all_none (Sound (λ _. 0)) }

  pub rise : (first : C) (events : List (Event C)) → MayAllCome (start first) events
      → All (λ (s : Session). Rises s.handed s.numbers (newest (run (start first) events))) (run (start first) events).sessions
  rise first events may =
      let core = run (start first) events in
      let k = kept_run (start first) events may (kept_start first) in
      all_mapped (Sound core.seen) (λ (s : Session). Rises s.handed s.numbers (newest core)) core.sessions
      (λ s r. rises_up s.handed (core.seen s.worker) (newest core) s.numbers r (k.seen s.worker)) k.sound

  some_after : (core : Core C) (event : Event C) → length core.published ≡ newest core + 1 → length (core_after core event).published ≡ newest (core_after core event) + 1
  some_after core (Publish config) e = omega (arith, length-append core.published (config ∷ []))
  some_after core (HandOut worker) e = e
  some_after core (Use worker number) e = e

  some_run : (core : Core C) (events : List (Event C)) → length core.published ≡ newest core + 1 → length (run core events).published ≡ newest (run core events) + 1
  some_run core [] e = e
  some_run core (event ∷ events) e = some_run (core_after core event) events (some_after core event e)

  pub some_published : (first : C) (events : List (Event C)) → length (run (start first) events).published ≡ newest (run (start first) events) + 1
  some_published first events = some_run (start first) events refl

-- the hand-outs of the sessions, the newest first
abbrev hands : List Session → List ℕ
hands ss = map (λ (s : Session). s.handed) ss

used_hands : (worker number : ℕ) (ss : List Session) → hands (with_used worker number ss) ≡ hands ss
used_hands worker number [] = refl
used_hands worker number (s ∷ ss) = by_test (s.worker == worker) refl (used_hands worker number ss)
  where
    by_test : (b : Bool) → (s.worker == worker) ≡ b → hands (with_used worker number ss) ≡ hands ss → hands (with_used worker number (s ∷ ss)) ≡ hands (s ∷ ss)
    by_test true e rest = rw e refl
    by_test false e rest = rw e (ap (λ hs. s.handed ∷ hs) rest)

-- those behind the first n, counted from the oldest, were handed out at m or later
record Late (n m : ℕ) (hs : List ℕ) : Type 0 where
  there : n ≤ length hs
  late : All (λ h. m ≤ h) (take (length hs - n) hs)

late_more : (n m h : ℕ) (hs : List ℕ) → m ≤ h → Late n m hs → Late n m (h ∷ hs)
late_more n m h hs le l =
    let there = l.there in
    let len : length (h ∷ hs) - n ≡ suc (length hs - n) = omega arith in
    record { there = omega arith; late = rw len (all_cons (λ h. m ≤ h) h (take (length hs - n) hs) le l.late) }

late_none : (n m : ℕ) (hs : List ℕ) → n ≡ length hs → Late n m hs
late_none n m hs e =
    let none : length hs - n ≡ 0 = omega arith in
    record { there = omega arith; late = rw none (all_none (λ h. m ≤ h)) }

late_sessions : (m k : ℕ) (ss : List Session) → All (λ h. m ≤ h) (take k (hands ss)) → All (λ (s : Session). m ≤ s.handed) (take k ss)
late_sessions m zero ss all = all_none (λ (s : Session). m ≤ s.handed)
late_sessions m (suc k) [] all = all_none (λ (s : Session). m ≤ s.handed)
late_sessions m (suc k) (s ∷ ss) all =
    all_cons (λ (s : Session). m ≤ s.handed) s (take k ss) (all_head (λ h. m ≤ h) s.handed (take k (hands ss)) all)
    (late_sessions m k ss (all_tail (λ h. m ≤ h) s.handed (take k (hands ss)) all))

all_take : {A : Type 0} (P : A → Type 0) (k : ℕ) (xs : List A) → All P xs → All P (take k xs)
all_take P zero xs all = all_none P
all_take P (suc k) [] all = all_none P
all_take P (suc k) (x ∷ xs) all = all_cons P x (take k xs) (all_head P x xs all) (all_take P k xs (all_tail P x xs all))

join_all : {A : Type 0} (P Q R : A → Type 0) (xs : List A) → ((x : A) → P x → Q x → R x) → All P xs → All Q xs → All R xs
join_all P Q R xs f p q k d lt = f _ (p k d lt) (q k d lt)

hands_length : (ss : List Session) → length (hands ss) ≡ length ss
hands_length [] = refl
hands_length (s ∷ ss) = ap suc (hands_length ss)

module _ {C : Type 0} where
  late_after : (core : Core C) (event : Event C) (n m : ℕ) → m ≤ newest core → Late n m (hands core.sessions)
      → Late n m (hands (core_after core event).sessions) × (m ≤ newest (core_after core event))
  late_after core (Publish config) n m le l = (l, omega (arith, length-append core.published (config ∷ [])))
  late_after core (HandOut worker) n m le l = (late_more n m (newest core) (hands core.sessions) le l, le)
  late_after core (Use worker number) n m le l = (subst (λ hs. Late n m hs) (sym (used_hands worker number core.sessions)) l, le)

  late_run : (core : Core C) (events : List (Event C)) (n m : ℕ) → m ≤ newest core → Late n m (hands core.sessions) → Late n m (hands (run core events).sessions)
  late_run core [] n m le l = l
  late_run core (event ∷ events) n m le l = let next = late_after core event n m le l in late_run (core_after core event) events n m next.1 next.0

  run_append : (core : Core C) (before events : List (Event C)) → run core (before ++ events) ≡ run (run core before) events
  run_append core [] events = refl
  run_append core (event ∷ before) events = run_append (core_after core event) before events

  front_may : (core : Core C) (before events : List (Event C)) → MayAllCome core (before ++ events) → MayAllCome core before
  front_may core [] events may = tt
  front_may core (event ∷ before) events may = (may.0, front_may (core_after core event) before events may.1)

  begun_late : (old : Core C) (events : List (Event C)) (m : ℕ) → m ≤ newest old → All (λ (s : Session). m ≤ s.handed) (begun_since old (run old events))
  begun_late old events m le =
      let now = run old events in
      let l = late_run old events (length old.sessions) m le (late_none (length old.sessions) m (hands old.sessions) (sym (hands_length old.sessions))) in
      late_sessions m (length now.sessions - length old.sessions) now.sessions
      (subst (λ k. All (λ h. m ≤ h) (take (k - length old.sessions) (hands now.sessions))) (hands_length now.sessions) l.late)

  pub none_older : (first : C) (before events : List (Event C)) → MayAllCome (start first) (before ++ events)
      → (s : Session) (number : ℕ) → Contains (run (start first) before).sessions s → Contains s.numbers number
      → All (λ (t : Session). Rises number t.numbers (newest (run (start first) (before ++ events)))) (begun_since (run (start first) before) (run (start first) (before ++ events)))
  none_older first before events may s number has uses =
      let old = run (start first) before in
      let now = run (start first) (before ++ events) in
      let rises : Rises s.handed s.numbers (newest old) = all_contains (λ (t : Session). Rises t.handed t.numbers (newest old)) old.sessions s (rise first before (front_may (start first) before events may)) has in
      let most : number ≤ newest old = all_contains (λ n. n ≤ newest old) s.numbers number (rises_most s.handed (newest old) s.numbers rises) uses in
      let late : All (λ (t : Session). number ≤ t.handed) (begun_since old now) =
      subst (λ (core : Core C). All (λ (t : Session). number ≤ t.handed) (begun_since old core)) (sym (run_append (start first) before events)) (begun_late old events number most) in
      let sound : All (λ (t : Session). Rises t.handed t.numbers (newest now)) (begun_since old now) =
      all_take (λ (t : Session). Rises t.handed t.numbers (newest now)) (length now.sessions - length old.sessions) now.sessions (rise first (before ++ events) may) in
      join_all (λ (t : Session). number ≤ t.handed) (λ (t : Session). Rises t.handed t.numbers (newest now)) (λ (t : Session). Rises number t.numbers (newest now)) (begun_since old now)
      (λ t le r. rises_down t.handed number (newest now) t.numbers r le) late sound
