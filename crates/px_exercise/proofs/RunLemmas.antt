-- What came of sessions, one after the other.
use Rattle.std.proofs.Common.{◌≡◌, ◌≢◌, ◌+◌, ℕ, zero, suc, List, [], ◌∷◌, ◌++◌, length, map, refl, sym, ap, ◌∙◌, subst, arith, IsTrue}
use Rattle.std.proofs.lemmas.List.Elements.{All-cons, All-head, All-nil, All-push, All-tail}
use Rattle.std.proofs.lemmas.List.{flat_map_more}
use Rattle.std.proofs.lemmas.List.Sums.{sum_by_push}
use Rattle.std.specs.List.{flat_map, sum_by}
use Rattle.std.specs.Prelude.{All, codes, true}
use Rattle.px_base.specs.Causes.{Rose}
use Rattle.px_base.specs.Dials.{DialerState, fresh_dialer}
use Rattle.px_base.specs.Repeating.{behind_first, behind_firsts, first_or, firsts_or}
use Rattle.px_base.specs.Sources.{SourceGoesOn, fresh_source}
use Rattle.px_streams.specs.Feeds.{FeedState}
use Rattle.px_ends.specs.Ends.{EndsState}
use Rattle.px_config.specs.declared.configs.Config.{Config}
use Rattle.px_publish.specs.Views.{Entry}
use Rattle.px_notes.specs.declared.sessions.ExchangeNote.{ExchangeNote}
use Rattle.px_notes.specs.declared.sessions.SessionEnd.{SessionEnd}
use Rattle.px_notes.specs.declared.sessions.SessionEnd.TheVariants as end
use Rattle.px_config.specs.Insides.{Law}
use Rattle.px_pages.specs.Pages.{BareLaw}
use Rattle.px_serve.specs.Ends.{EndCause, faults_of}
use Rattle.px_serve.specs.Histories.{Begun, Looks, Take, entry_used, moment_of}
use Rattle.px_serve.specs.Sessions.{Serves}
use Rattle.px_generated.specs.Jobs.{draws_before, first_sessions, job_sessions, session_at}
use Rattle.px_generated.specs.declared.sessions.JobSession.{JobSession}
use Rattle.px_exercise.specs.Runs.{AreRuns, AreRunsOf, GivesOnly, HasRun, IsRun, UsesOnly, total_of}
use Rattle.px_exercise.specs.declared.runs.SessionRun.{SessionRun}
use Rattle.px_exercise.specs.declared.runs.Total.{Total}

-- one item that comes again is all that is left
one_left : {E : Type 0} (e : E) (n : ℕ) → behind_firsts (e ∷ []) n ≡ e ∷ []
one_left e zero = refl
one_left e (suc n) = ap behind_first (one_left e n)

-- each of the first of one item that comes again is that item
all_firsts : {E : Type 0} (none e : E) (n : ℕ) → All (λ x. x ≡ e) (firsts_or none (e ∷ []) n)
all_firsts none e zero = All-nil (λ x. x ≡ e)
all_firsts none e (suc n) = All-push (λ x. x ≡ e) (firsts_or none (e ∷ []) n) (first_or none (behind_firsts (e ∷ []) n)) (all_firsts none e n) (ap (first_or none) (one_left e n))

-- what holds of each value of a function holds so of what it was given
all_before_map : {X Y : Type 0} (P : Y → Type 0) (f : X → Y) (xs : List X) → All P (map f xs) → All (λ x. P (f x)) xs
all_before_map P f [] h = All-nil (λ x. P (f x))
all_before_map P f (x ∷ xs) h = All-cons (λ x. P (f x)) x xs (All-head P (f x) (map f xs) h) (all_before_map P f xs (All-tail P (f x) (map f xs) h))

-- exchanges that took one value each from what gives one value have that value
takes_one : {E : Type 0} (value : Begun → E) (none : E) (coming coming' : List E) (e : E) (begun : List Begun) → coming ≡ e ∷ [] → Take value none coming coming' begun → All (λ b. value b ≡ e) begun
takes_one {E = E} value none coming coming' e begun only t =
    let firsts = subst (λ (xs : List E). All (λ x. x ≡ e) (firsts_or none xs (length begun))) (sym only) (all_firsts none e (length begun)) in
    all_before_map (λ x. x ≡ e) value begun (subst (All (λ x. x ≡ e)) (sym t.taken) firsts)

-- an exchange with that entry, at the moment 0
uses_only : (config : Config) (b : Begun) → entry_used b ≡ record { number = 0; config = config } → b.moment ≡ 0 → UsesOnly config b
uses_only config b e m = record { number_is = ap (λ (x : Entry Config). x.number) e; config_is = ap (λ (x : Entry Config). x.config) e; moment_is = m }

-- exchanges took each look from what gives one configuration, and each moment from what gives 0
all_use_only : (config : Config) (coming coming' : List (Entry Config)) (moments moments' : List ℕ) (begun : List Begun)
    → GivesOnly config coming → moments ≡ 0 ∷ [] → Take entry_used (record { number = 0; config = config }) coming coming' begun → Take moment_of 0 moments moments' begun → All (UsesOnly config) begun
all_use_only config coming coming' moments moments' begun only zeros entries taken =
    let entry : Entry Config = record { number = 0; config = config } in
    let same = takes_one entry_used entry coming coming' entry begun only entries in
    let at_zero = takes_one moment_of 0 moments moments' 0 begun zeros taken in
    λ k d h. uses_only config _ (same k d h) (at_zero k d h)

-- what is left of what gives one value gives that value
left_gives : (config : Config) (none : Entry Config) (coming coming' : List (Entry Config)) (begun : List Begun) → GivesOnly config coming → Take entry_used none coming coming' begun → GivesOnly config coming'
left_gives config none coming coming' begun only t =
    t.left ∙ ap (λ (xs : List (Entry Config)). behind_firsts xs (length begun)) only ∙ one_left (record { number = 0; config = config }) (length begun)

-- a steady source that is just made doesn't fail
no_read_failed : (old new : EndsState) (e : SessionEnd) → IsTrue old.client.source.steady → old.client.source.faults ≡ 0 → SourceGoesOn old.client.source new.client.source → EndCause (faults_of old) (faults_of new) e → e ≢ end.ReadFailed
no_read_failed old new e steady none on cause is =
    let rose : Rose old.client.source.faults new.client.source.faults = subst (EndCause (faults_of old) (faults_of new)) is cause in
    omega (arith, (on.steady_kept steady).1, none, rose)

-- nor does a sink whose count stays 0
no_write_failed : (old new : EndsState) (e : SessionEnd) → old.client_out.faults ≡ 0 → new.client_out.faults ≡ 0 → EndCause (faults_of old) (faults_of new) e → e ≢ end.WriteFailed
no_write_failed old new e before behind cause is =
    let rose : Rose old.client_out.faults new.client_out.faults = (subst (EndCause (faults_of old) (faults_of new)) is cause).1 in
    omega (arith, before, behind, rose)

-- a session that was served over memory
pub is_run : {config : Config} {session : JobSession} {looks looks' : Looks} {old new : EndsState} {notes : List ExchangeNote} {e : SessionEnd}
    → Serves BareLaw looks looks' old new notes e → IsTrue looks.tells → GivesOnly config looks.coming → old.peer ≡ codes "127.0.0.1" → old.client ≡ record { source = fresh_source session.input true; ahead = [] }
    → IsTrue old.client_out.tells → old.client_out.taken ≡ [] → old.dialer ≡ fresh_dialer session.answers → IsTrue old.clock.tells → old.clock.coming ≡ 0 ∷ [] → e ≢ end.NoMemory
    → old.client_out.faults ≡ 0 → new.client_out.faults ≡ 0 → IsRun config session (record { notes = notes; taken = new.client_out.taken })
is_run {config = config} {looks = looks} {looks' = looks'} {old = old} {new = new} {e = e} serves looks_tell only called client_is out_tells none dialer_is clock_tells zeros memory before behind = record {
  begun = serves.begun;
  notes_are = serves.notes_are;
  uses = all_use_only config looks.coming looks'.coming old.clock.coming new.clock.coming serves.begun only zeros (serves.noted.entries looks_tell (record { number = 0; config = config })) (serves.noted.moments clock_tells);
  left = new.client.source.left;
  dialer = new.dialer;
  ended = e;
  lawful = rw called at serves.lawful;
  served = rw (called, none, dialer_is, client_is) at (serves.session (record { client = ap (λ (f : FeedState). f.source.tells) client_is; client_out = out_tells; dialer = ap (λ (x : DialerState). x.tells) dialer_is }));
  memory = memory;
  no_read_failed = no_read_failed old new e (ap (λ (f : FeedState). f.source.steady) client_is) (ap (λ (f : FeedState). f.source.faults) client_is) serves.goes_on.client serves.cause;
  no_write_failed = no_write_failed old new e before behind serves.cause;
}

-- behind a session each look still gives that configuration
pub fixed_behind : {config : Config} {law : Law} {looks looks' : Looks} {old new : EndsState} {notes : List ExchangeNote} {e : SessionEnd}
    → Serves law looks looks' old new notes e → IsTrue looks.tells → GivesOnly config looks.coming → GivesOnly config looks'.coming
fixed_behind {config = config} {looks = looks} {looks' = looks'} serves tell only = left_gives config (record { number = 0; config = config }) looks.coming looks'.coming serves.begun only (serves.noted.entries tell (record { number = 0; config = config }))

-- what came of one session more
total_more : (runs : List SessionRun) (run : SessionRun) (total : Total) → total.notes ≡ (total_of runs).notes ++ run.notes → total.returned ≡ (total_of runs).returned + length run.taken
    → total ≡ total_of (runs ++ run ∷ [])
total_more runs run total n r =
    let notes : total.notes ≡ flat_map (λ (x : SessionRun). x.notes) (runs ++ run ∷ []) = n ∙ flat_map_more (λ (x : SessionRun). x.notes) [] runs run in
    let returned : total.returned ≡ sum_by (λ (x : SessionRun). length x.taken) (runs ++ run ∷ []) = r ∙ sym (sum_by_push (λ (x : SessionRun). length x.taken) runs run) in
    rw (← notes, ← returned) refl

-- one more session was run
runs_more : (config : Config) (sessions : List JobSession) (runs : List SessionRun) (session : JobSession) (run : SessionRun) → AreRuns config sessions runs → IsRun config session run
    → AreRuns config (sessions ++ session ∷ []) (runs ++ run ∷ [])
runs_more config [] [] session run h ran = (ran, tt)
runs_more config [] (r ∷ rs) session run h ran = absurd h
runs_more config (s ∷ ss) [] session run h ran = absurd h
runs_more config (s ∷ ss) (r ∷ rs) session run h ran = (h.0, runs_more config ss rs session run h.1 ran)

-- so it was behind the first sessions
pub has_run_more : {config : Config} {number count : ℕ} {coming coming' : List (Entry Config)} {draws draws' : ℕ} {total : Total} (total' : Total) (session : JobSession) (run : SessionRun)
    → HasRun config number count coming draws total → session ≡ session_at count number
    → first_sessions (count + 1) number ≡ first_sessions count number ++ session_at count number ∷ []
    → IsRun config session run → GivesOnly config coming' → draws' ≡ draws_before (count + 1) number
    → total'.notes ≡ total.notes ++ run.notes → total'.returned ≡ total.returned + length run.taken → HasRun config number (count + 1) coming' draws' total'
has_run_more {config = config} {number = number} {count = count} total' session run h is one_more ran only drawn notes returned = record {
  fixed = only;
  drawn = drawn;
  runs = h.runs ++ run ∷ [];
  each = rw one_more (runs_more config (first_sessions count number) h.runs (session_at count number) run h.each (rw is at ran));
  total_is = total_more h.runs run total' (rw h.total_is at notes) (rw h.total_is at returned);
}

-- the ten sessions were run
pub are_runs_of : {config : Config} {number count : ℕ} {coming : List (Entry Config)} {draws : ℕ} {total : Total} → HasRun config number count coming draws total → count ≡ 10
    → first_sessions 10 number ≡ job_sessions number → AreRunsOf config number total
are_runs_of {config = config} {number = number} h ten all = record {
  runs = h.runs;
  each = rw (← all) (rw ten at h.each);
  total_is = h.total_is;
}
