-- A session over links whose sources offer just what was heard.
use Rattle.std.proofs.Common.{◌≡◌, ◌≢◌, ◌⊎◌, inl, inr, ℕ, zero, suc, Bool, true, false, List, [], ◌∷◌, ◌++◌, if◌then◌else◌, sym, ap, refl, subst, ◌∙◌, length, drop, Option, Some, None}
use Rattle.std.specs.List.{AllByRecursion}
use Rattle.px_base.specs.Dials.{DialerState, DialerGoesOn}
use Rattle.px_base.specs.declared.dials.Dial.{Dial}
use Rattle.px_base.specs.declared.dials.DialOutcome.{DialOutcome}
use Rattle.px_base.specs.declared.dials.DialOutcome.TheVariants as outcome
use Rattle.px_base.specs.declared.dials.LinkSeen.{LinkSeen}
use Rattle.px_decide.specs.declared.routes.Route.{Route}
use Rattle.px_templates.specs.declared.pages.Page.{Page}
use Rattle.px_notes.specs.declared.messages.Message.{Message}
use Rattle.px_notes.specs.declared.messages.Sent.{Sent}
use Rattle.px_notes.specs.declared.messages.Sent.TheVariants as sent
use Rattle.px_notes.specs.Endings.{broken}
use Rattle.px_notes.specs.declared.endings.After.TheVariants as after
use Rattle.px_notes.specs.declared.endings.Conclusion.{Conclusion}
use Rattle.px_notes.specs.declared.endings.Ending.TheVariants as ending
use Rattle.px_notes.specs.declared.sessions.SessionEnd.{SessionEnd}
use Rattle.px_notes.specs.declared.sessions.SessionEnd.TheVariants as end
use Rattle.px_config.specs.declared.configs.Config.{Config}
use Rattle.px_judging.specs.Judging.{judged}
use Rattle.px_judging.specs.declared.handed.Handed.{Handed}
use Rattle.px_judging.specs.declared.judgements.Judgement.{Judgement}
use Rattle.px_judging.specs.declared.judgements.TunnelPlan.{TunnelPlan}
use Rattle.px_pool_ends.specs.Answers.{IsAnswer}
use Rattle.px_pumps.specs.Answering.{Ask, Answered}
use Rattle.px_pumps.specs.declared.dues.Due.{Due}
use Rattle.px_pumps.specs.declared.talks.Talked.TheVariants as talked
use Rattle.px_notes.specs.declared.endings.After.{After}
use Rattle.px_exchange.specs.Dialling.{DialsOnce, OutcomeCause}
use Rattle.px_exchange.specs.Exchange.{Answers, Client, DialsBy, Does, ReadsOfClient}
use Rattle.px_exchange.specs.Rows.{Answer, Came, Forward, NoName, NotReached, Over, Reply, Task, Through, Tunnel, Undialled, after_tunnel, task_page, exchange_row, task_of}
use Rattle.px_exchange.specs.Standing.{ReturnsOwed, Stands}
use Rattle.px_serve.specs.Ends.{end_after}
use Rattle.px_serve.specs.Histories.{Begun}
use Rattle.px_serve.specs.Answering.{AnswersHanded, AnswersNothing}
use Rattle.px_serve.specs.Sessions.{SessionState, SessionStep, Reaches, EndsSession, IsSession, is_last_request, begin}
use Rattle.px_serve.specs.Takings.{handed_of}
use Rattle.px_shared.specs.Links.{EachAnswered, EachHeardFront, HeardFront, HeardOne, NoTunnel, offers_heard, offering_heard, with_heard}
use Rattle.px_shared.proofs.AnswerLemmas.{answered_any}

-- ---- lists

-- what is so of each is so of those before the last, and of the last
all_but_last : {A : Type 0} (P : A → Type 0) (xs ys : List A) (x : A) → ys ≡ xs ++ x ∷ [] → AllByRecursion P ys → AllByRecursion P xs × P x
all_but_last P xs ys x e all = by xs (subst (λ zs. AllByRecursion P zs) e all)
  where
    by : (zs : List _) → AllByRecursion P (zs ++ x ∷ []) → AllByRecursion P zs × P x
    by [] h = (tt, h.0)
    by (z ∷ zs) h = let r = by zs h.1 in ((h.0, r.0), r.1)

offering-append : (xs ys : List Dial) → offering_heard (xs ++ ys) ≡ offering_heard xs ++ offering_heard ys
offering-append [] ys = refl
offering-append (x ∷ xs) ys = ap (λ (zs : List Dial). record { host = x.host; port = x.port; outcome = offers_heard x.outcome } ∷ zs) (offering-append xs ys)

-- ---- what was heard over a link is the front of what was offered, and one whole answer or all of it

record AnswersOne (seen : LinkSeen) : Type 0 where
  pub behind : List ℕ
  pub offered : seen.offered ≡ seen.heard ++ behind
  pub whole : IsAnswer 8 seen.heard ⊎ (seen.offered ≡ seen.heard)

abbrev GivesOne : DialOutcome → Type 0
GivesOne outcome.NoName = Unit {0}
GivesOne outcome.NotReached = Unit {0}
GivesOne (outcome.Open mark offered) = Unit {0}
GivesOne (outcome.Link seen) = AnswersOne seen

abbrev EachGives : List Dial → Type 0
EachGives ds = AllByRecursion (λ d. GivesOne d.outcome) ds

gives_one : (o : DialOutcome) → HeardFront o → HeardOne o → GivesOne o
gives_one outcome.NoName f w = tt
gives_one outcome.NotReached f w = tt
gives_one (outcome.Open mark offered) f w = tt
gives_one (outcome.Link seen) f w = record { behind = drop (length seen.heard) seen.offered; offered = f; whole = w }

each_gives : (ds : List Dial) → EachHeardFront ds → EachAnswered ds → EachGives ds
each_gives [] f w = tt
each_gives (d ∷ ds) f w = (gives_one d.outcome f.0 w.0, each_gives ds f.1 w.1)

-- ---- one dial

-- what is due for what was offered is due for what was heard
heard_due : (ask : Ask) (offered heard behind : List ℕ) (due : Due) → offered ≡ heard ++ behind → IsAnswer 8 heard ⊎ (offered ≡ heard) → (failed : Bool)
    → Answered ask (if failed then heard else offered) failed due → Answered ask (if failed then heard else heard) failed due
heard_due ask offered heard behind due e w true a = a
heard_due ask offered heard behind due e (inl w) false a = (answered_any ask heard behind false due w).0 (rw e at a)
heard_due ask offered heard behind due e (inr all) false a = rw all at a

-- a link as it is heard
abbrev as_heard : LinkSeen → LinkSeen
as_heard seen = record { offered = seen.heard; heard = seen.heard; sent = seen.sent; read_failed = seen.read_failed; write_failed = seen.write_failed; finished = seen.finished }

-- what is owed for a request that was sent whole
whole_heard : (ask : Ask) (seen : LinkSeen) (mid taken' : List ℕ) (x : Conclusion) → AnswersOne seen → ReturnsOwed (Answer ask seen) mid taken' x → ReturnsOwed (Answer ask (as_heard seen)) mid taken' x
whole_heard ask seen mid taken' x w (inl h) =
    inl (record { due = h.due; is_due = heard_due ask seen.offered seen.heard w.behind h.due w.offered w.whole seen.read_failed h.is_due; is_so = h.is_so })
whole_heard ask seen mid taken' x w (inr silent) = inr silent

-- a request over a link
forward_heard : (ask : Ask) (route : Route) (m : Message) (seen : LinkSeen) (stream taken taken' : List ℕ) (x : Conclusion) (how : Sent) → AnswersOne seen
    → Stands ask.page_due (exchange_row (Forward ask route m) (Over seen stream how)) (Over seen stream how) taken taken' (talked.Ended x)
    → Stands ask.page_due (exchange_row (Forward ask route m) (Over (as_heard seen) stream how)) (Over (as_heard seen) stream how) taken taken' (talked.Ended x)
forward_heard ask route m seen stream taken taken' x sent.Whole w s = record { sent = s.sent; mid = s.mid; first = s.first; talks = whole_heard ask seen s.mid taken' x w s.talks }
forward_heard ask route m seen stream taken taken' x sent.LinkFailed w s = record { sent = s.sent; mid = s.mid; first = s.first; talks = s.talks }
forward_heard ask route m seen stream taken taken' x sent.Misframed w s = record { sent = s.sent; mid = s.mid; first = s.first; talks = s.talks }
forward_heard ask route m seen stream taken taken' x sent.Cut w s = record { sent = s.sent; mid = s.mid; first = s.first; talks = s.talks }
forward_heard ask route m seen stream taken taken' x sent.ReadFailed w s = record { sent = s.sent; mid = s.mid; first = s.first; talks = s.talks }
forward_heard ask route m seen stream taken taken' x sent.WriteFailed w s = record { sent = s.sent; mid = s.mid; first = s.first; talks = s.talks }
forward_heard ask route m seen stream taken taken' x sent.NoMemory w s = record { sent = s.sent; mid = s.mid; first = s.first; talks = s.talks }

-- a tunnel that wasn't carried
tunnel_heard : (failed : Bool) (pages : Page → Due) (t : TunnelPlan) (c : Client) (seen : LinkSeen) (stream taken taken' : List ℕ) (x : Conclusion) (how : Sent)
    → ReadsOfClient failed (Tunnel pages t) c (Over seen stream how)
    → Stands pages (exchange_row (Tunnel pages t) (Over seen stream how)) (Over seen stream how) taken taken' (talked.Ended x)
    → Stands pages (exchange_row (Tunnel pages t) (Over (as_heard seen) stream how)) (Over (as_heard seen) stream how) taken taken' (talked.Ended x)
tunnel_heard failed pages t c seen stream taken taken' x sent.LinkFailed r s = record { sent = s.sent; mid = s.mid; first = s.first; talks = s.talks }
tunnel_heard failed pages t c seen stream taken taken' x sent.WriteFailed r s = record { sent = s.sent; mid = s.mid; first = s.first; talks = s.talks }
tunnel_heard failed pages t c seen stream taken taken' x sent.NoMemory r s = record { sent = s.sent; mid = s.mid; first = s.first; talks = s.talks }
tunnel_heard failed pages t c seen stream taken taken' x sent.Whole r s = absurd r.1
tunnel_heard failed pages t c seen stream taken taken' x sent.Misframed r s = absurd r.1
tunnel_heard failed pages t c seen stream taken taken' x sent.Cut r s = absurd r.1
tunnel_heard failed pages t c seen stream taken taken' x sent.ReadFailed r s = absurd r.1

-- a tunnel that was carried says so, or that memory was wanting
carried_says : (wanting : Bool) (a : After) (x : Conclusion) → x ≡ (if wanting then broken after.NoMemory else record { ending = ending.Tunnel; after = a })
    → x.ending ≢ ending.Tunnel → x ≢ broken after.NoMemory → ⊥
carried_says true a x e n m = m e
carried_says false a x e n m = n (ap (λ (y : Conclusion). y.ending) e)

cause_heard : (old new : DialerState) (o : DialOutcome) → OutcomeCause old new o → OutcomeCause (with_heard old) (with_heard new) (offers_heard o)
cause_heard old new outcome.NoName h = h
cause_heard old new outcome.NotReached h = h
cause_heard old new (outcome.Open mark offered) h = h
cause_heard old new (outcome.Link seen) h = h

lasts_heard : {old new : DialerState} → DialerGoesOn old new → DialerGoesOn (with_heard old) (with_heard new)
lasts_heard h = record {
  tells_same = h.tells_same;
  tells_coming_same = refl;
  through_servers_same = refl;
  mark_same = h.mark_same;
  names_later = h.names_later;
  reach_later = h.reach_later;
  link_reads_later = h.link_reads_later;
  link_writes_later = h.link_writes_later;
  opened_later = h.opened_later;
  hung_up_later = h.hung_up_later;
}

-- the dials before, and the one that was added
before_last : (route : Route) (o : DialOutcome) (old new : DialerState) → EachGives new.dials → (d : DialsOnce route o old new) → EachGives old.dials × GivesOne o
before_last route o old new all d = all_but_last (λ (x : Dial). GivesOne x.outcome) old.dials new.dials (record { host = route.host; port = route.port; outcome = o }) d.added all

dial_heard : (route : Route) (o : DialOutcome) (old new : DialerState) → DialsOnce route o old new → DialsOnce route (offers_heard o) (with_heard old) (with_heard new)
dial_heard route o old new d = record {
  added = ap offering_heard d.added ∙ offering-append old.dials (record { host = route.host; port = route.port; outcome = o } ∷ []);
  comes = λ t. absurd (cc);
  coming_left = λ t. absurd (cc);
  goes_on = lasts_heard d.goes_on;
  cause = cause_heard old new o d.cause;
}

-- ---- one exchange

-- what comes before it was answered, too, and it is the same over what was heard
record Alone (old : DialerState) (Same : Type 0) : Type 0 where
  pub before : EachGives old.dials
  pub same : Same

undialled : (old new : DialerState) → new ≡ old → EachGives new.dials → EachGives old.dials
undialled old new e all = subst (λ (d : DialerState). EachGives d.dials) e all

reply_alone : (failed : Bool) (due : Due) (c : Client) (old new : DialerState) (taken taken' : List ℕ) (x : Conclusion) → EachGives new.dials
    → Does failed (Reply due) c old new taken taken' (talked.Ended x) → Alone old (Does failed (Reply due) c (with_heard old) (with_heard new) taken taken' (talked.Ended x))
reply_alone failed due c old new taken taken' x all d = by d.came d.dials d.reads d.stands
  where
    by : (came : Came) → new ≡ old → ReadsOfClient failed (Reply due) c came → Stands (task_page (Reply due)) (exchange_row (Reply due) came) came taken taken' (talked.Ended x)
        → Alone old (Does failed (Reply due) c (with_heard old) (with_heard new) taken taken' (talked.Ended x))
    by Undialled e r s = record { before = undialled old new e all; same = record { came = Undialled; dials = ap with_heard e; reads = r; stands = s } }
    by NoName e r s = absurd r
    by NotReached e r s = absurd r
    by (Over seen stream how) e r s = absurd r
    by (Through seen carried out back) e r s = absurd r

forward_alone : (failed : Bool) (ask : Ask) (route : Route) (p : Message) (c : Client) (old new : DialerState) (taken taken' : List ℕ) (x : Conclusion) → EachGives new.dials → x ≢ broken after.NoMemory
    → Does failed (Forward ask route p) c old new taken taken' (talked.Ended x) → Alone old (Does failed (Forward ask route p) c (with_heard old) (with_heard new) taken taken' (talked.Ended x))
forward_alone failed ask route p c old new taken taken' x all m d = by d.came d.dials d.reads d.stands
  where
    by : (came : Came) → DialsBy route came old new → ReadsOfClient failed (Forward ask route p) c came → Stands ask.page_due (exchange_row (Forward ask route p) came) came taken taken' (talked.Ended x)
        → Alone old (Does failed (Forward ask route p) c (with_heard old) (with_heard new) taken taken' (talked.Ended x))
    by Undialled e r s = absurd (m s.talks.1)
    by NoName e r s = record { before = (before_last route outcome.NoName old new all e).0; same = record { came = NoName; dials = dial_heard route outcome.NoName old new e; reads = r; stands = s } }
    by NotReached e r s = record { before = (before_last route outcome.NotReached old new all e).0; same = record { came = NotReached; dials = dial_heard route outcome.NotReached old new e; reads = r; stands = s } }
    by (Over seen stream how) e r s = let b = before_last route (outcome.Link seen) old new all e in
        record {
          before = b.0;
          same = record { came = Over (as_heard seen) stream how; dials = dial_heard route (outcome.Link seen) old new e; reads = r; stands = forward_heard ask route p seen stream taken taken' x how b.1 s };
        }
    by (Through seen carried out back) e r s = absurd r

tunnel_alone : (failed : Bool) (pages : Page → Due) (t : TunnelPlan) (c : Client) (old new : DialerState) (taken taken' : List ℕ) (x : Conclusion) → EachGives new.dials → x.ending ≢ ending.Tunnel → x ≢ broken after.NoMemory
    → Does failed (Tunnel pages t) c old new taken taken' (talked.Ended x) → Alone old (Does failed (Tunnel pages t) c (with_heard old) (with_heard new) taken taken' (talked.Ended x))
tunnel_alone failed pages t c old new taken taken' x all n m d = by d.came d.dials d.reads d.stands
  where
    by : (came : Came) → DialsBy t.route came old new → ReadsOfClient failed (Tunnel pages t) c came → Stands pages (exchange_row (Tunnel pages t) came) came taken taken' (talked.Ended x)
        → Alone old (Does failed (Tunnel pages t) c (with_heard old) (with_heard new) taken taken' (talked.Ended x))
    by Undialled e r s = absurd (m s.talks.1)
    by NoName e r s = record { before = (before_last t.route outcome.NoName old new all e).0; same = record { came = NoName; dials = dial_heard t.route outcome.NoName old new e; reads = r; stands = s } }
    by NotReached e r s = record { before = (before_last t.route outcome.NotReached old new all e).0; same = record { came = NotReached; dials = dial_heard t.route outcome.NotReached old new e; reads = r; stands = s } }
    by (Over seen stream how) e r s = record {
      before = (before_last t.route (outcome.Link seen) old new all e).0;
      same = record { came = Over (as_heard seen) stream how; dials = dial_heard t.route (outcome.Link seen) old new e; reads = r; stands = tunnel_heard failed pages t c seen stream taken taken' x how r s };
    }
    by (Through seen carried out back) e r s = absurd (carried_says carried.no_memory (after_tunnel carried.client_read carried.client_write) x s.talks.1 n m)

does_alone : (failed : Bool) (task : Task) (c : Client) (old new : DialerState) (taken taken' : List ℕ) (x : Conclusion) → EachGives new.dials → x.ending ≢ ending.Tunnel → x ≢ broken after.NoMemory
    → Does failed task c old new taken taken' (talked.Ended x) → Alone old (Does failed task c (with_heard old) (with_heard new) taken taken' (talked.Ended x))
does_alone failed (Reply due) c old new taken taken' x all n m d = reply_alone failed due c old new taken taken' x all d
does_alone failed (Forward ask route p) c old new taken taken' x all n m d = forward_alone failed ask route p c old new taken taken' x all m d
does_alone failed (Tunnel pages t) c old new taken taken' x all n m d = tunnel_alone failed pages t c old new taken taken' x all n m d

answers_alone : (config : Config) (j : Judgement) (c : Client) (old new : DialerState) (taken taken' : List ℕ) (x : Conclusion) → EachGives new.dials → x.ending ≢ ending.Tunnel → x ≢ broken after.NoMemory
    → Answers config j c old new taken taken' x → Alone old (Answers config j c (with_heard old) (with_heard new) taken taken' x)
answers_alone config j c old new taken taken' x all n m h =
    let d = does_alone h.failed (task_of config j) c old new taken taken' x all n m h.does in
    record { before = d.before; same = record { failed = h.failed; does = d.same } }

handed_alone : (config : Config) (peer : List ℕ) (h : Option Handed) (c : Client) (old new : DialerState) (taken taken' : List ℕ) (x : Conclusion) → EachGives new.dials → x.ending ≢ ending.Tunnel → x ≢ broken after.NoMemory
    → AnswersHanded config peer h c old new taken taken' x → Alone old (AnswersHanded config peer h c (with_heard old) (with_heard new) taken taken' x)
handed_alone config peer None c old new taken taken' x all n m silent = absurd (m silent.0)
handed_alone config peer (Some h) c old new taken taken' x all n m (inl answers) =
    let a = answers_alone config (judged config h peer) c old new taken taken' x all n m answers in
    record { before = a.before; same = inl a.same }
handed_alone config peer (Some h) c old new taken taken' x all n m (inr silent) = absurd (m silent.0)

-- ---- sessions

abbrev heard_state : SessionState → SessionState
heard_state s = record { stream = s.stream; dialer = with_heard s.dialer; taken = s.taken; begun = s.begun }

step_alone : (peer : List ℕ) (n : ℕ) (s t : SessionState) (b : Begun) → EachGives t.dialer.dials → b.concluded.ending ≢ ending.Tunnel → b.concluded ≢ broken after.NoMemory → SessionStep peer n s t b
    → Alone s.dialer (SessionStep peer n (heard_state s) (heard_state t) b)
step_alone peer n s t b all k m h =
    let a = handed_alone b.config peer (handed_of (is_last_request n) b.moment b.received) (record { stream = h.rest; behind = t.stream }) s.dialer t.dialer s.taken t.taken b.concluded all k m h.answers in
    record { before = a.before; same = record { rest = h.rest; head = h.head; reads = h.reads; returns = h.returns; noted = h.noted; answers = a.same } }

-- an exchange that wanted memory ends the session so
goes_on_with : (last : Bool) (x : Conclusion) → end_after last x ≡ None → x ≢ broken after.NoMemory
goes_on_with last x e m = let o = ap (end_after last) (sym m) ∙ e in absurd (cc)

ends_with : (last : Bool) (x : Conclusion) (e : SessionEnd) → end_after last x ≡ Some e → e ≢ end.NoMemory → x ≢ broken after.NoMemory
ends_with last x e h n m = let o = ap (end_after last) (sym m) ∙ h in n (cc)

no_tunnel_in : (s t : SessionState) (b : Begun) → t.begun ≡ s.begun ++ b ∷ [] → NoTunnel t.begun → NoTunnel s.begun × (b.concluded.ending ≢ ending.Tunnel)
no_tunnel_in s t b e n = all_but_last (λ (x : Begun). x.concluded.ending ≢ ending.Tunnel) s.begun t.begun b e n

reaches_alone : (peer : List ℕ) (s : SessionState) (n : ℕ) (t : SessionState) → EachGives t.dialer.dials → NoTunnel t.begun → Reaches peer s n t → Reaches peer (heard_state s) n (heard_state t)
reaches_alone peer s zero t all none h = ap heard_state h
reaches_alone peer s (suc n) t all none (m, h, k) =
    let u = no_tunnel_in m t k.begun k.step.noted none in
    let a = step_alone peer n m t k.begun all u.1 (goes_on_with (is_last_request n) k.begun.concluded k.goes_on) k.step in
    (heard_state m, reaches_alone peer s n m a.before u.0 h, record { begun = k.begun; step = a.same; goes_on = k.goes_on })

-- what ends it, and that the states before were so
record EndsAlone (peer : List ℕ) (n : ℕ) (s t : SessionState) (left : List ℕ) (e : SessionEnd) : Type 0 where
  pub before : EachGives s.dialer.dials
  pub none : NoTunnel s.begun
  pub same : EndsSession peer n (heard_state s) (heard_state t) left e

ends_alone : (peer : List ℕ) (n : ℕ) (s t : SessionState) (left : List ℕ) (e : SessionEnd) → EachGives t.dialer.dials → NoTunnel t.begun → e ≢ end.NoMemory → EndsSession peer n s t left e
    → EndsAlone peer n s t left e
ends_alone peer n s t left e all none m (inl h) = record {
  before = undialled s.dialer t.dialer h.undialled all;
  none = subst NoTunnel h.unbegun none;
  same = inl (record { undialled = ap with_heard h.undialled; unreturned = h.unreturned; unbegun = h.unbegun; why = h.why });
}
ends_alone peer n s t left e all none m (inr h) =
    let u = no_tunnel_in s t h.begun h.step.noted none in
    let a = step_alone peer n s t h.begun all u.1 (ends_with (is_last_request n) h.begun.concluded e h.ends m) h.step in
    record { before = a.before; none = u.0; same = inr (record { begun = h.begun; step = a.same; ends = h.ends }) }

pub session_alone : (peer stream left : List ℕ) (old new : DialerState) (taken taken' : List ℕ) (begun : List Begun) (e : SessionEnd) → IsSession peer stream left old new taken taken' begun e
    → EachHeardFront new.dials → EachAnswered new.dials → NoTunnel begun → e ≢ end.NoMemory → IsSession peer stream left (with_heard old) (with_heard new) taken taken' begun e
session_alone peer stream left old new taken taken' begun e h fronts each none m =
    let all : EachGives new.dials = each_gives new.dials fronts each in
    let last : SessionState = record { stream = h.rest; dialer = new; taken = taken'; begun = begun } in
    let a = ends_alone peer h.kept h.middle last left e all none m h.ended in
    record { kept = h.kept; middle = heard_state h.middle; rest = h.rest; reached = reaches_alone peer (begin stream old taken) h.kept h.middle a.before a.none h.reached; ended = a.same }
