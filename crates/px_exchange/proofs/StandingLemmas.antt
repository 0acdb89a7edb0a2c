-- What is owed is returned behind a talk.
use Rattle.std.proofs.Common.{◌≡◌, ℕ, Bool, true, false, List, [], ◌++◌, sym, ap, ◌∙◌, refl, subst, arith, inl}
use Rattle.std.proofs.lemmas.List.{append-nil}
use Rattle.px_base.specs.Sinks.{AddsFront, AddsProperFront, SinkState}
use Rattle.px_base.specs.Dials.{DialerState}
use Rattle.px_base.specs.declared.dials.LinkSeen.{LinkSeen}
use Rattle.px_base.specs.declared.dials.DialOutcome.TheVariants as outcome
use Rattle.px_templates.specs.declared.pages.Page.{Page}
use Rattle.px_decide.specs.declared.routes.Route.{Route}
use Rattle.px_notes.specs.declared.messages.Message.{Message}
use Rattle.px_notes.specs.Endings.{broken}
use Rattle.px_notes.specs.declared.endings.After.{After}
use Rattle.px_notes.specs.declared.endings.After.TheVariants as after
use Rattle.px_notes.specs.declared.endings.Conclusion.{Conclusion}
use Rattle.px_sending.specs.Sends.{RoseWhere}
use Rattle.px_config.specs.declared.configs.Config.{Config}
use Rattle.px_judging.specs.declared.judgements.Judgement.{Judgement}
use Rattle.px_judging.specs.declared.judgements.Judgement.TheVariants as judgement
use Rattle.px_judging.specs.declared.judgements.Plan.{Plan}
use Rattle.px_judging.specs.declared.replies.LocalReply.{LocalReply}
use Rattle.px_judging.specs.declared.judgements.TunnelPlan.{TunnelPlan}
use Rattle.px_pumps.specs.Answering.{Ask}
use Rattle.px_pumps.specs.Returning.{WriteCause}
use Rattle.px_pumps.specs.declared.dues.Due.{Due}
use Rattle.px_pumps.specs.declared.talks.Talked.{Talked}
use Rattle.px_pumps.specs.declared.talks.Talked.TheVariants as talked
use Rattle.px_exchange.specs.Dialling.{DialsOnce}
use Rattle.px_exchange.specs.Exchange.{Answers, Client, Does, DoesOver, IsOver, ReadsOfClient, WhereFailed}
use Rattle.px_exchange.specs.Replies.{local_due}
use Rattle.px_exchange.specs.Rows.{Answer, Came, Ended, Forward, Is, NoName, NotReached, Over, Owed, Reply, Task, Through, Tunnel, Undialled, no_name_page, not_reached_page, task_page, exchange_row, task_of}
use Rattle.px_exchange.specs.Standing.{ReturnsDue, ReturnsOwed, Stands, TalksOf}

-- ---- bytes that were added

-- none
pub nothing_added : (taken bytes : List ℕ) → AddsFront taken taken bytes
nothing_added taken bytes = (0, omega arith, sym (append-nil taken))

-- a front of what was put out
pub front_added : (taken taken' out bytes : List ℕ) → taken' ≡ taken ++ out → AddsFront [] out bytes → AddsFront taken taken' bytes
front_added taken taken' out bytes e (n, within, k) = (n, within, e ∙ ap (λ (zs : List ℕ). taken ++ zs) k)

pub proper_added : (taken taken' out bytes : List ℕ) → taken' ≡ taken ++ out → AddsProperFront [] out bytes → AddsProperFront taken taken' bytes
proper_added taken taken' out bytes e (n, below, k) = (n, below, e ∙ ap (λ (zs : List ℕ). taken ++ zs) k)

-- a proper front is a front
pub front_of_proper : (taken taken' bytes : List ℕ) → AddsProperFront taken taken' bytes → AddsFront taken taken' bytes
front_of_proper taken taken' bytes (n, below, k) = (n, omega (arith, below), k)

-- ---- a page is returned

page_owed : (owed : Owed) (pages : Page → Due) (taken mid taken' : List ℕ) (p : Page) (x : Conclusion)
    → TalksOf pages owed taken mid (talked.Page p) → ReturnsDue (pages p) mid taken' x → ReturnsOwed owed taken taken' x
page_owed (Is due) pages taken mid taken' p x h r =
    subst (λ (d : Due). ReturnsDue d taken taken' x) h.1 (subst (λ (zs : List ℕ). ReturnsDue (pages p) zs taken' x) h.0 r)
page_owed (Answer ask seen) pages taken mid taken' p x h r =
    inl (record { due = pages p; is_due = h.1; is_so = subst (λ (zs : List ℕ). ReturnsDue (pages p) zs taken' x) h.0 r })
page_owed (Ended y) pages taken mid taken' p x h r = absurd h.1

-- what was read says nothing of the client's sink, where a page is owed
reads_same : (failed failed' : Bool) (task : Task) (c : Client) (came : Came) (taken mid : List ℕ) (p : Page)
    → TalksOf (task_page task) (exchange_row task came).owed taken mid (talked.Page p) → ReadsOfClient failed task c came → ReadsOfClient failed' task c came
reads_same failed failed' (Reply due) c Undialled taken mid p t h = h
reads_same failed failed' (Reply due) c NoName taken mid p t h = absurd h
reads_same failed failed' (Reply due) c NotReached taken mid p t h = absurd h
reads_same failed failed' (Reply due) c (Over seen stream how) taken mid p t h = absurd h
reads_same failed failed' (Reply due) c (Through seen carried out back) taken mid p t h = absurd h
reads_same failed failed' (Forward ask route m) c Undialled taken mid p t h = h
reads_same failed failed' (Forward ask route m) c NoName taken mid p t h = h
reads_same failed failed' (Forward ask route m) c NotReached taken mid p t h = h
reads_same failed failed' (Forward ask route m) c (Over seen stream how) taken mid p t h = h
reads_same failed failed' (Forward ask route m) c (Through seen carried out back) taken mid p t h = absurd h
reads_same failed failed' (Tunnel pages t') c Undialled taken mid p t h = h
reads_same failed failed' (Tunnel pages t') c NoName taken mid p t h = h
reads_same failed failed' (Tunnel pages t') c NotReached taken mid p t h = h
reads_same failed failed' (Tunnel pages t') c (Over seen stream how) taken mid p t h = h
reads_same failed failed' (Tunnel pages t') c (Through seen carried out back) taken mid p t h = absurd t.1

-- the page that is owed behind a talk was returned
pub page_returned : (failed failed' : Bool) (task : Task) (c : Client) (old new : DialerState) (taken mid taken' : List ℕ) (p : Page) (x : Conclusion)
    → Does failed task c old new taken mid (talked.Page p) → ReturnsDue (task_page task p) mid taken' x → Does failed' task c old new taken taken' (talked.Ended x)
page_returned failed failed' task c old new taken mid taken' p x d r =
    let s = d.stands in
    record {
      came = d.came;
      dials = d.dials;
      reads = reads_same failed failed' task c d.came s.mid mid p s.talks d.reads;
      stands = record { sent = s.sent; mid = s.mid; first = s.first; talks = page_owed (exchange_row task d.came).owed (task_page task) s.mid mid taken' p x s.talks r };
    }

-- ---- a reply without a dial

pub reply_returned : (failed : Bool) (due : Due) (c : Client) (d : DialerState) (taken taken' : List ℕ) (x : Conclusion)
    → c.behind ≡ c.stream → ReturnsDue due taken taken' x → Does failed (Reply due) c d d taken taken' (talked.Ended x)
reply_returned failed due c d taken taken' x unread r =
    record { came = Undialled; dials = refl; reads = unread; stands = record { sent = refl; mid = taken; first = sym (append-nil taken); talks = r } }

-- ---- a dial without a link

-- memory was wanting in the dial
pub forward_undialled : (failed : Bool) (ask : Ask) (route : Route) (m : Message) (stream : List ℕ) (old new : DialerState) (taken : List ℕ)
    → new.dials ≡ old.dials → Does failed (Forward ask route m) (record { stream = stream; behind = stream }) old new taken taken (talked.Ended (broken after.NoMemory))
forward_undialled failed ask route m stream old new taken e =
    record { came = Undialled; dials = e; reads = refl; stands = record { sent = refl; mid = taken; first = sym (append-nil taken); talks = (refl, refl) } }

pub tunnel_undialled : (failed : Bool) (pages : Page → Due) (t : TunnelPlan) (stream : List ℕ) (old new : DialerState) (taken : List ℕ)
    → new.dials ≡ old.dials → Does failed (Tunnel pages t) (record { stream = stream; behind = stream }) old new taken taken (talked.Ended (broken after.NoMemory))
tunnel_undialled failed pages t stream old new taken e =
    record { came = Undialled; dials = e; reads = refl; stands = record { sent = refl; mid = taken; first = sym (append-nil taken); talks = (refl, refl) } }

-- the name wasn't found, or the host wasn't reached: a page is owed
pub forward_no_name : (failed : Bool) (ask : Ask) (route : Route) (m : Message) (stream : List ℕ) (old new : DialerState) (taken : List ℕ)
    → DialsOnce route outcome.NoName old new
    → Does failed (Forward ask route m) (record { stream = stream; behind = stream }) old new taken taken (talked.Page (no_name_page route))
forward_no_name failed ask route m stream old new taken d =
    record { came = NoName; dials = d; reads = refl; stands = record { sent = refl; mid = taken; first = sym (append-nil taken); talks = (refl, refl) } }

pub forward_not_reached : (failed : Bool) (ask : Ask) (route : Route) (m : Message) (stream : List ℕ) (old new : DialerState) (taken : List ℕ)
    → DialsOnce route outcome.NotReached old new
    → Does failed (Forward ask route m) (record { stream = stream; behind = stream }) old new taken taken (talked.Page (not_reached_page route))
forward_not_reached failed ask route m stream old new taken d =
    record { came = NotReached; dials = d; reads = refl; stands = record { sent = refl; mid = taken; first = sym (append-nil taken); talks = (refl, refl) } }

pub tunnel_no_name : (failed : Bool) (pages : Page → Due) (t : TunnelPlan) (stream : List ℕ) (old new : DialerState) (taken : List ℕ)
    → DialsOnce t.route outcome.NoName old new
    → Does failed (Tunnel pages t) (record { stream = stream; behind = stream }) old new taken taken (talked.Page (no_name_page t.route))
tunnel_no_name failed pages t stream old new taken d =
    record { came = NoName; dials = d; reads = refl; stands = record { sent = refl; mid = taken; first = sym (append-nil taken); talks = (refl, refl) } }

pub tunnel_not_reached : (failed : Bool) (pages : Page → Due) (t : TunnelPlan) (stream : List ℕ) (old new : DialerState) (taken : List ℕ)
    → DialsOnce t.route outcome.NotReached old new
    → Does failed (Tunnel pages t) (record { stream = stream; behind = stream }) old new taken taken (talked.Page (not_reached_page t.route))
tunnel_not_reached failed pages t stream old new taken d =
    record { came = NotReached; dials = d; reads = refl; stands = record { sent = refl; mid = taken; first = sym (append-nil taken); talks = (refl, refl) } }

-- ---- a dial with a link

pub forward_dialled : (failed : Bool) (ask : Ask) (route : Route) (m : Message) (c : Client) (old new : DialerState) (taken taken' : List ℕ) (t : Talked) (seen : LinkSeen)
    → DialsOnce route (outcome.Link seen) old new → DoesOver failed (Forward ask route m) c taken taken' t seen → Does failed (Forward ask route m) c old new taken taken' t
forward_dialled failed ask route m c old new taken taken' t seen d o = by o.came o.over o.reads o.stands
  where
    by : (came : Came) → IsOver came seen → ReadsOfClient failed (Forward ask route m) c came → Stands ask.page_due (exchange_row (Forward ask route m) came) came taken taken' t
        → Does failed (Forward ask route m) c old new taken taken' t
    by Undialled over reads stands = absurd over
    by NoName over reads stands = absurd over
    by NotReached over reads stands = absurd over
    by (Over s stream how) over reads stands = record { came = Over s stream how; dials = rw over d; reads = reads; stands = stands }
    by (Through s carried out back) over reads stands = absurd reads

pub tunnel_dialled : (failed : Bool) (pages : Page → Due) (p : TunnelPlan) (c : Client) (old new : DialerState) (taken taken' : List ℕ) (t : Talked) (seen : LinkSeen)
    → DialsOnce p.route (outcome.Link seen) old new → DoesOver failed (Tunnel pages p) c taken taken' t seen → Does failed (Tunnel pages p) c old new taken taken' t
tunnel_dialled failed pages p c old new taken taken' t seen d o = by o.came o.over o.reads o.stands
  where
    by : (came : Came) → IsOver came seen → ReadsOfClient failed (Tunnel pages p) c came → Stands pages (exchange_row (Tunnel pages p) came) came taken taken' t
        → Does failed (Tunnel pages p) c old new taken taken' t
    by Undialled over reads stands = absurd over
    by NoName over reads stands = absurd over
    by NotReached over reads stands = absurd over
    by (Over s stream how) over reads stands = record { came = Over s stream how; dials = rw over d; reads = reads; stands = stands }
    by (Through s carried out back) over reads stands = record { came = Through s carried out back; dials = rw over d; reads = reads; stands = stands }

-- ---- whether the client's sink failed

-- it failed exactly where what comes after says so
pub failed_by : (o o' : SinkState) (a : After) (IsSo : Bool → Type 0) → WriteCause o o' a → ((failed : Bool) → IsSo failed) → WhereFailed o o' IsSo
failed_by o o' after.Keep IsSo e so = record { failed = false; cause = e; is_so = so false }
failed_by o o' after.Close IsSo e so = record { failed = false; cause = e; is_so = so false }
failed_by o o' after.Cut IsSo e so = record { failed = false; cause = e; is_so = so false }
failed_by o o' after.ReadFailed IsSo e so = record { failed = false; cause = e; is_so = so false }
failed_by o o' after.WriteFailed IsSo r so = record { failed = true; cause = r; is_so = so true }
failed_by o o' after.NoMemory IsSo e so = record { failed = false; cause = e; is_so = so false }

-- whether it failed or not
pub answered : (config : Config) (j : Judgement) (c : Client) (old new : DialerState) (o o' : SinkState) (x : Conclusion)
    → WhereFailed o o' (λ failed. Does failed (task_of config j) c old new o.taken o'.taken (talked.Ended x)) → Answers config j c old new o.taken o'.taken x
answered config j c old new o o' x h = record { failed = h.failed; does = h.is_so }

-- the page in place of a tunnel was returned: the client's sink, that hadn't failed, failed exactly where what comes after says so
pub tunnel_page_returned : (task : Task) (c : Client) (old new : DialerState) (o mid o' : SinkState) (p : Page) (x : Conclusion)
    → mid.faults ≡ o.faults → WriteCause mid o' x.after
    → WhereFailed o mid (λ failed. Does failed task c old new o.taken mid.taken (talked.Page p)) → ReturnsDue (task_page task p) mid.taken o'.taken x
    → WhereFailed o o' (λ failed. Does failed task c old new o.taken o'.taken (talked.Ended x))
tunnel_page_returned task c old new o mid o' p x calm cause h r =
    let so = failed_by mid o' x.after (λ failed. Does failed task c old new o.taken o'.taken (talked.Ended x)) cause
    (λ failed. page_returned h.failed failed task c old new o.taken mid.taken o'.taken p x h.is_so r) in
    record { failed = so.failed; cause = subst (λ (n : ℕ). RoseWhere so.failed n o'.faults) calm so.cause; is_so = so.is_so }

-- ---- what was judged was done

pub local_done : (config : Config) (reply : LocalReply) (c : Client) (d : DialerState) (o o' : SinkState) (x : Conclusion)
    → c.behind ≡ c.stream → WriteCause o o' x.after → ReturnsDue (local_due config reply) o.taken o'.taken x
    → WhereFailed o o' (λ failed. Does failed (task_of config (judgement.Local reply)) c d d o.taken o'.taken (talked.Ended x))
local_done config reply c d o o' x unread cause r =
    failed_by o o' x.after (λ failed. Does failed (task_of config (judgement.Local reply)) c d d o.taken o'.taken (talked.Ended x)) cause
    (λ failed. reply_returned failed (local_due config reply) c d o.taken o'.taken x unread r)

pub forward_done : (config : Config) (plan : Plan) (c : Client) (old new : DialerState) (o o' : SinkState) (x : Conclusion)
    → WriteCause o o' x.after → ((failed : Bool) → Does failed (task_of config (judgement.Forward plan)) c old new o.taken o'.taken (talked.Ended x))
    → WhereFailed o o' (λ failed. Does failed (task_of config (judgement.Forward plan)) c old new o.taken o'.taken (talked.Ended x))
forward_done config plan c old new o o' x cause so =
    failed_by o o' x.after (λ failed. Does failed (task_of config (judgement.Forward plan)) c old new o.taken o'.taken (talked.Ended x)) cause so
