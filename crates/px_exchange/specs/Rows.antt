-- The table of an exchange: by what was judged and by what came of that, what is sent over a link and what is due to the client.
-- docs/PROFILE.md has it in words, in the same order.
use Rattle.std.specs.Prelude.{ℕ, Bool, false, nat_le, if◌then◌else◌, List, [], ◌++◌, length}
use Rattle.px_base.specs.declared.dials.LinkSeen.{LinkSeen}
use Rattle.px_ways.specs.declared.ways.Carried.{Carried}
use Rattle.px_templates.specs.declared.pages.Page.{Page}
use Rattle.px_templates.specs.declared.pages.Page.TheVariants as page
use Rattle.px_decide.specs.declared.routes.Route.{Route}
use Rattle.px_config.specs.declared.configs.Config.{Config}
use Rattle.px_notes.specs.declared.messages.Message.{Message}
use Rattle.px_notes.specs.declared.messages.Sent.{Sent}
use Rattle.px_notes.specs.declared.messages.Sent.TheVariants as sent
use Rattle.px_notes.specs.Endings.{broken}
use Rattle.px_notes.specs.declared.endings.After.{After}
use Rattle.px_notes.specs.declared.endings.After.TheVariants as after
use Rattle.px_notes.specs.declared.endings.Conclusion.{Conclusion}
use Rattle.px_notes.specs.declared.endings.Ending.TheVariants as ending
use Rattle.px_sending.specs.Sends.{all_of, interim, interim_behind}
use Rattle.px_judging.specs.declared.judgements.Judgement.{Judgement}
use Rattle.px_judging.specs.declared.judgements.Judgement.TheVariants as judgement
use Rattle.px_judging.specs.declared.judgements.TunnelPlan.{TunnelPlan}
use Rattle.px_pumps.specs.Answering.{Ask}
use Rattle.px_pumps.specs.Asking.{ask_of}
use Rattle.px_pumps.specs.declared.dues.Due.{Due}
use Rattle.px_exchange.specs.Replies.{local_due, page_due}

-- What was judged, with all that is due by it: a reply that is made here; a request that is sent on by a route, and what its answer
-- becomes; or a tunnel, and the pages that are returned in place of it.
pub data Task : Type 0 where
  Reply : Due → Task
  Forward : Ask → Route → Message → Task
  Tunnel : (Page → Due) → TunnelPlan → Task

-- what was judged, by the configuration that is used
abbrev pub task_of : Config → Judgement → Task
task_of config (judgement.Local reply) = Reply (local_due config reply)
task_of config (judgement.Forward plan) =
    Forward (ask_of config plan.errand.asked (page_due config plan.url plan.route plan.bodiless)) plan.route plan.errand.message
task_of config (judgement.Tunnel t) = Tunnel (page_due config t.url t.route false) t

-- what is due where a page is returned in place of an answer; none is in place of a reply that is made here
abbrev pub task_page : Task → Page → Due
task_page (Reply due) p = due
task_page (Forward ask route m) p = ask.page_due p
task_page (Tunnel pages t) p = pages p

-- What came of it: nothing was dialled; the host's name wasn't found; the host wasn't reached; over a link, of the client's bytes
-- that came, so much was sent; or over a link both directions of a tunnel were carried, with that outcome: those bytes of the
-- client and those of the link.
pub data Came : Type 0 where
  Undialled : Came
  NoName : Came
  NotReached : Came
  Over : LinkSeen → List ℕ → Sent → Came
  Through : LinkSeen → Carried → List ℕ → List ℕ → Came

-- What is owed to the client at last: that is due; what the answer that came over a link becomes; or nothing more, and the
-- exchange is concluded so.
pub data Owed : Type 0 where
  Is : Due → Owed
  Answer : Ask → LinkSeen → Owed
  Ended : Conclusion → Owed

-- a line of the table: what is sent over a link, what is returned first, and what is owed behind that
pub record ExchangeRow : Type 0 where
  pub sent : List ℕ
  pub first : List ℕ
  pub owed : Owed

-- nothing is sent over a link
abbrev pub unsent : Owed → ExchangeRow
unsent owed = record { sent = []; first = []; owed = owed }

-- the page of a dial whose host's name wasn't found
abbrev pub no_name_page : Route → Page
no_name_page route = if route.parent then page.ForwardingFailed else page.NoSuchDomain

-- the page of a dial whose host wasn't reached
abbrev pub not_reached_page : Route → Page
not_reached_page route = if route.parent then page.ForwardingFailed else page.ConnectFailed

-- what tells the client of a tunnel, where the head that asks a parent for it was sent whole
abbrev pub greeting_behind : TunnelPlan → List ℕ → List ℕ
greeting_behind t out = if nat_le (length t.head) (length out) then t.greeting else []

-- what comes after a tunnel: a fault of the client's source, or else one of its sink, or the close
abbrev pub after_tunnel : Bool → Bool → After
after_tunnel client_read client_write = if client_read then after.ReadFailed else (if client_write then after.WriteFailed else after.Close)

-- how an exchange is concluded by what came of both directions of a tunnel
abbrev pub carried_so : Carried → Conclusion
carried_so c = if c.no_memory then broken after.NoMemory else record { ending = ending.Tunnel; after = after_tunnel c.client_read c.client_write }

-- The table, a line for each way that an exchange goes. What is judged before a dial is px_judging's: its first lines.
abbrev pub exchange_row : Task → Came → ExchangeRow
exchange_row (Reply due) came = unsent (Is due)
exchange_row (Forward ask route m) NoName = unsent (Is (ask.page_due (no_name_page route)))
exchange_row (Tunnel pages t) NoName = unsent (Is (pages (no_name_page t.route)))
exchange_row (Forward ask route m) NotReached = unsent (Is (ask.page_due (not_reached_page route)))
exchange_row (Tunnel pages t) NotReached = unsent (Is (pages (not_reached_page t.route)))
exchange_row (Tunnel pages t) (Over seen stream sent.LinkFailed) = record { sent = t.head; first = []; owed = Is (pages page.SendFailed) }
exchange_row (Tunnel pages t) (Through seen carried out back) = record { sent = t.head ++ out; first = t.greeting ++ back; owed = Ended (carried_so carried) }
exchange_row (Forward ask route m) (Over seen stream sent.LinkFailed) = record { sent = all_of m stream; first = interim_behind m seen.sent; owed = Is (ask.page_due page.SendFailed) }
exchange_row (Forward ask route m) (Over seen stream sent.ReadFailed) = record { sent = all_of m stream; first = interim m; owed = Ended (broken after.ReadFailed) }
exchange_row (Forward ask route m) (Over seen stream sent.Cut) = record { sent = all_of m stream; first = interim m; owed = Ended (broken after.Cut) }
exchange_row (Forward ask route m) (Over seen stream sent.Misframed) = record { sent = all_of m stream; first = interim m; owed = Is (ask.page_due page.InvalidRequest) }
exchange_row (Forward ask route m) (Over seen stream sent.Whole) = record { sent = all_of m stream; first = interim m; owed = Answer ask seen }
-- the client's sink failed in what is returned first
exchange_row (Forward ask route m) (Over seen stream sent.WriteFailed) = record { sent = m.head; first = interim m; owed = Ended (broken after.WriteFailed) }
exchange_row (Tunnel pages t) (Over seen stream sent.WriteFailed) = record { sent = t.head; first = t.greeting; owed = Ended (broken after.WriteFailed) }
-- memory was wanting in the sending
exchange_row (Forward ask route m) (Over seen stream sent.NoMemory) = record { sent = all_of m stream; first = interim_behind m seen.sent; owed = Ended (broken after.NoMemory) }
exchange_row (Tunnel pages t) (Over seen stream sent.NoMemory) = record { sent = t.head; first = greeting_behind t seen.sent; owed = Ended (broken after.NoMemory) }
-- memory was wanting in the dial; nothing else comes
exchange_row task came = unsent (Ended (broken after.NoMemory))
