-- Judging: what is done for a request, before any dial. Each step is a function of its own: it refuses, or goes on to the next.
use Rattle.std.specs.Prelude.{ℕ, Bool, true, false, not, ◌&&◌, if◌then◌else◌, List, [], Option, Some, None, Result, Ok, Err, unwrap_or}
use Rattle.px_head.specs.declared.requests.RequestHead.{RequestHead}
use Rattle.px_patterns.specs.Faults.{url_fault_name}
use Rattle.px_patterns.specs.declared.urls.Url.{Url}
use Rattle.px_head.specs.Faults.{head_fault_name}
use Rattle.px_head.specs.declared.faults.HeadFault.TheVariants as head_fault
use Rattle.px_framing.specs.Rules.{body_fault_name}
use Rattle.px_framing.specs.declared.rules.BodyFault.{BodyFault}
use Rattle.px_framing.specs.declared.rules.BodyRule.{BodyRule}
use Rattle.px_actions.specs.Sets.{value, is_on}
use Rattle.px_actions.specs.declared.kinds.Kind.TheVariants as action
use Rattle.px_templates.specs.declared.pages.Page.{Page}
use Rattle.px_templates.specs.declared.pages.Page.TheVariants as page
use Rattle.px_templates.specs.declared.symbols.Symbols.{Symbols}
use Rattle.px_decide.specs.Decisions.{decision_of}
use Rattle.px_decide.specs.Routes.{route_of}
use Rattle.px_decide.specs.declared.decisions.Decision.{Decision}
use Rattle.px_decide.specs.declared.decisions.Decision.TheVariants as decision
use Rattle.px_decide.specs.declared.routes.Route.{Route}
use Rattle.px_sending.specs.Heads.{request_has_body, expects_continue}
use Rattle.px_headers.specs.ClientRows.{client_out}
use Rattle.px_headers.specs.Faults.{header_fault_name}
use Rattle.px_headers.specs.declared.client.ClientOut.{ClientOut}
use Rattle.px_headers.specs.declared.faults.HeaderFault.TheVariants as header_fault
use Rattle.px_config.specs.declared.configs.Config.{Config}
use Rattle.px_config.specs.declared.insides.InsidePage.{InsidePage}
use Rattle.px_judging.specs.Given.{Given, given_for, handing_of}
use Rattle.px_judging.specs.declared.handed.Handed.{Handed}
use Rattle.px_judging.specs.Requests.{is_connect, is_head, keeps_behind_request, tagged_request, vars_of}
use Rattle.px_judging.specs.declared.requests.Request.{Request}
use Rattle.px_judging.specs.declared.requests.RequestTags.{RequestTags}
use Rattle.px_judging.specs.Replies.{bare_symbols, job_symbols, url_symbols}
use Rattle.px_judging.specs.Sending.{sent_head, tunnel_greeting, tunnel_head}
use Rattle.px_judging.specs.declared.readings.HeadReading.{HeadReading}
use Rattle.px_judging.specs.declared.readings.HeadReading.TheVariants as reading
use Rattle.px_judging.specs.declared.judgements.Judgement.{Judgement}
use Rattle.px_judging.specs.declared.judgements.Judgement.TheVariants.{Local, Forward, Tunnel}
use Rattle.px_judging.specs.declared.judgements.Plan.{Plan}
use Rattle.px_judging.specs.declared.plans.RequestFront.{RequestFront}
use Rattle.px_subst.specs.declared.words.Vars.{Vars}
use Rattle.px_judging.specs.declared.judgements.TunnelPlan.{TunnelPlan}
use Rattle.px_judging.specs.declared.replies.ReplyKind.{ReplyKind}
use Rattle.px_judging.specs.declared.replies.ReplyKind.TheVariants as kind

-- ---- replies

-- a page behind which the connection closes
abbrev pub closing_page : Page → Symbols → Bool → Judgement
closing_page page symbols bodiless = Local (record { kind = kind.Page page symbols; close = true; bodiless = bodiless })

-- the request isn't read, for a reason with that name
abbrev pub invalid : List ℕ → Bool → Judgement
invalid error bodiless = closing_page page.InvalidRequest (bare_symbols error) bodiless

-- a reply to a request, which is a connection's last or not; the connection is kept where the request lets it and has no body
abbrev pub reply_to : Bool → Request → ReplyKind → Judgement
reply_to last r k = Local (record { kind = k; close = not (keeps_behind_request last r.head && not (request_has_body r.rule)); bodiless = is_head r.head })

-- a page of the proxy's own, as the answer to a request without a body
abbrev pub inside_reply : Bool → RequestHead → InsidePage → Judgement
inside_reply last head own = Local (record { kind = kind.Inside own; close = not (keeps_behind_request last head); bodiless = is_head head })

-- the page of a blocked request
abbrev pub blocked_reply : Bool → Request → List ℕ → Judgement
blocked_reply last r reason = reply_to last r (kind.Page page.Blocked (url_symbols r.url reason [] []))

-- an image, or the page where the image is missing
abbrev pub image_or_page : Bool → Request → RequestTags → Option (List ℕ) → ReplyKind → Judgement
image_or_page last r t (Some bytes) k = reply_to last r k
image_or_page last r t None k = blocked_reply last r (unwrap_or (value t.set action.Block) [])

-- ---- requests that are sent on

-- what of a request's head is needed when its fields are gone
abbrev pub front_of : Bool → Request → RequestFront
front_of last r = record {
  method = r.head.method;
  minor = r.head.minor;
  rule = r.rule;
  keep = keeps_behind_request last r.head;
  expects = expects_continue r.head.minor r.head.fields r.rule;
  bodiless = is_head r.head;
}

-- the plan of a request whose head became that
unfoldable pub plan_by : Config → ℕ → RequestFront → RequestTags → Vars → ClientOut → Plan
plan_by config moment front t vars out =
    let route : Route = route_of out.url t.set config.forwards in
    record {
      url = out.url;
      route = route;
      errand = record {
        message = record {
          head = sent_head front.method out.url route.parent (is_on t.set action.DowngradeHttpVersion) out.fields front.rule;
          rule = front.rule;
          expects = front.expects;
        };
        asked = record {
          method = front.method;
          minor = front.minor;
          keep = front.keep;
          set = t.set;
          tags = t.tags;
          vars = vars;
          moment = moment;
        };
      };
      bodiless = front.bodiless;
    }

abbrev pub plan_of : Given → Request → RequestTags → ClientOut → Plan
plan_of g r t out = plan_by g.config g.moment (front_of g.last r) t r.vars out

-- the plan of a tunnel
unfoldable pub tunnel_of : Config → Request → RequestTags → TunnelPlan
tunnel_of config r t =
    let route : Route = route_of r.url t.set config.forwards in
    record { url = r.url; route = route; head = tunnel_head route.parent r.url; greeting = tunnel_greeting route.parent }

-- ---- the steps

-- by what the header rows make of the head; a rewritten request line that isn't one is refused
abbrev pub by_headers : Given → Request → RequestTags → Option ClientOut → Judgement
by_headers g r t (Some out) = Forward (plan_of g r t out)
by_headers g r t None = closing_page page.BadRewrite (job_symbols r.vars r.url.port (header_fault_name header_fault.BadRewrite)) (is_head r.head)

-- a request that passes
abbrev pub by_method : Given → Request → RequestTags → Judgement
by_method g r t =
    if is_connect r.head then Tunnel (tunnel_of g.config r t)
    else by_headers g r t (client_out t.set g.config.filters r.vars r.url g.peer r.head)

-- by what the actions decide
abbrev pub by_decision : Given → Request → RequestTags → Decision → Judgement
by_decision g r t decision.Pass = by_method g r t
by_decision g r t (decision.Blocked reason) = blocked_reply g.last r reason
by_decision g r t decision.ImageBlank = image_or_page g.last r t g.config.image_blank kind.BlankImage
by_decision g r t decision.ImagePattern = image_or_page g.last r t g.config.image_pattern kind.PatternImage
by_decision g r t decision.Empty = reply_to g.last r kind.EmptyDocument
by_decision g r t (decision.Redirect target) = reply_to g.last r (kind.Redirect target)
by_decision g r t decision.ConnectDenied = closing_page page.ConnectDenied (url_symbols r.url [] [] []) false

-- by the actions that are set for the request
abbrev pub by_tags : Given → Request → RequestTags → Judgement
by_tags g r t = by_decision g r t (decision_of r.url (is_connect r.head) t.set r.vars)

-- by the actions of its URL and its tags
abbrev pub by_request : Given → Request → Judgement
by_request g r = by_tags g r (tagged_request g.config g.tags r)

-- the body's rule is refused
abbrev pub body_refused : RequestHead → Url → BodyFault → Judgement
body_refused head url fault = closing_page page.InvalidRequest (url_symbols url [] (body_fault_name fault) []) (is_head head)

-- by the rule of the body
abbrev pub by_rule : Given → RequestHead → Url → Result BodyRule BodyFault → Judgement
by_rule g head url (Ok rule) = by_request g (record { head = head; url = url; rule = rule; vars = vars_of g.peer url })
by_rule g head url (Err fault) = body_refused head url fault

-- by the page of the proxy's own that answers it, if one does
abbrev pub by_page : Given → RequestHead → Url → Result BodyRule BodyFault → Option InsidePage → Judgement
by_page g head url rule (Some own) = inside_reply g.last head own
by_page g head url rule None = by_rule g head url rule

-- by what its head reads as
abbrev pub by_reading : Given → HeadReading → Option InsidePage → Judgement
by_reading g reading.Overlong own = closing_page page.HeadTooLong (bare_symbols []) false
by_reading g reading.Malformed own = invalid (head_fault_name head_fault.Malformed) false
by_reading g reading.TooManyFields own = invalid (head_fault_name head_fault.TooManyFields) false
by_reading g (reading.NoTarget head fault) own = invalid (url_fault_name fault) (is_head head)
by_reading g (reading.Request head url rule) own = by_page g head url rule own

-- what is done for a request, by a configuration and for a client
abbrev pub judged : Config → Handed → List ℕ → Judgement
judged config h peer = by_reading (given_for config (handing_of h) peer) h.reading h.page

-- ---- what is answered before any dial

-- pages that speak of no dial and of no link
abbrev pub IsBeforeDials : Page → Type 0
IsBeforeDials page.Blocked = Unit {0}
IsBeforeDials page.ConnectFailed = ⊥
IsBeforeDials page.NoSuchDomain = ⊥
IsBeforeDials page.ForwardingFailed = ⊥
IsBeforeDials page.NoServerData = ⊥
IsBeforeDials page.InvalidRequest = Unit {0}
IsBeforeDials page.HeadTooLong = Unit {0}
IsBeforeDials page.BadReply = ⊥
IsBeforeDials page.SendFailed = ⊥
IsBeforeDials page.ConnectDenied = Unit {0}
IsBeforeDials page.BadRewrite = Unit {0}

abbrev pub NamesNoDial : ReplyKind → Type 0
NamesNoDial (kind.Page p symbols) = IsBeforeDials p
NamesNoDial kind.BlankImage = Unit {0}
NamesNoDial kind.PatternImage = Unit {0}
NamesNoDial kind.EmptyDocument = Unit {0}
NamesNoDial (kind.Redirect target) = Unit {0}
NamesNoDial (kind.Inside own) = Unit {0}

-- no reply that is returned without a dial is a page that speaks of one
abbrev pub SpeaksOfNoDial : Judgement → Type 0
SpeaksOfNoDial (Local reply) = NamesNoDial reply.kind
SpeaksOfNoDial (Forward plan) = Unit {0}
SpeaksOfNoDial (Tunnel plan) = Unit {0}
