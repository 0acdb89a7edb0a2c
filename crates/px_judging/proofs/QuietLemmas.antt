-- No reply that judging gives without a dial is a page that speaks of one.
use Rattle.std.proofs.Common.{◌≡◌, ℕ, Bool, true, false, cond, List, Option, None, Some, Result, Ok, Err, IfOk, subst, sym}
use Rattle.std.proofs.lemmas.Result.{IfOk-weaker}
use Rattle.px_head.specs.declared.requests.RequestHead.{RequestHead}
use Rattle.px_patterns.specs.declared.urls.Url.{Url}
use Rattle.px_framing.specs.declared.rules.BodyFault.{BodyFault}
use Rattle.px_framing.specs.declared.rules.BodyRule.{BodyRule}
use Rattle.px_decide.specs.Decisions.{decision_of}
use Rattle.px_decide.specs.declared.decisions.Decision.{Decision}
use Rattle.px_decide.specs.declared.decisions.Decision.TheVariants as decision
use Rattle.px_headers.specs.ClientRows.{client_out}
use Rattle.px_headers.specs.declared.client.ClientOut.{ClientOut}
use Rattle.px_config.specs.declared.insides.InsidePage.{InsidePage}
use Rattle.px_judging.specs.Given.{Given}
use Rattle.px_judging.specs.Judging.{NamesNoDial, SpeaksOfNoDial, by_decision, by_headers, by_method, by_page, by_reading, by_request, by_rule, image_or_page, tunnel_of}
use Rattle.px_judging.specs.Requests.{is_connect, tagged_request, vars_of}
use Rattle.px_judging.specs.declared.judgements.Judgement.{Judgement}
use Rattle.px_judging.specs.declared.judgements.Judgement.TheVariants as judgement
use Rattle.px_judging.specs.declared.readings.HeadReading.{HeadReading}
use Rattle.px_judging.specs.declared.readings.HeadReading.TheVariants as reading
use Rattle.px_judging.specs.declared.replies.ReplyKind.{ReplyKind}
use Rattle.px_judging.specs.declared.replies.ReplyKind.TheVariants as kind
use Rattle.px_judging.specs.declared.requests.Request.{Request}
use Rattle.px_judging.specs.declared.requests.RequestTags.{RequestTags}

headers_quiet : (g : Given) (r : Request) (t : RequestTags) (o : Option ClientOut) → SpeaksOfNoDial (by_headers g r t o)
headers_quiet g r t (Some out) = tt
headers_quiet g r t None = tt

method_quiet : (g : Given) (r : Request) (t : RequestTags) → SpeaksOfNoDial (by_method g r t)
method_quiet g r t = by (is_connect r.head)
  where
    by : (b : Bool) → SpeaksOfNoDial (cond b (judgement.Tunnel (tunnel_of g.config r t)) (by_headers g r t (client_out t.set g.config.filters r.vars r.url g.peer r.head)))
    by true = tt
    by false = headers_quiet g r t (client_out t.set g.config.filters r.vars r.url g.peer r.head)

image_quiet : (g : Given) (r : Request) (t : RequestTags) (image : Option (List ℕ)) (k : ReplyKind) → NamesNoDial k → SpeaksOfNoDial (image_or_page g.last r t image k)
image_quiet g r t (Some bytes) k q = q
image_quiet g r t None k q = tt

decision_quiet : (g : Given) (r : Request) (t : RequestTags) (d : Decision) → SpeaksOfNoDial (by_decision g r t d)
decision_quiet g r t decision.Pass = method_quiet g r t
decision_quiet g r t (decision.Blocked reason) = tt
decision_quiet g r t decision.ImageBlank = image_quiet g r t g.config.image_blank kind.BlankImage tt
decision_quiet g r t decision.ImagePattern = image_quiet g r t g.config.image_pattern kind.PatternImage tt
decision_quiet g r t decision.Empty = tt
decision_quiet g r t (decision.Redirect target) = tt
decision_quiet g r t decision.ConnectDenied = tt

request_quiet : (g : Given) (r : Request) → SpeaksOfNoDial (by_request g r)
request_quiet g r =
    let t = tagged_request g.config g.tags r in
    decision_quiet g r t (decision_of r.url (is_connect r.head) t.set r.vars)

rule_quiet : (g : Given) (head : RequestHead) (url : Url) (rule : Result BodyRule BodyFault) → SpeaksOfNoDial (by_rule g head url rule)
rule_quiet g head url (Ok rule) = request_quiet g (record { head = head; url = url; rule = rule; vars = vars_of g.peer url })
rule_quiet g head url (Err fault) = tt

page_quiet : (g : Given) (head : RequestHead) (url : Url) (rule : Result BodyRule BodyFault) (page : Option InsidePage) → SpeaksOfNoDial (by_page g head url rule page)
page_quiet g head url rule (Some own) = tt
page_quiet g head url rule None = rule_quiet g head url rule

reading_quiet : (g : Given) (r : HeadReading) (page : Option InsidePage) → SpeaksOfNoDial (by_reading g r page)
reading_quiet g reading.Overlong page = tt
reading_quiet g reading.Malformed page = tt
reading_quiet g reading.TooManyFields page = tt
reading_quiet g (reading.NoTarget head fault) page = tt
reading_quiet g (reading.Request head url rule) page = page_quiet g head url rule page

pub quiet_of : {E : Type 0} (result : Result Judgement E) (g : Given) (r : HeadReading) (page : Option InsidePage)
    → IfOk result (λ j. j ≡ by_reading g r page) → IfOk result SpeaksOfNoDial
quiet_of result g r page =
    IfOk-weaker result _ _ (λ j is. subst (λ (x : Judgement). SpeaksOfNoDial x) (sym is) (reading_quiet g r page))
