-- The pump: what it has put out of an answer that it is fed in pieces.
use Rattle.std.specs.Prelude.{◌≡◌, ◌≢◌, ℕ, ◌+◌, ◌<◌, ◌≤◌, ◌^◌, Bool, false, ◌⊎◌, List, [], ◌++◌, length, take, Option, Some, None, is_some, not}
use Rattle.px_head.specs.declared.TheConstants.{HEAD_LIMIT}
use Rattle.px_head.specs.declared.responses.ResponseHead.{ResponseHead}
use Rattle.px_head.specs.Searches.{Searched}
use Rattle.px_framing.specs.declared.rules.BodyRule.{BodyRule}
use Rattle.px_framing.specs.declared.places.State.{State}
use Rattle.px_framing.specs.declared.places.State.TheVariants as state
use Rattle.px_templates.specs.declared.pages.Page.{Page}
use Rattle.px_templates.specs.declared.pages.Page.TheVariants as page
use Rattle.px_config.specs.declared.configs.Config.{Config}
use Rattle.px_notes.specs.declared.endings.Ending.{Ending}
use Rattle.px_notes.specs.declared.endings.Ending.TheVariants as ending
use Rattle.px_notes.specs.Endings.{after_whole}
use Rattle.px_answers.specs.Finished as answers
use Rattle.px_answers.specs.Finished.{Work, finished, returned_so_far}
use Rattle.px_answers.specs.Forms.{body_of, is_more}
use Rattle.px_answers.specs.Passages as passages
use Rattle.px_answers.specs.Passages.{Passaging}
use Rattle.px_answers.specs.declared.forms.Framed.{Framed}
use Rattle.px_answers.specs.declared.forms.Returned.{Returned}
use Rattle.px_answers.specs.declared.forms.AnswerOutcome.{AnswerOutcome}
use Rattle.px_answers.specs.declared.courses.Course.{Course}
use Rattle.px_pumps.specs.declared.dues.Due.{Due}
use Rattle.px_pumps.specs.declared.flows.Flow.{Flow}
use Rattle.px_pumps.specs.declared.flows.Flow.TheVariants as flow
use Rattle.px_pumps.specs.declared.pumps.HeadFront.{HeadFront}
use Rattle.px_pumps.specs.declared.pumps.HeadFront.TheVariants as fronts
use Rattle.px_pumps.specs.declared.pumps.UnfinishedHead.{UnfinishedHead}
use Rattle.px_pumps.specs.declared.pumps.PumpStage.{PumpStage}
use Rattle.px_pumps.specs.declared.pumps.PumpStage.TheVariants as stage
use Rattle.px_pumps.specs.declared.talks.Talked.{Talked}
use Rattle.px_pumps.specs.declared.talks.Talked.TheVariants as talked
use Rattle.px_pumps.specs.Answering.{Ask, Seen, Waiting, Bad, Good, Answered, most_heads, returned_ending, due_of}
use Rattle.px_pumps.specs.Asking.{ask_of}
use Rattle.px_pumps.specs.Heads.{ShowsOnly, LeadsPastInterims, IsWaiting, heads_room}
use Rattle.px_pumps.specs.Returning.{IsAnswerPage}

-- the bytes show that of an answer, and nothing else
abbrev pub AnswerShows : Ask → List ℕ → Seen → Type 0
AnswerShows ask bytes seen = ShowsOnly most_heads ask.method bytes seen

-- the value of a pump: the configuration, and how far its answer has come
pub record Pumping : Type 0 where
  pub config : Config
  pub stage : PumpStage

-- the bytes at whose front heads are read
abbrev pub front_bytes : HeadFront → List ℕ
front_bytes (fronts.Piece piece) = piece.now
front_bytes (fronts.Held held) = held

-- a machine behind a head: what it says of the bytes that it was fed and has put out
pub record PassageAfter (w : Work) (f : Framed) (rest put : List ℕ) (p : Passaging) : Type 0 where
  pub vars_are : p.vars ≡ w.vars
  pub framed_is : p.framed ≡ f
  pub after : passages.CourseAfter w f rest put p.course

-- what a machine behind a head says of what is returned: what was put out is a front of it, whatever follows; nothing that may be
-- returned is held back; and all of it was put out exactly where the body is at its end
pub record CourseTells (w : Work) (f : Framed) (rest put : List ℕ) (c : Course) : Type 0 where
  pub begins : passages.BeginsReturned w f rest put
  pub lag : length (returned_so_far f (body_of f.rule rest)) ≤ length put
  pub exact : is_some (passages.ended_of c) ≡ not (is_more (body_of f.rule rest).state)

-- the answer's own head stands whole in the fed bytes, and the machine behind it was fed what follows
pub record Behind (ask : Ask) (fed put : List ℕ) (config : Config) (p : Passaging) : Type 0 where
  pub filters_are : ask.work.filters ≡ config.filters
  pub head : ResponseHead
  pub rule : BodyRule
  pub rest : List ℕ
  pub shows : (more : List ℕ) → AnswerShows ask (fed ++ more) (Good head rule (rest ++ more))
  pub rule_is : (ask.framed head rule).rule ≡ rule
  pub behind : PassageAfter ask.work (ask.framed head rule) rest put p

-- a head isn't whole: what the fed bytes show is what the held ones show, and nothing was put out
pub record Heads (ask : Ask) (fed put : List ℕ) (config : Config) (h : UnfinishedHead) : Type 0 where
  pub asks : ask ≡ ask_of config h.asked ask.page_due
  pub leads : LeadsPastInterims most_heads ask.method fed h.left h.held
  pub quiet : put ≡ []

-- no answer that begins so is returned, and nothing was put out
pub record RefusesAnswer (ask : Ask) (fed put : List ℕ) (p : Page) : Type 0 where
  pub shows : (more : List ℕ) → AnswerShows ask (fed ++ more) Bad
  pub page_is : p ≡ page.BadReply
  pub quiet : put ≡ []

-- what a stage says of all the bytes that were fed and put out
abbrev pub StageAfter : Ask → List ℕ → List ℕ → Config → PumpStage → Type 0
StageAfter ask fed put config (stage.Heading h) = Heads ask fed put config h
StageAfter ask fed put config (stage.Behind p) = Behind ask fed put config p
StageAfter ask fed put config (stage.Refused p) = RefusesAnswer ask fed put p
StageAfter ask fed put config stage.Wanting = ⊥

-- what a pump says of all the bytes that it was fed and has put out
abbrev pub PumpAfter : Ask → List ℕ → List ℕ → Pumping → Type 0
PumpAfter ask fed put p = StageAfter ask fed put p.config p.stage

-- a machine that was fed some bytes and has put out others
pub record WasFed (config : Config) (p : Passaging) : Type 0 where
  pub rest : List ℕ
  pub put : List ℕ
  pub after : passages.CourseAfter (record { filters = config.filters; vars = p.vars }) p.framed rest put p.course

-- what is true of a machine by itself: the limit of a body that may be filtered is the configuration's, and it was fed bytes or is at its end
pub record IsOfConfig (config : Config) (p : Passaging) : Type 0 where
  pub limit_is : p.framed.limit ≡ config.settings.buffer_limit
  pub fed : WasFed config p ⊎ (passages.ended_of p.course ≢ None)

-- what is true of a stage by itself; a head that is held isn't whole and was searched
abbrev pub IsStageSettled : Config → PumpStage → Type 0
IsStageSettled config (stage.Heading h) = (0 < h.left) × IsWaiting h.held × Searched HEAD_LIMIT h.held h.search
IsStageSettled config (stage.Behind p) = IsOfConfig config p
IsStageSettled config (stage.Refused p) = IsAnswerPage p
IsStageSettled config stage.Wanting = Unit {0}

-- the ending of an answer that is done, if it is
abbrev pub flow_by : Option AnswerOutcome → Flow
flow_by None = flow.More
flow_by (Some o) = flow.Done (returned_ending o.returned)

abbrev pub keeps_by : Option AnswerOutcome → Bool
keeps_by None = false
keeps_by (Some o) = o.keep

-- what a stage shows
abbrev pub flow_at : PumpStage → Flow
flow_at (stage.Heading h) = flow.More
flow_at (stage.Behind p) = flow_by (passages.ended_of p.course)
flow_at (stage.Refused p) = flow.Refused p
flow_at stage.Wanting = flow.More

-- whether the connection is kept behind a stage
abbrev pub keeps_at : PumpStage → Bool
keeps_at (stage.Heading h) = false
keeps_at (stage.Behind p) = keeps_by (passages.ended_of p.course)
keeps_at (stage.Refused p) = false
keeps_at stage.Wanting = false

-- an answer's own ending, or a page in place of an answer
abbrev pub IsOfAnswer : Flow → Type 0
IsOfAnswer flow.More = Unit {0}
IsOfAnswer (flow.Done e) = (r : Returned) × (e ≡ returned_ending r)
IsOfAnswer (flow.Refused p) = IsAnswerPage p

-- a body that isn't at its end may go on
abbrev pub flow_behind : State → Ending → Flow
flow_behind state.More e = flow.More
flow_behind state.Whole e = flow.Done e
flow_behind state.Cut e = flow.Done e
flow_behind state.Misframed e = flow.Done e

-- what is returned of a head with its body's rule and of the bytes behind it
abbrev pub finished_of : Ask → ResponseHead → BodyRule → List ℕ → Bool → answers.FinishedAnswer
finished_of ask head r rest failed = finished ask.work (ask.framed head r) (body_of r rest) failed

-- what is settled by what the bytes show: a head isn't whole or the body may go on; no such answer is returned; or the body is at its end
abbrev pub flow_of : Ask → Seen → Flow
flow_of ask Waiting = flow.More
flow_of ask Bad = flow.Refused page.BadReply
flow_of ask (Good head r rest) = flow_behind (body_of r rest).state (returned_ending (finished_of ask head r rest false).outcome.returned)

-- what is settled where no more bytes come; failed is whether their reading failed
abbrev pub end_flow : Ask → Seen → Bool → Flow
end_flow ask Waiting failed = flow.Refused page.NoServerData
end_flow ask Bad failed = flow.Refused page.BadReply
end_flow ask (Good head r rest) failed = flow.Done (returned_ending (finished_of ask head r rest failed).outcome.returned)

-- what may be returned of the bytes so far, whatever follows: nothing while a head isn't whole or the body may still be filtered
abbrev pub passed_of : Ask → Seen → List ℕ
passed_of ask Waiting = []
passed_of ask Bad = []
passed_of ask (Good head r rest) = returned_so_far (ask.framed head r) (body_of r rest)

-- the bytes are a front of those that are due, and there are none where a page is due
pub record BeginsDue (put : List ℕ) (due : Due) : Type 0 where
  pub front : take (length put) due.bytes ≡ put
  pub no_page : (p : Page) → due.ending ≡ ending.Page p → put ≡ []

-- the end of the flow says what is due: the bytes put out, or a page, and then nothing was put out
abbrev pub EndsAs : Ask → Flow → Bool → List ℕ → Due → Type 0
EndsAs ask (flow.Done e) keeps put due = due ≡ record { bytes = put; ending = e; after = after_whole keeps }
EndsAs ask (flow.Refused p) keeps put due = (put ≡ []) × (due ≡ ask.page_due p)
EndsAs ask flow.More keeps put due = ⊥

-- what is returned of that answer is what the end of the flow says
pub record EndsAnswer (ask : Ask) (f : Flow) (keeps : Bool) (bytes : List ℕ) (failed : Bool) (put : List ℕ) : Type 0 where
  pub seen : Seen
  pub shows : AnswerShows ask bytes seen
  pub flow_is : f ≡ end_flow ask seen failed
  pub ends_as : EndsAs ask f keeps put (due_of ask seen failed)

-- something is returned of that answer, and it begins with the bytes put out
pub record DueSoFar (ask : Ask) (bytes : List ℕ) (failed : Bool) (put : List ℕ) : Type 0 where
  pub due : Due
  pub answered : Answered ask bytes failed due
  pub front : take (length put) due.bytes ≡ put

-- nothing was put out, or the head stands whole: then for each whole answer that begins with the fed bytes something is due that begins so
abbrev pub SoFar : Ask → List ℕ → List ℕ → Type 0
SoFar ask fed put = (put ≡ []) ⊎ ((rest : List ℕ) (failed : Bool) → DueSoFar ask (fed ++ rest) failed put)

-- what a pump says that was fed these bytes, has put out those, and shows that flow
pub record Pumped (ask : Ask) (fed put : List ℕ) (f : Flow) (keeps : Bool) : Type 0 where
  -- what is returned of each whole answer that begins with the fed bytes begins with what was put out
  pub output : (rest : List ℕ) (failed : Bool) (due : Due) → Answered ask (fed ++ rest) failed due → BeginsDue put due
  pub so_far : SoFar ask fed put
  -- the flow is what the bytes show
  pub seen : Seen
  pub shows : AnswerShows ask fed seen
  pub flow_is : f ≡ flow_of ask seen
  -- at its end it says what is returned, whatever follows
  pub settles : f ≢ flow.More → (rest : List ℕ) (failed : Bool) → EndsAnswer ask f keeps (fed ++ rest) failed put
  -- of what may be returned at most so many bytes aren't put out
  pub lag : length (passed_of ask seen) ≤ length put + 16384

-- what came of a talk whose flow is at its end
abbrev pub EndsTalk : Flow → Bool → Talked → Type 0
EndsTalk flow.More keeps t = ⊥
EndsTalk (flow.Done e) keeps t = t ≡ talked.Ended (record { ending = e; after = after_whole keeps })
EndsTalk (flow.Refused p) keeps t = t ≡ talked.Page p

-- a call after the end of the flow changes nothing
abbrev pub StaysAtEnd : PumpStage → PumpStage → List ℕ → List ℕ → Type 0
StaysAtEnd old new out out' = flow_at old ≢ flow.More → (new ≡ old) × (out' ≡ out)

-- more pieces than this aren't needed
abbrev pub pieces_left : PumpStage → ℕ
pieces_left (stage.Heading h) = 2 ^ 64 + heads_room h.left (length h.held)
pieces_left (stage.Behind p) = passages.room_of p.course
pieces_left (stage.Refused p) = 0
pieces_left stage.Wanting = 0

-- how many bytes of an answer are kept: those of a head that isn't whole, or those that the machine behind it keeps
abbrev pub held_at : PumpStage → ℕ
held_at (stage.Heading h) = length h.held
held_at (stage.Behind p) = passages.held_of p.course
held_at (stage.Refused p) = 0
held_at stage.Wanting = 0
