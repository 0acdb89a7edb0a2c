-- Answering: what an origin's answer becomes for the client (RFC 9110, section 15.2; RFC 9112, section 6.3).
use Rattle.std.specs.Prelude.{◌≡◌, ℕ, zero, suc, Bool, ◌==◌, if◌then◌else◌, MatchBool, List, take, drop, Option, Some, None, Result, Ok, Err}
use Rattle.px_head.specs.declared.TheConstants.{HEAD_LIMIT}
use Rattle.px_head.specs.declared.responses.ResponseHead.{ResponseHead}
use Rattle.px_head.specs.declared.blocks.HeadEnd.{HeadEnd}
use Rattle.px_head.specs.declared.blocks.HeadEnd.TheVariants as end
use Rattle.px_head.specs.Blocks.{head_end}
use Rattle.px_head.specs.Heads.{IsResponse, is_interim}
use Rattle.px_framing.specs.Rules.{response_rule}
use Rattle.px_framing.specs.declared.rules.BodyRule.{BodyRule}
use Rattle.px_framing.specs.declared.rules.BodyFault.{BodyFault}
use Rattle.px_templates.specs.declared.pages.Page.{Page}
use Rattle.px_templates.specs.declared.pages.Page.TheVariants as page
use Rattle.px_notes.specs.declared.endings.Ending.{Ending}
use Rattle.px_notes.specs.declared.endings.Ending.TheVariants as ending
use Rattle.px_notes.specs.Endings.{after_whole}
use Rattle.px_answers.specs.Finished as answers
use Rattle.px_answers.specs.Finished.{Work, finished}
use Rattle.px_answers.specs.Forms.{body_of}
use Rattle.px_answers.specs.declared.forms.Framed.{Framed}
use Rattle.px_answers.specs.declared.forms.Returned.{Returned}
use Rattle.px_answers.specs.declared.forms.Returned.TheVariants as returned
use Rattle.px_pumps.specs.declared.dues.Due.{Due}

-- what an answer becomes depends on this alone, beside the answer: the request's method, what a head with its body's rule
-- settles, what the filters run with, and what is due where a page is returned in place of the answer
pub record Ask : Type 0 where
  pub method : List ℕ
  pub framed : ResponseHead → BodyRule → Framed
  pub work : Work
  pub page_due : Page → Due

-- the ending of an answer that is returned so
abbrev pub returned_ending : Returned → Ending
returned_ending returned.Passed = ending.Passed
returned_ending returned.Filtered = ending.Filtered
returned_ending returned.Bodiless = ending.Bodiless
returned_ending returned.CutFront = ending.CutFront

-- what is due for an answer that is returned
abbrev pub due_by : answers.FinishedAnswer → Due
due_by d = record { bytes = d.bytes; ending = returned_ending d.outcome.returned; after = after_whole d.outcome.keep }

-- what the bytes of an answer show: no whole head yet, none that is returned, or a head, its body's rule, and what stands behind it
pub data Seen : Type 0 where
  Waiting : Seen
  Bad : Seen
  Good : ResponseHead → BodyRule → List ℕ → Seen

-- the block reads as that head, or it is none that is read
abbrev pub ReadsAsHead : List ℕ → Option ResponseHead → Type 0
ReadsAsHead block (Some head) = IsResponse block head
ReadsAsHead block None = (head : ResponseHead) → ¬ (IsResponse block head)

abbrev pub seen_by_rule : ResponseHead → Result BodyRule BodyFault → List ℕ → Seen
seen_by_rule head (Ok r) rest = Good head r rest
seen_by_rule head (Err e) rest = Bad

-- what the answer's own head shows
unfoldable pub seen_final : List ℕ → ResponseHead → List ℕ → Seen
seen_final method head rest = if head.status == 101 then Bad else seen_by_rule head (response_rule head method) rest

-- what a block shows that was read so; Behind is what the bytes behind an interim head show
abbrev pub ShowsRead : (List ℕ → Seen → Type 0) → List ℕ → Option ResponseHead → List ℕ → Seen → Type 0
ShowsRead Behind method None rest seen = seen ≡ Bad
ShowsRead Behind method (Some head) rest seen = MatchBool (is_interim head.status) (Behind rest seen) (seen ≡ seen_final method head rest)

-- what a block and the bytes behind it show
pub record ShowsBlock (Behind : List ℕ → Seen → Type 0) (method block rest : List ℕ) (seen : Seen) : Type 0 where
  pub reading : Option ResponseHead
  pub reads : ReadsAsHead block reading
  pub shows : ShowsRead Behind method reading rest seen

abbrev pub ShowsAt : (List ℕ → Seen → Type 0) → List ℕ → HeadEnd → List ℕ → Seen → Type 0
ShowsAt Behind method (end.At n) bytes seen = ShowsBlock Behind method (take n bytes) (drop n bytes) seen
ShowsAt Behind method end.NotYet bytes seen = seen ≡ Waiting
ShowsAt Behind method end.Over bytes seen = seen ≡ Bad

-- what bytes show of which so many heads are read at most
abbrev pub Shows : ℕ → List ℕ → List ℕ → Seen → Type 0
Shows zero method bytes seen = seen ≡ Bad
Shows (suc n) method bytes seen = ShowsAt (Shows n method) method (head_end HEAD_LIMIT bytes) bytes seen

-- of an answer at most nine heads are read: eight interim ones, and its own
abbrev pub most_heads : ℕ
most_heads = 9

-- what is due by what the bytes of an answer show; failed is whether their reading failed behind them
abbrev pub due_of : Ask → Seen → Bool → Due
due_of ask Waiting failed = ask.page_due page.NoServerData
due_of ask Bad failed = ask.page_due page.BadReply
due_of ask (Good head r rest) failed = due_by (finished ask.work (ask.framed head r) (body_of r rest) failed)

-- what is due for an answer; failed is whether its reading failed behind its bytes
pub record Answered (ask : Ask) (bytes : List ℕ) (failed : Bool) (due : Due) : Type 0 where
  pub seen : Seen
  pub shows : Shows most_heads ask.method bytes seen
  pub due_is : due ≡ due_of ask seen failed
