-- The machine behind a whole head: what it has put out of the bytes that it was fed. In what follows w is what filters run with, f
-- what the head settled, rest the bytes that were fed, and put those that were put out.
use Rattle.std.specs.Prelude.{◌≡◌, ◌≢◌, ℕ, ◌+◌, Bool, true, false, Option, Some, None, List, [], ◌++◌, length, take, if◌then◌else◌}
use Rattle.px_framing.specs.Passing.{bytes_left}
use Rattle.px_framing.specs.Reading as framing
use Rattle.px_framing.specs.Reading.{Reading, IsSettled, ReaderSteps, stage_state}
use Rattle.px_framing.specs.declared.places.State.{State}
use Rattle.px_framing.specs.declared.places.State.TheVariants as state
use Rattle.px_framing.specs.declared.rules.BodyRule.{BodyRule}
use Rattle.px_framing.specs.declared.rules.BodyRule.TheVariants as rule
use Rattle.px_subst.specs.declared.words.Vars.{Vars}
use Rattle.px_answers.specs.declared.forms.Form.{Form}
use Rattle.px_answers.specs.declared.forms.Framed.{Framed}
use Rattle.px_answers.specs.declared.forms.AnswerOutcome.{AnswerOutcome}
use Rattle.px_answers.specs.declared.courses.Course.{Course}
use Rattle.px_answers.specs.declared.courses.Course.TheVariants as course
use Rattle.px_answers.specs.Forms.{body_of, formed, is_more, is_open_to_filters, is_whole, passed_head}
use Rattle.px_answers.specs.Finished.{Work, finished, passed_outcome}

-- a body read by that rule was fed these bytes
pub record Read (r : BodyRule) (rest raw plain : List ℕ) (reader : Reading) : Type 0 where
  pub used : ℕ
  pub after : framing.ReaderAfter r rest raw plain used reader

-- a reader took a piece, and these bytes of it were put out
pub record TakesOn (form : Form) (old : Reading) (piece put : List ℕ) (new : Reading) : Type 0 where
  pub raw : List ℕ
  pub plain : List ℕ
  pub used : ℕ
  pub steps : ReaderSteps old piece raw plain used new
  pub put_is : put ≡ formed form raw plain

-- the reader was fed a body of that rule, whose raw bytes are these
pub record IsRaw (r : BodyRule) (raw : List ℕ) (reader : Reading) : Type 0 where
  pub rest : List ℕ
  pub plain : List ℕ
  pub read : Read r rest raw plain reader

-- the raw bytes of a body, where no others are read
pub record AreOwn (r : BodyRule) (raw : List ℕ) : Type 0 where
  pub all : (body_of r raw).raw ≡ raw
  pub used : (body_of r raw).used ≡ length raw

-- chunks that are a whole body
abbrev pub AreWholeChunks : BodyRule → List ℕ → Type 0
AreWholeChunks r raw = r ≡ rule.Chunked → (body_of r raw).state ≡ state.Whole

-- the raw bytes of a body that stands so are read to the same data, and to the same state where it is whole
pub record ReadsAgain (r : BodyRule) (raw plain : List ℕ) (s : State) : Type 0 where
  pub own : AreOwn r raw
  pub same : (body_of r raw).plain ≡ plain
  pub whole : s ≡ state.Whole → AreWholeChunks r raw

-- the body may still be filtered: its raw bytes are held, and nothing was put out
pub record Holds (f : Framed) (rest put raw : List ℕ) (reader : Reading) : Type 0 where
  pub plain : List ℕ
  pub read : Read f.rule rest raw plain reader
  pub more : stage_state reader.stage ≡ state.More
  pub allowed : is_open_to_filters f (length raw) ≡ true
  pub settled : IsSettled reader
  pub quiet : put ≡ []

-- it can't be filtered any more: its front was put out unfiltered
pub record PassesFront (f : Framed) (rest put : List ℕ) (reader : Reading) : Type 0 where
  pub raw : List ℕ
  pub plain : List ℕ
  pub read : Read f.rule rest raw plain reader
  pub more : stage_state reader.stage ≡ state.More
  pub excluded : is_open_to_filters f (length raw) ≡ false
  pub settled : IsSettled reader
  pub put_is : put ≡ passed_head f ++ formed f.form raw plain

-- the body stands at its end, and whatever follows, what is returned was put out
pub record FinishesBody (w : Work) (f : Framed) (rest put : List ℕ) (outcome : AnswerOutcome) : Type 0 where
  pub over : (more : List ℕ) → (body_of f.rule (rest ++ more)).state ≢ state.More
  pub settled : (more : List ℕ) (failed : Bool) → finished w f (body_of f.rule (rest ++ more)) failed ≡ record { bytes = put; outcome = outcome }

-- what a course says of all the bytes that were fed and put out
abbrev pub CourseAfter : Work → Framed → List ℕ → List ℕ → Course → Type 0
CourseAfter w f rest put (course.Holding raw reader) = Holds f rest put raw reader
CourseAfter w f rest put (course.Passing reader) = PassesFront f rest put reader
CourseAfter w f rest put (course.Ended outcome) = FinishesBody w f rest put outcome
CourseAfter w f rest put course.Wanting = ⊥

-- what was put out is a front of what is returned, whatever follows
pub record BeginsReturned (w : Work) (f : Framed) (rest put : List ℕ) : Type 0 where
  pub front : (more : List ℕ) (failed : Bool) → take (length put) (finished w f (body_of f.rule (rest ++ more)) failed).bytes ≡ put

-- the bytes ended, and what was put out is what is returned
abbrev pub EndsCourse : Work → Framed → List ℕ → Bool → List ℕ → Course → Type 0
EndsCourse w f rest failed put (course.Holding raw reader) = ⊥
EndsCourse w f rest failed put (course.Passing reader) = ⊥
EndsCourse w f rest failed put (course.Ended outcome) = finished w f (body_of f.rule rest) failed ≡ record { bytes = put; outcome = outcome }
EndsCourse w f rest failed put course.Wanting = ⊥

-- how an answer was returned, where all of it was put out
abbrev pub ended_of : Course → Option AnswerOutcome
ended_of (course.Holding raw reader) = None
ended_of (course.Passing reader) = None
ended_of (course.Ended outcome) = Some outcome
ended_of course.Wanting = None

-- the most bytes that a body may still have
abbrev pub room_of : Course → ℕ
room_of (course.Holding raw reader) = bytes_left reader.stage
room_of (course.Passing reader) = bytes_left reader.stage
room_of (course.Ended outcome) = 0
room_of course.Wanting = 0

-- how many of an answer's bytes are kept: the raw bytes of a body that may be filtered, and those of an unfinished line
abbrev pub held_of : Course → ℕ
held_of (course.Holding raw reader) = length raw + length reader.kept
held_of (course.Passing reader) = length reader.kept
held_of (course.Ended outcome) = 0
held_of course.Wanting = 0

-- what is so of each course: a body that is held is within the limit, and its raw bytes are those that were read
abbrev pub IsSoundCourse : Framed → Course → Type 0
IsSoundCourse f (course.Holding raw reader) = IsRaw f.rule raw reader × IsSettled reader × (is_open_to_filters f (length raw) ≡ true)
IsSoundCourse f (course.Passing reader) = IsSettled reader
IsSoundCourse f (course.Ended outcome) = Unit {0}
IsSoundCourse f course.Wanting = Unit {0}

-- the course of an unfiltered body behind bytes that its reader was fed
abbrev pub passing : Framed → Reading → Course
passing f reader = if is_more (stage_state reader.stage) then course.Passing reader
    else course.Ended (passed_outcome f (is_whole (stage_state reader.stage)))

-- the value of a machine: what the words of filters stand for, what the head settled, and the course
pub record Passaging : Type 0 where
  pub vars : Vars
  pub framed : Framed
  pub course : Course
