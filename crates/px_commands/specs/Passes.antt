-- What `pass` does: with its words, the files, the input, the output, the error output and the clock.
use Rattle.std.specs.Prelude.{◌≡◌, ℕ, ◌≤◌, Bool, false, ◌⊎◌, List, [], ◌++◌, length, Option, None, Some, Result, IsTrue, MatchBool}
use Rattle.px_base.specs.Causes.{IsOneMore, Rose}
use Rattle.px_base.specs.Contents.{FilesState, FilesGoOn, FilesCause, Unchanged, Puts, OthersUnchanged}
use Rattle.px_base.specs.Sources.{SourceState, SourceGoesOn}
use Rattle.px_base.specs.Sinks.{SinkState, SinkGoesOn, AddsProperFront}
use Rattle.px_base.specs.Moments.{ClockState, ClockGoesOn}
use Rattle.px_base.specs.Dials.{DialerState, fresh_dialer, finished_links}
use Rattle.px_base.specs.declared.dials.Answer.{Answer}
use Rattle.px_base.specs.declared.faults.FilesFault.{FilesFault}
use Rattle.px_decide.specs.Forwards.{has_socks}
use Rattle.px_config.specs.declared.configs.Config.{Config}
use Rattle.px_notes.specs.declared.sessions.SessionEnd.{SessionEnd}
use Rattle.px_serve.specs.Histories.{IsFixed, Looks}
use Rattle.px_socks.specs.Dialers.{KeptDialer, outer_state}
use Rattle.px_socks.specs.Handshakes.{Handshakes}
use Rattle.px_commands.specs.declared.statuses.Status.{Status}
use Rattle.px_commands.specs.declared.statuses.Status.TheVariants as status
use Rattle.px_commands.specs.declared.tools.ToolParts.{ToolParts}
use Rattle.px_commands.specs.Clients.{ServesClient, StreamsState, in_memory, server_views}
use Rattle.px_commands.specs.Origins.{IsOrigin}
use Rattle.px_commands.specs.Sents.{sent_text}
use Rattle.px_commands.specs.Statuses.{is_session_wanting, status_after}

-- the objects of a run: the files, the input, the output, the error output and the clock
pub record Outside : Type 0 where
  pub files : FilesState
  pub input : SourceState
  pub out : SinkState
  pub errors : SinkState
  pub clock : ClockState

abbrev pub tool_as : {F S O E T : Type 0} → (F → FilesState) → (S → SourceState) → (O → SinkState) → (E → SinkState) → (T → ClockState) → ToolParts F S O E T → Outside
tool_as files ins outs errs times p = record { files = files p.files; input = ins p.input; out = outs p.out; errors = errs p.err; clock = times p.clock }

-- the streams of a session that is run with them
abbrev pub streams_of : Outside → StreamsState
streams_of o = record { input = o.input; out = o.out; clock = o.clock }

-- what lasts of them, whatever is done
pub record OutsideGoesOn (old new : Outside) : Type 0 where
  pub files : FilesGoOn old.files new.files
  pub input : SourceGoesOn old.input new.input
  pub out : SinkGoesOn old.out new.out
  pub errors : SinkGoesOn old.errors new.errors
  pub clock : ClockGoesOn old.clock new.clock

-- the files hold what they held, and the input, the output and the clock weren't used
pub record Untouched (old new : Outside) : Type 0 where
  pub files : IsTrue old.files.tells → Unchanged old.files.contents new.files.contents
  pub input : new.input ≡ old.input
  pub out : new.out ≡ old.out
  pub clock : new.clock ≡ old.clock

-- nor was the error output
pub record IsOutsideSame (old new : Outside) : Type 0 where
  pub untouched : Untouched old new
  pub errors : new.errors ≡ old.errors

-- a text was printed, and the status is that one; or a proper front of it was, and the error sink failed or wanted memory
abbrev pub ReportsOn : List ℕ → List ℕ → List ℕ → Status → Status → Type 0
ReportsOn old new text whole s =
    ((s ≡ whole) × (new ≡ old ++ text))
    ⊎ (((s ≡ status.WriteFailed) ⊎ (s ≡ status.NoMemory)) × AddsProperFront old new text)

-- the status is the one that goes with the text, and the error sink didn't fail; or it failed, as the status says, or memory was wanting
abbrev pub ReportCause : SinkState → SinkState → Status → Status → Type 0
ReportCause old new whole s = ((s ≡ whole) × (new.faults ≡ old.faults)) ⊎ (((s ≡ status.WriteFailed) × Rose old.faults new.faults) ⊎ (s ≡ status.NoMemory))

-- the command ends with a text for the error output, and that goes with a status
pub record Reports (old new : Outside) (text : List ℕ) (whole s : Status) : Type 0 where
  pub untouched : Untouched old new
  pub reported : IsTrue old.errors.tells → ReportsOn old.errors.taken new.errors.taken text whole s
  pub cause : ReportCause old.errors new.errors whole s

-- memory was wanting before a session began, and nothing was printed
pub record GivesUp (old new : Outside) (s : Status) : Type 0 where
  pub wanting : s ≡ status.NoMemory
  pub same : IsOutsideSame old new

-- a file holds ORIGIN with these answers
abbrev pub HasAnswers : Option (List ℕ) → List Answer → Type 0
HasAnswers None answers = ⊥
HasAnswers (Some text) answers = (length text ≤ 67108864) × IsOrigin text answers

-- SENT was put, or tried to be, behind a session that ended so: not after want of memory in it; the first cause in time decides
-- the status
pub record PutsSent (old new : FilesState) (sent text : List ℕ) (e : SessionEnd) (s : Status) : Type 0 where
  pub memory : is_session_wanting e ≡ false
  pub result : Result (Unit {0}) FilesFault
  pub put : IsTrue old.tells → Puts old.contents new.contents sent text result
  pub others : IsTrue old.tells → OthersUnchanged old.contents new.contents sent
  pub cause : FilesCause old.put_faults new.put_faults result
  pub counted : IsOneMore old.puts new.puts
  pub status_is : s ≡ status_after e result

-- memory was wanting in the session, or behind it, and SENT wasn't put
pub record Withholds (old new : FilesState) (s : Status) : Type 0 where
  pub wanting : s ≡ status.NoMemory
  pub unput : new.puts ≡ old.puts
  pub unchanged : IsTrue old.tells → Unchanged old.contents new.contents

abbrev pub PutsAfter : FilesState → FilesState → List ℕ → List ℕ → SessionEnd → Status → Type 0
PutsAfter old new sent text e s = PutsSent old new sent text e s ⊎ Withholds old new s

-- a dialer through SOCKS servers that is just made, over one in memory with these answers
abbrev pub begun_socks : List Answer → KeptDialer
begun_socks answers = record { inner = fresh_dialer answers; notes = []; names = 0; reach = 0; link_reads = 0; link_writes = 0; opened = 0; hung_up = 0 }

-- a session through SOCKS servers: it is one over the outer dials, as far as they aren't a pool's; each takes an answer, but for one
-- whose target no server can be told, and by a dial name it gives what stands behind the bytes that are accepted of the server. The
-- inner dials are those that stand behind the outer ones; a link that a pool keeps is one behind its handshake
pub record ServesThrough (sharing : Bool) (tags : List (List ℕ)) (looks : Looks) (old new : StreamsState) (answers : List Answer) (inner : DialerState) (e : SessionEnd) : Type 0 where
  pub kept : KeptDialer
  pub serves : ServesClient server_views sharing tags looks old new (outer_state (begun_socks answers)) (outer_state kept) e
  pub inner_is : inner ≡ kept.inner
  pub handshakes : Handshakes (outer_state kept).dials inner.dials

-- a session whose dials take the answers in memory, where that dialer stands behind it, by whether a forward line has a SOCKS server:
-- through such servers, or each dial takes an answer itself
abbrev pub ServesOver : Bool → Bool → List (List ℕ) → Looks → StreamsState → StreamsState → List Answer → DialerState → SessionEnd → Type 0
ServesOver socks sharing tags looks old new answers inner e =
    MatchBool socks (ServesThrough sharing tags looks old new answers inner e) (ServesClient in_memory sharing tags looks old new (fresh_dialer answers) inner e)

-- a session over the input and the answers, with that configuration, and the text of SENT, which has the links that took the answers:
-- where its requests share links, each of these has what went over it in all of the pool's dials, and where it is through SOCKS
-- servers, they are the links to those
pub record IsServed (config : Config) (tags : List (List ℕ)) (answers : List Answer) (old new : StreamsState) (e : SessionEnd) (text : List ℕ) : Type 0 where
  pub looks : Looks
  pub fixed : IsFixed looks config
  -- the dialer in memory behind the session
  pub inner : DialerState
  pub serves : ServesOver (has_socks config.forwards) config.settings.sharing tags looks old new answers inner e
  pub text_is : text ≡ sent_text (finished_links inner.dials)

-- the same with the text that was made, if memory was there for it
pub record HasServed (config : Config) (tags : List (List ℕ)) (answers : List Answer) (old new : StreamsState) (e : SessionEnd) (made : Option (List ℕ)) : Type 0 where
  pub text : List ℕ
  pub served : IsServed config tags answers old new e text
  pub made_is : (x : List ℕ) → made ≡ Some x → x ≡ text

-- ORIGIN couldn't be read
pub record FailsOnOrigin (old new : Outside) (s : Status) : Type 0 where
  pub failed : s ≡ status.ReadFailed
  pub cause : Rose old.files.read_faults new.files.read_faults
  pub same : IsOutsideSame old new

-- ORIGIN is missing, too large or not of its format
pub record RefusesOrigin (origin : List ℕ) (old new : Outside) (s : Status) : Type 0 where
  pub refused : s ≡ status.NoOrigin
  pub none : IsTrue old.files.tells → (answers : List Answer) → ¬ HasAnswers (old.files.contents origin) answers
  pub same : IsOutsideSame old new

-- a session was served, behind which SENT was put
pub record PassesSession (config : Config) (origin sent : List ℕ) (tags : List (List ℕ)) (old new : Outside) (s : Status) : Type 0 where
  pub answers : List Answer
  pub has_answers : IsTrue old.files.tells → HasAnswers (old.files.contents origin) answers
  pub session_end : SessionEnd
  pub text : List ℕ
  pub served : IsServed config tags answers (streams_of old) (streams_of new) session_end text
  pub put : PutsAfter old.files new.files sent text session_end s
  pub unprinted : new.errors ≡ old.errors

-- with a configuration
abbrev pub RunsLoaded : Config → List ℕ → List ℕ → List (List ℕ) → Outside → Outside → Status → Type 0
RunsLoaded config origin sent tags old new s =
    FailsOnOrigin old new s ⊎ (RefusesOrigin origin old new s ⊎ (PassesSession config origin sent tags old new s ⊎ GivesUp old new s))
