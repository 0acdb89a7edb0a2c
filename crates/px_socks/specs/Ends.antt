-- Both ends of a link behind a handshake, made of those below it: what went over the link in the handshake isn't seen.
use Rattle.std.specs.Prelude.{◌≡◌, ℕ, Bool, not, IsTrue, ◌==◌, List, ◌++◌, length, drop}
use Rattle.px_base.specs.Sources.{SourceState}
use Rattle.px_base.specs.Sinks.{SinkState}
use Rattle.px_socks.specs.declared.ends.HandshakePassage.{HandshakePassage}
use Rattle.px_socks.specs.Marks.{mark_behind}
use Rattle.px_base.specs.Lists.{told}

-- a source behind a handshake: the bytes that were heard in it aren't among those offered
abbrev pub source_behind : HandshakePassage → SourceState → SourceState
source_behind p s = record {
  tells = s.tells;
  offered = told s.tells (drop p.heard s.offered);
  left = told s.tells s.left;
  faults = s.faults;
  steady = s.steady;
  mark = mark_behind s.tells p s.mark;
}

-- a sink behind a handshake: the messages aren't among the bytes taken
abbrev pub sink_behind : HandshakePassage → SinkState → SinkState
sink_behind p s = record {
  tells = s.tells;
  taken = told s.tells (drop (length p.messages) s.taken);
  finished = s.finished;
  faults = s.faults;
  steady = s.steady;
  room = s.room;
  mark = mark_behind s.tells p s.mark;
}

-- an inner source and what the handshake took of its link
pub record InnerSource : Type 0 where
  pub source : SourceState
  pub passage : HandshakePassage

-- an inner sink and what the handshake took of its link
pub record InnerSink : Type 0 where
  pub sink : SinkState
  pub passage : HandshakePassage

-- what contracts see of both ends
abbrev pub socks_source : InnerSource → SourceState
socks_source s = source_behind s.passage s.source

abbrev pub socks_sink : InnerSink → SinkState
socks_sink s = sink_behind s.passage s.sink

-- the messages are the first bytes taken
abbrev pub BeginsWithMessages : List ℕ → SinkState → Type 0
BeginsWithMessages messages s = IsTrue s.tells → s.taken ≡ messages ++ drop (length messages) s.taken

-- whether the count of faults isn't 0
abbrev pub has_failed : ℕ → Bool
has_failed faults = not (faults == 0)
