-- What contracts see of a dialer that tells nothing, and of both ends of a stream that is just made.
use Rattle.std.specs.Prelude.{◌≡◌, ℕ, false, []}
use Rattle.px_base.specs.Sources.{SourceState, untold_source}
use Rattle.px_base.specs.Sinks.{SinkState, untold_sink}
use Rattle.px_base.specs.Dials.{DialerState}

-- a dialer that tells nothing and has these counts
abbrev pub untold_dialer : (names reach link_reads link_writes opened hung_up mark : ℕ) → DialerState
untold_dialer names reach link_reads link_writes opened hung_up mark = record {
  tells = false;
  dials = [];
  tells_coming = false;
  coming = [];
  through_servers = false;
  names = names;
  reach = reach;
  link_reads = link_reads;
  link_writes = link_writes;
  opened = opened;
  hung_up = hung_up;
  mark = mark;
}

-- both ends have that mark and no faults
pub record AreNew (mark : ℕ) (i : SourceState) (o : SinkState) : Type 0 where
  pub source : i ≡ untold_source 0 mark
  pub sink : o ≡ untold_sink 0 mark
