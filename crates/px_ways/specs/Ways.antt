-- Both directions of a tunnel.
use Rattle.std.specs.Prelude.{◌≡◌, ℕ, Bool, true, false, ◌||◌, List, ◌++◌}
use Rattle.px_base.specs.Sources.{SourceState}
use Rattle.px_base.specs.Sinks.{SinkState}
use Rattle.px_ways.specs.Directions.{Direction}
use Rattle.px_ways.specs.declared.directions.DirectionStop.{DirectionStop}
use Rattle.px_ways.specs.declared.directions.DirectionStop.TheVariants as stop
use Rattle.px_ways.specs.declared.ways.Carried.{Carried}

-- the ends that a tunnel joins
pub record TunnelEnds : Type 0 where
  pub client_in : SourceState
  pub client_out : SinkState
  pub link_in : SourceState
  pub link_out : SinkState

abbrev pub is_source_failed : DirectionStop → Bool
is_source_failed stop.Whole = false
is_source_failed stop.SourceFailed = true
is_source_failed stop.SinkFailed = false
is_source_failed stop.NoMemory = false

abbrev pub is_sink_failed : DirectionStop → Bool
is_sink_failed stop.Whole = false
is_sink_failed stop.SourceFailed = false
is_sink_failed stop.SinkFailed = true
is_sink_failed stop.NoMemory = false

abbrev pub is_stop_wanting : DirectionStop → Bool
is_stop_wanting stop.Whole = false
is_stop_wanting stop.SourceFailed = false
is_stop_wanting stop.SinkFailed = false
is_stop_wanting stop.NoMemory = true

-- what came of both directions, by why each stopped: the client's source is that of the first, and its sink that of the second
abbrev pub carried_of : DirectionStop → DirectionStop → Carried
carried_of there back = record {
  client_read = is_source_failed there;
  client_write = is_sink_failed back;
  no_memory = is_stop_wanting there || is_stop_wanting back;
}

-- both directions were carried, that of the client with the bytes that were read ahead of its source
pub record CarriesBoth (ahead : List ℕ) (old new : TunnelEnds) (c : Carried) : Type 0 where
  pub there : DirectionStop
  pub back : DirectionStop
  pub carried : c ≡ carried_of there back
  pub is_there : Direction (ahead ++ old.client_in.left) old.client_in new.client_in old.link_out new.link_out there
  pub is_back : Direction old.link_in.left old.link_in new.link_in old.client_out new.client_out back
