-- A source with bytes that were read ahead of it, seen as one value.
use Rattle.std.specs.Prelude.{ℕ, List, ◌++◌}
use Rattle.px_base.specs.Sources.{SourceState}

pub record FeedState : Type 0 where
  pub source : SourceState
  -- the bytes that were read ahead
  pub ahead : List ℕ

-- the bytes that are left of the stream: those read ahead come first
abbrev pub bytes_behind : FeedState → List ℕ
bytes_behind f = f.ahead ++ f.source.left

-- the same as a source
abbrev pub fed_source : FeedState → SourceState
fed_source f = record f.source { left = bytes_behind f }
