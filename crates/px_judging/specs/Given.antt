-- All by which a request is judged.
use Rattle.std.specs.Prelude.{ℕ, Bool, List}
use Rattle.px_config.specs.declared.configs.Config.{Config}
use Rattle.px_judging.specs.declared.handed.Handed.{Handed}

-- what is handed with a request, but for its configuration and its client
pub record Handing : Type 0 where
  -- whether it is the last request that a connection may have
  pub last : Bool
  -- the client's tags
  pub tags : List (List ℕ)
  -- in seconds since 1970
  pub moment : ℕ

abbrev pub handing_of : Handed → Handing
handing_of h = record { last = h.last; tags = h.tags; moment = h.moment }

-- all by which a request is judged beside itself: peer is the client's address
pub record Given : Type 0 where
  pub config : Config
  pub last : Bool
  pub tags : List (List ℕ)
  pub peer : List ℕ
  pub moment : ℕ

-- by a configuration, for a client
abbrev pub given_for : Config → Handing → List ℕ → Given
given_for config h peer = record { config = config; last = h.last; tags = h.tags; peer = peer; moment = h.moment }
