-- The addresses that were tried, in order.
use Rattle.std.specs.Prelude.{◌≡◌, List, [], ◌∷◌, ◌++◌}
use Rattle.std.specs.declared.net.socket_addr.SocketAddr.{SocketAddr}
use Rattle.px_sockets.specs.declared.tries.Tried.{Tried, Nothing, Behind'}

abbrev pub tried_of : Tried → List SocketAddr
tried_of Nothing = []
tried_of (Behind' shape before address) = tried_of before ++ address ∷ []

-- a front of the addresses was tried, each once and in order
pub record InTurn (old new all : List SocketAddr) : Type 0 where
  pub front : List SocketAddr
  pub rest : List SocketAddr
  pub parts : all ≡ front ++ rest
  pub tried : new ≡ old ++ front
