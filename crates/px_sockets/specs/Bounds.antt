-- The addresses at which a listener stands, and those of its clients.
use Rattle.std.specs.Prelude.{◌≡◌, ℕ, List}
use Rattle.std.specs.Net.Addr.{MatchIp, IsLoopbackV4, IsLoopbackV6}
use Rattle.std.specs.Net.Socket.{socket_ip, socket_port}
use Rattle.std.specs.Net.Grammar.{IsIpText}
use Rattle.std.specs.Net.Text.{ip_text}
use Rattle.std.specs.declared.net.ip_addr.IpAddr.{IpAddr}
use Rattle.std.specs.declared.net.socket_addr.SocketAddr.{SocketAddr}

-- an address of this machine alone (RFC 1122, section 3.2.1.3; RFC 4291, section 2.5.3)
abbrev pub IsLoopback : SocketAddr → Type 0
IsLoopback a = MatchIp (socket_ip a) IsLoopbackV4 IsLoopbackV6

-- an address for that host and port: it has the port, and where the host is an address in text, it is that address
pub record IsAddressOf (host : List ℕ) (port : ℕ) (a : SocketAddr) : Type 0 where
  pub at_port : socket_port a ≡ port
  pub at_host : (ip : IpAddr) → IsIpText host ip → IsIpText host (socket_ip a)

-- an address in text (RFC 5952, section 4, for groups)
abbrev pub IsAddressText : List ℕ → Type 0
IsAddressText text = (ip : IpAddr) × (text ≡ ip_text ip)
