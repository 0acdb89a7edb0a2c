-- SOCKS servers of forward lines, and the hosts under which targets behind them are dialled.
use Rattle.std.specs.Prelude.{ℕ, ◌==◌, ◌||◌, Bool, List, Option, option_map, codes, decimal, nat_eq, if◌then◌else◌}
use Rattle.std.specs.List.{ends_with}
use Rattle.std.specs.Str.{bytes_eq}
use Rattle.px_actions.specs.Hops.{NextHop, direct, parent, next_hop}
use Rattle.px_base.specs.DialNames.{Server}
use Rattle.px_dial_names.specs.Printed.{printed}
use Rattle.px_decide.specs.declared.servers.KeptServer.{KeptServer}

-- a word that names a host has no port: it is the host alone, or ends with the bracket that closes it
abbrev pub word_lacks_port : List ℕ → List ℕ → Bool
word_lacks_port word host = bytes_eq word host || ends_with nat_eq word (codes "]")

-- the server of a word, by the next hop of the same word: a dot is a host here, and the port is 1080 where none is written
abbrev pub server_by : List ℕ → NextHop → Server
server_by word direct = record { host = word; port = 1080 }
server_by word (parent host p) = record { host = host; port = if word_lacks_port word host then 1080 else p }

-- the server that a word names: a host, and optionally a colon and a port, as a parent is named
unfoldable pub named_server : List ℕ → Option Server
named_server word = option_map (server_by word) (next_hop word)

-- the dial name of a target's host behind a server
abbrev pub dial_name : Server → List ℕ → List ℕ
dial_name server target = printed server.host (decimal server.port) target

-- a server as a line keeps it
abbrev pub kept_server : KeptServer → Server
kept_server s = record { host = s.host; port = s.port }
