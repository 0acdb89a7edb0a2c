-- Dial names: a SOCKS server and the target's host behind it, as one host to dial: `socks5://`, the server's host (in brackets
-- where it holds a colon), `:`, its port, `/` and the target's host. No host of a URL holds a slash (RFC 3986, section 3.2.2),
-- so none is a dial name. The port beside a dial name is the target's.
use Rattle.std.specs.Prelude.{ℕ, ◌+◌, ◌==◌, ◌&&◌, Bool, false, nat_lt, if◌then◌else◌, List, [], ◌∷◌, length, drop, take, Option, Some, None, option_map, is_some, codes}
use Rattle.std.specs.Str.{byte, bytes_eq}
use Rattle.std.specs.List.{position, position_or_len}
use Rattle.px_base.specs.Ports.{port}

-- a server's host and port
pub record Server : Type 0 where
  pub host : List ℕ
  pub port : ℕ

-- a host with the port of those digits
abbrev pub server : List ℕ → List ℕ → Option Server
server host digits = option_map (λ p. record { host = host; port = p }) (port digits)

-- the first byte is that one
abbrev pub begins_with_byte : ℕ → List ℕ → Bool
begins_with_byte b [] = false
begins_with_byte b (c ∷ cs) = c == b

-- a host before the first colon, by its place, and the port behind it
abbrev pub unbracketed : List ℕ → Option ℕ → Option Server
unbracketed bytes None = None
unbracketed bytes (Some at) = server (take at bytes) (drop (at + 1) bytes)

-- a host before the first closing bracket, by its place; behind it a colon and the port
abbrev pub bracketed_server : List ℕ → Option ℕ → Option Server
bracketed_server bytes None = None
bracketed_server bytes (Some at) = if begins_with_byte (byte ":") (drop (at + 1) bytes) then server (take at bytes) (drop 1 (drop (at + 1) bytes)) else None

-- the server that those bytes name, if they name one
abbrev pub server_in : List ℕ → Option Server
server_in bytes =
    if begins_with_byte (byte "[") bytes
    then bracketed_server (drop 1 bytes) (position (λ b. b == byte "]") (drop 1 bytes))
    else unbracketed bytes (position (λ b. b == byte ":") bytes)

-- the byte behind the server
abbrev pub is_slash : ℕ → Bool
is_slash b = b == byte "/"

-- the first nine bytes of each dial name
abbrev pub scheme : List ℕ
scheme = codes "socks5://"

-- the server's host and port stand between the scheme and the first slash behind it
abbrev pub server_of : List ℕ → Option Server
server_of name = server_in (take (position_or_len is_slash (drop 9 name)) (drop 9 name))

-- the target's host stands behind that slash
abbrev pub target_of : List ℕ → List ℕ
target_of name = drop (position_or_len is_slash (drop 9 name) + 1) (drop 9 name)

-- a server before a slash, by its place
abbrev pub names_server : List ℕ → Option ℕ → Bool
names_server bytes None = false
names_server bytes (Some at) = is_some (server_in (take at bytes))

-- the scheme, a server, a slash, and whatever follows
abbrev pub is_dial_name : List ℕ → Bool
is_dial_name host = bytes_eq (take 9 host) scheme && names_server (drop 9 host) (position is_slash (drop 9 host))

-- the target's host has more bytes than a request to a server can tell, whose length of it is one byte (RFC 1928, section 5)
abbrev pub has_long_target : List ℕ → Bool
has_long_target name = nat_lt 255 (length (target_of name))
