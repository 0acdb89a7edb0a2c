-- URLs of HTTP: what a text stands for, and how a URL is printed.
use Rattle.std.specs.Prelude.{◌≡◌, ℕ, ◌==◌, ◌&&◌, ◌||◌, ◌⊎◌, ◌<◌, ◌≤◌, not, Bool, true, false, IsTrue, nat_le, nat_lt, if◌then◌else◌, List, [], ◌∷◌, ◌++◌, length, take, drop, slice_index, Option, None, Some, Result, Ok, Err, codes, decimal}
use Rattle.std.specs.List.{before_first, after_first, list_all, list_any}
use Rattle.std.specs.Char.{is_ascii_hexdigit}
use Rattle.std.specs.Str.{is_utf8, str_eq_ignore_ascii_case}
use Rattle.px_base.specs.Ports.{port}
use Rattle.px_patterns.specs.declared.TheConstants.{AT, BRACKET_BEGIN, BRACKET_END, COLON, DEFAULT_PORT, DOT, HASH, QUESTION_MARK, SLASH}
use Rattle.px_patterns.specs.declared.faults.UrlFault.{UrlFault}
use Rattle.px_patterns.specs.declared.faults.UrlFault.TheVariants.{BadByte, BadPort, HasUser, NoHost, NotHttp}
use Rattle.px_patterns.specs.declared.urls.Url.{Url}

-- ---- bytes and prefixes

-- a byte that no URL holds: a control byte or a space
abbrev pub is_bad : ℕ → Bool
is_bad b = nat_lt b 33 || b == 127

abbrev pub has_bad_byte : List ℕ → Bool
has_bad_byte text = not (is_utf8 text) || list_any is_bad text

-- the bytes of an address in brackets
abbrev pub is_address_byte : ℕ → Bool
is_address_byte b = (is_ascii_hexdigit b || b == COLON) || b == DOT

abbrev pub is_address : List ℕ → Bool
is_address text = not (length text == 0) && list_all is_address_byte text

-- whether a text begins with another, without case
abbrev pub begins_without_case : List ℕ → List ℕ → Bool
begins_without_case text front = str_eq_ignore_ascii_case (take (length front) text) front

-- ---- what a text stands for

-- the host part ends before the first `/`, `?` or `#`
abbrev pub ends_host : ℕ → Bool
ends_host b = (b == SLASH || b == QUESTION_MARK) || b == HASH

abbrev pub host_part : List ℕ → List ℕ
host_part rest = before_first ends_host rest

abbrev pub behind_host_part : List ℕ → List ℕ
behind_host_part rest = drop (length (host_part rest)) rest

-- a host in brackets, whose text begins behind the first bracket, and what follows it
abbrev pub bracketed_host : List ℕ → Option (List ℕ × List ℕ)
bracketed_host text =
    if list_any (λ b. b == BRACKET_END) text && is_address (before_first (λ b. b == BRACKET_END) text)
    then Some (before_first (λ b. b == BRACKET_END) text, after_first (λ b. b == BRACKET_END) text)
    else None

-- a host that ends before the first colon, and what follows it
abbrev pub named_host : List ℕ → Option (List ℕ × List ℕ)
named_host part =
    if length (before_first (λ b. b == COLON) part) == 0 then None
    else Some (before_first (λ b. b == COLON) part, drop (length (before_first (λ b. b == COLON) part)) part)

-- the host at the front of a host part, and what follows it; none where it is empty or no address in brackets
unfoldable pub host_of : List ℕ → Option (List ℕ × List ℕ)
host_of part = if slice_index part 0 == BRACKET_BEGIN then bracketed_host (drop 1 part) else named_host part

-- whether no port stands behind the host
abbrev pub lacks_port : List ℕ → Bool
lacks_port behind = length behind == 0 || (length behind == 1 && slice_index behind 0 == COLON)

-- the port behind the host: a colon and up to five digits; where it is absent or empty, the default port unless it is needed
unfoldable pub port_of : Bool → List ℕ → Option ℕ
port_of needed behind =
    if lacks_port behind then (if needed then None else Some DEFAULT_PORT)
    else if slice_index behind 0 == COLON && nat_le (length behind) 6 then port (drop 1 behind) else None

-- the URL of a host part and a path, where what stands behind the host is a port
abbrev pub with_port : List ℕ → Option ℕ → List ℕ → Result Url UrlFault
with_port host None path = Err BadPort
with_port host (Some port) path = Ok record { host = host; port = port; path = path }

abbrev pub with_host : Bool → Option (List ℕ × List ℕ) → List ℕ → Result Url UrlFault
with_host needed None path = Err NoHost
with_host needed (Some (host, behind)) path = with_port host (port_of needed behind) path

-- the URL of a host part and a path
abbrev pub url_of_part : Bool → List ℕ → List ℕ → Result Url UrlFault
url_of_part needed part path = if list_any (λ b. b == AT) part then Err HasUser else with_host needed (host_of part) path

-- a path begins with a slash
abbrev pub path_of : List ℕ → List ℕ
path_of rest = if slice_index rest 0 == SLASH then rest else SLASH ∷ rest

-- the URL that a text stands for, or the first refusal
unfoldable pub url_of : List ℕ → Result Url UrlFault
url_of text =
    if has_bad_byte text then Err BadByte
    else if not (begins_without_case text (codes "http://")) then Err NotHttp
    else url_of_part false (host_part (drop 7 text)) (path_of (behind_host_part (drop 7 text)))

-- a refusal where something follows, else the answer; a refusal that comes earlier stays
abbrev pub with_nothing_behind : List ℕ → Result Url UrlFault → Result Url UrlFault
with_nothing_behind behind (Err fault) = Err fault
with_nothing_behind behind (Ok url) = if length behind == 0 then Ok url else Err BadPort

-- the URL of a host and a port, as CONNECT asks for one, or the first refusal
unfoldable pub authority_of : List ℕ → Result Url UrlFault
authority_of text =
    if has_bad_byte text then Err BadByte
    else with_nothing_behind (behind_host_part text) (url_of_part true (host_part text) (codes "/"))

-- ---- how a URL is printed

-- the host, in brackets where it holds a colon
abbrev pub shown_host : List ℕ → List ℕ
shown_host host = if list_any (λ b. b == COLON) host then BRACKET_BEGIN ∷ host ++ BRACKET_END ∷ [] else host

-- a colon and the port, where it isn't the default
abbrev pub shown_port : ℕ → List ℕ
shown_port port = if port == DEFAULT_PORT then [] else COLON ∷ decimal port

unfoldable pub shown_host_port : Url → List ℕ
shown_host_port url = shown_host url.host ++ shown_port url.port

unfoldable pub shown_url : Url → List ℕ
shown_url url = codes "http://" ++ shown_host url.host ++ shown_port url.port ++ url.path

-- ---- which URLs texts stand for

-- a host that stands without brackets: no byte of it ends a host, a port or user information begins nowhere in it, and the
-- first byte is no bracket
pub record IsName (host : List ℕ) : Type 0 where
  pub some : 0 < length host
  pub plain : (slice_index host 0 == BRACKET_BEGIN) ≡ false
  pub no_colon : list_any (λ b. b == COLON) host ≡ false
  pub no_user : list_any (λ b. b == AT) host ≡ false
  pub no_end : list_any ends_host host ≡ false
  pub clean : has_bad_byte host ≡ false

-- a host is a name, or what stands in brackets
abbrev pub IsHost : List ℕ → Type 0
IsHost host = IsName host ⊎ IsTrue (is_address host)

-- a URL for which a text stands: a host, a port that isn't 0, and a path that begins with a slash, each of bytes that a URL holds
pub record IsUrl (url : Url) : Type 0 where
  pub host : IsHost url.host
  pub port_some : 0 < url.port
  pub port_within : url.port ≤ 65535
  pub rooted : (slice_index url.path 0 == SLASH) ≡ true
  pub clean : has_bad_byte url.path ≡ false
