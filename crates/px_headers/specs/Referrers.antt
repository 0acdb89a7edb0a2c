-- What hide-referrer does (Privoxy's manual, "Actions").
use Rattle.std.specs.Prelude.{ℕ, Bool, true, ◌&&◌, ◌||◌, ◌==◌, ◌+◌, ◌-◌, not, nat_le, List, [], ◌∷◌, ◌++◌, length, take, drop, slice_index, codes, if◌then◌else◌}
use Rattle.std.specs.Char.{is_ascii_digit}
use Rattle.std.specs.List.{list_all}
use Rattle.std.specs.Option.{option_map_or}
use Rattle.std.specs.Str.{byte, bytes_eq, str_eq_ignore_ascii_case}
use Rattle.memchr.specs.Find.{first_of, matches}
use Rattle.px_fields.specs.declared.fields.Field.{Field}
use Rattle.px_fields.specs.Names.{has_name}
use Rattle.px_patterns.specs.declared.urls.Url.{Url}
use Rattle.px_patterns.specs.Urls.{shown_host_port}
use Rattle.px_headers.specs.Rows.{with_value, with_values, without_field, without_those}

-- what ends the host of a referrer
abbrev pub ends_referrer_host : ℕ → Bool
ends_referrer_host b = (b == byte "/" || b == byte "?") || b == byte "#"

-- how far a host and its port go
abbrev pub part_len : List ℕ → ℕ
part_len [] = 0
part_len (b ∷ bs) = if ends_referrer_host b then 0 else part_len bs + 1

-- how far a host goes in front of a port, which is a colon behind which only digits stand
abbrev pub host_len : List ℕ → ℕ
host_len [] = 0
host_len (b ∷ bs) = if b == byte ":" && list_all is_ascii_digit bs then 0 else host_len bs + 1

abbrev pub referrer_host_part : List ℕ → List ℕ
referrer_host_part rest = take (part_len rest) rest

abbrev pub without_port : List ℕ → List ℕ
without_port part = take (host_len part) part

-- without the brackets around an address
unfoldable pub without_brackets : List ℕ → List ℕ
without_brackets host =
    if nat_le 2 (length host) && (slice_index host 0 == byte "[" && slice_index host (length host - 1) == byte "]")
    then take (length host - 2) (drop 1 host)
    else host

-- the host in what stands behind `://`
abbrev pub host_behind : List ℕ → List ℕ
host_behind rest = without_brackets (without_port (referrer_host_part rest))

-- a referrer's host differs from a URL's; so does a value without `://`
unfoldable pub is_foreign : List ℕ → List ℕ → Bool
is_foreign host referrer =
    option_map_or (λ at. not (str_eq_ignore_ascii_case (host_behind (drop 3 (drop at referrer))) host)) (first_of (matches referrer (codes "://") 0)) true

-- the field is a referrer with another host
abbrev pub has_foreign_referrer : List ℕ → Field → Bool
has_foreign_referrer host f = has_name (codes "Referer") f && is_foreign host f.value

-- the root of a URL
unfoldable pub root_of : Url → List ℕ
root_of url = codes "http://" ++ shown_host_port url ++ codes "/"

-- what a value of the action makes of fields
unfoldable pub with_hidden_referrer : Url → List ℕ → List Field → List Field
with_hidden_referrer url v fields =
    if bytes_eq v (codes "block") then without_field (codes "Referer") fields
    else if bytes_eq v (codes "forge") then with_value (codes "Referer") (root_of url) fields
    else if bytes_eq v (codes "conditional-block") then without_those (has_foreign_referrer url.host) fields
    else if bytes_eq v (codes "conditional-forge") then with_values (has_foreign_referrer url.host) (λ _. root_of url) fields
    else with_value (codes "Referer") v fields
