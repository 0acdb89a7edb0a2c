-- The lifetime of cookies (RFC 6265, section 4.1; Privoxy's manual, "Actions").
use Rattle.std.specs.Prelude.{ℕ, Bool, false, ◌+◌, ◌*◌, ◌==◌, ◌&&◌, ◌||◌, not, nat_le, List, [], ◌∷◌, ◌++◌, length, take, drop, map, filter, flat_map, position, codes, Option, option_map, is_some, if◌then◌else◌}
use Rattle.std.specs.Fmt.{decimal as decimal_text}
use Rattle.std.specs.Char.{is_ascii_digit}
use Rattle.std.specs.List.{list_all, list_any, slice_split}
use Rattle.std.specs.Option.{option_map_or}
use Rattle.std.specs.Str.{byte, str_eq_ignore_ascii_case}
use Rattle.httpdate.specs.Date.{parse_secs}
use Rattle.px_base.specs.Blanks.{trimmed}
use Rattle.px_base.specs.Numbers.{decimal}
use Rattle.px_headers.specs.declared.cookies.Cap.{Cap}
use Rattle.px_headers.specs.Dates.{date_at}

-- ---- the pieces of a cookie, which stand between semicolons: its own, and its attributes

-- where the first `=` of a piece stands
abbrev pub equals_sign : List ℕ → Option ℕ
equals_sign piece = position (λ b. b == byte "=") piece

-- the name of a piece; without `=` it is the whole piece
unfoldable pub piece_name : List ℕ → List ℕ
piece_name piece = trimmed (option_map_or (λ at. take at piece) (equals_sign piece) piece)

unfoldable pub piece_value : List ℕ → List ℕ
piece_value piece = trimmed (option_map_or (λ at. drop (at + 1) piece) (equals_sign piece) [])

unfoldable pub is_expires : List ℕ → Bool
is_expires piece = str_eq_ignore_ascii_case (piece_name piece) (codes "expires")

unfoldable pub is_max_age : List ℕ → Bool
is_max_age piece = str_eq_ignore_ascii_case (piece_name piece) (codes "max-age")

-- an attribute says how long the cookie lives
abbrev pub is_lifetime : List ℕ → Bool
is_lifetime piece = is_expires piece || is_max_age piece

-- attributes as they are written behind a cookie
abbrev pub written_attributes : List (List ℕ) → List ℕ
written_attributes attributes = flat_map (λ piece. byte ";" ∷ piece) attributes

-- a cookie with attributes made of its own
abbrev pub with_attributes : (List (List ℕ) → List (List ℕ)) → List (List ℕ) → List ℕ
with_attributes change [] = []
with_attributes change (first ∷ attributes) = first ++ written_attributes (change attributes)

-- ---- cookies of a session, which have no lifetime

abbrev pub session_attributes : List (List ℕ) → List (List ℕ)
session_attributes attributes = filter (λ piece. not (is_lifetime piece)) attributes

unfoldable pub session_cookie : List ℕ → List ℕ
session_cookie value = with_attributes session_attributes (slice_split (λ b. b == byte ";") value)

-- ---- cookies whose lifetime is capped

-- the cap of so many minutes from a moment on, where its date isn't past the year 9999
unfoldable pub cap_of : ℕ → ℕ → Option Cap
cap_of moment minutes =
    option_map (λ date. record { latest = moment + 60 * minutes; seconds = 60 * minutes; date = date }) (date_at (moment + 60 * minutes))

-- a date is read and isn't past the cap
unfoldable pub is_soon : Cap → List ℕ → Bool
is_soon cap value = option_map_or (λ t. nat_le t cap.latest) (parse_secs value) false

abbrev pub are_some_digits : List ℕ → Bool
are_some_digits bs = not (length bs == 0) && list_all is_ascii_digit bs

-- `-` and digits
abbrev pub is_negative : List ℕ → Bool
is_negative [] = false
is_negative (b ∷ bs) = b == byte "-" && are_some_digits bs

-- digits of at most as many seconds as the cap has, or of a time that has passed
unfoldable pub is_short : Cap → List ℕ → Bool
is_short cap value = is_some (decimal cap.seconds value) || is_negative value

-- the attribute with the date of the cap
abbrev pub cap_date : Cap → List ℕ
cap_date cap = codes " expires=" ++ cap.date

abbrev pub cap_age : Cap → List ℕ
cap_age cap = codes " max-age=" ++ decimal_text cap.seconds

unfoldable pub capped_attribute : Cap → List ℕ → List ℕ
capped_attribute cap piece =
    if is_expires piece then (if is_soon cap (piece_value piece) then piece else cap_date cap)
    else if is_max_age piece then (if is_short cap (piece_value piece) then piece else cap_age cap)
    else piece

-- the attributes within the cap, and its date where none says how long the cookie lives
abbrev pub capped_attributes : Cap → List (List ℕ) → List (List ℕ)
capped_attributes cap attributes =
    map (λ piece. capped_attribute cap piece) attributes ++ (if list_any is_lifetime attributes then [] else cap_date cap ∷ [])

unfoldable pub capped_cookie : Cap → List ℕ → List ℕ
capped_cookie cap value = with_attributes (capped_attributes cap) (slice_split (λ b. b == byte ";") value)
