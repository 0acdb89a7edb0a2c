-- A line of the access log: the common log format, and behind it how the exchange ended and a field that is kept free.
use Rattle.std.specs.Prelude.{◌≡◌, ℕ, Bool, ◌/◌, ◌%◌, ◌==◌, ◌||◌, nat_lt, List, [], ◌∷◌, ◌++◌, length, take, drop, flat_map, slice_range, decimal, codes, Option, None, Some, if◌then◌else◌}
use Rattle.std.specs.Char.{digit_char}
use Rattle.std.specs.List.{before_first, prefix_len}
use Rattle.httpdate.specs.Text.{four_digits, month_name, time_of_day, two_digits}
use Rattle.httpdate.specs.declared.parts.Parts.{Parts}
use Rattle.px_head.specs.Prints.{status_text}
use Rattle.px_headers.specs.Dates.{date_on, end_of_dates}
use Rattle.px_templates.specs.Pages.{page_name}
use Rattle.px_notes.specs.declared.endings.Ending.{Ending}
use Rattle.px_notes.specs.declared.endings.Ending.TheVariants as ending
use Rattle.px_log_lines.specs.declared.requests.TheConstants.{REQUEST_SHOWN}
use Rattle.px_log_lines.specs.declared.texts.TheConstants.{LINE_SHOWN}

-- a byte as a line shows it: printable ASCII but `"` and `\` as it is, any other as `\x` and two hexadecimal digits
unfoldable pub shown_byte : ℕ → List ℕ
shown_byte b =
    if nat_lt b 32 || (nat_lt 126 b || (b == 34 || b == 92)) then 92 ∷ 120 ∷ digit_char (b / 16) ∷ digit_char (b % 16) ∷ [] else b ∷ []

-- bytes as a line shows them, so that nothing in them breaks the line or a terminal
unfoldable pub shown_bytes : List ℕ → List ℕ
shown_bytes bytes = flat_map shown_byte bytes

-- CR and LF
abbrev pub is_line_end : ℕ → Bool
is_line_end b = b == 13 || b == 10

-- the first line of a head that isn't empty, without its end (RFC 9112, section 2.2); nothing where there is none
unfoldable pub asked_line : List ℕ → List ℕ
asked_line head = before_first is_line_end (drop (prefix_len is_line_end head) head)

-- the front of a request line, or `-` where there is none
unfoldable pub shown_line : List ℕ → List ℕ
shown_line line = if length line == 0 then codes "-" else shown_bytes (take REQUEST_SHOWN line)

-- what was asked, as the head says it
abbrev pub shown_request : List ℕ → List ℕ
shown_request head = shown_line (asked_line head)

-- `06/Nov/1994:08:49:37 +0000`
abbrev pub log_date : Parts → List ℕ
log_date p =
    two_digits p.day ++ codes "/" ++ month_name p.mon ++ codes "/" ++ four_digits p.year ++ codes ":" ++ time_of_day p ++ codes " +0000"

-- a moment in seconds since 1970, or `-` past the year 9999
unfoldable pub shown_moment : ℕ → List ℕ
shown_moment moment = if nat_lt moment end_of_dates then log_date (date_on (moment / 86400) (moment % 86400)) else codes "-"

-- the parts of `Sun, 06 Nov 1994 08:49:37 GMT` in the order of a line of the log
abbrev pub reordered : List ℕ → List ℕ
reordered date =
    slice_range date 5 7 ++ codes "/" ++ slice_range date 8 11 ++ codes "/" ++ slice_range date 12 16 ++ codes ":"
    ++ slice_range date 17 25 ++ codes " +0000"

-- a status in three digits (RFC 9112, section 4), or `-` where none was returned
abbrev pub shown_status : Option ℕ → List ℕ
shown_status None = codes "-"
shown_status (Some status) = status_text status

-- how an exchange ended: with which page, or with what else
abbrev pub ending_name : Ending → List ℕ
ending_name (ending.Page page) = page_name page
ending_name ending.Image = codes "image"
ending_name ending.Empty = codes "empty"
ending_name ending.Redirect = codes "redirect"
ending_name ending.Inside = codes "inside"
ending_name ending.Passed = codes "passed"
ending_name ending.Filtered = codes "filtered"
ending_name ending.Bodiless = codes "bodiless"
ending_name ending.CutFront = codes "cut"
ending_name ending.Tunnel = codes "tunnel"
ending_name ending.Broken = codes "broken"

-- CLIENT - - [MOMENT]
unfoldable pub client_part : List ℕ → ℕ → List ℕ
client_part client moment = shown_bytes client ++ codes " - - [" ++ shown_moment moment ++ codes "]"

-- "REQUEST", between spaces
unfoldable pub request_part : List ℕ → List ℕ
request_part head = codes " \"" ++ shown_request head ++ codes "\" "

-- STATUS BODY
unfoldable pub status_part : Option ℕ → ℕ → List ℕ
status_part status body = shown_status status ++ codes " " ++ decimal body

-- "ENDING" "-", behind a space; the last field is for the reason of a block
unfoldable pub ending_part : Ending → List ℕ
ending_part e = codes " \"" ++ ending_name e ++ codes "\" \"-\""

-- CLIENT - - [MOMENT] "REQUEST" STATUS BODY "ENDING" "-"
abbrev pub log_text : List ℕ → ℕ → List ℕ → Option ℕ → ℕ → Ending → List ℕ
log_text client moment head status body e = client_part client moment ++ request_part head ++ status_part status body ++ ending_part e

-- the line with its end, of which so much is shown
unfoldable pub log_line : List ℕ → ℕ → List ℕ → Option ℕ → ℕ → Ending → List ℕ
log_line client moment head status body e = take LINE_SHOWN (log_text client moment head status body e) ++ 10 ∷ []

-- bytes were added to a line's text, or as many as are shown
pub record Keeps (old new bytes : List ℕ) : Type 0 where
  pub shown : take LINE_SHOWN new ≡ take LINE_SHOWN (old ++ bytes)
