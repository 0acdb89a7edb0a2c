-- The printed form of a head (RFC 9112, sections 3, 4 and 5). Printed lines have no line end; a head ends each with CR LF.
use Rattle.std.specs.Prelude.{ℕ, ◌-◌, List, [], ◌∷◌, ◌++◌, length, take, codes, flat_map}
use Rattle.std.specs.Fmt.{decimal}
use Rattle.px_fields.specs.FieldLines.{field_line}
use Rattle.px_fields.specs.declared.fields.Field.{Field}
use Rattle.px_head.specs.declared.requests.RequestHead.{RequestHead}
use Rattle.px_head.specs.declared.responses.ResponseHead.{ResponseHead}

abbrev pub crlf : List ℕ
crlf = 13 ∷ 10 ∷ []

-- the version HTTP/1 with that minor number
abbrev pub version_text : ℕ → List ℕ
version_text minor = codes "HTTP/1." ++ decimal minor

-- a status in at least three digits
unfoldable pub status_text : ℕ → List ℕ
status_text status = take (3 - length (decimal status)) (codes "000") ++ decimal status

-- the request line: method, target and version
unfoldable pub request_line : RequestHead → List ℕ
request_line head = head.method ++ codes " " ++ head.target ++ codes " " ++ version_text head.minor

-- a space and the reason, and nothing where the reason is empty
abbrev pub reason_part : List ℕ → List ℕ
reason_part [] = []
reason_part (b ∷ bs) = codes " " ++ b ∷ bs

-- the status line: version, status and reason
unfoldable pub status_line : ResponseHead → List ℕ
status_line head = version_text head.minor ++ codes " " ++ status_text head.status ++ reason_part head.reason

-- the lines of the fields, each with its end
unfoldable pub field_lines : List Field → List ℕ
field_lines fields = flat_map (λ f. field_line f ++ crlf) fields

-- the first line, the fields' lines and an empty line
unfoldable pub printed_head : List ℕ → List Field → List ℕ
printed_head first_line fields = first_line ++ crlf ++ field_lines fields ++ crlf
