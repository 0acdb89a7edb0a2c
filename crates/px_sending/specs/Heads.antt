-- The head that goes to the next server (RFC 9112, sections 3.2, 6 and 9.6).
use Rattle.std.specs.Prelude.{ℕ, Bool, true, false, ◌&&◌, ◌==◌, if◌then◌else◌, List, [], ◌∷◌, ◌++◌, codes}
use Rattle.std.specs.Fmt.{decimal}
use Rattle.std.specs.List.{list_any}
use Rattle.std.specs.Str.{str_eq_ignore_ascii_case}
use Rattle.px_fields.specs.Names.{has_name}
use Rattle.px_head.specs.Prints.{crlf, request_line, printed_head}
use Rattle.px_fields.specs.declared.fields.Field.{Field}
use Rattle.px_framing.specs.declared.rules.BodyRule.{BodyRule}
use Rattle.px_framing.specs.declared.rules.BodyRule.TheVariants.{Absent, Length, Chunked, ToClose}

-- what the head says
pub record Next : Type 0 where
  pub method : List ℕ
  -- the path for an origin, the whole URL for a parent
  pub target : List ℕ
  -- host and port of the destination
  pub host : List ℕ
  -- whether HTTP/1.0 is spoken where the body allows it
  pub downgrade : Bool
  -- the client's fields that are passed on
  pub fields : List Field
  pub rule : BodyRule

-- a request has a body, if only one of length 0
abbrev pub request_has_body : BodyRule → Bool
request_has_body Absent = false
request_has_body (Length n) = true
request_has_body Chunked = true
request_has_body ToClose = true

-- the field is Expect: 100-continue
abbrev pub asks_continue : Field → Bool
asks_continue f = has_name (codes "Expect") f && str_eq_ignore_ascii_case f.value (codes "100-continue")

-- the client waits for 100 Continue: a request of HTTP/1.1 that has a body and asks for it
abbrev pub expects_continue : ℕ → List Field → BodyRule → Bool
expects_continue minor fields rule = minor == 1 && request_has_body rule && list_any asks_continue fields

-- the minor version: chunks need HTTP/1.1
abbrev pub next_minor : Bool → BodyRule → ℕ
next_minor downgrade Chunked = 1
next_minor downgrade Absent = if downgrade then 0 else 1
next_minor downgrade (Length n) = if downgrade then 0 else 1
next_minor downgrade ToClose = if downgrade then 0 else 1

abbrev pub plain_field : List ℕ → List ℕ → Field
plain_field name value = record { name = name; value = value }

-- the field that says how the body is framed; no request has a body to the close
abbrev pub framing_fields : BodyRule → List Field
framing_fields Absent = []
framing_fields (Length n) = plain_field (codes "Content-Length") (decimal n) ∷ []
framing_fields Chunked = plain_field (codes "Transfer-Encoding") (codes "chunked") ∷ []
framing_fields ToClose = []

-- the field's line with its end
abbrev pub field_line_of : List ℕ → List ℕ → List ℕ
field_line_of name value = (name ++ codes ": " ++ value) ++ crlf

-- Host of the destination, the fields, the framing, and Connection: close
abbrev pub next_fields : Next → List Field
next_fields n = plain_field (codes "Host") n.host ∷ (n.fields ++ (framing_fields n.rule ++ plain_field (codes "Connection") (codes "close") ∷ []))

abbrev pub next_line : Next → List ℕ
next_line n = request_line (record { method = n.method; target = n.target; minor = next_minor n.downgrade n.rule; fields = n.fields })

unfoldable pub next_head : Next → List ℕ
next_head n = printed_head (next_line n) (next_fields n)
