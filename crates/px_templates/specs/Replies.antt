-- What is returned in place of an origin's answer: a head and a body.
use Rattle.std.specs.Prelude.{ℕ, Bool, List, [], ◌∷◌, ◌++◌, length, codes, if◌then◌else◌}
use Rattle.std.specs.Fmt.{decimal}
use Rattle.px_templates.specs.declared.replies.Local.{Local}
use Rattle.px_templates.specs.declared.replies.Local.TheVariants as kind
use Rattle.px_templates.specs.Pages.{page_status}

abbrev pub reply_crlf : List ℕ
reply_crlf = 13 ∷ 10 ∷ []

abbrev pub reply_field : List ℕ → List ℕ → List ℕ
reply_field name value = name ++ codes ": " ++ value ++ reply_crlf

abbrev pub reply_status_line : List ℕ → List ℕ
reply_status_line status = codes "HTTP/1.1 " ++ status ++ reply_crlf

-- the status and its phrase
abbrev pub status_of : Local → List ℕ
status_of (kind.Page page) = page_status page
status_of kind.Image = codes "403 Forbidden"
status_of (kind.Empty ok) = if ok then codes "200 OK" else codes "403 Forbidden"
status_of (kind.Redirect target) = codes "302 Found"
status_of (kind.Inside found) = if found then codes "200 OK" else codes "404 Not Found"

-- the field behind the status line: the type of the body, or where to go instead
abbrev pub first_name : Local → List ℕ
first_name (kind.Page page) = codes "Content-Type"
first_name kind.Image = codes "Content-Type"
first_name (kind.Empty ok) = codes "Content-Type"
first_name (kind.Redirect target) = codes "Location"
first_name (kind.Inside found) = codes "Content-Type"

abbrev pub first_value : Local → List ℕ
first_value (kind.Page page) = codes "text/html"
first_value kind.Image = codes "image/gif"
first_value (kind.Empty ok) = codes "text/html"
first_value (kind.Redirect target) = target
first_value (kind.Inside found) = codes "text/plain"

-- the body: the page or the image that is given, a space, or nothing
abbrev pub reply_body : Local → List ℕ → List ℕ
reply_body (kind.Page page) body = body
reply_body kind.Image body = body
reply_body (kind.Empty ok) body = codes " "
reply_body (kind.Redirect target) body = []
reply_body (kind.Inside found) body = body

abbrev pub close_word : Bool → List ℕ
close_word close = if close then codes "close" else codes "keep-alive"

-- the head of a reply with a body of that length
unfoldable pub head_of : Local → ℕ → Bool → List ℕ
head_of kind n close =
    reply_status_line (status_of kind) ++ reply_field (first_name kind) (first_value kind) ++ reply_field (codes "Content-Length") (decimal n)
    ++ reply_field (codes "Cache-Control") (codes "no-cache") ++ reply_field (codes "Connection") (close_word close) ++ reply_crlf

-- the reply; where it has no body, the fields stay
unfoldable pub reply_of : Local → List ℕ → Bool → Bool → List ℕ
reply_of kind body close bodiless =
    head_of kind (length (reply_body kind body)) close ++ (if bodiless then [] else reply_body kind body)
