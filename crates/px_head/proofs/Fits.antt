-- A head has no more fields than its bytes have line feeds.
use Rattle.std.proofs.Common.{◌≡◌, ℕ, ◌+◌, ◌≤◌, ◌==◌, cond, List, [], ◌∷◌, ◌++◌, length, count_by, arith}
use Rattle.std.proofs.lemmas.List.Sums.{sum_by-append}
use Rattle.std.specs.List.{flat_map}
use Rattle.httparse.specs.Grammar.{LineEnd, crlf, lf, print_end, Field, print_field, print_section, print_blank, print_version, print_reason, RequestHead, print_request, ReadsRequest, ResponseHead, print_response, ReadsResponse}

abbrev pub feeds : List ℕ → ℕ
feeds bytes = count_by (λ b. b == 10) bytes

feeds-append : (xs ys : List ℕ) → feeds (xs ++ ys) ≡ feeds xs + feeds ys
feeds-append xs ys = sum_by-append (λ b. cond (b == 10) 1 0) xs ys

feeds-end : (e : LineEnd) → 1 ≤ feeds (print_end e)
feeds-end crlf = omega arith
feeds-end lf = omega arith

feeds-field : (f : Field) → 1 ≤ feeds (print_field f)
feeds-field f = omega (arith, feeds-append (f.name ++ 58 ∷ f.raw) (print_end f.end), feeds-end f.end)

feeds-fields : (fields : List Field) → length fields ≤ feeds (flat_map print_field fields)
feeds-fields [] = omega arith
feeds-fields (f ∷ fields) = omega (arith, feeds-append (print_field f) (flat_map print_field fields), feeds-field f, feeds-fields fields)

-- behind any bytes, a section has a line feed for each field
section-fits : (front : List ℕ) (fields : List Field) (last : LineEnd) → length fields ≤ feeds ((front ++ print_section fields last) ++ [])
section-fits front fields last =
    omega (arith, feeds-append (front ++ print_section fields last) [], feeds-append front (print_section fields last), feeds-append (flat_map print_field fields) (print_end last), feeds-fields fields)

pub request-fits : (block : List ℕ) (h : RequestHead) → ReadsRequest block h [] → length h.fields ≤ feeds block
unfolding print_request
request-fits block h reads =
    rw reads.1 (section-fits (print_blank h.blank ++ h.method ++ 32 ∷ h.target ++ 32 ∷ print_version h.minor ++ print_end h.line_end) h.fields h.last)

pub response-fits : (block : List ℕ) (h : ResponseHead) → ReadsResponse block h [] → length h.fields ≤ feeds block
unfolding print_response
response-fits block h reads =
    rw reads.1 (section-fits (print_blank h.blank ++ print_version h.minor ++ 32 ∷ h.digits ++ print_reason h.reason ++ print_end h.line_end) h.fields h.last)
