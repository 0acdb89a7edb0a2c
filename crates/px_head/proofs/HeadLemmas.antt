-- What a parser found in a block is the head that the block is.
use Rattle.std.proofs.Common.{◌≡◌, ℕ, ◌≤◌, List, [], ◌∷◌, length, map, take, drop, refl, sym, ap, ◌∙◌, subst, arith}
use Rattle.std.proofs.lemmas.List.{drop_all, length-map, length-take}
use Rattle.httparse.specs.Grammar as grammar
use Rattle.httparse.specs.Spans.{header_bytes, name_and_value, span_bytes, IsRequestOf, IsResponseOf, AreFieldsAt}
use Rattle.httparse.specs.declared.spans.HeaderSpan.{HeaderSpan}
use Rattle.httparse.specs.declared.spans.RequestSpans.{RequestSpans}
use Rattle.httparse.specs.declared.spans.ResponseSpans.{ResponseSpans}
use Rattle.httparse.proofs.GrammarLemmas.{request_unique, response_unique}
use Rattle.px_head.specs.Fields.{field_at, field_of}
use Rattle.px_head.specs.Heads.{request_of, response_of, IsRequest, IsResponse}
use Rattle.px_fields.specs.declared.fields.Field.{Field}
use Rattle.px_head.specs.declared.requests.RequestHead.{RequestHead}
use Rattle.px_head.specs.declared.responses.ResponseHead.{ResponseHead}

map-after : {X Y Z : Type 0} (f : X → Y) (g : Y → Z) (xs : List X) → map g (map f xs) ≡ map (λ x. g (f x)) xs
map-after f g [] = refl
map-after f g (x ∷ xs) = ap (λ (ys : List _). g (f x) ∷ ys) (map-after f g xs)

field-of-pair : (List ℕ × List ℕ) → Field
field-of-pair p = record { name = p.0; value = p.1 }

-- the fields that spans cover are those of the grammar
fields-at : (block : List ℕ) (headers : List HeaderSpan) (count : ℕ) (fields : List grammar.Field) → AreFieldsAt block headers count fields
    → map (field_at block) (take count headers) ≡ map field_of fields
unfolding field-of-pair
fields-at block headers count fields e =
    sym (map-after (header_bytes block) field-of-pair (take count headers)) ∙ ap (map field-of-pair) e ∙ map-after name_and_value field-of-pair fields

count-of : (block : List ℕ) (headers : List HeaderSpan) (count : ℕ) (fields : List grammar.Field) → AreFieldsAt block headers count fields → count ≤ length headers → length fields ≡ count
count-of block headers count fields e fits =
    let same = simp (length-map, length-take) at (ap length e) in
    omega (arith, same)

-- a head of the grammar, found in the whole block
pub record FindsRequest (block : List ℕ) (headers : List HeaderSpan) (r : RequestSpans) : Type 0 where
  pub tree : grammar.RequestHead
  pub reads : grammar.ReadsRequest block tree []
  pub count : length tree.fields ≡ r.headers
  pub parts : request_of tree ≡ record { method = span_bytes block r.method; target = span_bytes block r.path; minor = r.version; fields = map (field_at block) (take r.headers headers) }

pub finds-request : (block : List ℕ) (headers : List HeaderSpan) (r : RequestSpans) → IsRequestOf block headers r → r.len ≡ length block → r.headers ≤ length headers → FindsRequest block headers r
finds-request block headers r of whole fits =
    let at = of.1 in
    let gone : drop r.len block ≡ [] = drop_all r.len block (omega arith) in
    record {
      tree = of.0;
      reads = subst (λ (rest : List ℕ). grammar.ReadsRequest block of.0 rest) gone at.reads;
      count = count-of block headers r.headers of.0.fields at.fields fits;
      parts = λ i. record { method = sym at.method i; target = sym at.path i; minor = sym at.version i; fields = sym (fields-at block headers r.headers of.0.fields at.fields) i };
    }

-- a block that is a head of more fields is none of few
pub one-request-count : (block : List ℕ) (h k : grammar.RequestHead) → grammar.ReadsRequest block h [] → grammar.ReadsRequest block k [] → length h.fields ≡ length k.fields
one-request-count block h k a b = ap (λ (t : grammar.RequestHead). length t.fields) (request_unique block h k [] [] a b).0

-- the head that a block is, is the one that is found in it
pub one-request : (block : List ℕ) (head : RequestHead) (h : grammar.RequestHead) → IsRequest block head → grammar.ReadsRequest block h [] → head ≡ request_of h
one-request block head h is reads = is.parts ∙ ap request_of (request_unique block is.tree h [] [] is.reads reads).0

-- the same for a response
pub record FindsResponse (block : List ℕ) (headers : List HeaderSpan) (r : ResponseSpans) : Type 0 where
  pub tree : grammar.ResponseHead
  pub reads : grammar.ReadsResponse block tree []
  pub count : length tree.fields ≡ r.headers
  pub parts : response_of tree ≡ record { minor = r.version; status = r.code; reason = span_bytes block r.reason; fields = map (field_at block) (take r.headers headers) }

pub finds-response : (block : List ℕ) (headers : List HeaderSpan) (r : ResponseSpans) → IsResponseOf block headers r → r.len ≡ length block → r.headers ≤ length headers → FindsResponse block headers r
finds-response block headers r of whole fits =
    let at = of.1 in
    let gone : drop r.len block ≡ [] = drop_all r.len block (omega arith) in
    record {
      tree = of.0;
      reads = subst (λ (rest : List ℕ). grammar.ReadsResponse block of.0 rest) gone at.reads;
      count = count-of block headers r.headers of.0.fields at.fields fits;
      parts = λ i. record { minor = sym at.version i; status = sym at.code i; reason = sym at.reason i; fields = sym (fields-at block headers r.headers of.0.fields at.fields) i };
    }

pub one-response-count : (block : List ℕ) (h k : grammar.ResponseHead) → grammar.ReadsResponse block h [] → grammar.ReadsResponse block k [] → length h.fields ≡ length k.fields
one-response-count block h k a b = ap (λ (t : grammar.ResponseHead). length t.fields) (response_unique block h k [] [] a b).0

-- the head that a block is, is the one that is found in it
pub one-response : (block : List ℕ) (head : ResponseHead) (h : grammar.ResponseHead) → IsResponse block head → grammar.ReadsResponse block h [] → head ≡ response_of h
one-response block head h is reads = is.parts ∙ ap response_of (response_unique block is.tree h [] [] is.reads reads).0
