-- What a head block reads as. The grammar is `httparse`'s, in its default configuration.
use Rattle.std.specs.Prelude.{◌≡◌, ℕ, Bool, not, ◌&&◌, ◌==◌, nat_le, ◌<◌, ◌≤◌, List, [], length, map}
use Rattle.httparse.specs.Grammar as grammar
use Rattle.px_head.specs.Fields.{field_of}
use Rattle.px_head.specs.declared.TheConstants.{FIELD_LIMIT}
use Rattle.px_head.specs.declared.requests.RequestHead.{RequestHead}
use Rattle.px_head.specs.declared.responses.ResponseHead.{ResponseHead}

-- the parts of a request head
abbrev pub request_of : grammar.RequestHead → RequestHead
request_of h = record { method = h.method; target = h.target; minor = h.minor; fields = map field_of h.fields }

-- the block is one whole request head of at most as many fields as are read, with those parts
pub record IsRequest (block : List ℕ) (head : RequestHead) : Type 0 where
  pub tree : grammar.RequestHead
  pub reads : grammar.ReadsRequest block tree []
  pub few : length tree.fields ≤ FIELD_LIMIT
  pub parts : head ≡ request_of tree

-- the block is no whole request head
abbrev pub IsNoRequest : List ℕ → Type 0
IsNoRequest block = (h : grammar.RequestHead) → ¬ (grammar.ReadsRequest block h [])

-- the block is one whole request head of more fields than are read
abbrev pub HasManyRequestFields : List ℕ → Type 0
HasManyRequestFields block = (h : grammar.RequestHead) × grammar.ReadsRequest block h [] × (FIELD_LIMIT < length h.fields)

-- the parts of a response head
abbrev pub response_of : grammar.ResponseHead → ResponseHead
response_of h = record {
  minor = h.minor;
  status = grammar.status_code h;
  reason = grammar.reason_phrase h.reason;
  fields = map field_of h.fields;
}

-- the block is one whole response head of at most as many fields as are read, with those parts
pub record IsResponse (block : List ℕ) (head : ResponseHead) : Type 0 where
  pub tree : grammar.ResponseHead
  pub reads : grammar.ReadsResponse block tree []
  pub few : length tree.fields ≤ FIELD_LIMIT
  pub parts : head ≡ response_of tree

-- the block is no whole response head
abbrev pub IsNoResponse : List ℕ → Type 0
IsNoResponse block = (h : grammar.ResponseHead) → ¬ (grammar.ReadsResponse block h [])

-- the block is one whole response head of more fields than are read
abbrev pub HasManyResponseFields : List ℕ → Type 0
HasManyResponseFields block = (h : grammar.ResponseHead) × grammar.ReadsResponse block h [] × (FIELD_LIMIT < length h.fields)

-- a head of this status comes before the answer's own: 1xx but 101, which changes the protocol (RFC 9110, section 15.2)
abbrev pub is_interim : ℕ → Bool
is_interim status = nat_le 100 status && nat_le status 199 && not (status == 101)
