-- A block has one reading: the grammar is unambiguous.
use Rattle.std.proofs.Common.{◌≡◌, ℕ, List, [], ap, sym, ◌∙◌}
use Rattle.httparse.proofs.GrammarLemmas.{request_unique, response_unique}
use Rattle.px_head.specs.declared.requests.RequestHead.{RequestHead}
use Rattle.px_head.specs.declared.responses.ResponseHead.{ResponseHead}
use Rattle.px_head.specs.Heads.{IsRequest, IsResponse, request_of, response_of}

pub request_is_one : (block : List ℕ) (head other : RequestHead) → IsRequest block head → IsRequest block other → head ≡ other
request_is_one block head other h o = h.parts ∙ ap request_of (request_unique block h.tree o.tree [] [] h.reads o.reads).0 ∙ sym o.parts

pub response_is_one : (block : List ℕ) (head other : ResponseHead) → IsResponse block head → IsResponse block other → head ≡ other
response_is_one block head other h o = h.parts ∙ ap response_of (response_unique block h.tree o.tree [] [] h.reads o.reads).0 ∙ sym o.parts
