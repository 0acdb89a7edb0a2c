-- What bytes are one whole answer to a request, and nothing more.
use Rattle.std.specs.Prelude.{◌≡◌, ℕ, ◌+◌, ◌≤◌, false, ◌==◌, List, ◌++◌, length, Ok}
use Rattle.px_head.specs.declared.TheConstants.{HEAD_LIMIT}
use Rattle.px_head.specs.declared.responses.ResponseHead.{ResponseHead}
use Rattle.px_head.specs.Heads.{IsResponse, is_interim}
use Rattle.px_framing.specs.Rules.{response_rule}
use Rattle.px_framing.specs.declared.rules.BodyRule.{BodyRule}
use Rattle.px_pool_ends.specs.Answers.{IsInterim, IsWholeBody}

-- the block is the final head of an answer to a request of that method, and by that rule its body is read (RFC 9112, section 6.3)
pub record IsFinalTo (method block : List ℕ) (rule : BodyRule) : Type 0 where
  pub head : ResponseHead
  pub reads : IsResponse block head
  pub within : length block ≤ HEAD_LIMIT
  pub final : is_interim head.status ≡ false
  pub same_protocol : (head.status == 101) ≡ false
  pub rule_is : response_rule head method ≡ Ok rule

-- The bytes are up to so many heads before the final one, a final head, a whole body, and nothing more. A body that its close
-- ends is never whole before that, and is none of these.
pub data IsAnswerTo (method : List ℕ) : ℕ → List ℕ → Type 0 where
  interim : (count : ℕ) (block rest : List ℕ) → IsInterim block → IsAnswerTo method count rest → IsAnswerTo method (count + 1) (block ++ rest)
  final : (count : ℕ) (block rest : List ℕ) (rule : BodyRule) → IsFinalTo method block rule → IsWholeBody rule rest → IsAnswerTo method count (block ++ rest)
