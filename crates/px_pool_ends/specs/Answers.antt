-- What bytes are one whole answer, and nothing more.
use Rattle.std.specs.Prelude.{◌≡◌, ◌≢◌, ◌↔◌, ℕ, ◌+◌, ◌-◌, ◌≤◌, Bool, true, false, ◌==◌, List, [], ◌++◌, length, codes, Ok}
use Rattle.px_head.specs.declared.TheConstants.{HEAD_LIMIT}
use Rattle.px_head.specs.declared.responses.ResponseHead.{ResponseHead}
use Rattle.px_head.specs.Blocks.{head_end}
use Rattle.px_head.specs.declared.blocks.HeadEnd.TheVariants.{NotYet}
use Rattle.px_head.specs.Heads.{IsResponse, is_interim}
use Rattle.px_head.specs.Searches.{Searched}
use Rattle.px_fields.specs.Names.{is_connection_word}
use Rattle.px_framing.specs.Body.{Body, Part}
use Rattle.px_framing.specs.Rules.{response_rule}
use Rattle.px_framing.specs.Reading as reading
use Rattle.px_framing.specs.Reading.{goes_on, stage_state}
use Rattle.px_framing.specs.declared.rules.BodyRule.{BodyRule}
use Rattle.px_framing.specs.declared.rules.BodyRule.TheVariants.{ToClose}
use Rattle.px_framing.specs.declared.places.State.TheVariants.{More, Whole}
use Rattle.px_pool_ends.specs.declared.followers.Following.{Following}
use Rattle.px_pool_ends.specs.declared.followers.Following.TheVariants as following
use Rattle.px_pool_ends.specs.declared.judges.Judged.{Judged}
use Rattle.px_pool_ends.specs.declared.judges.Judged.TheVariants as judged

-- the block is an interim head (RFC 9110, section 15.2)
pub record IsInterim (block : List ℕ) : Type 0 where
  pub head : ResponseHead
  pub reads : IsResponse block head
  pub within : length block ≤ HEAD_LIMIT
  pub interim : is_interim head.status ≡ true

-- The block is a final head of HTTP/1.1 after which the link stays one of HTTP (RFC 9112, section 9.3, and RFC 9110, section
-- 15.2.2), and by that rule the body is read. The rule is that for any method but HEAD.
pub record IsFinalHead (block : List ℕ) (rule : BodyRule) : Type 0 where
  pub head : ResponseHead
  pub reads : IsResponse block head
  pub within : length block ≤ HEAD_LIMIT
  pub final : is_interim head.status ≡ false
  pub version : head.minor ≡ 1
  pub same_protocol : (head.status == 101) ≡ false
  pub stays : is_connection_word (codes "close") head.fields ≡ false
  pub rule_is : response_rule head [] ≡ Ok rule
  pub ends : rule ≢ ToClose

-- the bytes are a whole body by that rule, and nothing more
pub record IsWholeBody (rule : BodyRule) (bytes : List ℕ) : Type 0 where
  pub part : Part
  pub is_body : Body rule bytes part
  pub whole : part.state ≡ Whole
  pub no_more : part.used ≡ length bytes

-- the bytes are up to so many heads before the final one, a final head, a whole body whose end it says, and nothing more
pub data IsAnswer : ℕ → List ℕ → Type 0 where
  interim : (count : ℕ) (block rest : List ℕ) → IsInterim block → IsAnswer count rest → IsAnswer (count + 1) (block ++ rest)
  final : (count : ℕ) (block rest : List ℕ) (rule : BodyRule) → IsFinalHead block rule → IsWholeBody rule rest → IsAnswer count (block ++ rest)

-- what bytes are read to is a whole body, of all the bytes
abbrev pub EndsWhole : Part → List ℕ → Type 0
EndsWhole part bytes = (part.state ≡ Whole) × (part.used ≡ length bytes)

-- what the bytes to come must be, so that the whole is an answer
abbrev pub CompletesAnswer : Following → List ℕ → Type 0
CompletesAnswer (following.Heads count bytes search) more = IsAnswer (8 - count) (bytes ++ more)
CompletesAnswer (following.Body reader) more = EndsWhole (goes_on reader more) more
CompletesAnswer following.Answered more = more ≡ []
CompletesAnswer following.Never more = ⊥
CompletesAnswer following.Lost more = ⊥

-- memory was wanting
abbrev pub is_lost : Following → Bool
is_lost (following.Heads count bytes search) = false
is_lost (following.Body reader) = false
is_lost following.Answered = false
is_lost following.Never = false
is_lost following.Lost = true

-- one whole answer was heard, and nothing more
abbrev pub is_answered : Following → Bool
is_answered (following.Heads count bytes search) = false
is_answered (following.Body reader) = false
is_answered following.Answered = true
is_answered following.Never = false
is_answered following.Lost = false

-- how far an answer was heard: these bytes and some that follow are an answer exactly where those are due
abbrev pub AnswerStands : List ℕ → Following → Type 0
AnswerStands heard following = is_lost following ≡ false → (more : List ℕ) → IsAnswer 8 (heard ++ more) ↔ CompletesAnswer following more

-- of heads and of a body, more bytes are due
abbrev pub IsFollowingSettled : Following → Type 0
IsFollowingSettled (following.Heads count bytes search) = (count ≤ 8) × (head_end HEAD_LIMIT bytes ≡ NotYet) × Searched HEAD_LIMIT bytes search
IsFollowingSettled (following.Body reader) = (stage_state reader.stage ≡ More) × reading.IsSettled reader
IsFollowingSettled following.Answered = Unit {0}
IsFollowingSettled following.Never = Unit {0}
IsFollowingSettled following.Lost = Unit {0}

-- the answer is those bytes exactly where what is due then is due
abbrev pub Leaves : Following → (List ℕ → Type 0) → Type 0
Leaves following all = is_lost following ≡ false → (more : List ℕ) → all more ↔ CompletesAnswer following more

-- what a head is
abbrev pub Judges : List ℕ → Judged → Type 0
Judges block judged.Interim = IsInterim block
Judges block (judged.Final rule) = IsFinalHead block rule
Judges block judged.Never = (IsInterim block → ⊥) × ((rule : BodyRule) → IsFinalHead block rule → ⊥)
Judges block judged.Lost = Unit {0}

-- the same of a head that was read from a block
abbrev pub JudgedSays : ResponseHead → Judged → Type 0
JudgedSays head judged.Interim = is_interim head.status ≡ true
JudgedSays head (judged.Final rule) =
    (is_interim head.status ≡ false) × (head.minor ≡ 1) × ((head.status == 101) ≡ false) × (is_connection_word (codes "close") head.fields ≡ false) × (response_rule head [] ≡ Ok rule) × (rule ≢ ToClose)
JudgedSays head judged.Never =
    (is_interim head.status ≡ false)
    × (head.minor ≡ 1 → (head.status == 101) ≡ false → is_connection_word (codes "close") head.fields ≡ false → (rule : BodyRule) → response_rule head [] ≡ Ok rule → rule ≢ ToClose → ⊥)
JudgedSays head judged.Lost = Unit {0}
