-- What the bytes read as that were seen where a request begins.
use Rattle.std.specs.Prelude.{◌≡◌, ℕ, List, Ok, Err}
use Rattle.px_head.specs.Heads.{IsRequest, IsNoRequest, HasManyRequestFields}
use Rattle.px_head.specs.declared.requests.RequestHead.{RequestHead}
use Rattle.px_judging.specs.Requests.{body_read, target_read}
use Rattle.px_judging.specs.declared.readings.HeadSeen.{HeadSeen}
use Rattle.px_judging.specs.declared.readings.HeadSeen.TheVariants as seen
use Rattle.px_judging.specs.declared.readings.HeadReading.{HeadReading}
use Rattle.px_judging.specs.declared.readings.HeadReading.TheVariants.{Overlong, Malformed, TooManyFields, NoTarget, Request}

-- a head reads as itself, with what its target asks for and the rule of its body
abbrev pub HeadReads : RequestHead → HeadReading → Type 0
HeadReads head Overlong = ⊥
HeadReads head Malformed = ⊥
HeadReads head TooManyFields = ⊥
HeadReads head (NoTarget h fault) = (h ≡ head) × (target_read head ≡ Err fault)
HeadReads head (Request h url rule) = (h ≡ head) × (target_read head ≡ Ok url) × (rule ≡ body_read head)

-- what a block reads as
abbrev pub BlockReads : List ℕ → HeadReading → Type 0
BlockReads block Overlong = ⊥
BlockReads block Malformed = IsNoRequest block
BlockReads block TooManyFields = HasManyRequestFields block
BlockReads block (NoTarget head fault) = IsRequest block head × (target_read head ≡ Err fault)
BlockReads block (Request head url rule) = IsRequest block head × (target_read head ≡ Ok url) × (rule ≡ body_read head)

-- what was seen reads as
abbrev pub ReadsAs : HeadSeen → HeadReading → Type 0
ReadsAs (seen.Block block) r = BlockReads block r
ReadsAs seen.Over r = r ≡ Overlong
