-- A front of one byte more than the limit tells the content.
use Rattle.std.proofs.Common.{◌≡◌, ℕ, ◌+◌, List, take, Some, arith}
use Rattle.std.proofs.lemmas.Grind.{common_steps}
use Rattle.px_base.specs.Contents.{content_of}

pub front_is_enough : (limit : ℕ) (bytes : List ℕ) → content_of limit (Some (take (limit + 1) bytes)) ≡ content_of limit (Some bytes)
front_is_enough limit bytes = grind (arith, common_steps)
