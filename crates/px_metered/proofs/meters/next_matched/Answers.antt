use Rattle.std.proofs.Common.{◌∙◌, ◌∷◌, ℕ, ap}
use Rattle.px_metered.specs.Returned.{behind_empty_line}
use Rattle.px_metered.proofs.HeadLemmas.{begins_anew, plain_byte}
use Rattle.px_metered.proofs.meters.next_matched.Goals as goal

pub returns-then-byte-clause-ends : goal.returns-then-byte-clause-ends
returns-then-byte-clause-ends c = λ more. begins_anew c.args.matched c.args.byte more c.requires c.if-byte-matched.false ∙ ap (λ (b : ℕ). behind_empty_line (b ∷ more)) c.if-byte.true

pub returns-else-byte-clause-ends : goal.returns-else-byte-clause-ends
returns-else-byte-clause-ends c = λ more. begins_anew c.args.matched c.args.byte more c.requires c.if-byte-matched.false ∙ plain_byte c.args.byte more c.if-byte.false
