use Rattle.std.proofs.Common.{refl, sym, ◌∙◌, length, Some, None}
use Rattle.px_pumps.proofs.HeadLemmas.{block_shown, read_only, not_read, shown_interim, shown_final}
use Rattle.px_pumps.proofs.heads.read_block.Goals as goal

pub returns-then-is_interim-clause-shows : goal.returns-then-is_interim-clause-shows
returns-then-is_interim-clause-shows c =
    shown_interim c.args.method.now c.args.block.now c.in-Ok.head (length c.args.block.now) (sym c.is_interim.ensures ∙ c.if-is_interim.true)
    (block_shown c.args.method.now c.args.block.now (Some c.in-Ok.head) c.in-Ok.ensures.head (λ other h. read_only _ c.in-Ok.head other refl (c.in-Ok.ensures.read other h)))

pub returns-else-is_interim-clause-shows : goal.returns-else-is_interim-clause-shows
returns-else-is_interim-clause-shows c =
    shown_final c.args.method.now c.args.block.now c.in-Ok.head c.read_final.result (sym c.is_interim.ensures ∙ c.if-is_interim.false) c.read_final.ensures.kind c.read_final.ensures.seen
    (block_shown c.args.method.now c.args.block.now (Some c.in-Ok.head) c.in-Ok.ensures.head (λ other h. read_only _ c.in-Ok.head other refl (c.in-Ok.ensures.read other h)))

pub returns-in-Err-Malformed-clause-shows : goal.returns-in-Err-Malformed-clause-shows
returns-in-Err-Malformed-clause-shows c =
    block_shown c.args.method.now c.args.block.now None
    (λ other h. not_read _ _ other refl (λ e. cc) (c.in-Err-Malformed.ensures.read other h))
    (λ other h. absurd (not_read _ _ other refl (λ e. cc) (c.in-Err-Malformed.ensures.read other h)))

pub returns-in-Err-TooManyFields-clause-shows : goal.returns-in-Err-TooManyFields-clause-shows
returns-in-Err-TooManyFields-clause-shows c =
    block_shown c.args.method.now c.args.block.now None
    (λ other h. not_read _ _ other refl (λ e. cc) (c.in-Err-TooManyFields.ensures.read other h))
    (λ other h. absurd (not_read _ _ other refl (λ e. cc) (c.in-Err-TooManyFields.ensures.read other h)))
