use Rattle.px_pool_ends.proofs.followers.hear_heads.Goals as goal

pub pass_heads-requires-clause-begins : goal.pass_heads-requires-clause-begins
pass_heads-requires-clause-begins c = record { front = c.args.bytes; more = c.args.piece.now; is = c.in-Ok.ensures.ok; searched = c.requires.searched }
