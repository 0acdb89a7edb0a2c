use Rattle.px_commands.proofs.OriginLemmas.{word_none, word_other}
use Rattle.px_commands.proofs.origins.read_word.Goals as goal

pub returns-in_err-behind-clause-none : goal.returns-in_err-behind-clause-none
returns-in_err-behind-clause-none c e rest h = word_none c.args.word.now c.args.text.now rest c.in_err-behind.ensures.value h

pub returns-else-first-eq10-clause-none : goal.returns-else-first-eq10-clause-none
returns-else-first-eq10-clause-none c e rest h = word_other c.args.word.now c.args.text.now rest c.in-Some.rest.now c.in-Some.first.now (rw c.in-Some.ensures.cases.0 at c.in_ok-behind.ensures.value) c.if-first-eq10.false h
