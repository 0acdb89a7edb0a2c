use Rattle.std.proofs.Common.{◌∙◌, sym}
use Rattle.std.proofs.lemmas.Bool.{eqb-false, eqb-true}
use Rattle.px_host_lists.proofs.WordLemmas.{used-comment, used-none, used-some}
use Rattle.px_host_lists.proofs.words.next_word.Goals as goal

pub returns-then-is_empty-clause-words : goal.returns-then-is_empty-clause-words
returns-then-is_empty-clause-words c = used-none c.args.text.now c.without_space-rest.result.now c.without_space-rest.ensures.value (eqb-true _ 0 (sym c.is_empty.ensures ∙ c.if-is_empty.true))

pub returns-then-begins_comment-clause-words : goal.returns-then-begins_comment-clause-words
returns-then-begins_comment-clause-words c = used-comment c.args.text.now c.without_space-rest.result.now c.without_space-rest.ensures.value (sym c.begins_comment.ensures ∙ c.if-begins_comment.true)

pub returns-clause-words : goal.returns-clause-words
returns-clause-words c =
    rw (c.split_at.ensures.front, c.split_at.ensures.back)
    (used-some c.args.text.now c.without_space-rest.result.now c.word_end.result c.without_space-rest.ensures.value (eqb-false _ 0 (sym c.is_empty.ensures ∙ c.if-is_empty.false))
    (sym c.begins_comment.ensures ∙ c.if-begins_comment.false) c.word_end.ensures.end)
