use Rattle.std.proofs.Common.{◌≡◌, ℕ, ◌∙◌, sym, [], List, length, arith, ◌<◌, refl}
use Rattle.std.proofs.lemmas.Grind.{common_steps}
use Rattle.px_actions.specs.Braces.{words}
use Rattle.px_actions.proofs.BraceLemmas.{words-trim_front, words-split}
use Rattle.px_actions.proofs.braces.split_word.Goals as goal

-- a text of white space alone has no words
words-blank : (text front : List ℕ) → front ≡ [] → words front ≡ words text → words text ≡ []
unfolding words
words-blank text front none same = sym same ∙ rw none refl

pub returns-then-is_empty-clause-none : goal.returns-then-is_empty-clause-none
returns-then-is_empty-clause-none c =
    let none : c.without_front-text.result.now ≡ [] = grind (arith, common_steps) in
    words-blank c.args.text.now c.without_front-text.result.now none (rw c.without_front-text.ensures.value (words-trim_front c.args.text.now))

pub returns-clause-word : goal.returns-clause-word
returns-clause-word c =
    let some : 0 < length c.without_front-text.result.now = grind arith in
    rw (c.split_at.ensures.front, c.split_at.ensures.back)
    (words-split c.args.text.now c.without_front-text.result.now c.first_piece.result c.without_front-text.ensures.value some c.first_piece.ensures.value).0

pub returns-clause-shorter : goal.returns-clause-shorter
returns-clause-shorter c =
    let some : 0 < length c.without_front-text.result.now = grind arith in
    let taken = (words-split c.args.text.now c.without_front-text.result.now c.first_piece.result c.without_front-text.ensures.value some c.first_piece.ensures.value).1 in
    omega (arith, c.split_at.ensures.back_len)
