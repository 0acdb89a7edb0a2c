use Rattle.std.proofs.Common.{◌≡◌, ◌+◌, ◌≤◌, ◌++◌, length, drop, ap, ap₂, sym, ◌∙◌, arith, append_assoc, length-drop}
use Rattle.px_subst.specs.Words.{filled, text_of, word_at}
use Rattle.px_subst.proofs.FieldLemmas.{slice_to_end}
use Rattle.px_subst.proofs.WordLemmas.{filled-word}
use Rattle.px_subst.proofs.words.filled.Goals as goal

pub words-preserved-in-Some : goal.words-preserved-in-Some
words-preserved-in-Some c =
    let text = c.args.text.now in
    let vars = c.args.vars.now in
    let word = c.in-Some.word in
    let wide : length c.text.result.now ≡ length (text_of word) = ap length c.text.ensures in
    let rest = slice_to_end c.words.at text in
    let inside : length (text_of word) ≤ length (drop c.words.at text) = rw rest at c.in-Some.ensures.within in (
      omega (arith, length-drop c.words.at text),
      c.words.invariant.1
          ∙ ap (λ s. c.words.out.items ++ s) (filled-word vars text c.words.at word c.words-test.true (ap word_at (sym rest) ∙ sym c.in-Some.ensures.word))
          ∙ sym (append_assoc c.words.out.items _ _)
          ∙ ap₂ (λ s n. s ++ filled vars (drop (c.words.at + n) text))
          (ap (λ s. c.words.out.items ++ s) (sym c.value.ensures) ∙ sym c.in_ok-extend_from_slice-in-Some.ensures.items) (sym wide),
    )
