use Rattle.std.proofs.Common.{sym, ◌∙◌, ap, rules}
use Rattle.std.proofs.lemmas.Bool.{not-false}
use Rattle.std.specs.Prelude.{string_bytes}
use Rattle.px_commands.specs.Words.{no_flags}
use Rattle.px_commands.proofs.WordLemmas.{first_three, behind_first}
use Rattle.px_commands.proofs.words.read_show.Goals as goal

pub returns-clause-show : goal.returns-clause-show
returns-clause-show c =
    let words = first_three string_bytes c.args.words.now c.index-words-0.result c.index-words-1.result c.index-words-2.result c.if-words-lt3.false c.index-words-0.is c.index-words-1.is c.index-words-2.is in
    let none = not-false _ (sym c.has_flag.ensures ∙ c.if-has_flag.false) in
    record {
      words_are = search (rules, words);
      none_is_flag = rw (c.as_str-2.ensures.value, c.as_str-3.ensures.value) (sym (ap no_flags (behind_first string_bytes c.args.words.now _ _ words)) ∙ none);
    }
