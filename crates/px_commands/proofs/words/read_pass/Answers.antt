use Rattle.std.proofs.Common.{sym, ◌∙◌, ap, rules}
use Rattle.std.proofs.lemmas.Bool.{not-false}
use Rattle.std.specs.Prelude.{string_bytes}
use Rattle.px_commands.specs.Words.{no_flags}
use Rattle.px_commands.proofs.WordLemmas.{first_four, behind_first}
use Rattle.px_commands.proofs.words.read_pass.Goals as goal

pub returns-clause-pass : goal.returns-clause-pass
returns-clause-pass c =
    let words = first_four string_bytes c.args.words.now c.index-words-0.result c.index-words-1.result c.index-words-2.result c.index-words-3.result c.if-words-lt4.false c.index-words-0.is c.index-words-1.is c.index-words-2.is c.index-words-3.is in
    let none = not-false _ (sym c.has_flag.ensures ∙ c.if-has_flag.false) in
    record {
      words_are = search (rules, words);
      none_is_flag = rw (c.as_str-2.ensures.value, c.as_str-3.ensures.value, c.as_str-4.ensures.value) (sym (ap no_flags (behind_first string_bytes c.args.words.now _ _ words)) ∙ none);
    }
