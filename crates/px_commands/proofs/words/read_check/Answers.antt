use Rattle.std.proofs.Common.{sym, ◌∙◌, ap, rules}
use Rattle.std.proofs.lemmas.Bool.{not-false}
use Rattle.std.specs.Prelude.{string_bytes}
use Rattle.px_commands.specs.Words.{no_flags}
use Rattle.px_commands.proofs.WordLemmas.{just_two, behind_first}
use Rattle.px_commands.proofs.words.read_check.Goals as goal

pub returns-clause-check : goal.returns-clause-check
returns-clause-check c =
    let words = just_two string_bytes c.args.words.now c.index-words-0.result c.index-words-1.result (search rules) c.index-words-0.is c.index-words-1.is in
    let none = not-false _ (sym c.has_flag.ensures ∙ c.if-has_flag.false) in
    record {
      words_are = search (rules, words);
      none_is_flag = rw c.as_str-2.ensures.value (sym (ap no_flags (behind_first string_bytes c.args.words.now _ _ words)) ∙ none);
    }
