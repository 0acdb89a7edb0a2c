use Rattle.std.proofs.Common.{◌-◌, length, take, drop, map, sym, ◌∙◌, ap, rules}
use Rattle.std.proofs.lemmas.Bool.{not-false}
use Rattle.std.specs.Prelude.{string_bytes}
use Rattle.px_commands.specs.Words.{no_flags}
use Rattle.px_commands.proofs.WordLemmas.{first_two, behind_first}
use Rattle.px_commands.proofs.words.read_serve.Goals as goal

pub returns-in-Some-clause-serve : goal.returns-in-Some-clause-serve
returns-in-Some-clause-serve c =
    let words = first_two string_bytes c.args.words.now c.index-words-0.result c.index-words-1.result c.if-words-lt2.false c.index-words-0.is c.index-words-1.is in
    let none = not-false _ (sym c.has_flag.ensures ∙ c.if-has_flag.false) in
    record {
      counts = map string_bytes (take (length c.args.words.now - 2) (drop 2 c.args.words.now));
      words_are = search (rules, words);
      workers_is = search rules;
      most_is = search rules;
      none_is_flag = rw c.as_str-in-Some.ensures.value (sym (ap no_flags (behind_first string_bytes c.args.words.now _ _ words)) ∙ none);
    }
