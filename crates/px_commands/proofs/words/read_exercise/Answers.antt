use Rattle.std.proofs.Common.{rules}
use Rattle.std.specs.Prelude.{string_bytes}
use Rattle.px_commands.proofs.WordLemmas.{just_two}
use Rattle.px_commands.proofs.words.read_exercise.Goals as goal

pub returns-in-Some-clause-exercise : goal.returns-in-Some-clause-exercise
returns-in-Some-clause-exercise c =
    let words = just_two string_bytes c.args.words.now c.index-words-0.result c.index-words-1.result (search rules) c.index-words-0.is c.index-words-1.is in
    record {
      word = c.as_bytes.result.now;
      words_are = search (rules, words);
      number_is = search rules;
    }
