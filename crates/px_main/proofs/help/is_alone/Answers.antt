use Rattle.std.proofs.Common.{rules}
use Rattle.std.specs.Prelude.{string_bytes}
use Rattle.px_main.proofs.HelpLemmas.{just_one}
use Rattle.px_main.proofs.help.is_alone.Goals as goal

pub returns-in-len1-clause-alone : goal.returns-in-len1-clause-alone
returns-in-len1-clause-alone c =
    let words = just_one string_bytes c.args.words.now c.only-item.result c.in-len1.len_at_least c.in-len1.len_below c.only-item.is in
    search (rules, words)

pub returns-in-len1-clause-other : goal.returns-in-len1-clause-other
returns-in-len1-clause-other c =
    let words = just_one string_bytes c.args.words.now c.only-item.result c.in-len1.len_at_least c.in-len1.len_below c.only-item.is in
    search (rules, words)
