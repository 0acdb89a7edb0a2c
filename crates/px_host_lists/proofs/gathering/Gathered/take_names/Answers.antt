use Rattle.std.proofs.Common.{◌∙◌, ◌∷◌, ◌++◌, ap, sym, map}
use Rattle.std.specs.Prelude.{option_copied}
use Rattle.std.proofs.lemmas.Result.{err_from_is_err_and}
use Rattle.px_host_lists.specs.Names.{host_named}
use Rattle.px_host_lists.specs.Readings.{entries_on, items_behind}
use Rattle.px_host_lists.specs.Slots.{gathered_entries}
use Rattle.px_host_lists.specs.Words.{used_words}
use Rattle.px_host_lists.proofs.ReadingLemmas.{refused-item}
use Rattle.px_host_lists.proofs.gathering.Gathered.take_names.Goals as goal

pub returns-in_err-other-clause-refused : goal.returns-in_err-other-clause-refused
returns-in_err-other-clause-refused c =
    let p = err_from_is_err_and c.from_residual.result c.from_residual.ensures.1 in
    rw (p.1, p.2)
    (refused-item (gathered_entries c.args.self.now ++ entries_on c.args.number (items_behind (used_words c.args.text.now))) (gathered_entries c.args.self.now) c.args.number (option_copied c.host_named.result)
    (map host_named (used_words c.in-Some.after.now)) c.in_err-other.field-0.0
    (ap (λ w. gathered_entries c.args.self.now ++ entries_on c.args.number (items_behind w)) c.in-Some.ensures.words
    ∙ ap (λ i. gathered_entries c.args.self.now ++ entries_on c.args.number (i ∷ map host_named (used_words c.in-Some.after.now))) (sym c.host_named.ensures.host))
    c.in_err-other.ensures.refused)

pub returns-in_err-take-clause-refused : goal.returns-in_err-take-clause-refused
returns-in_err-take-clause-refused c =
    let p = err_from_is_err_and c.from_residual-in_err-take.result c.from_residual-in_err-take.ensures.1 in
    rw (p.1, p.2)
    (refused-item (gathered_entries c.args.self.now ++ entries_on c.args.number (items_behind (used_words c.args.text.now))) (gathered_entries c.names.self) c.args.number
    (option_copied c.host_named-in-Some-next_word.result) (map host_named (used_words c.in-Some-next_word.more.now)) c.in_err-take.field-0.0
    (c.names.invariant.added
    ∙ (ap (λ w. gathered_entries c.names.self ++ entries_on c.args.number (map host_named w)) c.in-Some-next_word.ensures.words
    ∙ ap (λ i. gathered_entries c.names.self ++ entries_on c.args.number (i ∷ map host_named (used_words c.in-Some-next_word.more.now))) (sym c.host_named-in-Some-next_word.ensures.host)))
    c.in_err-take.ensures.refused)
