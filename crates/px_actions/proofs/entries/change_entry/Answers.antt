use Rattle.std.proofs.Common.{get_or, refl}
use Rattle.std.proofs.lemmas.Result.{on_ok_weaker}
use Rattle.px_actions.proofs.EntryLemmas.{entry_changed, marked_set}
use Rattle.px_actions.specs.declared.entries.SetEntry.{SetEntry}
use Rattle.px_actions.proofs.entries.change_entry.Goals as goal

pub returns-clause-ok : goal.returns-clause-ok
returns-clause-ok c =
    let d = c.index-entries-at.result in
    let new : SetEntry = record { kind = (get_or c.args.entries.now c.args.at d).kind; setting = c.change.new.self } in
    on_ok_weaker c.change.result
    (λ is. entry_changed c.args.entries.now c.args.kind c.args.at c.args.change.now new d c.requires.found refl (cc))
    c.change.ensures.ok

pub returns-clause-marked : goal.returns-clause-marked
returns-clause-marked c =
    let d = c.index-entries-at.result in
    let new : SetEntry = record { kind = (get_or c.args.entries.now c.args.at d).kind; setting = c.change.new.self } in
    λ marks h. marked_set marks c.args.entries.now c.args.at new d refl h
