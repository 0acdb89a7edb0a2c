use Rattle.std.proofs.Common.{◌≡◌, ◌∙◌, None, ap, arith, length, rules, subst, sym}
use Rattle.std.specs.List.{position}
use Rattle.px_actions.specs.Sets.{updated}
use Rattle.px_actions.specs.Tables.{is_of_kind}
use Rattle.px_actions.proofs.EntryLemmas.{entry_added, entry_still, marked_added}
use Rattle.px_actions.proofs.entries.Entries.change.Goals as goal

pub invariant_of-self-in-Set : goal.invariant_of-self-in-Set
invariant_of-self-in-Set c =
    let len : length c.self.inside.marks ≡ 41 = first_of (omega arith, search rules) in
    rw c.place.ensures.place
    (marked_added c.self.inside.marks c.self.inside.entries.items c.add_entry.new.entries.items c.args.kind c.args.change.now len c.self.invariant c.in_ok-add_entry-in-Set.ensures.ok)

pub returns-in-On-clause-ok : goal.returns-in-On-clause-ok
returns-in-On-clause-ok c =
    let items = c.self.inside.entries.items in
    let none : position (is_of_kind c.args.kind) items ≡ None =
    ap (λ xs. position (is_of_kind c.args.kind) xs) (sym c.deref.ensures.value) ∙ (sym c.place_of.ensures ∙ c.in-None.is) in
    subst (λ s. s ≡ updated s c.args.kind c.args.change.now) c.self.view_is
    (entry_still items c.args.kind c.args.change.now none c.requires.other (λ t. search rules))

pub returns-in_ok-add_entry-in-Set-clause-ok : goal.returns-in_ok-add_entry-in-Set-clause-ok
returns-in_ok-add_entry-in-Set-clause-ok c =
    let items = c.self.inside.entries.items in
    let none : position (is_of_kind c.args.kind) items ≡ None =
    ap (λ xs. position (is_of_kind c.args.kind) xs) (sym c.deref.ensures.value) ∙ (sym c.place_of.ensures ∙ c.in-None.is) in
    entry_added items c.add_entry.new.entries.items c.args.kind c.args.change.now none c.in_ok-add_entry-in-Set.ensures.ok
    ∙ ap (λ s. updated s c.args.kind c.args.change.now) c.self.view_is
