use Rattle.std.proofs.Common.{◌≡◌, ◌∙◌, None, Some, ap, sym}
use Rattle.std.specs.List.{position}
use Rattle.px_actions.specs.Sets.{setting_of}
use Rattle.px_actions.specs.Tables.{is_of_kind}
use Rattle.px_actions.proofs.EntryLemmas.{setting_first, setting_none}
use Rattle.px_actions.specs.declared.entries.SetEntry.{SetEntry}
use Rattle.px_actions.proofs.entries.Entries.get.Goals as goal

pub returns-in-Some : goal.returns-in-Some
returns-in-Some c =
    let items = c.self.inside.entries.items in
    let found : position (is_of_kind c.args.kind) items ≡ Some c.in-Some.at =
    ap (λ xs. position (is_of_kind c.args.kind) xs) (sym c.deref.ensures.value) ∙ (sym c.place_of.ensures ∙ c.in-Some.is) in
    ap (λ s. setting_of s c.args.kind) (sym c.self.view_is) ∙ (setting_first items c.args.kind c.in-Some.at c.index.result.now found ∙ ap (λ (e : SetEntry). e.setting) (sym c.index.ensures))

pub returns-in-None : goal.returns-in-None
returns-in-None c =
    let items = c.self.inside.entries.items in
    let none : position (is_of_kind c.args.kind) items ≡ None =
    ap (λ xs. position (is_of_kind c.args.kind) xs) (sym c.deref.ensures.value) ∙ (sym c.place_of.ensures ∙ c.in-None.is) in
    ap (λ s. setting_of s c.args.kind) (sym c.self.view_is) ∙ setting_none items c.args.kind none
