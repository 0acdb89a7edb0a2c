use Rattle.std.proofs.Common.{◌∙◌, ap, sym}
use Rattle.std.specs.Prelude.{option_copied}
use Rattle.px_actions.specs.Kinds.{entry_of}
use Rattle.px_actions.specs.Sets.{single_value}
use Rattle.px_actions.specs.Tables.{setting_or_empty}
use Rattle.px_actions.proofs.TableLemmas.{single-empty, table_single}
use Rattle.px_actions.proofs.tables.Table.value.Goals as goal

pub returns-in-Some : goal.returns-in-Some
returns-in-Some c =
    let is = c.get.ensures ∙ ap (λ o. setting_or_empty c.args.kind (option_copied o)) c.in-Some.is in
    c.value.ensures ∙ sym (table_single c.args.self.now c.self.inside.flags c.self.inside.entries c.args.kind c.self.view_is c.requires.sound ∙ ap single_value is)

pub returns-in-None : goal.returns-in-None
returns-in-None c =
    let is = c.get.ensures ∙ ap (λ o. setting_or_empty c.args.kind (option_copied o)) c.in-None.is in
    sym (table_single c.args.self.now c.self.inside.flags c.self.inside.entries c.args.kind c.self.view_is c.requires.sound
    ∙ (ap single_value is ∙ single-empty (entry_of c.args.kind).shape))
