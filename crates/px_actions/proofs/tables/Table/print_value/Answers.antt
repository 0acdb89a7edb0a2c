use Rattle.std.proofs.Common.{◌≡◌, ◌++◌, ◌∙◌, ap, sym, subst, append-nil}
use Rattle.std.specs.Prelude.{OnOk, option_copied}
use Rattle.px_actions.specs.Kinds.{entry_of}
use Rattle.px_actions.specs.Sets.{setting_lines}
use Rattle.px_actions.specs.Tables.{setting_or_empty}
use Rattle.px_actions.proofs.TableLemmas.{lines-empty, table_value}
use Rattle.px_actions.proofs.tables.Table.print_value.Goals as goal

pub returns-in-Some : goal.returns-in-Some
returns-in-Some c =
    let is = c.get.ensures ∙ ap (λ o. setting_or_empty c.args.kind (option_copied o)) c.in-Some.is in
    subst (λ s. OnOk c.print.result (c.print.new.out ≡ c.args.out.now ++ setting_lines c.args.name.now s))
    (sym (table_value c.args.self.now c.self.inside.flags c.self.inside.entries c.args.kind c.self.view_is c.requires.sound c.requires.other ∙ is))
    c.print.ensures

pub returns-in-None : goal.returns-in-None
returns-in-None c =
    let is = c.get.ensures ∙ ap (λ o. setting_or_empty c.args.kind (option_copied o)) c.in-None.is in
    let value = table_value c.args.self.now c.self.inside.flags c.self.inside.entries c.args.kind c.self.view_is c.requires.sound c.requires.other ∙ is in
    sym (ap (λ s. c.args.out.now ++ setting_lines c.args.name.now s) value
    ∙ (ap (λ lines. c.args.out.now ++ lines) (lines-empty (entry_of c.args.kind).shape c.args.name.now) ∙ append-nil c.args.out.now))
