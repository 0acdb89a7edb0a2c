use Rattle.std.proofs.Common.{◌≡◌, ◌++◌, ◌∙◌, ap, false, get_or, sym, subst, append-nil}
use Rattle.std.specs.Prelude.{OnOk}
use Rattle.px_actions.specs.Kinds.{entry_of}
use Rattle.px_actions.specs.Sets.{flag_line, setting_lines}
use Rattle.px_actions.proofs.TableLemmas.{table_flag}
use Rattle.px_actions.specs.declared.settings.Setting.TheVariants as setting
use Rattle.px_actions.proofs.tables.Table.print.Goals as goal

pub returns-then-self-place : goal.returns-then-self-place
returns-then-self-place c =
    let on = ap (λ at. get_or c.self.inside.flags at false) (sym c.place.ensures.place) ∙ c.if-self-place.true in
    let is = table_flag c.args.self.now c.self.inside.flags c.self.inside.entries c.args.kind c.self.view_is c.requires.sound (sym c.shape.ensures ∙ c.in-Flag.is) ∙ ap setting.Flag on in
    subst (λ s. OnOk c.print_flag.result (c.print_flag.new.out ≡ c.args.out.now ++ setting_lines (entry_of c.args.kind).name s)) (sym is)
    (subst (λ n. OnOk c.print_flag.result (c.print_flag.new.out ≡ c.args.out.now ++ flag_line n)) (c.as_bytes-name.ensures.value ∙ c.name.ensures.name) c.print_flag.ensures)

pub returns-else-self-place : goal.returns-else-self-place
returns-else-self-place c =
    let off = ap (λ at. get_or c.self.inside.flags at false) (sym c.place.ensures.place) ∙ c.if-self-place.false in
    let is = table_flag c.args.self.now c.self.inside.flags c.self.inside.entries c.args.kind c.self.view_is c.requires.sound (sym c.shape.ensures ∙ c.in-Flag.is) ∙ ap setting.Flag off in
    sym (ap (λ s. c.args.out.now ++ setting_lines (entry_of c.args.kind).name s) is ∙ append-nil c.args.out.now)
