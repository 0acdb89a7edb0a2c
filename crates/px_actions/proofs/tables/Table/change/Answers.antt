use Rattle.std.proofs.Common.{◌≢◌, ◌∙◌, ap, false, get_or, sym}
use Rattle.std.proofs.lemmas.Result.{on_ok_weaker}
use Rattle.px_actions.specs.Kinds.{entry_of}
use Rattle.px_actions.specs.Sets.{changed_setting}
use Rattle.px_actions.specs.declared.kinds.Shape.TheVariants as shape
use Rattle.px_actions.specs.declared.settings.Setting.TheVariants as setting
use Rattle.px_actions.proofs.TableLemmas.{table_changed, table_flagged}
use Rattle.px_actions.proofs.tables.Table.change.Goals as goal

pub returns-in-Flag-clause-ok : goal.returns-in-Flag-clause-ok
returns-in-Flag-clause-ok c =
    rw c.place.ensures.place
    (table_flagged c.args.self.now c.self.inside.flags c.self.inside.entries c.args.kind c.args.change.now _ c.self.view_is c.requires.sound
    (sym c.shape.ensures ∙ c.in-Flag.is)
    (c.change_flag.ensures ∙ ap (λ at. changed_setting (setting.Flag (get_or c.self.inside.flags at false)) c.args.change.now) c.place.ensures.place))

pub returns-in-Single-clause-ok : goal.returns-in-Single-clause-ok
returns-in-Single-clause-ok c =
    let other : (entry_of c.args.kind).shape ≢ shape.Flag = λ e. (cc) in
    on_ok_weaker c.change.result
    (λ is. table_changed c.args.self.now c.self.inside.flags c.self.inside.entries c.args.kind c.args.change.now c.change.new.self c.self.view_is c.requires.sound other is)
    c.change.ensures.ok

pub returns-in-Multi-clause-ok : goal.returns-in-Multi-clause-ok
returns-in-Multi-clause-ok c =
    let other : (entry_of c.args.kind).shape ≢ shape.Flag = λ e. (cc) in
    on_ok_weaker c.change-in-Multi.result
    (λ is. table_changed c.args.self.now c.self.inside.flags c.self.inside.entries c.args.kind c.args.change.now c.change-in-Multi.new.self c.self.view_is c.requires.sound other is)
    c.change-in-Multi.ensures.ok
