use Rattle.std.proofs.Common.{◌∙◌, ap, false, get_or, sym}
use Rattle.px_actions.specs.Sets.{is_switched}
use Rattle.px_actions.proofs.TableLemmas.{table_flag}
use Rattle.px_actions.proofs.tables.Table.is_switched.Goals as goal

pub returns-in-Flag : goal.returns-in-Flag
returns-in-Flag c =
    ap (λ at. get_or c.self.inside.flags at false) c.place.ensures.place
    ∙ sym (ap is_switched (table_flag c.args.self.now c.self.inside.flags c.self.inside.entries c.args.kind c.self.view_is c.requires.sound (sym c.shape.ensures ∙ c.in-Flag.is)))
