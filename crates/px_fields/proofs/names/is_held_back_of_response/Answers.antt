use Rattle.std.proofs.Common.{sym, ◌∙◌}
use Rattle.px_fields.proofs.NameLemmas.{passed-too}
use Rattle.px_fields.proofs.names.is_held_back_of_response.Goals as goal

pub returns-else-may_be_held_back : goal.returns-else-may_be_held_back
returns-else-may_be_held_back c = c.if-may_be_held_back.false ∙ sym (passed-too c.args.name.now (c.may_be_held_back.ensures c.if-may_be_held_back.false))
