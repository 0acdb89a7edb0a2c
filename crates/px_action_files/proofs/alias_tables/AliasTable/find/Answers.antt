use Rattle.std.proofs.Common.{rules, ap, ◌∙◌}
use Rattle.std.specs.Str.{str_to_ascii_lowercase}
use Rattle.px_action_files.proofs.IndexLemmas.{at_place, alias_at, alias_nowhere}
use Rattle.px_action_files.proofs.alias_tables.AliasTable.find.Goals as goal

pub alias_at-requires : goal.alias_at-requires
alias_at-requires c =
    rw c.as_slice-in-Some.ensures (at_place c.self.inside.places c.self.inside.list c.as_slice.result.now _ c.self.invariant c.in-Some.ensures.value).0

pub returns-in-Some : goal.returns-in-Some
returns-in-Some c =
    alias_at c.args.self.now c.self.inside.list c.args.name.now c.as_slice.result.now c.in-Some.at.now c.alias_at.result.now (search rules)
    (c.as_slice.ensures.value ∙ c.in_ok-key.ensures)
    (at_place c.self.inside.places c.self.inside.list c.as_slice.result.now _ c.self.invariant c.in-Some.ensures.value)
    (rw (← c.as_slice-in-Some.ensures) c.alias_at.ensures)

pub returns : goal.returns
returns c =
    alias_nowhere c.args.self.now c.self.inside.list c.args.name.now c.as_slice.result.now (search rules)
    (c.as_slice.ensures.value ∙ c.in_ok-key.ensures)
    (at_place c.self.inside.places c.self.inside.list c.as_slice.result.now _ c.self.invariant c.in-None.ensures.value)
