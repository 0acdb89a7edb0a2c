-- What the parts of an actions file stand for, as plain data.
use Rattle.std.specs.Prelude.{ℕ, List, map}
use Rattle.px_actions.specs.declared.kinds.Kind.{Kind}
use Rattle.px_actions.specs.declared.changes.Change.{Change}
use Rattle.px_actions.specs.declared.updates.Update.{Update}
use Rattle.px_action_files.specs.declared.aliases.Alias.{Alias}
use Rattle.px_action_files.specs.declared.patterns.Pattern.{Pattern}
use Rattle.px_action_files.specs.declared.sections.Section.{Section}

-- a section: the line of its heading, its updates and its patterns
pub record SectionSeen : Type 0 where
  pub line : ℕ
  pub updates : List (Kind × Change)
  pub patterns : List Pattern

-- an alias: its name, and the updates that its words stand for
pub record AliasSeen : Type 0 where
  pub name : List ℕ
  pub updates : List (Kind × Change)

-- values of the program as that data
abbrev pub seen_update : Update → Kind × Change
seen_update u = (u.kind, u.change)

abbrev pub seen_section : Section → SectionSeen
seen_section s = record { line = s.line; updates = map seen_update s.updates; patterns = s.patterns }

abbrev pub seen_alias : Alias → AliasSeen
seen_alias a = record { name = a.name; updates = map seen_update a.updates }
