use Rattle.std.proofs.Common.{map}
use Rattle.px_action_files.specs.Meanings.{seen_alias}
use Rattle.px_action_files.proofs.IndexLemmas.{alias_fresh}
use Rattle.px_action_files.proofs.aliases.read_aliases.Goals as goal

pub with-requires : goal.with-requires
with-requires c = alias_fresh (map seen_alias c.lines.known) c.in-Some.line.now (seen_alias c.in_ok-alias.alias) c.in_ok-alias.ensures.alias
