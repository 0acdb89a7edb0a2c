use Rattle.std.proofs.Common.{◌≡◌, length, [], map}
use Rattle.px_actions.specs.Braces.{words}
use Rattle.px_action_files.specs.Aliases.{words_updates}
use Rattle.px_action_files.specs.Meanings.{seen_update, seen_alias}
use Rattle.px_action_files.proofs.words.read_words.Given as goal

abbrev pub invariant-words : goal.invariant-words
invariant-words l = words_updates (map seen_alias l.known) (words l.rest) (map seen_update l.updates) ≡ words_updates (map seen_alias l.known) (words l.text) []

abbrev pub decreases-words : goal.decreases-words
decreases-words l = length l.rest
