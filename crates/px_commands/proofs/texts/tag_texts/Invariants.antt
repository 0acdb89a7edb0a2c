use Rattle.std.proofs.Common.{◌≡◌, ◌++◌, map, drop}
use Rattle.std.specs.Prelude.{string_bytes}
use Rattle.px_commands.proofs.texts.tag_texts.Given as goal

abbrev pub invariant-words : goal.invariant-words
invariant-words l = map string_bytes l.words ≡ l.tags.items ++ map string_bytes (drop l.word-index l.words)
