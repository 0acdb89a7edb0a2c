use Rattle.std.proofs.Common.{◌≡◌, map, drop}
use Rattle.std.specs.Prelude.{string_bytes}
use Rattle.px_commands.specs.Words.{no_flags}
use Rattle.px_commands.proofs.words.has_flag.Given as goal

abbrev pub invariant-words : goal.invariant-words
invariant-words l = no_flags (map string_bytes l.words) ≡ no_flags (map string_bytes (drop l.word-index l.words))
