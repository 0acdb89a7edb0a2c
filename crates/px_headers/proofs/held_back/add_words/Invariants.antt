use Rattle.std.proofs.Common.{◌≡◌, ◌++◌, map}
use Rattle.std.specs.Prelude.{filter}
use Rattle.std.specs.Prelude.{option_copied}
use Rattle.px_base.specs.Blanks.{trimmed}
use Rattle.px_base.specs.Cuts.{parts_of}
use Rattle.px_headers.proofs.HeldLemmas.{left}
use Rattle.px_headers.specs.HeldBack.{names_more, words_in}
use Rattle.px_headers.proofs.held_back.add_words.Given as goal

abbrev pub invariant-words : goal.invariant-words
invariant-words l = l.words ++ filter names_more (map (λ part. trimmed part) (parts_of 44 (option_copied l.rest))) ≡ l.fn.words ++ words_in l.value

abbrev pub decreases-words : goal.decreases-words
decreases-words l = left (option_copied l.rest)
