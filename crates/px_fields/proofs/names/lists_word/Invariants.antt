use Rattle.std.proofs.Common.{◌≡◌}
use Rattle.std.specs.Prelude.{option_copied}
use Rattle.std.specs.List.{list_any}
use Rattle.std.specs.Str.{str_eq_ignore_ascii_case}
use Rattle.px_base.specs.Blanks.{trimmed}
use Rattle.px_base.specs.Cuts.{parts_of}
use Rattle.px_fields.specs.Names.{lists_word}
use Rattle.px_fields.proofs.Cutting.{left}
use Rattle.px_fields.proofs.names.lists_word.Given as goal

abbrev pub invariant-words : goal.invariant-words
invariant-words l = lists_word l.word l.value ≡ list_any (λ part. str_eq_ignore_ascii_case (trimmed part) l.word) (parts_of 44 (option_copied l.rest))

abbrev pub decreases-words : goal.decreases-words
decreases-words l = left (option_copied l.rest)
