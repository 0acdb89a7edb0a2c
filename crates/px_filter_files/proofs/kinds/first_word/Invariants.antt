use Rattle.std.proofs.Common.{◌≡◌, ◌+◌, not, drop}
use Rattle.std.specs.List.{prefix_len}
use Rattle.px_base.specs.Blanks.{is_blank}
use Rattle.px_filter_files.proofs.kinds.first_word.Given as goal

abbrev pub invariant-loop-at : goal.invariant-loop-at
invariant-loop-at l =
    prefix_len (λ b. not (is_blank b)) l.bytes ≡ l.at + prefix_len (λ b. not (is_blank b)) (drop l.at l.bytes)
