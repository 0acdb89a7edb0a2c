use Rattle.std.proofs.Common.{◌≡◌, length}
use Rattle.std.specs.Prelude.{◌==◌}
use Rattle.std.specs.List.{list_all, slice_split}
use Rattle.px_host_lists.specs.Rules.{is_whole_option}
use Rattle.px_host_lists.proofs.rules.are_whole_options.Given as goal

abbrev pub invariant-options : goal.invariant-options
invariant-options l = list_all is_whole_option (slice_split (λ b. b == 44) l.text) ≡ list_all is_whole_option (slice_split (λ b. b == 44) l.rest)

abbrev pub decreases-options : goal.decreases-options
decreases-options l = length l.rest
