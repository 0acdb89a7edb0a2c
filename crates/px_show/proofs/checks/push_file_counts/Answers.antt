use Rattle.std.proofs.Common.{◌++◌}
use Rattle.std.proofs.lemmas.List.{append_assoc}
use Rattle.std.specs.Prelude.{codes}
use Rattle.px_show.specs.Showing.{shown_count, file_counts}
use Rattle.px_show.proofs.checks.push_file_counts.Goals as goal

pub returns : goal.returns
unfolding file_counts
returns c = rw (c.in_ok-push_all.ensures.ok, append_assoc c.args.out.now (codes "ok: ") (shown_count c.args.counts.files (codes " action files, "))) at c.push_count.ensures
