use Rattle.std.proofs.Common.{ap, sym}
use Rattle.px_filter_files.specs.Places.{jobs_at_place}
use Rattle.px_subst.specs.Jobs.{run_filter}
use Rattle.px_taggers.specs.Places.{tag_by}
use Rattle.px_taggers.proofs.taggers.make_tag.Goals as goal

pub returns-in_default-clause-value : goal.returns-in_default-clause-value
unfolding tag_by run_filter
returns-in_default-clause-value c =
    ap (λ place. tag_by (jobs_at_place c.args.filters.now place) c.args.turn.now.vars.now c.args.turn.now.line.now) (sym c.in_default.is)
