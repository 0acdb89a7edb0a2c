use Rattle.std.proofs.Common.{ap, ◌∙◌}
use Rattle.px_filter_files.specs.FilterFiles.{FiltersOfFiles, has_key}
use Rattle.px_filter_files.specs.Headings.{Key}
use Rattle.px_filter_files.specs.Places.{first_place, jobs_at_place}
use Rattle.px_filter_files.proofs.FindLemmas.{jobs_by_place}
use Rattle.px_filter_files.proofs.warm_filters.WarmFilters.place.Goals as goal

pub returns-clause-jobs : goal.returns-clause-jobs
returns-clause-jobs c =
    let key : Key = record { kind = c.args.kind; name = c.args.name.now } in
    ap (jobs_at_place c.args.self.now)
    (c.place.ensures.place ∙ ap (λ (all : FiltersOfFiles). first_place (has_key key) all.filters) c.self.view_is)
    ∙ jobs_by_place c.args.self.now key
