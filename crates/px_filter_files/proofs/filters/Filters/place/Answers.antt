use Rattle.std.proofs.Common.{◌<◌, IfSome, length, subst, sym}
use Rattle.px_filter_files.specs.FilterFiles.{FiltersOfFiles, has_key}
use Rattle.px_filter_files.specs.Headings.{Key}
use Rattle.px_filter_files.proofs.FindLemmas.{place_within}
use Rattle.px_filter_files.proofs.filters.Filters.place.Goals as goal

pub returns-clause-within : goal.returns-clause-within
returns-clause-within c =
    let key : Key = record { kind = c.args.kind; name = c.args.name.now } in
    let filters = c.self.inside.filters.items in
    subst (λ (all : FiltersOfFiles). IfSome c.get.result (λ at. at < length all.filters)) c.self.view_is
    (subst (λ o. IfSome o (λ at. at < length filters)) (sym (c.get.ensures filters c.self.invariant.1)) (place_within (has_key key) filters))
