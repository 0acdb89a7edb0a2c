use Rattle.std.proofs.Common.{◌<◌, ◌++◌, length, ap, append_assoc, arith, sym, ◌∙◌}
use Rattle.px_filter_files.specs.FilterFiles.{filters_of_all}
use Rattle.px_filter_files.proofs.FindLemmas.{filters_of_first}
use Rattle.px_filter_files.proofs.filters.joined.Goals as goal

pub files-preserved : goal.files-preserved
files-preserved c =
    let rest = c.files.rest.items in
    let joined = c.files.joined.items in
    let file = c.remove-filters.result in
    let some : 0 < length rest = omega (arith, c.remove-filters.ensures.len, c.files.rest.ok.0) in
    ap (λ fs. fs ++ filters_of_all c.remove-filters.new.self.items) (c.in_ok-append.ensures.items ∙ ap (λ fs. joined ++ fs) c.into_vec-filters.ensures)
    ∙ ap (λ files. (joined ++ file.filters) ++ filters_of_all files) c.remove-filters.ensures.by_index.2
    ∙ append_assoc joined file.filters _
    ∙ ap (λ fs. joined ++ fs) (sym (filters_of_first rest file some c.remove-filters.ensures.value))
    ∙ c.files.invariant
