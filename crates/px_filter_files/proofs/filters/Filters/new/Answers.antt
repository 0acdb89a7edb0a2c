use Rattle.std.proofs.Common.{◌<◌, ◌^◌, ap, length, subst, sym, ◌∙◌}
use Rattle.std.proofs.lemmas.List.Concat.{length-flat_map}
use Rattle.px_filter_files.specs.declared.files.FilterFile.{FilterFile}
use Rattle.px_filter_files.specs.FilterFiles.{filters_of_all}
use Rattle.px_filter_files.proofs.filters.Filters.new.Goals as goal

pub invariant_of-result : goal.invariant_of-result
invariant_of-result c =
    let joined = c.in_ok-filters.ensures ∙ ap filters_of_all c.into_vec.ensures in (
      subst (λ n. n < 2 ^ 32) (sym (ap length joined ∙ length-flat_map (λ (file : FilterFile). file.filters) c.args.files)) c.requires.filters,
      rw c.as_slice.ensures.value at c.in_ok-places.ensures,
    )
