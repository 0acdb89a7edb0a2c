use Rattle.std.proofs.Common.{length, ap, ◌∙◌, subst}
use Rattle.px_merge.specs.Finders.{CanFind}
use Rattle.px_merge.specs.Merged.{pattern_count}
use Rattle.px_merge.specs.Selections.{Selects, is_of_purpose}
use Rattle.px_merge.specs.declared.lists.Purpose.TheVariants as purpose
use Rattle.px_merge.specs.declared.sides.Side.TheVariants as side
use Rattle.px_merge.proofs.MergedLemmas.{kept_within}
use Rattle.px_merge.proofs.sections.Sections.new.Goals as goal

pub invariant_of-result : goal.invariant_of-result
invariant_of-result c =
    let sections = c.add_files.new.all.items in
    record {
      files = c.in_ok-counts.ensures.files ∙ ap length c.as_slice.ensures.value;
      all = c.in_ok-counts.ensures.sections ∙ ap length c.as_slice-2.ensures.value;
      patterns = c.in_ok-counts.ensures.patterns ∙ ap pattern_count c.as_slice-2.ensures.value;
      within = kept_within c.args.files c.new-names.result.items c.add_files.new.names.items c.new-sections.result.items sections
          c.new-names.ensures.items c.new-sections.ensures.items c.in_ok-add_files.ensures.names c.in_ok-add_files.ensures.sections;
      found = subst (CanFind c.in_ok-finder.finder) c.as_slice-3.ensures.value c.in_ok-finder.ensures;
      tags_are = subst (λ s. Selects (is_of_purpose purpose.Tag) s c.in_ok-tags.tags.items) c.as_slice-5.ensures.value c.in_ok-tags.ensures;
      requests_are = subst (λ s. Selects (is_of_purpose (purpose.Absent side.Request)) s c.in_ok-requests.requests.items) c.as_slice-6.ensures.value c.in_ok-requests.ensures;
      responses_are = subst (λ s. Selects (is_of_purpose (purpose.Absent side.Response)) s c.in_ok-responses.responses.items) c.as_slice-7.ensures.value c.in_ok-responses.ensures;
    }
