use Rattle.px_list_patterns.proofs.SectionLemmas.{listed-sections}
use Rattle.px_list_patterns.proofs.laws.lists_are_sections.Goals as goal

pub returns : goal.returns
returns c = listed-sections
