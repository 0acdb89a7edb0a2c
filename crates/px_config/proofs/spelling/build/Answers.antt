use Rattle.std.proofs.Common.{refl}
use Rattle.px_config.proofs.SpellLemmas.{same_sections}
use Rattle.px_config.proofs.spelling.build.Goals as goal

pub returns : goal.returns
returns c =
    let sections = same_sections c.in_ok-sections.sections c.args.actions.lists c.args.actions.files c.in_ok-sections.ensures.lists c.in_ok-sections.ensures.names c.in_ok-sections.ensures.sections in
    rw (sections, c.in_ok-filters.ensures, c.in_ok-image_blank.ensures, c.in_ok-image_pattern.ensures) refl
