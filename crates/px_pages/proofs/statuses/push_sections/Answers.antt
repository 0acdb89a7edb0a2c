use Rattle.std.proofs.Common.{◌++◌}
use Rattle.std.proofs.lemmas.List.{append_assoc}
use Rattle.std.specs.Prelude.{codes}
use Rattle.px_pages.specs.Statuses.{number_line, section_count_lines}
use Rattle.px_pages.proofs.statuses.push_sections.Goals as goal

pub returns : goal.returns
unfolding section_count_lines
returns c =
    let files = number_line (codes "action files ") c.args.counts.files in
    let sections = number_line (codes "sections ") c.args.counts.sections in
    let patterns = number_line (codes "patterns ") c.args.counts.patterns in
    rw (c.in_ok-push_count-2.ensures, c.in_ok-push_count.ensures, append_assoc c.args.out.now files sections, append_assoc c.args.out.now (files ++ sections) patterns) at c.push_count-3.ensures
