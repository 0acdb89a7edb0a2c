use Rattle.std.proofs.Common.{◌≡◌, ◌++◌, take}
use Rattle.px_pages.specs.Boards.{tag_lines}
use Rattle.px_pages.proofs.boards.push_tags.Given as goal

abbrev pub invariant-tags : goal.invariant-tags
invariant-tags l = l.out ≡ l.initial.out ++ tag_lines (take l.tag-index l.tags)
