use Rattle.std.proofs.Common.{◌≡◌, ◌++◌, length, map}
use Rattle.px_templates.specs.Pages.{page_name}
use Rattle.px_config.proofs.names.names_of.Given as goal

abbrev pub invariant-pages : goal.invariant-pages
invariant-pages l = map page_name l.pages ≡ l.names.items ++ map page_name l.rest

abbrev pub decreases-pages : goal.decreases-pages
decreases-pages l = length l.rest
