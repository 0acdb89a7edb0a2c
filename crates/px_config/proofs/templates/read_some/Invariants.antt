use Rattle.std.proofs.Common.{◌≡◌, ◌+◌, [], length}
use Rattle.px_config.specs.Pages.{pages_of}
use Rattle.px_config.proofs.templates.read_some.Given as goal

abbrev pub invariant-pages : goal.invariant-pages
invariant-pages l = (pages_of l.items l.folder [] l.pages ≡ pages_of l.items l.folder l.templates l.rest) × (length l.templates + length l.rest ≡ length l.pages)

abbrev pub decreases-pages : goal.decreases-pages
decreases-pages l = length l.rest
