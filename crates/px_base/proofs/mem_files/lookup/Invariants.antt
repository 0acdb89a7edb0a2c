use Rattle.std.proofs.Common.{◌≡◌, drop}
use Rattle.px_base.specs.Folders.{holds}
use Rattle.px_base.proofs.mem_files.lookup.Given as goal

abbrev pub invariant-files : goal.invariant-files
invariant-files l = holds l.files l.name ≡ holds (drop l.file-index l.files) l.name
