use Rattle.std.proofs.Common.{rules}
use Rattle.px_config.proofs.GatherLemmas.{gathers_more}
use Rattle.px_config.proofs.gathering.read_files.Goals as goal

pub names-preserved : goal.names-preserved
names-preserved g c =
    let read = c.in_ok-read_item.ensures in
    gathers_more {name = c.in-Some.name.now} {full = c.in_ok-full.full} c.names.invariant (search rules) (search rules) read.only_reads read.go_on read.cause read.items read.fits read.once
