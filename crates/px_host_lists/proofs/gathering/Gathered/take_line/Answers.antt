use Rattle.px_host_lists.specs.Slots.{gathered_entries}
use Rattle.px_host_lists.proofs.ReadingLemmas.{nothing-more}
use Rattle.px_host_lists.proofs.gathering.Gathered.take_line.Goals as goal

pub returns-in-None-clause-added : goal.returns-in-None-clause-added
returns-in-None-clause-added c = nothing-more (gathered_entries c.args.self.now) c.args.number c.args.line.now c.in-None.ensures.words
