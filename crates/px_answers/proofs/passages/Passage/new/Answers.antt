use Rattle.std.proofs.Common.{[]}
use Rattle.px_answers.proofs.passages.Passage.new.Goals as goal

pub returns-clause-after : goal.returns-clause-after
returns-clause-after c = c.in_ok-course.ensures.after [] [] (rw c.new-raw.ensures (record { used = 0; after = c.new-reader.ensures.after }))
