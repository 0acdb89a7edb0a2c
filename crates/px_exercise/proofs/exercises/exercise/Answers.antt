use Rattle.px_exercise.proofs.exercises.exercise.Goals as goal

pub returns-clause-lines : goal.returns-clause-lines
returns-clause-lines g c = record {
  config = c.in_ok-config.config;
  spelled = rw c.in_ok-files.ensures.files at c.in_ok-config.ensures.config;
  total = c.in_ok-total.total;
  runs = c.in_ok-total.ensures.runs c.args.number c.in_ok-files.ensures.draws;
  text_is = c.in_ok-print_lines.ensures;
}
