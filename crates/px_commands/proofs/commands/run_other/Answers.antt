use Rattle.std.proofs.Common.{map, inl, inr, refl}
use Rattle.std.specs.Prelude.{string_bytes}
use Rattle.px_commands.specs.declared.statuses.Status.TheVariants as status
use Rattle.px_commands.specs.declared.statuses.TheConstants.{USAGE}
use Rattle.px_commands.proofs.LoadLemmas.{reports_by, same_for_memory}
use Rattle.px_commands.proofs.commands.run_other.Goals as goal

pub returns-in-Ok-clause-runs : goal.returns-in-Ok-clause-runs
returns-in-Ok-clause-runs g c other input clock = inr (inr (inl (record {
  config = c.in-Some.config.now;
  is_check = c.in-Some.ensures.check;
  runs = rw c.in-Ok.ensures at (c.run_check.ensures.runs input clock);
})))

pub returns-in-Err-clause-runs : goal.returns-in-Err-clause-runs
returns-in-Err-clause-runs g c other input clock = inr (inr (inl (record {
  config = c.in-Some.config.now;
  is_check = c.in-Some.ensures.check;
  runs = inr (inr (same_for_memory (g.F.Files.state c.args.files.now) input (g.O.Sink.state c.args.out.now) (g.E.Sink.state c.args.err.now) clock));
})))

pub returns-in-Ok-parse_show-clause-runs : goal.returns-in-Ok-parse_show-clause-runs
returns-in-Ok-parse_show-clause-runs g c other input clock = inr (inr (inr (inl (record {
  config = c.in-Some-read_show.show.config.now;
  url = c.in-Some-read_show.show.url.now;
  tags = map string_bytes c.in-Some-read_show.show.tags.now;
  is_show = c.in-Some-read_show.ensures.show;
  runs = rw (c.in-Ok-parse_show.ensures.config, c.in-Ok-parse_show.ensures.url, c.in-Ok-parse_show.ensures.tags) at (c.run_show.ensures.runs input clock);
}))))

pub returns-in-Err-parse_show-clause-runs : goal.returns-in-Err-parse_show-clause-runs
returns-in-Err-parse_show-clause-runs g c other input clock = inr (inr (inr (inl (record {
  config = c.in-Some-read_show.show.config.now;
  url = c.in-Some-read_show.show.url.now;
  tags = map string_bytes c.in-Some-read_show.show.tags.now;
  is_show = c.in-Some-read_show.ensures.show;
  runs = inr (inr (same_for_memory (g.F.Files.state c.args.files.now) input (g.O.Sink.state c.args.out.now) (g.E.Sink.state c.args.err.now) clock));
}))))

pub returns-in-Ok-parse_exercise-clause-runs : goal.returns-in-Ok-parse_exercise-clause-runs
returns-in-Ok-parse_exercise-clause-runs g c other input clock = inr (inr (inr (inr (record {
  number = c.in-Some-read_exercise.number;
  is_exercise = c.in-Some-read_exercise.ensures.exercise;
  runs = rw c.in-Ok-parse_exercise.ensures at (c.run_exercise.ensures.runs (g.F.Files.state c.args.files.now) input clock);
}))))

pub returns-in-Err-parse_exercise-clause-runs : goal.returns-in-Err-parse_exercise-clause-runs
returns-in-Err-parse_exercise-clause-runs g c other input clock = inr (inr (inr (inr (record {
  number = c.in-Some-read_exercise.number;
  is_exercise = c.in-Some-read_exercise.ensures.exercise;
  runs = inr (inr (same_for_memory (g.F.Files.state c.args.files.now) input (g.O.Sink.state c.args.out.now) (g.E.Sink.state c.args.err.now) clock));
}))))

pub returns-in-None-read_exercise-clause-runs : goal.returns-in-None-read_exercise-clause-runs
returns-in-None-read_exercise-clause-runs g c other input clock = inl (record {
  no_pass = other;
  no_check = λ config. c.in-None.ensures.other refl config;
  no_show = λ config url tags. c.in-None-read_show.ensures.other refl config url tags;
  no_exercise = λ n. c.in-None-read_exercise.ensures.other refl n;
  reports = reports_by (g.F.Files.state c.args.files.now) (g.F.Files.state c.args.files.now) input (g.O.Sink.state c.args.out.now) (g.E.Sink.state c.args.err.now) (g.E.Sink.state c.report.new.err) clock USAGE.now status.Usage c.report.result (λ told name. refl) c.report.ensures.reports c.report.ensures.cause;
})
