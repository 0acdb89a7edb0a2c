use Rattle.std.proofs.Common.{◌∙◌, sym, length}
use Rattle.std.proofs.lemmas.Bool.{eqb-true}
use Rattle.px_patterns.specs.Hosts.{rest_bytes}
use Rattle.px_patterns.proofs.GlobLemmas.{glob-run, run-last}
use Rattle.px_patterns.proofs.hosts.without_first_run.Goals as goal

pub returns-then-is_empty : goal.returns-then-is_empty
returns-then-is_empty c = record {
  label = c.first_label.result.0.now;
  cut = c.first_label.ensures.parts;
  fits = run-last c.args.items.now c.first_label.result.0.now (eqb-true (length c.args.items.now) 0 (sym c.is_empty.ensures ∙ c.if-is_empty.true));
}

pub returns-then-run_matches : goal.returns-then-run_matches
returns-then-run_matches c = record {
  label = c.first_label.result.0.now;
  cut = c.first_label.ensures.parts;
  fits = glob-run c.args.items.now c.first_label.result.0.now ∙ (sym c.run_matches.ensures ∙ c.if-run_matches.true);
}

pub returns-else-run_matches : goal.returns-else-run_matches
returns-else-run_matches c = record {
  label = c.first_label.result.0.now;
  behind = rest_bytes c.first_label.result.1;
  cut = c.first_label.ensures.parts;
  fails = glob-run c.args.items.now c.first_label.result.0.now ∙ (sym c.run_matches.ensures ∙ c.if-run_matches.false);
}
