use Rattle.std.proofs.Common.{◌∙◌}
use Rattle.px_action_files.specs.Readings.{seen_reading}
use Rattle.px_action_files.proofs.CutLemmas.{block_added, block_refused, file_read}
use Rattle.px_action_files.proofs.files.ActionFile.read.Goals as goal

pub headings-preserved : goal.headings-preserved
headings-preserved c = record {
  same =
      block_added c.headings.rest.now c.in-Some.heading.now c.in-Some.others.now c.split_body.result.0.now c.split_body.result.1.now
      (seen_reading c.headings.reading) (seen_reading c.add.new.self) c.in-Some.ensures.cases.0 c.headings.invariant.begins c.split_body.ensures.body
      c.split_body.ensures.later c.in-Ok.ensures.added
      ∙ c.headings.invariant.same;
  begins = c.split_body.ensures.front;
}

pub returns-in-Err-clause-refused : goal.returns-in-Err-clause-refused
returns-in-Err-clause-refused c =
    block_refused c.args.lines.now c.headings.rest.now c.in-Some.heading.now c.in-Some.others.now c.split_body.result.0.now
    (seen_reading c.headings.reading) c.in-Err.fault c.in-Some.ensures.cases.0 c.headings.invariant.begins c.split_body.ensures.body
    c.in_ok-rest.ensures.front c.headings.invariant.same c.in-Err.ensures.refused

pub returns-clause-sections : goal.returns-clause-sections
returns-clause-sections c =
    file_read c.args.lines.now c.headings.rest.now (seen_reading c.headings.reading) c.in_ok-rest.ensures.front c.in_default.ensures.cases c.headings.invariant.same
