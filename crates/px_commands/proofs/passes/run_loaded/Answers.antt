use Rattle.std.proofs.Common.{refl, ap, inl, inr}
use Rattle.px_commands.specs.Clients.{StreamsState}
use Rattle.px_commands.proofs.PassLemmas.{clock_same, files_go_on, passes_by, sink_same, source_same}
use Rattle.px_commands.proofs.passes.run_loaded.Goals as goal

pub returns-in-Ok-clause-runs : goal.returns-in-Ok-clause-runs
returns-in-Ok-clause-runs g c =
    let read = c.read_answers.ensures in
    rw c.behind_session.ensures (inr (inr (inl (passes_by c.args.loaded c.args.pass.origin.now c.args.pass.sent.now _
    (g.F.Files.state c.args.parts.files) (g.F.Files.state c.read_answers.new.files) (g.F.Files.state c.put_served-status.new.files) _ _ (g.E.Sink.state c.args.parts.err) c.in-Answers.answers c.in-Ok.served.end c.in-Ok.served.sent c.put_served-status.result
    (record { tells_same = read.go_on.tells_same; unchanged = read.unchanged; reads_same = c.in-Answers.ensures.cause.0; put_faults_same = c.in-Answers.ensures.cause.1; unput = read.unput })
    c.in-Answers.ensures.reads (rw c.in-Ok.is at c.serve_input-served.ensures.served) c.put_served-status.ensures.puts))))

pub returns-in-Ok-clause-goes_on : goal.returns-in-Ok-clause-goes_on
returns-in-Ok-clause-goes_on g c =
    let on = c.serve_input-served.ensures.goes_on in
    rw c.behind_session.ensures (record { files = files_go_on c.read_answers.ensures.go_on c.put_served-status.ensures.go_on; input = on.input; out = on.out; errors = sink_same _; clock = on.clock })

pub returns-in-Err-clause-runs : goal.returns-in-Err-clause-runs
returns-in-Err-clause-runs g c =
    let unused = rw c.in-Err.is at c.serve_input-served.ensures.unused in
    rw c.behind_session-in-Err.ensures (inr (inr (inr (record {
      wanting = refl;
      same = record {
        untouched = record { files = c.read_answers.ensures.unchanged; input = ap (λ (s : StreamsState). s.input) unused; out = ap (λ (s : StreamsState). s.out) unused; clock = ap (λ (s : StreamsState). s.clock) unused };
        errors = refl;
      };
    }))))

pub returns-in-Err-clause-goes_on : goal.returns-in-Err-clause-goes_on
returns-in-Err-clause-goes_on g c =
    let on = c.serve_input-served.ensures.goes_on in
    rw c.behind_session-in-Err.ensures (record { files = c.read_answers.ensures.go_on; input = on.input; out = on.out; errors = sink_same _; clock = on.clock })

pub returns-in-Refused-clause-runs : goal.returns-in-Refused-clause-runs
returns-in-Refused-clause-runs g c = rw c.behind_session-in-Refused.ensures (
    inr (inl (record {
      refused = refl;
      none = c.in-Refused.ensures.reads;
      same = record { untouched = record { files = c.read_answers.ensures.unchanged; input = refl; out = refl; clock = refl }; errors = refl };
    })))

pub returns-in-Refused-clause-goes_on : goal.returns-in-Refused-clause-goes_on
returns-in-Refused-clause-goes_on g c =
    rw c.behind_session-in-Refused.ensures (record { files = c.read_answers.ensures.go_on; input = source_same _; out = sink_same _; errors = sink_same _; clock = clock_same _ })

pub returns-in-Failed-clause-runs : goal.returns-in-Failed-clause-runs
returns-in-Failed-clause-runs g c = rw c.behind_session-in-Failed.ensures (
    inl (record {
      failed = refl;
      cause = c.in-Failed.ensures.cause.0;
      same = record { untouched = record { files = c.read_answers.ensures.unchanged; input = refl; out = refl; clock = refl }; errors = refl };
    }))

pub returns-in-Failed-clause-goes_on : goal.returns-in-Failed-clause-goes_on
returns-in-Failed-clause-goes_on g c =
    rw c.behind_session-in-Failed.ensures (record { files = c.read_answers.ensures.go_on; input = source_same _; out = sink_same _; errors = sink_same _; clock = clock_same _ })

pub returns-in-NoMemory-clause-runs : goal.returns-in-NoMemory-clause-runs
returns-in-NoMemory-clause-runs g c = rw c.behind_session-in-NoMemory.ensures (
    inr (inr (inr (record {
      wanting = refl;
      same = record { untouched = record { files = c.read_answers.ensures.unchanged; input = refl; out = refl; clock = refl }; errors = refl };
    }))))

pub returns-in-NoMemory-clause-goes_on : goal.returns-in-NoMemory-clause-goes_on
returns-in-NoMemory-clause-goes_on g c =
    rw c.behind_session-in-NoMemory.ensures (record { files = c.read_answers.ensures.go_on; input = source_same _; out = sink_same _; errors = sink_same _; clock = clock_same _ })
