use Rattle.std.proofs.Common.{map}
use Rattle.std.specs.Prelude.{string_bytes}
use Rattle.px_commands.proofs.LoadLemmas.{pass_fails}
use Rattle.px_commands.proofs.PassLemmas.{clock_same, files_go_on, loaded_behind, pass_loaded, sink_same, source_same}
use Rattle.px_commands.proofs.passes.run_pass.Goals as goal

pub returns-in-Ok-clause-runs : goal.returns-in-Ok-clause-runs
returns-in-Ok-clause-runs g c =
    let read = c.load.ensures.only_reads in
    let parts = c.args.parts in
    pass_loaded c.args.pass.config.now c.args.pass.origin.now c.args.pass.sent.now (map string_bytes c.args.pass.tags.now) _ _ c.in-Ok.loaded c.run_loaded.result.status
    c.in-Ok.ensures.config
    (loaded_behind c.in-Ok.loaded c.args.pass.origin.now c.args.pass.sent.now (map string_bytes c.args.pass.tags.now)
    (g.F.Files.state parts.files) (g.F.Files.state c.load.new.files) (g.S.Source.state parts.input) (g.O.Sink.state parts.out) (g.E.Sink.state parts.err) (g.T.Clock.state parts.clock) _ c.run_loaded.result.status
    (record { tells_same = read.tells_same; unchanged = read.unchanged; reads_same = c.in-Ok.ensures.cause; put_faults_same = read.put_faults_same; unput = read.puts_same })
    c.run_loaded.ensures.runs)

pub returns-in-Ok-clause-goes_on : goal.returns-in-Ok-clause-goes_on
returns-in-Ok-clause-goes_on g c =
    let run = c.run_loaded.ensures.goes_on in
    record { files = files_go_on c.load.ensures.go_on run.files; input = run.input; out = run.out; errors = run.errors; clock = run.clock }

pub returns-in-Err-clause-runs : goal.returns-in-Err-clause-runs
returns-in-Err-clause-runs g c =
    let parts = c.args.parts in
    pass_fails c.args.pass.config.now c.args.pass.origin.now c.args.pass.sent.now (map string_bytes c.args.pass.tags.now) (g.F.Files.state parts.files) (g.F.Files.state c.load.new.files) (g.S.Source.state parts.input)
    (g.O.Sink.state parts.out) (g.E.Sink.state parts.err) (g.E.Sink.state c.report_load-status.new.err) (g.T.Clock.state parts.clock) c.in-Err.fault c.report_load-status.result
    c.load.ensures.only_reads.unchanged (λ told. (c.in-Err.ensures.refused told, c.in-Err.ensures.named told)) c.in-Err.ensures.cause c.report_load-status.ensures.reports

pub returns-in-Err-clause-goes_on : goal.returns-in-Err-clause-goes_on
returns-in-Err-clause-goes_on g c =
    record { files = c.load.ensures.go_on; input = source_same _; out = sink_same _; errors = c.report_load-status.ensures.goes_on; clock = clock_same _ }
