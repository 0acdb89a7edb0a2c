use Rattle.px_commands.proofs.LoadLemmas.{check_fails, check_prints}
use Rattle.px_commands.proofs.loads.run_check.Goals as goal

pub returns-in-Ok-check-clause-runs : goal.returns-in-Ok-check-clause-runs
returns-in-Ok-check-clause-runs g c input clock =
    check_prints c.args.config.now (g.F.Files.state c.args.files.now) (g.F.Files.state c.load.new.files) input
    (g.O.Sink.state c.args.out.now) (g.O.Sink.state c.report.new.err) (g.E.Sink.state c.args.err.now) clock c.in-Ok.loaded c.report.result
    c.load.ensures.only_reads.unchanged c.in-Ok.ensures.config (rw (c.as_bytes.ensures, c.in-Ok-check.ensures) at c.report.ensures.reports) c.report.ensures.cause

pub returns-clause-runs : goal.returns-clause-runs
returns-clause-runs g c input clock =
    check_fails c.args.config.now (g.F.Files.state c.args.files.now) (g.F.Files.state c.load.new.files) input
    (g.O.Sink.state c.args.out.now) (g.E.Sink.state c.args.err.now) (g.E.Sink.state c.report_load.new.err) clock c.in-Err.fault c.report_load.result
    c.load.ensures.only_reads.unchanged (λ told. (c.in-Err.ensures.refused told, c.in-Err.ensures.named told)) c.in-Err.ensures.cause c.report_load.ensures.reports
