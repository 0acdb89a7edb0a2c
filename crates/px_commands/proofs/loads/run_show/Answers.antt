use Rattle.std.proofs.Common.{map}
use Rattle.std.specs.Prelude.{string_bytes}
use Rattle.px_commands.proofs.LoadLemmas.{show_fails, show_loaded}
use Rattle.px_commands.proofs.loads.run_show.Goals as goal

pub returns-in-Ok-clause-runs : goal.returns-in-Ok-clause-runs
returns-in-Ok-clause-runs g c input clock =
    show_loaded c.args.words.config.now c.args.words.url.now (map string_bytes c.args.words.tags.now) _ _ c.in-Ok.loaded c.show_loaded.result
    c.in-Ok.ensures.config
    (c.show_loaded.ensures.shows (g.F.Files.state c.args.files.now) (g.F.Files.state c.load.new.files) input clock c.load.ensures.only_reads.unchanged)

pub returns-in-Err-clause-runs : goal.returns-in-Err-clause-runs
returns-in-Err-clause-runs g c input clock =
    show_fails c.args.words.config.now c.args.words.url.now (map string_bytes c.args.words.tags.now) (g.F.Files.state c.args.files.now) (g.F.Files.state c.load.new.files) input
    (g.O.Sink.state c.args.out.now) (g.E.Sink.state c.args.err.now) (g.E.Sink.state c.report_load.new.err) clock c.in-Err.fault c.report_load.result
    c.load.ensures.only_reads.unchanged (λ told. (c.in-Err.ensures.refused told, c.in-Err.ensures.named told)) c.in-Err.ensures.cause c.report_load.ensures.reports
