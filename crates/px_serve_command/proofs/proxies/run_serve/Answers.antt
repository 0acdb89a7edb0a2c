use Rattle.std.proofs.Common.{rules}
use Rattle.px_serve_command.proofs.ProxyLemmas.{serve_fails, serve_loads}
use Rattle.px_serve_command.proofs.proxies.run_serve.Goals as goal

pub returns-in-Ok-clause-runs : goal.returns-in-Ok-clause-runs
returns-in-Ok-clause-runs g c =
    serve_loads (record { ins = g.A.Conn.Dial.In.Source.state; outs = g.A.Conn.Dial.Out.Sink.state }) c.args.serve.config.now c.args.serve.most (g.F.Files.state c.args.parts.files) (g.F.Files.state c.load_set.new.files) (g.A.Doors.state c.args.parts.doors)
    (g.E.Sink.state c.args.parts.err) _ c.in-Ok.loaded c.in-Ok.first _ _
    c.load_set.ensures.only_reads c.in-Ok.ensures.cause c.in-Ok.ensures.set c.in-Ok.ensures.spells c.serve_first.ensures.serves

pub returns-in-Err-clause-runs : goal.returns-in-Err-clause-runs
returns-in-Err-clause-runs g c = rw c.unserved.ensures (
    serve_fails (record { ins = g.A.Conn.Dial.In.Source.state; outs = g.A.Conn.Dial.Out.Sink.state }) c.args.serve.config.now c.args.serve.most (g.F.Files.state c.args.parts.files) (g.F.Files.state c.load_set.new.files) (g.A.Doors.state c.args.parts.doors)
    (g.E.Sink.state c.args.parts.err) (g.E.Sink.state c.report_load-status.new.err) c.in-Err.fault c.report_load-status.result
    c.load_set.ensures.only_reads.unchanged (λ told. (c.in-Err.ensures.refused told, c.in-Err.ensures.named told)) c.in-Err.ensures.cause c.report_load-status.ensures.reports)
