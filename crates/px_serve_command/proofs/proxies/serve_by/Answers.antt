use Rattle.std.proofs.Common.{map, refl}
use Rattle.std.specs.Prelude.{string_bytes}
use Rattle.px_serve_command.proofs.ProxyLemmas.{serve_refused}
use Rattle.px_serve_command.proofs.proxies.serve_by.Goals as goal

pub returns-in-None-clause-serves : goal.returns-in-None-clause-serves
returns-in-None-clause-serves g c = rw c.unserved-in-None.ensures (
    serve_refused (record { ins = g.A.Conn.Dial.In.Source.state; outs = g.A.Conn.Dial.Out.Sink.state }) (map string_bytes c.args.words.now) (g.F.Files.state c.args.parts.files) (g.A.Doors.state c.args.parts.doors)
    (g.E.Sink.state c.args.parts.err) (g.E.Sink.state c.report-status.new.err) c.report-status.result
    (λ config workers most. c.in-None.ensures.other refl config workers most) c.report-status.ensures.reports c.report-status.ensures.cause)
