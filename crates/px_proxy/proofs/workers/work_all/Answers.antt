use denote.Param.Send.{sendable, param_sync}
use Rattle.std.proofs.Crossing.{crosses, sync}
use Rattle.px_proxy.proofs.Crossing.{idle_send, shared_send}
use Rattle.px_proxy.proofs.workers.work_all.Lts as lts
use Rattle.px_proxy.proofs.workers.work_all.Goals as goal

pub for_each_mut-requires-sync-F : goal.for_each_mut-requires-sync-F
for_each_mut-requires-sync-F g c κs _ = param_sync 2 (lts.arg-0-2 g.row.N g.row.L g.row.F g.row.A g.row.E g.row.I g.row.R g.row.A-Conn g.row.A-Conn-In g.row.A-Conn-Out g.row.A-Conn-Dial g.row.A-Conn-Time g.row.A-Conn-Dial-In g.row.A-Conn-Dial-Out g.N.laws g.L.laws g.F.laws g.A.laws g.E.laws g.I.laws g.R.laws g.A.Conn.laws g.A.Conn.In.laws g.A.Conn.Out.laws g.A.Conn.Dial.laws g.A.Conn.Time.laws g.A.Conn.Dial.In.laws g.A.Conn.Dial.Out.laws g.N.Making g.N.Making-dict g.N.Ledger g.N.Ledger-dict g.L.Ledger g.L.Ledger-dict g.F.Files g.F.Files-dict g.A.Doors g.A.Doors-dict g.A.Conn.Outside g.A.Conn.Outside-dict g.A.Conn.In.Source g.A.Conn.In.Source-dict g.A.Conn.Out.Sink g.A.Conn.Out.Sink-dict g.A.Conn.Dial.Dialer g.A.Conn.Dial.Dialer-dict g.A.Conn.Dial.In.Source g.A.Conn.Dial.In.Source-dict g.A.Conn.Dial.Out.Sink g.A.Conn.Dial.Out.Sink-dict g.A.Conn.Time.Clock g.A.Conn.Time.Clock-dict g.E.Sink g.E.Sink-dict g.I.Inside g.I.Inside-dict g.R.Threads g.R.Threads-dict g.R.Wait g.R.Wait-dict κs) (search (sendable, crosses, sync, shared_send) depth 60)

pub for_each_mut-requires-send-T : goal.for_each_mut-requires-send-T
for_each_mut-requires-send-T g c κs _ = search (sendable, crosses, idle_send) depth 60

-- what crosses threads by the bounds of the types, for the closure's clause and for the types of what it calls
pub for_each_mut-requires-clause-accepts : goal.for_each_mut-requires-clause-accepts
for_each_mut-requires-clause-accepts g c κs within = λ i p less at. (
  (search sendable depth 40, search sendable depth 40, search sendable depth 40, search sendable depth 40, search sendable depth 40, search sendable depth 40, search sendable depth 40, search sendable depth 40, search sendable depth 40, search sendable depth 40),
  (search sendable depth 40, search sendable depth 40, search sendable depth 40, search sendable depth 40, search sendable depth 40, search sendable depth 40, search sendable depth 40, search sendable depth 40, search sendable depth 40, search sendable depth 40, search sendable depth 40, search sendable depth 40, search sendable depth 40, search sendable depth 40, search sendable depth 40, search sendable depth 40),
)
