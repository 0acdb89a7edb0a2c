-- A shared desk may go from thread to thread, and a worker to one.
use denote.RattleType.{RattleType}
use denote.Param.Send.{sendable, IsSend, IsSync}
use denote.Param.SendFields.{declared_send}
use Rattle.std.proofs.Crossing.{crosses}
use Rattle.std.proofs.sync.ledger.Book.TheSendSync as book
use Rattle.std.proofs.sync.ledger.Share.TheSendSync as share
use Rattle.std.specs.declared.sync.ledger.Ledger as ledger
use Rattle.px_base.specs.declared.clocks.Clock as clock
use Rattle.px_base.specs.declared.dialers.Dialer as dialer
use Rattle.px_base.specs.declared.files.Files as files
use Rattle.px_base.specs.declared.sinks.Sink as sink
use Rattle.px_base.specs.declared.sources.Source as source
use Rattle.px_config.proofs.Crossing.{config_send, config_sync}
use Rattle.px_config.specs.declared.insides.Inside as inside
use Rattle.px_desk.proofs.Crossing.{desk_send}
use Rattle.px_doors.specs.declared.doors.Doors as doors
use Rattle.px_publish.proofs.Crossing.{reader_send}
use Rattle.px_proxy.specs.contracts.workers.Shared as shared
use Rattle.px_proxy.specs.contracts.workers.Shares as shares
use Rattle.px_proxy.specs.contracts.workers.IdleWorker as idle_worker
use Rattle.px_proxy.specs.contracts.workers.Worker as worker
use Rattle.px_proxy.specs.declared.workers.Making as making

module _ (N L F A E C I O D T LI LO : RattleType) (n : making.Ghosts N.Denot) (f : files.Ghosts F.Denot) (a : doors.Ghosts A.Denot C.Denot I.Denot O.Denot D.Denot T.Denot LI.Denot LO.Denot) (i : source.Ghosts I.Denot) (o : sink.Ghosts O.Denot) (d : dialer.Ghosts D.Denot LI.Denot LO.Denot) (li : source.Ghosts LI.Denot) (lo : sink.Ghosts LO.Denot) (t : clock.Ghosts T.Denot) (e : sink.Ghosts E.Denot) (l : ledger.Ghosts N.Denot) (m : ledger.Ghosts L.Denot) where
  pub shared_send : IsSend N → IsSync N → IsSend L → IsSync L → IsSend F → IsSend A → IsSend E → IsSend I → IsSend O → IsSend D → IsSend T → IsSend LI → IsSend LO → IsSend (shared.the_row N L F A E C I O D T LI LO n f a i o d li lo t e l m)
  shared_send sn yn sm ym sf sa se si so sd st sli slo = declared_send (shared.the_type N L F A E C I O D T LI LO n f a i o d li lo t e l m) (search (sendable, desk_send) depth 40, (search (sendable, book.the_send) depth 40, (search (sendable, book.the_send) depth 40, tt)))

module _ (N L : RattleType) (l : ledger.Ghosts N.Denot) (m : ledger.Ghosts L.Denot) where
  pub shares_send : IsSend N → IsSync N → IsSend L → IsSync L → IsSend (shares.the_row N L l m)
  shares_send sn yn sm ym = declared_send (shares.the_type N L l m) (search (sendable, share.the_send) depth 40, (search (sendable, share.the_send) depth 40, tt))

module _ (N L I : RattleType) (n : making.Ghosts N.Denot) (i : inside.Ghosts I.Denot) (l : ledger.Ghosts N.Denot) (m : ledger.Ghosts L.Denot) where
  worker_send : IsSend N → IsSync N → IsSend L → IsSync L → IsSend I → IsSend (worker.the_row N L I n i l m)
  worker_send sn yn sm ym si = declared_send (worker.the_type N L I n i l m) (search (sendable, shares_send) depth 40, (search (sendable, reader_send, config_send, config_sync) depth 40, (search sendable depth 40, tt)))

  pub idle_send : IsSend N → IsSync N → IsSend L → IsSync L → IsSend I → IsSend (idle_worker.the_row N L I n i l m)
  idle_send sn yn sm ym si = declared_send (idle_worker.the_type N L I n i l m) (search (sendable, worker_send) depth 40, tt)
