-- A pool of links may go to another thread where its dialer and the ends of its links may.
use denote.RattleType.{RattleType}
use denote.Param.Send.{sendable, IsSend}
use denote.Param.SendFields.{declared_send, variants_send}
use Rattle.std.proofs.Crossing.{crosses}
use Rattle.px_base.proofs.texts.Text.TheSendSync as text
use Rattle.px_base.specs.declared.local.LocalDialer as dialer
use Rattle.px_base.specs.declared.local.LocalSource as source
use Rattle.px_base.specs.declared.local.LocalSink as sink
use Rattle.px_link_pool.specs.declared.bases.Base as base
use Rattle.px_link_pool.specs.contracts.shelves.KeptLink as kept
use Rattle.px_link_pool.specs.contracts.shelves.Shelf as shelf
use Rattle.px_link_pool.specs.contracts.pools.LinkPool as pool

module _ (I O : RattleType) where
  kept_send : IsSend I → IsSend O → IsSend (kept.the_row I O)
  kept_send si so = declared_send (kept.the_type I O) (search (sendable, crosses) depth 40, (search (sendable, crosses) depth 40, (search (sendable, text.the_send) depth 40, (search (sendable, crosses) depth 40, tt))))

module _ (K : RattleType) where
  shelf_send : IsSend K → IsSend (shelf.the_row K)
  shelf_send sk =
      variants_send (shelf.enum K) (tt, ((search (sendable, crosses) depth 40, tt), ((search (sendable, crosses) depth 40, (search (sendable, crosses) depth 40, tt)), ((search (sendable, crosses) depth 40, (search (sendable, crosses) depth 40, (search (sendable, crosses) depth 40, tt))), ((search (sendable, crosses) depth 40, (search (sendable, crosses) depth 40, (search (sendable, crosses) depth 40, (search (sendable, crosses) depth 40, tt)))), tt)))))

module _ (D N I O : RattleType) (d : dialer.Ghosts D.Denot I.Denot O.Denot) (i : source.Ghosts I.Denot) (o : sink.Ghosts O.Denot) (n : base.Ghosts N.Denot) where
  pub pool_send : IsSend D → IsSend N → IsSend I → IsSend O → IsSend (pool.the_row D N I O d i o n)
  pool_send sd sn si so = declared_send (pool.the_type D N I O d i o n) (search (sendable, crosses) depth 40, (search (sendable, crosses) depth 40, (search (sendable, crosses) depth 40, (search (sendable, crosses) depth 40, (search (sendable, crosses, kept_send, shelf_send) depth 40, (search (sendable, crosses) depth 40, (search (sendable, crosses) depth 40, (search (sendable, crosses) depth 40, (search (sendable, crosses) depth 40, (search (sendable, crosses) depth 40, (search (sendable, crosses) depth 40, tt)))))))))))
