-- What a worker serves with may go to another thread where its parts may.
use denote.RattleType.{RattleType}
use denote.Param.Send.{sendable, IsSend}
use denote.Param.SendFields.{declared_send}
use Rattle.std.proofs.Crossing.{crosses}
use Rattle.px_serve.specs.contracts.logging.Logging as logging

module _ (I L : RattleType) where
  pub logging_send : IsSend I → IsSend L → IsSend (logging.the_row I L)
  logging_send si sl = declared_send (logging.the_type I L) (search (sendable, crosses) depth 40, (search (sendable, crosses) depth 40, tt))
