-- Forward lines may go to another thread, and be read by several.
use denote.Param.Send.{sendable, IsSend, IsSync, view_send, view_sync}
use denote.Param.SendFields.{declared_send, declared_sync, variants_send, variants_sync}
use Rattle.std.proofs.Crossing.{crosses}
use Rattle.px_base.proofs.lists.List.TheSendSync as list
use Rattle.px_base.proofs.texts.Text.TheSendSync as text
use Rattle.px_patterns.proofs.Crossing.{url_send, url_sync}
use Rattle.px_decide.specs.contracts.forwards.ForwardNext as next
use Rattle.px_decide.specs.contracts.forwards.ForwardLine as line
use Rattle.px_decide.specs.contracts.servers.KeptServer as server
use Rattle.px_decide.specs.contracts.forwards.Forwards as forwards
use Rattle.px_decide.specs.contracts.forwards.Forwards.TheInside as inside

next_send : IsSend next.the_row
next_send = variants_send next.enum (tt, ((search (sendable, text.the_send) depth 40, (search (sendable, crosses) depth 40, tt)), tt))

next_sync : IsSync next.the_row
next_sync = variants_sync next.enum (tt, ((search (sendable, text.the_sync) depth 40, (search (sendable, crosses) depth 40, tt)), tt))

server_send : IsSend server.the_row
server_send = declared_send server.the_type (search (sendable, text.the_send) depth 40, (search (sendable, crosses) depth 40, tt))

server_sync : IsSync server.the_row
server_sync = declared_sync server.the_type (search (sendable, text.the_sync) depth 40, (search (sendable, crosses) depth 40, tt))

line_send : IsSend line.the_row
line_send = declared_send line.the_type (search (sendable, url_send) depth 40, (search (sendable, crosses, server_send) depth 40, (search (sendable, next_send) depth 40, tt)))

line_sync : IsSync line.the_row
line_sync = declared_sync line.the_type (search (sendable, url_sync) depth 40, (search (sendable, crosses, server_sync) depth 40, (search (sendable, next_sync) depth 40, tt)))

pub forwards_send : IsSend forwards.the_row
forwards_send = view_send inside.the_row _ _ _ _ (declared_send inside.the_type (search (sendable, crosses) depth 40, (search (sendable, list.the_send, line_send) depth 40, tt)))

pub forwards_sync : IsSync forwards.the_row
forwards_sync = view_sync inside.the_row _ _ _ _ (declared_sync inside.the_type (search (sendable, crosses) depth 40, (search (sendable, list.the_sync, line_sync) depth 40, tt)))
