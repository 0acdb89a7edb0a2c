-- Seats may go to other threads.
use denote.RattleType.{RattleType}
use denote.Param.Send.{sendable, IsSend, IsSync, view_send, view_sync}
use denote.Param.SendFields.{declared_send, declared_sync, variants_send}
use Rattle.std.proofs.Crossing.{crosses}
use Rattle.std.proofs.MapsCrossing as maps
use Rattle.px_base.proofs.lists.List.TheSendSync as list
use Rattle.px_base.proofs.texts.Text.TheSendSync as text
use Rattle.px_publish.proofs.Crossing.{publisher_send, reader_send}
use Rattle.std.proofs.sync.ledger.Book.TheSendSync as book
use Rattle.std.proofs.sync.ledger.Share.TheSendSync as share
use Rattle.std.specs.declared.sync.ledger.Ledger as ledger
use Rattle.px_tag_board.specs.declared.names.BoardName as naming
use Rattle.px_tag_board.specs.contracts.changes.TagChange as change
use Rattle.px_tag_board.specs.contracts.entries.BoardEntry as entry
use Rattle.px_tag_board.specs.contracts.entries.PublishedState as mark
use Rattle.px_tag_board.specs.contracts.entries.PublishedState.TheInside as state_inside
use Rattle.px_tag_board.specs.contracts.chains.Chain as chain
use Rattle.px_tag_board.specs.contracts.chains.Chain.TheInside as chain_inside
use Rattle.px_tag_board.specs.contracts.tag_maps.TagMap as tag_map
use Rattle.px_tag_board.specs.contracts.tag_boards.TagBoard as tag_board
use Rattle.px_tag_board.specs.contracts.seats.Seat as seat
use Rattle.px_tag_board.specs.contracts.seats.Seat.TheInside as seat_inside

change_send : IsSend change.the_row
change_send = variants_send change.enum ((search (sendable, text.the_send) depth 40, tt), ((search (sendable, text.the_send) depth 40, tt), tt))

entry_send : IsSend entry.the_row
entry_send = declared_send entry.the_type (search (sendable, text.the_send) depth 40, (search (sendable, change_send) depth 40, tt))

state_send : IsSend mark.the_row
state_send = view_send state_inside.the_row _ _ _ _ (declared_send state_inside.the_type (search (sendable, crosses) depth 40, tt))

state_sync : IsSync mark.the_row
state_sync = view_sync state_inside.the_row _ _ _ _ (declared_sync state_inside.the_type (search (sendable, crosses) depth 40, tt))

chain_send : IsSend chain.the_row
chain_send = view_send chain_inside.the_row _ _ _ _ (declared_send chain_inside.the_type (search (sendable, publisher_send, state_send, state_sync) depth 40, (search (sendable, crosses, entry_send) depth 40, tt)))

tag_map_send : IsSend tag_map.the_row
tag_map_send = declared_send tag_map.the_type (search (sendable, crosses, maps.crosses, list.the_send, text.the_send) depth 40, tt)

module _ (N : RattleType) (b : naming.Ghosts N.Denot) (l : ledger.Ghosts N.Denot) where
  pub board_send : IsSend N → IsSync N → IsSend (tag_board.the_row N b l)
  board_send s y = declared_send (tag_board.the_type N b l) (search (sendable, chain_send) depth 40, (search (sendable, tag_map_send) depth 40, (search (sendable, book.the_send) depth 40, tt)))

  pub seat_send : IsSend N → IsSync N → IsSend (seat.the_row N b l)
  seat_send s y = view_send (seat_inside.the_row N b l) _ _ _ _ (declared_send (seat_inside.the_type N b l) (search (sendable, crosses) depth 40, (search (sendable, crosses, board_send) depth 40, (search (sendable, reader_send, state_send, state_sync) depth 40, (search (sendable, share.the_send) depth 40, (search sendable depth 40, tt))))))
