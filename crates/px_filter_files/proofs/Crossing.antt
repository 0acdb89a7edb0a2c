-- Filter files and the filters of all may go to another thread, and be read by several.
use denote.Param.Send.{sendable, IsSend, IsSync, view_send, view_sync}
use denote.Param.SendFields.{declared_send, declared_sync}
use Rattle.std.proofs.Crossing.{crosses}
use Rattle.std.proofs.MapsCrossing as maps
use Rattle.px_base.proofs.texts.Text.TheSendSync as text
use Rattle.px_base.proofs.lists.List.TheSendSync as list
use Rattle.px_subst.proofs.Crossing.{filter_send, filter_sync}
use Rattle.px_filter_files.specs.contracts.files.NamedFilter as named
use Rattle.px_filter_files.specs.contracts.files.FilterFile as file
use Rattle.px_filter_files.specs.contracts.filters.Filters as filters
use Rattle.px_filter_files.specs.contracts.places.Places as places
use Rattle.px_filter_files.specs.contracts.filters.Filters.TheInside as filters_inside

named_send : IsSend named.the_row
named_send = declared_send named.the_type (search (sendable, crosses) depth 40, (search (sendable, text.the_send) depth 40, (search (sendable, crosses) depth 40, (search (sendable, filter_send) depth 40, tt))))

named_sync : IsSync named.the_row
named_sync = declared_sync named.the_type (search (sendable, crosses) depth 40, (search (sendable, text.the_sync) depth 40, (search (sendable, crosses) depth 40, (search (sendable, filter_sync) depth 40, tt))))

pub file_send : IsSend file.the_row
file_send = declared_send file.the_type (search (sendable, list.the_send, named_send) depth 40, (search (sendable, crosses, list.the_send) depth 40, tt))

pub file_sync : IsSync file.the_row
file_sync = declared_sync file.the_type (search (sendable, list.the_sync, named_sync) depth 40, (search (sendable, crosses, list.the_sync) depth 40, tt))

places_send : IsSend places.the_row
places_send = declared_send places.the_type (search (sendable, crosses, maps.crosses) depth 40, (search (sendable, crosses, maps.crosses) depth 40, (search (sendable, crosses, maps.crosses) depth 40, (search (sendable, crosses, maps.crosses) depth 40, (search (sendable, crosses, maps.crosses) depth 40, tt)))))

places_sync : IsSync places.the_row
places_sync = declared_sync places.the_type (search (sendable, crosses, maps.crosses) depth 40, (search (sendable, crosses, maps.crosses) depth 40, (search (sendable, crosses, maps.crosses) depth 40, (search (sendable, crosses, maps.crosses) depth 40, (search (sendable, crosses, maps.crosses) depth 40, tt)))))

pub filters_send : IsSend filters.the_row
filters_send = view_send filters_inside.the_row _ _ _ _ (declared_send filters_inside.the_type (search (sendable, crosses) depth 40, (search (sendable, crosses, named_send) depth 40, (search (sendable, places_send) depth 40, tt))))

pub filters_sync : IsSync filters.the_row
filters_sync = view_sync filters_inside.the_row _ _ _ _ (declared_sync filters_inside.the_type (search (sendable, crosses) depth 40, (search (sendable, crosses, named_sync) depth 40, (search (sendable, places_sync) depth 40, tt))))
