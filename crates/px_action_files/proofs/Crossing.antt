-- Patterns, sections and files may go to another thread, and be read by several.
use denote.Param.Send.{sendable, IsSend, IsSync}
use denote.Param.SendFields.{declared_send, declared_sync, variants_send, variants_sync}
use Rattle.std.proofs.Crossing.{crosses}
use Rattle.px_base.proofs.lists.List.TheSendSync as list
use Rattle.px_base.proofs.texts.Text.TheSendSync as text
use Rattle.px_patterns.proofs.Crossing.{tag_send, tag_sync, url_send, url_sync}
use Rattle.px_actions.specs.contracts.kinds.Kind as kind
use Rattle.px_actions.specs.contracts.updates.Update as update
use Rattle.px_action_files.specs.contracts.patterns.Pattern as pattern
use Rattle.px_action_files.specs.contracts.sections.Section as section
use Rattle.px_action_files.specs.contracts.files.ActionFile as file

kind_send : IsSend kind.the_row
kind_send = search sendable depth 200 fits 100000

kind_sync : IsSync kind.the_row
kind_sync = search sendable depth 200 fits 100000

pub update_send : IsSend update.the_row
update_send = declared_send update.the_type (search (sendable, kind_send) depth 40, (search (sendable, crosses, text.the_send) depth 40 fits 20000, tt))

pub update_sync : IsSync update.the_row
update_sync = declared_sync update.the_type (search (sendable, kind_sync) depth 40, (search (sendable, crosses, text.the_sync) depth 40 fits 20000, tt))

pub pattern_send : IsSend pattern.the_row
pattern_send = search (sendable, variants_send, url_send, tag_send) depth 40 fits 20000

pub pattern_sync : IsSync pattern.the_row
pattern_sync = search (sendable, variants_sync, url_sync, tag_sync) depth 40 fits 20000

pub section_send : IsSend section.the_row
section_send = declared_send section.the_type (search (sendable, crosses) depth 40, (search (sendable, list.the_send, update_send) depth 40, (search (sendable, list.the_send, pattern_send) depth 40, tt)))

pub section_sync : IsSync section.the_row
section_sync = declared_sync section.the_type (search (sendable, crosses) depth 40, (search (sendable, list.the_sync, update_sync) depth 40, (search (sendable, list.the_sync, pattern_sync) depth 40, tt)))

pub file_send : IsSend file.the_row
file_send = declared_send file.the_type (search (sendable, list.the_send, section_send) depth 40, tt)

pub file_sync : IsSync file.the_row
file_sync = declared_sync file.the_type (search (sendable, list.the_sync, section_sync) depth 40, tt)
