-- A configuration may go to another thread, and be read by several.
use denote.Param.Send.{sendable, IsSend, IsSync, view_send, view_sync}
use denote.Param.SendFields.{declared_send, declared_sync, variants_send, variants_sync}
use Rattle.std.proofs.Crossing.{crosses}
use Rattle.px_base.proofs.lists.List.TheSendSync as list
use Rattle.px_base.proofs.texts.Text.TheSendSync as text
use Rattle.px_decide.proofs.Crossing.{forwards_send, forwards_sync}
use Rattle.px_filter_files.proofs.Crossing.{filters_send, filters_sync}
use Rattle.px_merge.proofs.Crossing.{sections_send, sections_sync}
use Rattle.px_templates.specs.contracts.conditions.Condition as condition
use Rattle.px_templates.specs.contracts.symbols.Symbol as symbol
use Rattle.px_templates.specs.contracts.runs.RunContent as content
use Rattle.px_templates.specs.contracts.runs.TemplateRun as run
use Rattle.px_templates.specs.contracts.templates.Template as template
use Rattle.px_templates.specs.contracts.templates.Template.TheInside as template_inside
use Rattle.px_config.specs.contracts.settings.Note as note
use Rattle.px_config.specs.contracts.settings.Settings as settings
use Rattle.px_config.specs.contracts.configs.Config as config

-- ---- templates

content_send : IsSend content.the_row
content_send = variants_send content.enum ((search (sendable, text.the_send) depth 40, tt), ((search (sendable, crosses) depth 40, tt), tt))

content_sync : IsSync content.the_row
content_sync = variants_sync content.enum ((search (sendable, text.the_sync) depth 40, tt), ((search (sendable, crosses) depth 40, tt), tt))

run_send : IsSend run.the_row
run_send = declared_send run.the_type (search (sendable, crosses) depth 40, (search (sendable, content_send) depth 40, tt))

run_sync : IsSync run.the_row
run_sync = declared_sync run.the_type (search (sendable, crosses) depth 40, (search (sendable, content_sync) depth 40, tt))

template_send : IsSend template.the_row
template_send = view_send template_inside.the_row _ _ _ _ (declared_send template_inside.the_type (search (sendable, crosses, run_send) depth 40, tt))

template_sync : IsSync template.the_row
template_sync = view_sync template_inside.the_row _ _ _ _ (declared_sync template_inside.the_type (search (sendable, crosses, run_sync) depth 40, tt))

-- ---- settings and notes

settings_send : IsSend settings.the_row
settings_send = declared_send settings.the_type (search (sendable, text.the_send) depth 40, (search (sendable, crosses) depth 40, (search (sendable, crosses) depth 40, (search (sendable, crosses) depth 40, (search (sendable, crosses) depth 40, (search (sendable, crosses) depth 40, (search (sendable, crosses) depth 40, (search (sendable, crosses) depth 40, (search (sendable, list.the_send, text.the_send) depth 40, tt)))))))))

settings_sync : IsSync settings.the_row
settings_sync = declared_sync settings.the_type (search (sendable, text.the_sync) depth 40, (search (sendable, crosses) depth 40, (search (sendable, crosses) depth 40, (search (sendable, crosses) depth 40, (search (sendable, crosses) depth 40, (search (sendable, crosses) depth 40, (search (sendable, crosses) depth 40, (search (sendable, crosses) depth 40, (search (sendable, list.the_sync, text.the_sync) depth 40, tt)))))))))

note_send : IsSend note.the_row
note_send = declared_send note.the_type (search (sendable, text.the_send) depth 40, (search (sendable, crosses) depth 40, (search (sendable, text.the_send) depth 40, tt)))

note_sync : IsSync note.the_row
note_sync = declared_sync note.the_type (search (sendable, text.the_sync) depth 40, (search (sendable, crosses) depth 40, (search (sendable, text.the_sync) depth 40, tt)))

-- ---- configurations

pub config_send : IsSend config.the_row
config_send = declared_send config.the_type (search (sendable, settings_send) depth 40, (search (sendable, sections_send) depth 40, (search (sendable, filters_send) depth 40, (search (sendable, forwards_send) depth 40, (search (sendable, list.the_send, template_send) depth 40, (search (sendable, crosses, text.the_send) depth 40, (search (sendable, crosses, text.the_send) depth 40, (search (sendable, list.the_send, note_send) depth 40, tt))))))))

pub config_sync : IsSync config.the_row
config_sync = declared_sync config.the_type (search (sendable, settings_sync) depth 40, (search (sendable, sections_sync) depth 40, (search (sendable, filters_sync) depth 40, (search (sendable, forwards_sync) depth 40, (search (sendable, list.the_sync, template_sync) depth 40, (search (sendable, crosses, text.the_sync) depth 40, (search (sendable, crosses, text.the_sync) depth 40, (search (sendable, list.the_sync, note_sync) depth 40, tt))))))))
