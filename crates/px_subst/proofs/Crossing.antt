-- A job and a filter may go to another thread, and be read by several.
use denote.Param.Send.{sendable, IsSend, IsSync, view_send, view_sync}
use denote.Param.SendFields.{declared_send, declared_sync, variants_send, variants_sync}
use Rattle.std.proofs.Crossing.{crosses}
use Rattle.regex_hir.proofs.hir.Hir.TheLaws.TheKnot as tree
use Rattle.regex_meta.specs.contracts.program.Program as program
use Rattle.regex.specs.contracts.pattern.Pattern as pattern
use Rattle.regex.specs.contracts.bytes.regex.Regex as regex
use Rattle.px_subst.specs.contracts.replacers.Replacer as replacer
use Rattle.px_subst.specs.contracts.replacers.Replacer.TheInside as replacer_inside
use Rattle.px_subst.specs.contracts.worded.WordedJob as worded
use Rattle.px_subst.specs.contracts.jobs.JobForm as form
use Rattle.px_subst.specs.contracts.jobs.Job as job
use Rattle.px_subst.specs.contracts.filters.Filter as filter
use Rattle.px_subst.specs.contracts.jobs.Job.TheInside as job_inside
use Rattle.px_subst.specs.contracts.filters.Filter.TheInside as filter_inside
use Rattle.px_base.proofs.texts.Text.TheSendSync as text
use Rattle.px_base.proofs.lists.List.TheSendSync as list

ruleset parts = (crosses, tree.crosses, sendable)

program_send : IsSend program.the_row
program_send = declared_send program.the_type (search parts depth 60 fits 20000, (search parts depth 60 fits 20000, (search parts depth 60 fits 20000, (search parts depth 60 fits 20000, (search parts depth 60 fits 20000, (search parts depth 60 fits 20000, (search parts depth 60 fits 20000, (search parts depth 60 fits 20000, tt))))))))

program_sync : IsSync program.the_row
program_sync = declared_sync program.the_type (search parts depth 60 fits 20000, (search parts depth 60 fits 20000, (search parts depth 60 fits 20000, (search parts depth 60 fits 20000, (search parts depth 60 fits 20000, (search parts depth 60 fits 20000, (search parts depth 60 fits 20000, (search parts depth 60 fits 20000, tt))))))))

pattern_send : IsSend pattern.the_row
pattern_send = declared_send pattern.the_type (search (sendable, crosses) depth 40, (search (sendable, crosses) depth 40, (search (sendable, crosses) depth 40, (search (sendable, program_send) depth 40, tt))))

pattern_sync : IsSync pattern.the_row
pattern_sync = declared_sync pattern.the_type (search (sendable, crosses) depth 40, (search (sendable, crosses) depth 40, (search (sendable, crosses) depth 40, (search (sendable, program_sync) depth 40, tt))))

regex_send : IsSend regex.the_row
regex_send = declared_send regex.the_type (search (sendable, pattern_send) depth 40, tt)

regex_sync : IsSync regex.the_row
regex_sync = declared_sync regex.the_type (search (sendable, pattern_sync) depth 40, tt)

replacer_send : IsSend replacer.the_row
replacer_send = view_send replacer_inside.the_row _ _ _ _ (declared_send replacer_inside.the_type (search (sendable, regex_send) depth 40, (search (sendable, crosses) depth 40, (search (sendable, crosses) depth 40, tt))))

replacer_sync : IsSync replacer.the_row
replacer_sync = view_sync replacer_inside.the_row _ _ _ _ (declared_sync replacer_inside.the_type (search (sendable, regex_sync) depth 40, (search (sendable, crosses) depth 40, (search (sendable, crosses) depth 40, tt))))

worded_send : IsSend worded.the_row
worded_send = declared_send worded.the_type (search (sendable, text.the_send) depth 40, (search (sendable, text.the_send) depth 40, (search (sendable, crosses) depth 40, tt)))

worded_sync : IsSync worded.the_row
worded_sync = declared_sync worded.the_type (search (sendable, text.the_sync) depth 40, (search (sendable, text.the_sync) depth 40, (search (sendable, crosses) depth 40, tt)))

form_send : IsSend form.the_row
form_send = variants_send form.enum ((search (sendable, crosses, replacer_send) depth 40, tt), ((search (sendable, crosses, worded_send) depth 40, tt), tt))

form_sync : IsSync form.the_row
form_sync = variants_sync form.enum ((search (sendable, crosses, replacer_sync) depth 40, tt), ((search (sendable, crosses, worded_sync) depth 40, tt), tt))

pub job_send : IsSend job.the_row
job_send = view_send job_inside.the_row _ _ _ _ (declared_send job_inside.the_type (search (sendable, form_send) depth 40, tt))

pub job_sync : IsSync job.the_row
job_sync = view_sync job_inside.the_row _ _ _ _ (declared_sync job_inside.the_type (search (sendable, form_sync) depth 40, tt))

pub filter_send : IsSend filter.the_row
filter_send = view_send filter_inside.the_row _ _ _ _ (declared_send filter_inside.the_type (search (sendable, list.the_send, job_send) depth 40, tt))

pub filter_sync : IsSync filter.the_row
filter_sync = view_sync filter_inside.the_row _ _ _ _ (declared_sync filter_inside.the_type (search (sendable, list.the_sync, job_sync) depth 40, tt))
