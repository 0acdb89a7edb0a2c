use Rattle.std.proofs.Common.{◌≡◌, ◌∙◌, ap, sym, subst}
use Rattle.std.specs.Prelude.{IfErr, IfOk, None, Some}
use Rattle.px_host_lists.specs.Readings.{IsListRefusal}
use Rattle.px_host_lists.specs.declared.faults.ListFault.TheVariants as fault
use Rattle.px_host_lists.proofs.ReadingLemmas.{refused-long, refused-within}
use Rattle.px_host_lists.proofs.readings.read_list.Goals as goal

pub returns-then-text-gt-BYTE_LIMIT-clause-refused : goal.returns-then-text-gt-BYTE_LIMIT-clause-refused
returns-then-text-gt-BYTE_LIMIT-clause-refused c = refused-long c.args.text.now c.if-text-gt-BYTE_LIMIT.true ∙ ap (λ line. Some (fault.TooLong line)) (sym c.line_of_byte.ensures)

pub returns-clause-read : goal.returns-clause-read
returns-clause-read c = subst (λ o. IfOk c.read_lines.result (λ _. o ≡ None)) (sym (refused-within c.args.text.now c.if-text-gt-BYTE_LIMIT.false)) c.read_lines.ensures.read

pub returns-clause-refused : goal.returns-clause-refused
returns-clause-refused c = subst (λ o. IfErr c.read_lines.result (IsListRefusal o)) (sym (refused-within c.args.text.now c.if-text-gt-BYTE_LIMIT.false)) c.read_lines.ensures.refused
