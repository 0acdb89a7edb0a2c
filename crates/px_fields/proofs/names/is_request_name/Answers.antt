use Rattle.std.proofs.Common.{arith, sym}
use Rattle.px_fields.specs.Names.{request_names}
use Rattle.px_fields.proofs.NameLemmas.{of-length, of-none, alone}
use Rattle.px_fields.proofs.names.is_request_name.Goals as goal

pub returns-in-19 : goal.returns-in-19
returns-in-19 c = alone _ _ _ c.is_name-in-19.ensures (of-length request_names c.args.name.now 19 c.in-19.is)

pub returns-in_default : goal.returns-in_default
returns-in_default c = sym (of-none request_names c.args.name.now (omega arith, (omega arith, (omega arith, tt))))
