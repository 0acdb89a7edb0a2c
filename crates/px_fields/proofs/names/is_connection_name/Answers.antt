use Rattle.std.proofs.Common.{arith, sym}
use Rattle.px_fields.specs.Names.{connection_names}
use Rattle.px_fields.proofs.NameLemmas.{of-length, of-none, alone, second}
use Rattle.px_fields.proofs.names.is_connection_name.Goals as goal

pub returns-in-2 : goal.returns-in-2
returns-in-2 c = alone _ _ _ c.is_name.ensures (of-length connection_names c.args.name.now 2 c.in-2.is)

pub returns-in-14 : goal.returns-in-14
returns-in-14 c = alone _ _ _ c.is_name-in-14.ensures (of-length connection_names c.args.name.now 14 c.in-14.is)

pub returns-in-16 : goal.returns-in-16
returns-in-16 c = alone _ _ _ c.is_name-in-16.ensures (of-length connection_names c.args.name.now 16 c.in-16.is)

pub returns-in-17 : goal.returns-in-17
returns-in-17 c = alone _ _ _ c.is_name-in-17.ensures (of-length connection_names c.args.name.now 17 c.in-17.is)

pub returns-else-is_name : goal.returns-else-is_name
returns-else-is_name c = second _ _ _ _ c.if-is_name.ensures c.is_name-else-is_name.ensures (of-length connection_names c.args.name.now 7 c.in-7.is)

pub returns-else-is_name-2 : goal.returns-else-is_name-2
returns-else-is_name-2 c = second _ _ _ _ c.if-is_name-2.ensures c.is_name-else-is_name-2.ensures (of-length connection_names c.args.name.now 10 c.in-10.is)

pub returns-in_default : goal.returns-in_default
returns-in_default c = sym (of-none connection_names c.args.name.now (omega arith, (omega arith, (omega arith, (omega arith, (omega arith, (omega arith, (omega arith, (omega arith, tt)))))))))
