use Rattle.std.proofs.Common.{arith, refl}
use Rattle.std.proofs.lemmas.Bool.{or_from}
use Rattle.px_fields.proofs.NameLemmas.{passed-by, passed-whole}
use Rattle.px_fields.proofs.names.may_be_held_back.Goals as goal

pub returns-in-2 : goal.returns-in-2
returns-in-2 c other = passed-by c.args.name.now 2 c.in-2.is (or_from _ _ (c.begins_with.ensures other) refl) refl

pub returns-in-4 : goal.returns-in-4
returns-in-4 c other = passed-by c.args.name.now 4 c.in-4.is refl (or_from _ _ (c.begins_with-in-4.ensures other) refl)

pub returns-in-6 : goal.returns-in-6
returns-in-6 c other = passed-by c.args.name.now 6 c.in-6.is refl (or_from _ _ (c.begins_with-in-6.ensures other) refl)

pub returns-in-14 : goal.returns-in-14
returns-in-14 c other = passed-by c.args.name.now 14 c.in-14.is (or_from _ _ (c.begins_with-in-14.ensures other) refl) refl

pub returns-in-16 : goal.returns-in-16
returns-in-16 c other = passed-by c.args.name.now 16 c.in-16.is (or_from _ _ (c.begins_with-in-16.ensures other) refl) refl

pub returns-in-17 : goal.returns-in-17
returns-in-17 c other = passed-by c.args.name.now 17 c.in-17.is (or_from _ _ (c.begins_with-in-17.ensures other) refl) refl

pub returns-in-19 : goal.returns-in-19
returns-in-19 c other = passed-by c.args.name.now 19 c.in-19.is refl (or_from _ _ (c.begins_with-in-19.ensures other) refl)

pub returns-else-begins_with : goal.returns-else-begins_with
returns-else-begins_with c other = passed-by c.args.name.now 7 c.in-7.is (or_from _ _ (c.begins_with-in-7.ensures c.if-begins_with.false) (or_from _ _ (c.begins_with-else-begins_with.ensures other) refl)) refl

pub returns-else-begins_with-2 : goal.returns-else-begins_with-2
returns-else-begins_with-2 c other = passed-by c.args.name.now 10 c.in-10.is (or_from _ _ (c.begins_with-in-10.ensures c.if-begins_with-2.false) (or_from _ _ (c.begins_with-else-begins_with-2.ensures other) refl)) refl

pub returns-in_default : goal.returns-in_default
returns-in_default c other = passed-whole c.args.name.now (omega arith, (omega arith, (omega arith, (omega arith, (omega arith, (omega arith, (omega arith, (omega arith, tt)))))))) (omega arith, (omega arith, (omega arith, tt)))
