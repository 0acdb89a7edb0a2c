use Rattle.std.proofs.Common.{ap, subst, arith, length, ◌≤◌}
use Rattle.std.proofs.lemmas.Bool.Decides.{nat_tests}
use mathlib.Core.List.{IsPrefix}
use Rattle.px_publish.proofs.FrontLemmas.{prefix_shorter}
use Rattle.px_publish.proofs.fronts.ListFront.is_behind.Goals as goal

pub returns-clause-behind : goal.returns-clause-behind
returns-clause-behind g c = λ yes.
    let me = c.args.self.now in let that = c.args.other.now in
    let both = c.learn.new.self.log in
    let this : IsPrefix me.seen.log both = subst (λ l. IsPrefix l both) (ap (λ s. s.log) c.again-both.ensures) c.learn.ensures.2 in
    let counted = me.newest in let counted' = that.newest in
    let less : length me.seen.log ≤ length that.seen.log = grind (arith, nat_tests) in
    prefix_shorter me.seen.log that.seen.log both this c.learn.ensures.3 less

pub returns-clause-ahead : goal.returns-clause-ahead
returns-clause-ahead g c = λ no.
    let me = c.args.self.now in let that = c.args.other.now in
    let both = c.learn.new.self.log in
    let this : IsPrefix me.seen.log both = subst (λ l. IsPrefix l both) (ap (λ s. s.log) c.again-both.ensures) c.learn.ensures.2 in
    let counted = me.newest in let counted' = that.newest in
    let less : length that.seen.log ≤ length me.seen.log = grind (arith, nat_tests) in
    prefix_shorter that.seen.log me.seen.log both c.learn.ensures.3 this less
