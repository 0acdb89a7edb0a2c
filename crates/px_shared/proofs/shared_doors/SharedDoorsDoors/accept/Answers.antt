use Rattle.px_shared.proofs.SharedDoorLemmas.{comes_over, ends_over}
use Rattle.px_shared.proofs.shared_doors.SharedDoorsDoors.accept.Goals as goal

pub returns-in-Some-clause-accepts : goal.returns-in-Some-clause-accepts
returns-in-Some-clause-accepts g c = rw (c.new.ensures.inner, c.new.ensures.made_over, c.new.ensures.history, c.new.ensures.no_link_read_failed, c.new.ensures.no_link_write_failed, c.new.ensures.none_opened, c.new.ensures.none_hung_up) (
    comes_over (g.A.Doors.state c.args.self.now.inner) (g.A.Doors.state c.accept.new.self) _ _ c.accept.ensures.goes_on (rw (c.in-Some.is, ← c.ends.view_is) at c.in-Ok.ensures.accepts))

pub returns-in-None-clause-accepts : goal.returns-in-None-clause-accepts
returns-in-None-clause-accepts g c = ends_over (g.A.Doors.state c.args.self.now.inner) (g.A.Doors.state c.accept.new.self) _ (rw c.in-None.is at c.in-Ok.ensures.accepts)
