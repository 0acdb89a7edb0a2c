use Rattle.std.proofs.Common.{refl}
use Rattle.px_shared.proofs.SharedDoorLemmas.{doors_on, more_count, more_parted}
use Rattle.px_shared.proofs.shared_doors.SharedDoorsDoors.part.Goals as goal

pub invariant_of-self : goal.invariant_of-self
invariant_of-self g c =
    let old = g.A.Doors.state c.args.self.now.inner in
    let new = g.A.Doors.state c.part.new.self in
    let left = c.into_inner.ensures.goes_on in
    let on = c.part.ensures.goes_on in
    let added = c.part.ensures.parts.added in
    record {
      goes_on = doors_on _ old new c.args.self.now.goes_on on;
      below = more_parted _ old new _ _ _ _ on.tells_same (c.with_parting.ensures _) added (rw (c.of-noted.ensures, c.of-pool.ensures) (record {
        number = refl;
        handed = refl;
        session = refl;
        wanting = _;
        ends = record {
          leaves = record {
            is_left = record { tells = left.tells_same; names_later = left.names_later; reach_later = left.reach_later; mark = left.mark_same; balance = c.into_inner.ensures.balance };
            history = c.ends.inside.dialer.history;
            told = λ t. record { dials = c.into_inner.ensures.told t; joined = c.into_inner.ensures.joined t; due = c.into_inner.ensures.due t; judged = c.into_inner.ensures.judged t };
            counted = refl;
          };
          rest = refl;
        };
      })) c.args.self.now.below;
      none_lost = more_count old new _ _ _ _ on.tells_same (c.with_parting.ensures _) added c.args.self.now.none_lost;
    }
