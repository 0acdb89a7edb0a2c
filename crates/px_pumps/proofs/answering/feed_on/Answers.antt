use Rattle.std.proofs.Common.{inr, refl}
use Rattle.px_pumps.proofs.HearingLemmas.{stopped}
use Rattle.px_pumps.proofs.answering.feed_on.Goals as goal

pub returns-in-Err-clause-fed : goal.returns-in-Err-clause-fed
returns-in-Err-clause-fed g c t ask fed put h = inr (record { nothing = refl; so_far = c.in-Err.ensures.so_far ask fed put h })

pub returns-in-Ok-write_all-clause-fed : goal.returns-in-Ok-write_all-clause-fed
returns-in-Ok-write_all-clause-fed g c t ask fed put h =
    record {
      more = c.feed.new.out;
      written = rw c.as_bytes.ensures at (c.in-Ok-write_all.ensures.bytes t);
      after = rw c.clear.ensures at (c.in-Ok.ensures.after ask fed put h);
      pumped = rw c.clear.ensures at (c.in-Ok.ensures.pumped ask fed put h);
    }

pub returns-in-Err-write_all-clause-fed : goal.returns-in-Err-write_all-clause-fed
returns-in-Err-write_all-clause-fed g c t ask fed put h =
    let p = rw c.clear.ensures at (c.in-Ok.ensures.pumped ask fed put h) in
    stopped ask fed c.args.piece.now put _ _ _ (record {
      more = c.feed.new.out;
      front = rw c.as_bytes.ensures at (c.in-Err-write_all.ensures.bytes t);
      so_far = p.so_far;
    })
