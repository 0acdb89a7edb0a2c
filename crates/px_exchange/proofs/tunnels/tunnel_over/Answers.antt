use Rattle.std.proofs.Common.{◌++◌, ◌∙◌, refl, true, false}
use Rattle.px_ways.specs.Ways.{is_sink_failed}
use Rattle.px_exchange.proofs.CarryLemmas.{both_carried, greeting_failed, greeting_wanting, head_failed, head_wanting, sent_head, sink_failed_by}
use Rattle.px_exchange.proofs.tunnels.tunnel_over.Goals as goal

pub returns-in-Err-Failed-clause-talks : goal.returns-in-Err-Failed-clause-talks
returns-in-Err-Failed-clause-talks g c s i p o fresh page_due =
    let wrote = c.in-Err-Failed.ensures in
    record {
      failed = false;
      cause = refl;
      is_so = head_failed false page_due c.args.plan.now _ _ (g.I.Source.state c.args.link_in.now) (g.P.Sink.state c.args.link_out.now) (g.P.Sink.state c.write_all.new.sink)
          fresh.nothing_taken fresh.no_write_failed (rw c.in-Err-Failed.field-0-is at wrote.cause) (rw c.as_bytes.ensures at (wrote.bytes p));
    }

pub returns-in-Err-Mem-clause-talks : goal.returns-in-Err-Mem-clause-talks
returns-in-Err-Mem-clause-talks g c s i p o fresh page_due =
    let wrote = c.in-Err-Mem.ensures in
    record {
      failed = false;
      cause = refl;
      is_so = rw c.broken.ensures (head_wanting false page_due c.args.plan.now _ _ (g.I.Source.state c.args.link_in.now) (g.P.Sink.state c.args.link_out.now) (g.P.Sink.state c.write_all.new.sink)
          fresh.nothing_taken fresh.no_write_failed (rw c.in-Err-Mem.field-0-is at wrote.cause).0 (rw c.as_bytes.ensures at (wrote.bytes p)));
    }

pub returns-in-Err-Failed-write_all-clause-talks : goal.returns-in-Err-Failed-write_all-clause-talks
returns-in-Err-Failed-write_all-clause-talks g c s i p o fresh page_due =
    let asked = c.in-Ok.ensures in
    let wrote = c.in-Err-Failed-write_all.ensures in
    record {
      failed = true;
      cause = rw c.in-Err-Failed-write_all.field-0-is at wrote.cause;
      is_so = rw c.broken-in-Err-Failed-write_all.ensures (greeting_failed true page_due c.args.plan.now _ _ _ (g.I.Source.state c.args.link_in.now) (g.P.Sink.state c.args.link_out.now) (g.P.Sink.state c.write_all.new.sink)
          fresh.nothing_taken fresh.no_write_failed (rw c.as_bytes.ensures at (asked.bytes p)) asked.cause (rw c.as_bytes-2.ensures at (wrote.bytes o)));
    }

pub returns-in-Err-Mem-write_all-clause-talks : goal.returns-in-Err-Mem-write_all-clause-talks
returns-in-Err-Mem-write_all-clause-talks g c s i p o fresh page_due =
    let asked = c.in-Ok.ensures in
    let wrote = c.in-Err-Mem-write_all.ensures in
    record {
      failed = false;
      cause = (rw c.in-Err-Mem-write_all.field-0-is at wrote.cause).0;
      is_so = rw c.broken-in-Err-Mem-write_all.ensures (greeting_wanting false page_due c.args.plan.now _ _ _ (g.I.Source.state c.args.link_in.now) (g.P.Sink.state c.args.link_out.now) (g.P.Sink.state c.write_all.new.sink)
          fresh.nothing_taken fresh.no_write_failed (rw c.as_bytes.ensures at (asked.bytes p)) asked.cause (rw c.as_bytes-2.ensures at (wrote.bytes o)));
    }

pub returns-clause-talks : goal.returns-clause-talks
returns-clause-talks g c s i p o fresh page_due =
    let k = c.carry-carried.ensures.carries in
    let plan = c.args.plan.now in
    let asked = rw c.as_bytes.ensures at (c.in-Ok.ensures.bytes p) in
    let l = g.P.Sink.state c.write_all.new.sink in
    let mid = g.O.Sink.state c.write_all-2.new.sink in
    let told_link = c.write_all.ensures.goes_on.tells_same ∙ p in
    let told_client = c.write_all-2.ensures.goes_on.tells_same ∙ o in
    record {
      failed = is_sink_failed k.back;
      cause = sink_failed_by (g.O.Sink.state c.args.client_out.now) mid (g.O.Sink.state c.carry-carried.new.client_out) k.back c.in-Ok-write_all.ensures.cause k.is_back.carries.sink_cause;
      is_so = rw (c.carried_so.ensures, k.carried)
          (both_carried page_due plan (c.args.ahead.now ++ (g.S.Source.state c.args.client_in.now).left) _ (g.O.Sink.state c.args.client_out.now).taken mid.taken (g.O.Sink.state c.carry-carried.new.client_out).taken
          (g.I.Source.state c.args.link_in.now) (g.I.Source.state c.carry-carried.new.link_in) l (g.P.Sink.state c.carry-carried.new.link_out) k.there k.back
          (rw c.as_bytes-2.ensures at (c.in-Ok-write_all.ensures.bytes o)) (sent_head plan (g.P.Sink.state c.args.link_out.now) l fresh.nothing_taken asked) (c.in-Ok.ensures.cause ∙ fresh.no_write_failed) fresh.no_read_failed fresh.nothing_read
          k.is_back.carries.source_goes_on.offered_same
          (rw c.as_bytes-3.ensures at (k.is_there.carries.takes s told_link)) k.is_there.carries.sink_cause (k.is_back.carries.takes i told_client) k.is_back.carries.source_cause (k.is_there.finished told_link));
    }
