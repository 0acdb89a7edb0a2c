use Rattle.std.proofs.Common.{ap, Err}
use Rattle.px_socks.specs.declared.handshakes.Refusal.{Refusal}
use Rattle.px_socks.proofs.ServeLemmas.{refused_over, heard_front, sent_front, sent_whole}
use Rattle.px_socks.proofs.servers.handshake_over.Goals as goal

pub returns-in-Err-NotReached-clause-hung : goal.returns-in-Err-NotReached-clause-hung
returns-in-Err-NotReached-clause-hung g c = record {
  last_in = g.D.In.LocalSource.state c.handshake.new.link_in;
  last_out = g.D.Out.LocalSink.state c.handshake.new.link_out;
  hung_up = c.hang_up.ensures.hung_up;
  in_goes_on = c.in-Err-NotReached.ensures.in_goes_on;
  out_goes_on = c.in-Err-NotReached.ensures.out_goes_on;
  still_open = c.in-Err-NotReached.ensures.open;
  enough = λ t u.
      heard_front (g.D.In.LocalSource.state c.args.link.0) (g.D.In.LocalSource.state c.handshake.new.link_in) (g.D.Out.LocalSink.state c.args.link.1) (g.D.Out.LocalSink.state c.handshake.new.link_out) _ _
      c.requires.fresh.nothing_read c.in-Err-NotReached.ensures.in_goes_on.offered_same (rw c.as_bytes.ensures at (c.in-Err-NotReached.ensures.due t u));
  sent = λ t u.
      sent_front (g.D.In.LocalSource.state c.args.link.0) (g.D.In.LocalSource.state c.handshake.new.link_in) (g.D.Out.LocalSink.state c.args.link.1) (g.D.Out.LocalSink.state c.handshake.new.link_out) _ _
      c.requires.fresh.nothing_read c.in-Err-NotReached.ensures.in_goes_on.offered_same c.requires.fresh.nothing_taken (rw c.as_bytes.ensures at (c.in-Err-NotReached.ensures.due t u));
  whole = λ t u _ never.
      sent_whole (g.D.In.LocalSource.state c.args.link.0) (g.D.In.LocalSource.state c.handshake.new.link_in) (g.D.Out.LocalSink.state c.args.link.1) (g.D.Out.LocalSink.state c.handshake.new.link_out) _ _
      c.requires.fresh.nothing_read c.in-Err-NotReached.ensures.in_goes_on.offered_same c.requires.fresh.nothing_taken (rw c.as_bytes.ensures at (c.in-Err-NotReached.ensures.due t u))
      c.in-Err-NotReached.field-0-is c.requires.fresh.no_write_failed never;
  why = λ _. refused_over (g.D.In.LocalSource.state c.args.link.0) (g.D.In.LocalSource.state c.handshake.new.link_in) (g.D.Out.LocalSink.state c.args.link.1) (g.D.Out.LocalSink.state c.handshake.new.link_out)
      c.requires.fresh.no_read_failed c.requires.fresh.no_write_failed c.requires.fresh.nothing_read (c.in-Err-NotReached.ensures.refused (ap (λ (r : Refusal). Err r) c.in-Err-NotReached.field-0-is));
}

pub returns-clause-hung : goal.returns-clause-hung
returns-clause-hung g c = record {
  last_in = g.D.In.LocalSource.state c.handshake.new.link_in;
  last_out = g.D.Out.LocalSink.state c.handshake.new.link_out;
  hung_up = c.hang_up-in-Err-Mem.ensures.hung_up;
  in_goes_on = c.in-Err-Mem.ensures.in_goes_on;
  out_goes_on = c.in-Err-Mem.ensures.out_goes_on;
  still_open = c.in-Err-Mem.ensures.open;
  enough = λ t u.
      heard_front (g.D.In.LocalSource.state c.args.link.0) (g.D.In.LocalSource.state c.handshake.new.link_in) (g.D.Out.LocalSink.state c.args.link.1) (g.D.Out.LocalSink.state c.handshake.new.link_out) _ _
      c.requires.fresh.nothing_read c.in-Err-Mem.ensures.in_goes_on.offered_same (rw c.as_bytes.ensures at (c.in-Err-Mem.ensures.due t u));
  sent = λ t u.
      sent_front (g.D.In.LocalSource.state c.args.link.0) (g.D.In.LocalSource.state c.handshake.new.link_in) (g.D.Out.LocalSink.state c.args.link.1) (g.D.Out.LocalSink.state c.handshake.new.link_out) _ _
      c.requires.fresh.nothing_read c.in-Err-Mem.ensures.in_goes_on.offered_same c.requires.fresh.nothing_taken (rw c.as_bytes.ensures at (c.in-Err-Mem.ensures.due t u));
  whole = λ t u e. absurd (cc);
  why = λ e. absurd (cc);
}
