use Rattle.std.proofs.Common.{refl, sym, ap, map, ◌∙◌}
use Rattle.std.proofs.lemmas.Bool.{and_parts}
use Rattle.px_socks.specs.Comings.{through_server}
use Rattle.px_socks.specs.Dialers.{KeptDialer}
use Rattle.px_socks.proofs.HangLemmas.{held, hung_outer, hung_keeps}
use Rattle.px_socks.proofs.dialers.SocksDialerDialer.hang_up.Goals as goal

pub hang_up-requires-clause-open : goal.hang_up-requires-clause-open
hang_up-requires-clause-open g c = λ t.
    let k : KeptDialer = record { inner = g.D.Dialer.state c.self.inside.inner; notes = c.self.inside.notes.items; names = c.self.inside.names; reach = c.self.inside.reach; link_reads = c.self.inside.link_reads; link_writes = c.self.inside.link_writes; opened = c.self.inside.opened; hung_up = c.self.inside.hung_up } in
    let open_there = rw (← c.self.view_is) at c.requires.open in
    let one = rw (← c.self.view_is) at c.requires.one_mark in
    rw c.into_inner.ensures.inner (held k c.args.link_in c.args.link_out (open_there t) (one t)).there

pub hang_up-requires-clause-one_mark : goal.hang_up-requires-clause-one_mark
hang_up-requires-clause-one_mark g c = λ t.
    let k : KeptDialer = record { inner = g.D.Dialer.state c.self.inside.inner; notes = c.self.inside.notes.items; names = c.self.inside.names; reach = c.self.inside.reach; link_reads = c.self.inside.link_reads; link_writes = c.self.inside.link_writes; opened = c.self.inside.opened; hung_up = c.self.inside.hung_up } in
    let open_there = rw (← c.self.view_is) at c.requires.open in
    let one = rw (← c.self.view_is) at c.requires.one_mark in
    rw (c.into_inner.ensures.inner, c.into_inner-2.ensures.inner) (held k c.args.link_in c.args.link_out (open_there t) (one t)).one_mark

pub invariant_of-self : goal.invariant_of-self
invariant_of-self g c = λ t.
    let k : KeptDialer = record { inner = g.D.Dialer.state c.self.inside.inner; notes = c.self.inside.notes.items; names = c.self.inside.names; reach = c.self.inside.reach; link_reads = c.self.inside.link_reads; link_writes = c.self.inside.link_writes; opened = c.self.inside.opened; hung_up = c.self.inside.hung_up } in
    let before = sym c.hang_up.ensures.goes_on.tells_same ∙ t in
    let open_there = rw (← c.self.view_is) at c.requires.open in
    let one = rw (← c.self.view_is) at c.requires.one_mark in
    let ended = rw (c.into_inner.ensures.inner, c.into_inner-2.ensures.inner) at (c.hang_up.ensures.hung_up.dials before) in
    hung_keeps k (g.D.Dialer.state c.hang_up.new.self) c.args.link_in c.args.link_out (held k c.args.link_in c.args.link_out (open_there before) (one before)) (c.self.invariant before) c.into_inner-2.ensures.begins ended

pub returns-clause-hung_up : goal.returns-clause-hung_up
returns-clause-hung_up g c = rw (← c.self.view_is) (record {
  dials = λ t.
      let k : KeptDialer = record { inner = g.D.Dialer.state c.self.inside.inner; notes = c.self.inside.notes.items; names = c.self.inside.names; reach = c.self.inside.reach; link_reads = c.self.inside.link_reads; link_writes = c.self.inside.link_writes; opened = c.self.inside.opened; hung_up = c.self.inside.hung_up } in
      let open_there = rw (← c.self.view_is) at c.requires.open in
      let one = rw (← c.self.view_is) at c.requires.one_mark in
      let ended = rw (c.into_inner.ensures.inner, c.into_inner-2.ensures.inner) at (c.hang_up.ensures.hung_up.dials t) in
      hung_outer k (g.D.Dialer.state c.hang_up.new.self) c.args.link_in c.args.link_out (held k c.args.link_in c.args.link_out (open_there t) (one t)) (c.self.invariant t) ended;
  coming_same = λ t.
      let both = and_parts (g.D.Dialer.state c.self.inside.inner).tells (g.D.Dialer.state c.self.inside.inner).tells_coming t in
      ap (map through_server) (c.hang_up.ensures.hung_up.coming_same both.1);
  names_same = refl;
  reach_same = refl;
  link_reads = c.raised-self-inside.ensures.rises c.args.link_in.source.faults c.has_failed.ensures.failed;
  link_writes = c.raised-self-inside-2.ensures.rises c.args.link_out.sink.faults c.has_failed-2.ensures.failed;
  hung_up = c.raised-self-inside-3.ensures.exact;
  opened_same = refl;
})
