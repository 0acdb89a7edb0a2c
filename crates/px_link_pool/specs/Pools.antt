-- A pool as a dialer.
use Rattle.std.specs.Prelude.{ℕ, ◌+◌, ◌-◌, ◌^◌, min, false, []}
use Rattle.px_base.specs.Dials.{DialerState}
use Rattle.px_pool_ends.specs.Incomings.{Hearing, outer_source}
use Rattle.px_pool_ends.specs.Outgoings.{Sending, outer_sink}
use Rattle.px_link_pool.specs.Histories.{dials_of}
use Rattle.px_link_pool.specs.declared.histories.History.{History}

-- A count that goes on from that first one by so many of its own; at its end it stays there.
abbrev pub counts_on : ℕ → ℕ → ℕ
counts_on first own = min (first + own) (2 ^ 64 - 1)

-- The dials are those of its history. The counts of links whose ends had failed are its own; how many links its dials gave, and how
-- many were hung up, go on from those of the inner dialer over which it was made, the first one. All else is the inner dialer's.
-- What comes of a dial isn't told, since that depends on which links are kept.
abbrev pub pool_state : {S T : Type 0} → DialerState → DialerState → History Hearing Sending S T → ℕ → ℕ → ℕ → ℕ → DialerState
pool_state first inner history link_reads link_writes opened hung_up = record {
  tells = inner.tells;
  dials = dials_of outer_source outer_sink history;
  tells_coming = false;
  coming = [];
  through_servers = false;
  names = inner.names;
  reach = inner.reach;
  link_reads = link_reads;
  link_writes = link_writes;
  opened = counts_on first.opened opened;
  hung_up = counts_on first.hung_up hung_up;
  mark = inner.mark;
}
