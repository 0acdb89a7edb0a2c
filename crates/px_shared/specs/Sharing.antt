-- Ends over a pool of links, and how the inner links are told by the pool's dials.
use Rattle.std.specs.Prelude.{◌≡◌, ℕ, ◌≤◌, true, false, IsTrue, List, []}
use Rattle.px_base.specs.Dials.{DialerState}
use Rattle.px_base.specs.declared.dials.Dial.{Dial}
use Rattle.px_ends.specs.Ends.{EndsState}
use Rattle.px_pool_ends.specs.Incomings.{Hearing}
use Rattle.px_pool_ends.specs.Outgoings.{Sending}
use Rattle.px_link_pool.specs.Balances.{IsBalanced}
use Rattle.px_link_pool.specs.Histories.{Views, are_due, wanting_count, AreJudged}
use Rattle.px_link_pool.specs.Joins.{dials_over, inner_at_end}
use Rattle.px_link_pool.specs.Pools.{counts_on}
use Rattle.px_link_pool.specs.declared.histories.History.{History}

-- a pool that was just made over a dialer, as a dialer: how many links its dials gave, and how many were hung up, goes on from the
-- dialer's counts
abbrev pub pooled : DialerState → DialerState
pooled d = record { tells = d.tells; dials = []; tells_coming = false; coming = []; through_servers = false; names = d.names; reach = d.reach; link_reads = 0; link_writes = 0; opened = counts_on d.opened 0; hung_up = counts_on d.hung_up 0; mark = d.mark }

-- the same ends, with a pool over their dialer that was just made
abbrev pub pooled_ends : EndsState → EndsState
pooled_ends e = record { client = e.client; client_out = e.client_out; dialer = pooled e.dialer; clock = e.clock; peer = e.peer }

-- The dialer that a pool leaves when it is taken apart: as many of its links are open as of the pool's, which counts on from the
-- dialer over which it was made; so where every link of the pool was hung up, as many of its own are open as were then, unless a
-- count is at its end.
pub record IsLeftBy (pool inner : DialerState) : Type 0 where
  pub tells : inner.tells ≡ pool.tells
  pub names_later : pool.names ≤ inner.names
  pub reach_later : pool.reach ≤ inner.reach
  pub mark : inner.mark ≡ pool.mark
  pub balance : IsBalanced inner pool.opened pool.hung_up 0

-- What was done with a pool, by which its dials tell the inner ones behind those of before: what was heard and sent over each
-- inner link is that of the pool's dials over it, joined. The inner dialer was asked exactly where no link was kept, and each
-- link that was handed back was judged by its answer.
pub record PoolTells {S T : Type 0} (v : Views S T) (before pool_dials inner_dials : List Dial) (history : History Hearing Sending S T) : Type 0 where
  pub dials : pool_dials ≡ dials_over v history
  pub joined : inner_dials ≡ inner_at_end before v history
  pub due : are_due v history ≡ true
  pub judged : ∥ AreJudged history ∥₁

-- A pool over a dialer that had dialled nothing was taken apart, which left that dialer. What was done with the pool tells the
-- dials of both, and for so many links memory was wanting while their answer was followed.
pub record LeavesPool {S T : Type 0} (v : Views S T) (pool inner : DialerState) (wanting : ℕ) : Type 0 where
  pub is_left : IsLeftBy pool inner
  pub history : History Hearing Sending S T
  pub told : IsTrue pool.tells → PoolTells v [] pool.dials inner.dials history
  pub counted : wanting ≡ wanting_count history

-- ends of which the pool was taken apart: all but the dialer is the same
pub record Unpools {S T : Type 0} (v : Views S T) (over below : EndsState) (wanting : ℕ) : Type 0 where
  pub leaves : LeavesPool v over.dialer below.dialer wanting
  pub rest : below ≡ record over { dialer = below.dialer }
