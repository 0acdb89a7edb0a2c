use Rattle.std.proofs.Common.{◌≡◌, IsTrue, length}
use Rattle.px_base.specs.Dials.{DialerGoesOn}
use Rattle.px_link_pool.specs.Balances.{HangsUpOthers}
use Rattle.px_link_pool.specs.Shelves.{items}
use Rattle.px_link_pool.specs.Standing.{kept_states, are_ready}
use Rattle.px_link_pool.proofs.resting.take_resting.Given as goal

abbrev pub invariant-looks : goal.invariant-looks
invariant-looks g l = record {
  all : IsTrue (g.D.LocalDialer.state l.fn.inner).tells → l.left ≡ l.fn.shelf;
  same : IsTrue (g.D.LocalDialer.state l.fn.inner).tells → g.D.LocalDialer.state l.inner ≡ g.D.LocalDialer.state l.fn.inner;
  ready : IsTrue (are_ready (kept_states g.D.In.LocalSource.state g.D.Out.LocalSink.state (items l.left)));
  tells : (g.D.LocalDialer.state l.inner).tells ≡ (g.D.LocalDialer.state l.fn.inner).tells;
  names : (g.D.LocalDialer.state l.inner).names ≡ (g.D.LocalDialer.state l.fn.inner).names;
  reach : (g.D.LocalDialer.state l.inner).reach ≡ (g.D.LocalDialer.state l.fn.inner).reach;
  hung_up : HangsUpOthers (g.D.LocalDialer.state l.fn.inner) (g.D.LocalDialer.state l.inner) (length (items l.fn.shelf)) (length (items l.left));
  goes_on : DialerGoesOn (g.D.LocalDialer.state l.fn.inner) (g.D.LocalDialer.state l.inner);
}

abbrev pub decreases-looks : goal.decreases-looks
decreases-looks g l = length (items l.left)
