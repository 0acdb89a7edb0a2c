use Rattle.px_base.specs.Sources.{SourceGoesOn}
use Rattle.px_part_tests.proofs.socks.listen.Given as goal

abbrev pub invariant-loop : goal.invariant-loop
invariant-loop g l = SourceGoesOn (g.S.Source.state l.initial.source) (g.S.Source.state l.source)
