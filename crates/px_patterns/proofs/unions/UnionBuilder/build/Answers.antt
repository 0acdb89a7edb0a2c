use Rattle.px_patterns.proofs.unions.UnionBuilder.build.Goals as goal

pub invariant_of-result : goal.invariant_of-result
invariant_of-result c = rw (c.from_regexes.ensures.sources, c.from_regexes.ensures.patterns) c.self.invariant
