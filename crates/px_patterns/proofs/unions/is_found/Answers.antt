use Rattle.regex.specs.Bytes.{set_matcher_patterns}
use Rattle.px_patterns.proofs.UnionLemmas.{any_found}
use Rattle.px_patterns.proofs.unions.is_found.Goals as goal

pub returns-clause-found : goal.returns-clause-found
returns-clause-found c = any_found (set_matcher_patterns c.args.matcher.now) c.args.bytes.now c.is_match.result c.is_match.ensures.found
