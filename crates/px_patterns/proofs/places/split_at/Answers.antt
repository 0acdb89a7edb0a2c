use Rattle.std.specs.Prelude.{◌==◌}
use Rattle.px_patterns.proofs.OptionLemmas.{MatchOption-weaker}
use Rattle.std.proofs.lemmas.Str.Pattern.{split_once_first}
use Rattle.px_patterns.proofs.PlaceLemmas.{cut-no, cut-yes}
use Rattle.px_patterns.proofs.places.split_at.Goals as goal

pub returns : goal.returns
returns c =
    MatchOption-weaker c.split_once.result (split_once_first c.args.stop c.args.text.now c.split_once.result c.split_once.ensures.cases c.requires) (cut-no (λ b. b == c.args.stop) c.args.text.now)
    (λ parts cut. cut-yes (λ b. b == c.args.stop) c.args.text.now parts.0.now parts.1.now cut)
