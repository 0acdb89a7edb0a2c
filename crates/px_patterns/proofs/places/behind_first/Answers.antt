use Rattle.px_patterns.proofs.OptionLemmas.{MatchOption-weaker}
use Rattle.std.proofs.lemmas.Str.Pattern.{strip_prefix_char}
use Rattle.px_patterns.proofs.PlaceLemmas.{begins-no, begins-yes}
use Rattle.px_patterns.proofs.places.behind_first.Goals as goal

pub returns : goal.returns
returns c =
    MatchOption-weaker c.strip_prefix.result (strip_prefix_char c.args.first c.args.text.now c.strip_prefix.result c.strip_prefix.ensures.cases c.requires.ascii)
    (begins-no c.args.first c.args.text.now c.requires.some) (λ rest is. begins-yes c.args.first c.args.text.now rest.now is)
