use Rattle.std.proofs.Common.{◌∙◌, ap, sym}
use Rattle.std.proofs.lemmas.Bool.{ne_eqb}
use Rattle.std.proofs.lemmas.List.{take_rest}
use Rattle.px_patterns.proofs.OptionLemmas.{MatchOption-weaker}
use Rattle.px_patterns.specs.declared.TheConstants.{BRACKET_BEGIN}
use Rattle.px_patterns.specs.Urls.{bracketed_host}
use Rattle.px_patterns.proofs.UrlLemmas.{host_bracketed, host_named, not_bracketed}
use Rattle.px_patterns.proofs.url_readings.host_of.Goals as goal
use Rattle.px_patterns.proofs.url_readings.host_of.Goals.{else-not-is_empty-via-then-not-is_empty+else-part-eq-BRACKET_BEGIN, else-not-is_empty-via-else-not-is_empty}

pub returns-then-part-eq-BRACKET_BEGIN : goal.returns-then-part-eq-BRACKET_BEGIN
returns-then-part-eq-BRACKET_BEGIN c =
    let whole = host_bracketed c.args.part.now c.if-part-eq-BRACKET_BEGIN.true ∙ ap bracketed_host (sym (take_rest c.args.part.now 1)) in
    MatchOption-weaker c.bracketed_host.result c.bracketed_host.ensures (λ none. whole ∙ none) (λ parts some. whole ∙ some)

pub returns-else-not-is_empty : goal.returns-else-not-is_empty
returns-else-not-is_empty c =
    let whole =
    host_named c.args.part.now
    (elim c.else-not-is_empty.branch [
      | else-not-is_empty-via-then-not-is_empty+else-part-eq-BRACKET_BEGIN w ↦ ne_eqb _ BRACKET_BEGIN w.if-part-eq-BRACKET_BEGIN.false
      | else-not-is_empty-via-else-not-is_empty w ↦ not_bracketed c.args.part.now (sym c.is_empty.ensures ∙ w.if-not-is_empty.false)
    ]) in
    MatchOption-weaker c.named_host.result c.named_host.ensures (λ none. whole ∙ none) (λ parts some. whole ∙ some)
