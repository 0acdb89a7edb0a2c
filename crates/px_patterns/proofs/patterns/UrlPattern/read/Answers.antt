use Rattle.std.proofs.Common.{◌∙◌, sym, ap, None, Some}
use Rattle.px_patterns.specs.Patterns.{behind_slash, has_protocol, pattern_of_parts, url_pattern}
use Rattle.px_patterns.proofs.FaultLemmas.{handed_ok, handed_refusal}
use Rattle.px_patterns.proofs.PatternLemmas.{pattern_no_slash, pattern_protocol, pattern_slash}
use Rattle.px_patterns.proofs.patterns.UrlPattern.read.Goals as goal

pub returns-then-has_protocol-clause-refused : goal.returns-then-has_protocol-clause-refused
returns-then-has_protocol-clause-refused c =
    pattern_protocol c.args.text.now (ap has_protocol (sym c.as_bytes.ensures.value) ∙ (sym c.has_protocol.ensures ∙ c.if-has_protocol.true))

pub returns-in-Some-clause-pattern : goal.returns-in-Some-clause-pattern
returns-in-Some-clause-pattern c =
    handed_ok c.read_parts.result (url_pattern c.args.text.now) (pattern_of_parts c.in-Some.host_part.now (behind_slash (Some c.in-Some.path.now)))
    (pattern_slash c.args.text.now c.in-Some.host_part.now c.in-Some.path.now (ap has_protocol (sym c.as_bytes.ensures.value) ∙ (sym c.has_protocol.ensures ∙ c.if-has_protocol.false)) c.in-Some.ensures)
    c.read_parts.ensures.pattern

pub returns-in-Some-clause-refused : goal.returns-in-Some-clause-refused
returns-in-Some-clause-refused c =
    handed_refusal c.read_parts.result (url_pattern c.args.text.now) (pattern_of_parts c.in-Some.host_part.now (behind_slash (Some c.in-Some.path.now)))
    (pattern_slash c.args.text.now c.in-Some.host_part.now c.in-Some.path.now (ap has_protocol (sym c.as_bytes.ensures.value) ∙ (sym c.has_protocol.ensures ∙ c.if-has_protocol.false)) c.in-Some.ensures)
    c.read_parts.ensures.refused

pub returns-in-None-clause-pattern : goal.returns-in-None-clause-pattern
returns-in-None-clause-pattern c =
    handed_ok c.read_parts-in-None.result (url_pattern c.args.text.now) (pattern_of_parts c.args.text.now (behind_slash None))
    (pattern_no_slash c.args.text.now (ap has_protocol (sym c.as_bytes.ensures.value) ∙ (sym c.has_protocol.ensures ∙ c.if-has_protocol.false)) c.in-None.ensures) c.read_parts-in-None.ensures.pattern

pub returns-in-None-clause-refused : goal.returns-in-None-clause-refused
returns-in-None-clause-refused c =
    handed_refusal c.read_parts-in-None.result (url_pattern c.args.text.now) (pattern_of_parts c.args.text.now (behind_slash None))
    (pattern_no_slash c.args.text.now (ap has_protocol (sym c.as_bytes.ensures.value) ∙ (sym c.has_protocol.ensures ∙ c.if-has_protocol.false)) c.in-None.ensures) c.read_parts-in-None.ensures.refused
