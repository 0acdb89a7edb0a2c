use Rattle.std.proofs.Common.{◌++◌, sym, ap, ◌∙◌, option_map, arith}
use Rattle.std.specs.Prelude.{slice_get}
use Rattle.px_text.specs.declared.lines.Line.{Line}
use Rattle.px_action_files.specs.PatternLines.{pattern_lines}
use Rattle.px_action_files.proofs.PatternLineLemmas.{same_patterns, patterns_first, pattern_here, pattern_later, pattern_nowhere}
use Rattle.px_action_files.proofs.files.ActionFile.line_of_pattern.Goals as goal

pub headings-init : goal.headings-init
headings-init c = record {
  same = ap (λ ps. slice_get ps c.args.n) (same_patterns c.split_body.result.1.now c.args.lines.now c.split_body.ensures.later);
  begins = c.split_body.ensures.front;
}

pub returns-then-left-patterns : goal.returns-then-left-patterns
returns-then-left-patterns c =
    let later = c.split_body-in-Some.result.1.now in
    let patterns = c.patterns_under-patterns.result.now in
    let first =
    patterns_first c.headings.rest.now c.in-Some.heading.now c.in-Some.others.now c.split_body-in-Some.result.0.now later c.in-Some.ensures.cases.0
    c.headings.invariant.begins c.split_body-in-Some.ensures.body c.split_body-in-Some.ensures.later
    ∙ ap (λ ps. ps ++ pattern_lines later) (sym c.patterns_under-patterns.ensures) in
    ap (option_map (λ (l : Line). l.number))
    (sym (pattern_here c.headings.rest.now later patterns c.headings.left c.index-patterns-left.result first (omega (arith, c.if-left-patterns.true)))
    ∙ c.headings.invariant.same)

pub headings-preserved : goal.headings-preserved
headings-preserved c =
    let later = c.split_body-in-Some.result.1.now in
    let patterns = c.patterns_under-patterns.result.now in
    let first =
    patterns_first c.headings.rest.now c.in-Some.heading.now c.in-Some.others.now c.split_body-in-Some.result.0.now later c.in-Some.ensures.cases.0
    c.headings.invariant.begins c.split_body-in-Some.ensures.body c.split_body-in-Some.ensures.later
    ∙ ap (λ ps. ps ++ pattern_lines later) (sym c.patterns_under-patterns.ensures) in
    record {
      same = pattern_later c.headings.rest.now later patterns c.headings.left first (omega (arith, c.if-left-patterns.false)) ∙ c.headings.invariant.same;
      begins = c.split_body-in-Some.ensures.front;
    }

pub returns : goal.returns
returns c =
    ap (option_map (λ (l : Line). l.number)) (sym (pattern_nowhere c.headings.rest.now c.headings.left c.in_default.ensures.cases) ∙ c.headings.invariant.same)
