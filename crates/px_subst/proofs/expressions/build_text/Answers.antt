use Rattle.std.proofs.Common.{◌∙◌, subst, sym}
use Rattle.regex.specs.Bytes.{regex_pattern}
use Rattle.px_subst.specs.Expressions.{IsJobBuiltFrom}
use Rattle.regex.specs.Names.{names_of}
use Rattle.px_subst.proofs.ExpressionLemmas.{built_expression, refused_expression, options_of, source_of}
use Rattle.px_subst.proofs.expressions.build_text.Goals as goal

pub returns-in-Ok : goal.returns-in-Ok
returns-in-Ok c =
    let p = c.in-Ok.regex.pattern in
    let source_is = c.in-Ok.ensures.source
    ∙ source_of c.args.flags _ _ _ _ _ _ c.new.ensures.config c.case_insensitive.ensures c.multi_line.ensures c.dot_matches_new_line.ensures c.swap_greed.ensures c.ignore_whitespace.ensures
    ∙ c.new.ensures.source in
    let built = built_expression c.args.flags c.args.source.now c.utf8.source p.config _ p.program.hir (names_of p.names.items)
    (c.in-Ok.ensures.config
    ∙ options_of c.args.flags _ _ _ _ _ _ c.new.ensures.config c.case_insensitive.ensures c.multi_line.ensures c.dot_matches_new_line.ensures c.swap_greed.ensures c.ignore_whitespace.ensures)
    source_is c.in-Ok.ensures.read in
    (source_is, subst (λ text. IsJobBuiltFrom c.args.flags text (regex_pattern c.in-Ok.regex)) (sym source_is) built)

pub returns-in-Err-Syntax : goal.returns-in-Err-Syntax
returns-in-Err-Syntax c =
    let kind = rw c.in-Err-Syntax.field-0-is at c.in-Err-Syntax.ensures.kind in
    refused_expression c.args.flags c.args.source.now c.utf8.source _ _ c.in-Err-Syntax.field-0-0.kind
    (options_of c.args.flags _ _ _ _ _ _ c.new.ensures.config c.case_insensitive.ensures c.multi_line.ensures c.dot_matches_new_line.ensures c.swap_greed.ensures c.ignore_whitespace.ensures)
    (source_of c.args.flags _ _ _ _ _ _ c.new.ensures.config c.case_insensitive.ensures c.multi_line.ensures c.dot_matches_new_line.ensures c.swap_greed.ensures c.ignore_whitespace.ensures
    ∙ c.new.ensures.source)
    kind (c.in-Err-Syntax.ensures.refused _ c.in-Err-Syntax.field-0-is)
