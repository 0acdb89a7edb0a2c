use Rattle.std.proofs.Common.{◌≡◌, ◌∷◌, ap, ◌∙◌, arith}
use Rattle.std.proofs.lemmas.Grind.{common_steps}
use Rattle.px_merge.specs.Merged.{Merged}
use Rattle.px_taggers.specs.Fronts.{IsWithinLine}
use Rattle.px_taggers.specs.Tagging.{after_line, rules, state}
use Rattle.px_taggers.proofs.FrontLemmas.{lines_begin, lines_pause, on_err_given, runs_more}
use Rattle.px_taggers.proofs.lines.tag_lines.Goals as goal

pub returns-in_err-places-clause-err : goal.returns-in_err-places-clause-err
returns-in_err-places-clause-err c =
    on_err_given c.from_residual.result
    (lines_begin (rules c.args.sections.now.sections c.args.filters.now c.args.headers.now.side c.args.headers.now.vars.now) (state c.args.set.now c.args.tags.now) c.args.headers.now.lines.now)

pub returns-in_err-places-2-clause-err : goal.returns-in_err-places-2-clause-err
returns-in_err-places-2-clause-err c =
    let side = c.args.headers.now.side in
    let vars = c.args.headers.now.vars.now in
    let sections = c.args.sections.now.sections in
    let all = rules sections c.args.filters.now side vars in
    let start = state c.args.set.now c.args.tags.now in
    let before = state c.lines.set c.lines.tags in
    let behind = state c.run_taggers.new.set c.run_taggers.new.tags in
    let line = c.as_bytes.result.now in
    let cut : c.lines.rest.now ≡ c.in-Some.line.now ∷ c.in-Some.others.now = grind (arith, common_steps) in
    let is : behind ≡ after_line all before c.in-Some.line.now =
    c.in_ok-is_new.ensures.done
    ∙ ap (λ (m : Merged). after_line (rules m.sections c.lines.filters side vars) before line) c.lines.invariant.sections
    ∙ ap (λ filters. after_line (rules sections filters side vars) before line) c.lines.invariant.filters
    ∙ ap (after_line all before) c.as_bytes.ensures in
    on_err_given c.from_residual-in_err-places-2.result
    (lines_pause all start c.args.headers.now.lines.now behind c.in-Some.others.now
    (runs_more (IsWithinLine all) (after_line all) start c.args.headers.now.lines.now before behind c.lines.rest.now c.in-Some.others.now c.in-Some.line.now cut is c.lines.invariant.runs))
