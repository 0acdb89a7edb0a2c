use Rattle.px_headers.proofs.FilterLemmas.{lines-found, lines-none}
use Rattle.px_headers.proofs.filtering.filter_lines.Goals as goal

pub returns-then-some_found-clause-value : goal.returns-then-some_found-clause-value
returns-then-some_found-clause-value c =
    lines-found c.filtered_fields.result c.args.held.now c.args.rules.now.set.now c.args.rules.now.filters.now c.args.warm.now c.args.rules.now.vars.now c.args.fields c.filter_kind-kind.result c.filter_names-names.result.now
    c.some_found.result c.filter_kind-kind.ensures c.filter_names-names.ensures c.requires c.some_found.ensures c.if-some_found.true c.filtered_fields.ensures.value

pub returns-else-some_found-clause-value : goal.returns-else-some_found-clause-value
returns-else-some_found-clause-value c = λ message received is.
    lines-none message received c.args.held.now c.args.rules.now.set.now c.args.rules.now.filters.now c.args.rules.now.vars.now c.args.fields c.filter_kind-kind.result c.filter_names-names.result.now
    c.some_found.result is c.filter_kind-kind.ensures c.filter_names-names.ensures c.some_found.ensures c.if-some_found.false
