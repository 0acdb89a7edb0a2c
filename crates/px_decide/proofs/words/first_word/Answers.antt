use Rattle.std.proofs.Common.{◌∙◌, ap, arith}
use Rattle.px_base.specs.Blanks.{trimmed}
use Rattle.px_decide.proofs.WordLemmas.{end_low, first_is, start_ok}
use Rattle.px_decide.proofs.words.first_word.Goals as goal

pub range-requires-clause-start_boundary : goal.range-requires-clause-start_boundary
range-requires-clause-start_boundary c =
    λ some. (
      omega arith,
      λ inside high. start_ok c.args.value.now c.as_bytes-bytes.result.now c.white_end-start.result c.utf8.value c.as_bytes-bytes.ensures.value
          c.white_end-start.ensures.end some inside high,
    )

pub range-requires-clause-end_boundary : goal.range-requires-clause-end_boundary
range-requires-clause-end_boundary c = (
  omega arith,
  λ inside high. absurd (omega (arith, end_low c.args.value.now c.as_bytes-bytes.result.now c.white_end-start.result c.word_end.result c.as_bytes-bytes.ensures.value c.word_end.ensures.end inside)),
)

pub returns : goal.returns
returns c = first_is c.args.value.now c.as_bytes-bytes.result.now c.range.result.now c.trim.result.now c.white_end-start.result c.word_end.result
    c.as_bytes-bytes.ensures.value c.white_end-start.ensures.end c.word_end.ensures.end c.range.ensures.value (c.trim.ensures ∙ ap trimmed c.behind.ensures)
