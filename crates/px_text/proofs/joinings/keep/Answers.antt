use Rattle.std.proofs.Common.{◌++◌, ◌∷◌, [], ◌∙◌, sym, ap, append-nil}
use Rattle.px_text.proofs.JoiningLemmas.{line_of}
use Rattle.px_text.proofs.StepLemmas.{kept_line-empty, kept_line-some}
use Rattle.px_text.proofs.joinings.keep.Goals as goal
use Rattle.px_text.proofs.joinings.keep.Goals.{in-Ok, in-Err}

pub returns-then-is_empty : goal.returns-then-is_empty
returns-then-is_empty c =
    sym (append-nil c.args.lines.now)
    ∙ ap (λ l. c.args.lines.now ++ l) (sym (kept_line-empty c.args.number c.args.text.now c.trim-text.result.now c.trim-text.ensures (sym c.is_empty.ensures ∙ c.if-is_empty.true)))

pub returns : goal.returns
returns c =
    elim c.match-push.branch [
      | in-Ok w ↦ rw w.result-is
          (w.in-Ok.ensures.ok
          ∙ ap (λ l. c.args.lines.now ++ l)
          (ap (λ text. line_of c.args.number text ∷ []) c.in_ok-from_bytes.ensures
          ∙ sym (kept_line-some c.args.number c.args.text.now c.trim-text.result.now c.trim-text.ensures (sym c.is_empty.ensures ∙ c.if-is_empty.false))))
      | in-Err w ↦ rw w.result-is tt
    ]
