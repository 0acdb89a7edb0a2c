use Rattle.std.proofs.Common.{◌+◌, ◌∙◌, sym, ap, subst, refl, Option, ℕ}
use Rattle.px_text.specs.declared.joinings.Joining.{Joining}
use Rattle.px_text.specs.Joinings.{IsLaterLine}
use Rattle.px_text.proofs.StepLemmas.{first_noted, later_kept, later_noted, none_noted, with_note-other, with_note-text}
use Rattle.px_text.proofs.joinings.Joining.note.Goals as goal

abbrev with_not_text : Joining → Option ℕ → Joining
with_not_text j o = record j { not_text = o }

pub returns-then-is_text-clause-noted : goal.returns-then-is_text-clause-noted
returns-then-is_text-clause-noted c =
    ap (with_not_text c.args.self.now) (sym (with_note-text c.args.self.now c.args.line.now (sym c.is_text.ensures ∙ c.if-is_text.true)))

pub returns-then-is_text-clause-later : goal.returns-then-is_text-clause-later
returns-then-is_text-clause-later c =
    let j = c.args.self.now in
    subst (IsLaterLine j.number (j.next + 1)) (sym (with_note-text j c.args.line.now (sym c.is_text.ensures ∙ c.if-is_text.true))) (later_kept j.number j.next j.not_text c.requires.joining.later)

pub returns-then-self-clause-refused : goal.returns-then-self-clause-refused
returns-then-self-clause-refused c =
    let j = c.args.self.now in
    (refl, with_note-other j c.args.line.now (sym c.is_text.ensures ∙ c.if-is_text.false) ∙ first_noted j.number j.next j.not_text c.requires.joining.later c.if-self.true)

pub returns-then-is_none-clause-noted : goal.returns-then-is_none-clause-noted
returns-then-is_none-clause-noted c =
    let j = c.args.self.now in
    ap (with_not_text j)
    (none_noted j.not_text j.next c.is_none.result c.is_none.ensures c.if-is_none.true ∙ sym (with_note-other j c.args.line.now (sym c.is_text.ensures ∙ c.if-is_text.false)))

pub returns-then-is_none-clause-later : goal.returns-then-is_none-clause-later
returns-then-is_none-clause-later c =
    let j = c.args.self.now in
    subst (IsLaterLine j.number (j.next + 1)) (sym (with_note-other j c.args.line.now (sym c.is_text.ensures ∙ c.if-is_text.false)))
    (later_noted j.number j.next j.not_text c.requires.joining.ordered c.if-self.false c.requires.joining.later)
