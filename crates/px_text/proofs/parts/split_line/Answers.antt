use Rattle.std.proofs.Common.{◌∙◌, ◌∷◌, ◌+◌, ◌-◌, sym, ap, length, take, drop}
use Rattle.std.specs.Str.Lines.{lines}
use Rattle.px_text.proofs.PartLemmas.{lines-at, lines-last}
use Rattle.px_text.proofs.parts.split_line.Goals as goal

pub returns-in-None-clause-split : goal.returns-in-None-clause-split
returns-in-None-clause-split c = lines-last c.args.text.now c.requires c.in-None.ensures

pub returns-in-Some-clause-split : goal.returns-in-Some-clause-split
returns-in-Some-clause-split c =
    lines-at c.args.text.now c.in-Some.at c.in-Some.ensures.0.high c.in-Some.ensures.1 c.in-Some.ensures.0.before ∙ ap (λ l. l ∷ lines (take (length c.args.text.now - (c.in-Some.at + 1)) (drop (c.in-Some.at + 1) c.args.text.now))) (sym c.without_return.ensures)
