use Rattle.std.proofs.Common.{◌≡◌, subst, OnOk, List}
use Rattle.std.proofs.lemmas.List.{take_rest}
use Rattle.px_templates.specs.Pieces.{Piece}
use Rattle.px_templates.specs.Runs.{held_pieces}
use Rattle.px_templates.proofs.PieceLemmas.{parts_byte, parts_end, parts_value}
use Rattle.px_templates.proofs.runs.push_parts.Goals as goal

pub parts-preserved-in-None : goal.parts-preserved-in-None
parts-preserved-in-None c =
    parts_byte c.args.runs.now.items c.args.condition c.args.text.now _ c.parts.from c.parts.at c.parts.runs.items c.parts.invariant c.parts-test.true
    (take_rest c.args.text.now c.parts.at) c.in-None.ensures.symbol

pub parts-preserved : goal.parts-preserved
parts-preserved c =
    parts_value c.args.runs.now.items c.args.condition c.args.text.now _ c.mark.result.now c.parts.from c.parts.at c.in-Some.symbol c.parts.runs.items
    c.push_bytes.new.runs.items c.push_value.new.runs.items c.parts.invariant c.parts-test.true (take_rest c.args.text.now c.parts.at)
    c.in-Some.ensures.symbol c.in-Some.ensures.within c.mark.ensures c.in_ok-push_bytes-in-Some.ensures c.in_ok-push_value-in-Some.ensures

pub returns : goal.returns
returns c =
    subst (λ (l : List Piece). OnOk c.push_bytes-2.result (held_pieces c.push_bytes-2.new.runs.items ≡ l))
    (parts_end c.args.runs.now.items c.args.condition c.args.text.now c.parts.from c.parts.at c.parts.runs.items c.parts.invariant c.parts-test.false)
    c.push_bytes-2.ensures
