use Rattle.std.proofs.Common.{◌≡◌, ◌++◌, ◌+◌, ◌∙◌, ap, Some, length, arith, refl}
use Rattle.std.proofs.lemmas.List.{take_rest}
use Rattle.px_templates.specs.declared.fronts.TemplateFront.TheVariants as front
use Rattle.px_templates.specs.Pieces.{parts_behind}
use Rattle.px_templates.specs.Symbols.{start_of, end_mark}
use Rattle.px_templates.specs.Runs.{held_pieces}
use Rattle.px_templates.proofs.PieceLemmas.{ended_all, inside-is, open_here, pieces_byte, pieces_end, pieces_front, pieces_init}
use Rattle.px_templates.proofs.templates.read_runs.Goals as goal

pub fronts-init : goal.fronts-init
fronts-init c = pieces_init c.args.text.now c.new-runs.result.items c.new-runs.ensures.items

pub fronts-preserved-in-Byte : goal.fronts-preserved-in-Byte
fronts-preserved-in-Byte c =
    pieces_byte c.args.text.now _ c.fronts.from c.fronts.at c.fronts.runs.items c.fronts.invariant c.fronts-test.true (take_rest c.args.text.now c.fronts.at)
    c.in-Byte.ensures.front

pub fronts-preserved-in-Value : goal.fronts-preserved-in-Value
fronts-preserved-in-Value c =
    pieces_front c.args.text.now _ c.fronts.from c.fronts.at (c.fronts.at + length c.mark.result.now) (front.Value c.in-Value.symbol) c.fronts.runs.items
    c.push_bytes.new.runs.items c.push_value.new.runs.items c.fronts.invariant c.fronts-test.true (take_rest c.args.text.now c.fronts.at)
    c.in-Value.ensures.front c.in-Value.ensures.within (λ e. cc) (ap (λ l. c.fronts.at + length l) c.mark.ensures)
    c.in_ok-push_bytes-in-Value.ensures c.in_ok-push_value-in-Value.ensures

pub fronts-preserved : goal.fronts-preserved
fronts-preserved c =
    let k = c.in-Block.condition in
    let n = c.in-Block.len in
    let starts : length c.start.result.now ≡ length (start_of k) = ap length c.start.ensures in
    let ends : length c.end.result.now ≡ length (end_mark k) = ap length c.end.ensures in
    pieces_front c.args.text.now _ c.fronts.from c.fronts.at (c.fronts.at + length c.start.result.now + n + length c.end.result.now) (front.Block k n)
    c.fronts.runs.items c.push_bytes-in-Block.new.runs.items c.push_parts.new.runs.items c.fronts.invariant c.fronts-test.true
    (take_rest c.args.text.now c.fronts.at) c.in-Block.ensures.front c.in-Block.ensures.within (λ e. cc) (omega arith)
    c.in_ok-push_bytes-in-Block.ensures
    (c.in_ok-push_parts-in-Block.ensures
    ∙ ap (λ l. held_pieces c.push_bytes-in-Block.new.runs.items ++ parts_behind (Some k) 0 l)
    (inside-is k n c.fronts.at (c.fronts.at + length c.start.result.now) c.args.text.now c.start.result.now c.start.ensures refl))

pub returns-in-Open-clause-refused : goal.returns-in-Open-clause-refused
returns-in-Open-clause-refused c =
    open_here c.args.text.now _ c.fronts.from c.fronts.at c.line_at.result c.fronts.runs.items c.fronts.invariant c.fronts-test.true
    (take_rest c.args.text.now c.fronts.at) c.in-Open.ensures.front c.line_at.ensures

pub returns-clause-pieces : goal.returns-clause-pieces
returns-clause-pieces c =
    c.in_ok-push_bytes.ensures ∙ pieces_end c.args.text.now c.fronts.from c.fronts.at c.fronts.runs.items c.fronts.invariant c.fronts-test.false

pub returns-clause-ended : goal.returns-clause-ended
returns-clause-ended c = ended_all c.args.text.now c.fronts.from c.fronts.at c.fronts.runs.items c.fronts.invariant c.fronts-test.false
