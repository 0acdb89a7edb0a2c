use Rattle.std.proofs.Common.{◌≡◌, false, List, ℕ, sym, ◌∙◌, ap, flat_map}
use Rattle.px_framing.specs.Rules.{items_of, codings_name, codings_of}
use Rattle.px_framing.specs.Seen.{seen_all}
use Rattle.px_framing.specs.declared.rules.CodingsSeen.{CodingsSeen}
use Rattle.px_framing.proofs.RuleLemmas.{seen-next, seen-alone, seen-last, no-fields}
use Rattle.px_framing.proofs.rules.read_codings.Goals as goal

pub loop-field-preserved : goal.loop-field-preserved
loop-field-preserved c =
    c.loop-field.invariant ∙ seen-next c.loop-field.seen c.read_field-seen.result c.args.fields.now c.loop-field.field-index c.field-item.result c.loop-field-test.true c.field-item.is c.read_field-seen.ensures

-- all were seen
all : (c : goal.After-loop-field) → seen_all (record { any = false; alone = false; last = false }) (codings_of c.args.fields.now) ≡ c.loop-field.seen
all c = c.loop-field.invariant ∙ ap (λ (vs : List (List ℕ)). seen_all c.loop-field.seen (flat_map items_of vs)) (no-fields codings_name c.args.fields.now c.loop-field.field-index c.loop-field-test.false)

pub returns-clause-alone : goal.returns-clause-alone
returns-clause-alone c = sym (ap (λ (s : CodingsSeen). s.alone) (all c)) ∙ seen-alone (codings_of c.args.fields.now)

pub returns-clause-last : goal.returns-clause-last
returns-clause-last c = sym (ap (λ (s : CodingsSeen). s.last) (all c)) ∙ seen-last (codings_of c.args.fields.now)
