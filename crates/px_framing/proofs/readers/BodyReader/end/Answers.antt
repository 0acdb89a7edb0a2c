use Rattle.std.proofs.Common.{◌∙◌, ap, subst}
use Rattle.px_framing.specs.Reading.{Reading, IsSettled, end_state}
use Rattle.px_framing.proofs.StepLemmas.{end-of}
use Rattle.px_framing.proofs.PassLemmas.{end-due}
use Rattle.px_framing.proofs.readers.BodyReader.end.Goals as goal

pub returns-clause-by_rule : goal.returns-clause-by_rule
returns-clause-by_rule c rule bytes raw plain count after =
    c.end_state-state.ensures ∙ ap (λ (r : Reading). end_state r.stage) c.self.view_is
    ∙ end-of rule bytes raw plain count c.args.self.now after (subst (λ (r : Reading). IsSettled r) c.self.view_is c.self.invariant)

pub returns-clause-due : goal.returns-clause-due
returns-clause-due c =
    c.end_state-state.ensures ∙ ap (λ (r : Reading). end_state r.stage) c.self.view_is ∙ end-due c.args.self.now (subst (λ (r : Reading). IsSettled r) c.self.view_is c.self.invariant)
