use Rattle.std.proofs.Common.{◌≡◌, ◌∙◌, sym, refl, ap, false}
use Rattle.px_patterns.specs.Hosts.{labels_in, labels_match, rest_bytes}
use Rattle.px_patterns.proofs.HostLemmas.{fits_front, fits_here, fits_later, fits_none}
use Rattle.px_patterns.proofs.hosts.HostLabels.matches_forwards.Goals as goal

pub returns-then-matches_from_front : goal.returns-then-matches_from_front
returns-then-matches_from_front c =
    sym
    (c.labels.invariant
    ∙ fits_here c.args.self.now (labels_in c.labels.rest.now)
    (ap (λ l. labels_match c.args.self.now.open_end l (labels_in c.labels.rest.now)) (sym c.as_slice.ensures) ∙ (sym c.matches_from_front.ensures ∙ c.if-matches_from_front.true)))

pub returns-then-not-self : goal.returns-then-not-self
returns-then-not-self c =
    let fails : labels_match c.args.self.now.open_end c.args.self.now.labels (labels_in c.labels.rest.now) ≡ false =
    ap (λ l. labels_match c.args.self.now.open_end l (labels_in c.labels.rest.now)) (sym c.as_slice.ensures) ∙ (sym c.matches_from_front.ensures ∙ c.if-matches_from_front.false) in
    sym (c.labels.invariant ∙ fits_front c.args.self.now (labels_in c.labels.rest.now) c.if-not-self.true fails)

pub returns-in-Nothing : goal.returns-in-Nothing
returns-in-Nothing c =
    let fails : labels_match c.args.self.now.open_end c.args.self.now.labels (labels_in c.labels.rest.now) ≡ false =
    ap (λ l. labels_match c.args.self.now.open_end l (labels_in c.labels.rest.now)) (sym c.as_slice.ensures) ∙ (sym c.matches_from_front.ensures ∙ c.if-matches_from_front.false) in
    sym
    (c.labels.invariant
    ∙ fits_none c.args.self.now c.labels.rest.now c.first_label.result.0.now (rw c.in-Nothing.is at c.first_label.ensures.parts) c.if-not-self.false (c.requires c.if-not-self.false) fails)

pub labels-preserved : goal.labels-preserved
labels-preserved c =
    let fails : labels_match c.args.self.now.open_end c.args.self.now.labels (labels_in c.labels.rest.now) ≡ false =
    ap (λ l. labels_match c.args.self.now.open_end l (labels_in c.labels.rest.now)) (sym c.as_slice.ensures) ∙ (sym c.matches_from_front.ensures ∙ c.if-matches_from_front.false) in
    c.labels.invariant
    ∙ fits_later c.args.self.now c.labels.rest.now c.first_label.result.0.now (rest_bytes c.first_label.result.1) c.first_label.ensures.parts c.if-not-self.false fails
    ∙ rw c.in-Labels.is refl
