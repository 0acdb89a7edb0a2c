use Rattle.std.proofs.Common.{◌≡◌, ◌↔◌, ◌∙◌, sym, ap, subst, Bool, IsTrue, List, ℕ}
use Rattle.std.specs.Str.{str_eq_ignore_ascii_case}
use Rattle.px_patterns.specs.declared.labels.LabelItem.{LabelItem}
use Rattle.px_patterns.specs.declared.labels.LabelPattern.{LabelPattern}
use Rattle.px_patterns.specs.Globs.{CanBeCut, glob_matches, label_items, label_matches}
use Rattle.px_patterns.proofs.GlobLemmas.{label-cut}
use Rattle.px_patterns.proofs.labels.LabelPattern.matches.Goals as goal

pub returns-in-Plain-clause-cut : goal.returns-in-Plain-clause-cut
returns-in-Plain-clause-cut c =
    let value : c.same_without_case.result ≡ label_matches c.args.self.now c.args.label.now =
    c.same_without_case.ensures
    ∙ ap (λ (text : List ℕ). str_eq_ignore_ascii_case text c.args.label.now) c.as_bytes.ensures
    ∙ ap (λ (p : LabelPattern). label_matches p c.args.label.now) (sym c.in-Plain.is) in
    subst (λ (t : Bool). IsTrue t ↔ CanBeCut (label_items c.args.self.now) c.args.label.now) (sym value) (label-cut c.args.self.now c.args.label.now)

pub returns-in-Glob-clause-cut : goal.returns-in-Glob-clause-cut
returns-in-Glob-clause-cut c =
    let value : c.glob_matches.result ≡ label_matches c.args.self.now c.args.label.now =
    c.glob_matches.ensures ∙ ap (λ (items : List LabelItem). glob_matches items c.args.label.now) c.as_slice.ensures ∙ ap (λ (p : LabelPattern). label_matches p c.args.label.now) (sym c.in-Glob.is) in
    subst (λ (t : Bool). IsTrue t ↔ CanBeCut (label_items c.args.self.now) c.args.label.now) (sym value) (label-cut c.args.self.now c.args.label.now)
