use Rattle.std.proofs.Common.{◌≡◌, ◌∙◌, ap, rules}
use Rattle.std.specs.Prelude.{not}
use Rattle.std.proofs.lemmas.Fn.{filter_same}
use Rattle.px_headers.specs.Referrers.{has_foreign_referrer}
use Rattle.px_headers.specs.Rows.{without_those}
use Rattle.px_headers.proofs.referrers.without_foreign.Goals as goal

pub returns : goal.returns
returns c =
    let kept : c.retain.new.self.items ≡ without_those (has_foreign_referrer c.args.host.now) c.into_vec-kept.result.items =
    filter_same _ (λ f. not (has_foreign_referrer c.args.host.now f)) _ (λ x r f' k. search rules) _ _ c.retain.ensures.filtered in
    c.from_vec.ensures ∙ (kept ∙ ap (without_those (has_foreign_referrer c.args.host.now)) c.into_vec-kept.ensures)
