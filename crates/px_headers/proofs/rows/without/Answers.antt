use Rattle.std.proofs.Common.{◌≡◌, ◌∙◌, ap, rules}
use Rattle.std.specs.Prelude.{not}
use Rattle.std.proofs.lemmas.Fn.{filter_same}
use Rattle.px_fields.specs.Names.{has_name}
use Rattle.px_headers.specs.Rows.{without_field}
use Rattle.px_headers.proofs.rows.without.Goals as goal

pub returns : goal.returns
unfolding without_field
returns c =
    let kept : c.retain.new.self.items ≡ without_field c.args.name.now c.into_vec-kept.result.items =
    filter_same _ (λ f. not (has_name c.args.name.now f)) _ (λ x r f' k. search rules) _ _ c.retain.ensures.filtered in
    c.from_vec.ensures ∙ (kept ∙ ap (without_field c.args.name.now) c.into_vec-kept.ensures)
