use Rattle.std.proofs.Common.{◌≡◌, ◌∙◌, ap, rules}
use Rattle.std.specs.Prelude.{not}
use Rattle.std.specs.Str.{bytes_eq}
use Rattle.std.proofs.lemmas.Fn.{filter_same}
use Rattle.px_actions.specs.Sets.{without_value}
use Rattle.px_actions.proofs.settings.remove.Goals as goal

pub returns : goal.returns
returns c =
    let kept : c.retain.new.self.items ≡ without_value c.args.value.now c.into_vec-texts.result.items =
    filter_same _ (λ v. not (bytes_eq v c.args.value.now)) _ (λ x r f' k. search rules) _ _ c.retain.ensures.filtered in
    c.from_vec.ensures ∙ (kept ∙ ap (without_value c.args.value.now) (c.into_vec-texts.ensures ∙ c.replace.ensures.value))
