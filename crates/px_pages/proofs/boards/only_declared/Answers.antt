use Rattle.std.proofs.Common.{◌≡◌, ◌∙◌, ap, rules}
use Rattle.std.proofs.lemmas.Fn.{filter_same}
use Rattle.px_pages.specs.Boards.{declared_of}
use Rattle.px_pages.specs.Wishes.{is_declared}
use Rattle.px_pages.proofs.boards.only_declared.Goals as goal

pub returns : goal.returns
returns c =
    let kept : c.retain.new.self.items ≡ declared_of c.args.declared.now c.into_vec-texts.result.items =
    filter_same _ (is_declared c.args.declared.now) _ (λ x r f' k. search rules) _ _ c.retain.ensures.filtered in
    c.from_vec.ensures ∙ (kept ∙ ap (declared_of c.args.declared.now) c.into_vec-texts.ensures)
