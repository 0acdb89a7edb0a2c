use Rattle.std.proofs.Common.{◌≡◌, ◌∙◌, ap, arith}
use Rattle.std.specs.String.{string_bytes}
use Rattle.px_decide.specs.Targets.{target_text}
use Rattle.px_decide.proofs.TargetLemmas.{same_text, bytes_from}
use Rattle.px_decide.proofs.targets.target_text.Goals as goal

pub returns : goal.returns
returns c =
    let same = same_text c.args.target.now (bytes_from c.args.target.now (λ i. omega (arith, c.type_inv.target i))) in
    let text : string_bytes c.append_to.new.out ≡ target_text c.args.target.now =
    rw (c.in_ok-append_to.ensures.ok, c.new-text.ensures.bytes, c.percent_encode.ensures.text) same in
    c.from_vec.ensures ∙ ap (λ v. v.items) c.into_bytes.ensures.value ∙ text
