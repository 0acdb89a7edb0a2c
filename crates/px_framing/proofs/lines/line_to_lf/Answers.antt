use Rattle.std.proofs.Common.{◌≡◌, ◌+◌, ◌-◌, ◌<◌, ap, sym, ◌∙◌, arith, slice_index, eqb-true, length}
use Rattle.std.proofs.lemmas.List.{get_or-take}
use Rattle.px_framing.specs.declared.TheConstants.{LINE_LIMIT}
use Rattle.px_framing.proofs.LineLemmas.{line-bytes}
use Rattle.px_framing.proofs.lines.line_to_lf.Goals as goal

pub returns-in-Some-next_place : goal.returns-in-Some-next_place
returns-in-Some-next_place c =
    let at = c.in-Some.at in
    let bytes = c.args.bytes.now in
    let within : at < length c.front.result.now = c.in-Some.ensures.0.high in
    let same : at - 1 + 1 ≡ at = omega arith in
    let lf : slice_index bytes (at - 1 + 1) ≡ 10 =
    ap (slice_index bytes) same ∙ sym (get_or-take LINE_LIMIT bytes at 0 (omega (arith, within, c.front.ensures.len)))
    ∙ ap (λ xs. slice_index xs at) (sym c.front.ensures.bytes) ∙ eqb-true (slice_index c.front.result.now at) 10 c.in-Some.ensures.1 in
    record {
      within = omega (arith, within, c.front.ensures.len);
      text_and_end = line-bytes bytes (at - 1) (omega (arith, within, c.front.ensures.len)) c.if-bytes-at-ne13.false lf;
      stands = c.in-Some-next_place.ensures.0;
      next_is = c.in-Some-next_place.ensures.1;
    }
