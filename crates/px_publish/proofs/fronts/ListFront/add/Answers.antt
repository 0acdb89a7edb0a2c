use Rattle.std.proofs.Common.{ap, sym, ◌∙◌, length}
use Rattle.px_publish.proofs.Adding.{adds_moves}
use Rattle.px_publish.proofs.fronts.ListFront.add.Goals as goal

pub compare_exchange-found-requires : goal.compare_exchange-found-requires
compare_exchange-found-requires g c =
    let h = c.args.head.now.head_is in
    let me = c.args.self.now in
    let offer = c.plain-offer.ensures in
    let pen = c.no_pen-pen.ensures in
    let same = ap (λ s. s.book) c.again-seen.ensures ∙ sym c.requires.pair in (
      h.0,
      same,
      pen.0 ∙ same,
      offer.0,
      rw (h.1, pen.1, offer.1, offer.3) (adds_moves c.again-seen.result.log c.args.config.now me.number (ap (λ s. length s.log) c.again-seen.ensures ∙ me.newest)),
    )
