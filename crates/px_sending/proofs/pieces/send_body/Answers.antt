use Rattle.std.proofs.Common.{rules, ◌≡◌, ◌≢◌, [], ◌++◌, ◌∙◌, sym, ap, List, ℕ}
use Rattle.px_framing.specs.declared.places.State.TheVariants as state
use Rattle.px_sending.proofs.PieceLemmas.{sent_on, sent_whole, sent_some, sent_wanting, sent_to_end, sent_read, still_so_far, in_goes_on, link_goes_on}
use Rattle.px_sending.proofs.pieces.send_body.Goals as goal

pub returns-in-Err-clause-sends : goal.returns-in-Err-clause-sends
returns-in-Err-clause-sends g c t p =
    let i = c.pieces.invariant in
    rw c.link_refused.ensures.value
    (sent_some c.args.rule _ c.pieces.ahead (g.S.Source.state c.pieces.client_in).left _ _ _ _ c.in-Err.fault c.pieces.reader (i.so_far t p) (c.in-Err.ensures.passes (i.link_goes_on.tells_same ∙ p) c.args.rule))

pub returns-then-ne-clause-sends : goal.returns-then-ne-clause-sends
returns-then-ne-clause-sends g c t p =
    let i = c.pieces.invariant in
    let n : c.in-Ok.state ≢ state.More = search rules in
    rw c.body_sent.ensures.value
    (sent_whole c.args.rule _ c.pieces.ahead c.send_piece.new.ahead (g.S.Source.state c.pieces.client_in).left _ _ _ c.in-Ok.state c.pieces.reader c.send_piece.new.reader (i.so_far t p)
    (c.in-Ok.ensures.passes (i.link_goes_on.tells_same ∙ p) c.args.rule) c.in-Ok.ensures.state n)

pub returns-then-not-more-clause-sends : goal.returns-then-not-more-clause-sends
returns-then-not-more-clause-sends g c t p =
    let i = c.pieces.invariant in
    let m : c.in-Ok.state ≡ state.More = search rules in
    let tells = i.in_goes_on.tells_same ∙ t in
    let on = sent_on c.args.rule _ c.pieces.ahead c.send_piece.new.ahead (g.S.Source.state c.pieces.client_in).left _ _ _ c.in-Ok.state c.pieces.reader c.send_piece.new.reader (i.so_far t p)
    (c.in-Ok.ensures.passes (i.link_goes_on.tells_same ∙ p) c.args.rule) m (c.in-Ok.ensures.used_up m) in
    let ended = c.in-Ok-fill.ensures.end tells c.if-not-more.true in
    let none : c.send_piece.new.ahead ++ (g.S.Source.state c.pieces.client_in).left ≡ [] =
    ap (λ (zs : List ℕ). zs ++ (g.S.Source.state c.pieces.client_in).left) (c.in-Ok.ensures.used_up m) ∙ ended.0 in
    rw c.body_sent-then-not-more.ensures.value
    (sent_to_end c.args.rule _ _ _ _ _ c.end.result c.send_piece.new.reader on none (sym (c.in-Ok-fill.ensures.bytes tells) ∙ none) c.in-Ok.ensures.settled (sym c.in-Ok.ensures.state ∙ m) (c.end.ensures.by_rule c.args.rule))

pub pieces-preserved : goal.pieces-preserved
pieces-preserved g c =
    let i = c.pieces.invariant in
    let m : c.in-Ok.state ≡ state.More = search rules in
    record {
      so_far = λ t p.
          still_so_far c.args.rule _ _ _ _ _ c.send_piece.new.reader (c.in-Ok-fill.ensures.bytes (i.in_goes_on.tells_same ∙ t))
          (sent_on c.args.rule _ c.pieces.ahead c.send_piece.new.ahead (g.S.Source.state c.pieces.client_in).left _ _ _ c.in-Ok.state c.pieces.reader c.send_piece.new.reader (i.so_far t p)
          (c.in-Ok.ensures.passes (i.link_goes_on.tells_same ∙ p) c.args.rule) m (c.in-Ok.ensures.used_up m));
      in_faults_same = c.in-Ok-fill.ensures.cause ∙ i.in_faults_same;
      link_faults_same = c.in-Ok.ensures.cause ∙ i.link_faults_same;
      open_ = c.send_piece.ensures.open ∙ i.open_;
      in_goes_on = in_goes_on i.in_goes_on c.fill.ensures.goes_on;
      link_goes_on = link_goes_on i.link_goes_on c.send_piece.ensures.goes_on;
    }

pub returns-in-Err-Failed-clause-sends : goal.returns-in-Err-Failed-clause-sends
returns-in-Err-Failed-clause-sends g c t p =
    let i = c.pieces.invariant in
    let m : c.in-Ok.state ≡ state.More = search rules in
    sent_read c.args.rule _ _ _ _ c.send_piece.new.reader
    (still_so_far c.args.rule _ _ _ _ _ c.send_piece.new.reader (c.in-Err-Failed.ensures.bytes (i.in_goes_on.tells_same ∙ t))
    (sent_on c.args.rule _ c.pieces.ahead c.send_piece.new.ahead (g.S.Source.state c.pieces.client_in).left _ _ _ c.in-Ok.state c.pieces.reader c.send_piece.new.reader (i.so_far t p)
    (c.in-Ok.ensures.passes (i.link_goes_on.tells_same ∙ p) c.args.rule) m (c.in-Ok.ensures.used_up m)))
    c.in-Ok.ensures.settled (sym c.in-Ok.ensures.state ∙ m)

pub returns-in-Err-Mem-clause-sends : goal.returns-in-Err-Mem-clause-sends
returns-in-Err-Mem-clause-sends g c t p =
    let i = c.pieces.invariant in
    let m : c.in-Ok.state ≡ state.More = search rules in
    sent_wanting c.args.rule _ _ _ _ _ c.send_piece.new.reader
    (sent_on c.args.rule _ c.pieces.ahead c.send_piece.new.ahead (g.S.Source.state c.pieces.client_in).left _ _ _ c.in-Ok.state c.pieces.reader c.send_piece.new.reader (i.so_far t p)
    (c.in-Ok.ensures.passes (i.link_goes_on.tells_same ∙ p) c.args.rule) m (c.in-Ok.ensures.used_up m))
