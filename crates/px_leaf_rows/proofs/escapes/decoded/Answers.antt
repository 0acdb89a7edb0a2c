use Rattle.std.proofs.Common.{◌≡◌, ◌≢◌, ◌∷◌, ◌++◌, [], ℕ, ◌<◌, length, take, get_or, List, arith, sym, subst, ap, ◌∙◌}
use Rattle.std.proofs.lemmas.List.{take_more}
use Rattle.px_leaf_rows.proofs.escapes.decoded.Goals as goal

pub loop-byte-preserved : goal.loop-byte-preserved
loop-byte-preserved c = λ plain.
    let text = c.args.text.now in
    let i = c.loop-byte.byte-index in
    let same : c.as_bytes-byte-items.result.now ≡ text = c.as_bytes-byte-items.ensures.value in
    let within : i < length text = omega (arith, c.loop-byte-test.true, c.as_bytes-byte-items.ensures.len) in
    let before = c.loop-byte.invariant plain in
    let byte : get_or c.as_bytes-byte-items.result.now i 0 ≢ 92 =
    subst (λ (bs : List ℕ). get_or bs i 0 ≢ 92) (sym same) (plain i 0 within) in
    let more =
    c.in_ok-feed.ensures.bytes before.0 before.1 byte
    ∙ ap (λ (bs : List ℕ). bs ++ get_or c.as_bytes-byte-items.result.now i 0 ∷ []) before.2
    ∙ ap (λ (bs : List ℕ). take i text ++ get_or bs i 0 ∷ []) same
    ∙ sym (take_more text i 0 within) in
    (c.in_ok-feed.ensures.place before.0 before.1 byte, c.in_ok-feed.ensures.repeat before.0 before.1 byte, more)
