-- What stands at the front of a stream that is read in pieces.
use Rattle.std.proofs.Common.{◌≡◌, ℕ, ◌≤◌, List, ◌++◌, length, take, drop, sym, ap, ◌∙◌, append_assoc}
use Rattle.std.proofs.lemmas.List.{take-append-drop, length-take-le}
use Rattle.px_head.specs.Blocks.{head_end}
use Rattle.px_head.specs.declared.blocks.HeadEnd.TheVariants as end
use Rattle.px_streams.specs.declared.fronts.StreamFront.TheVariants as front
use Rattle.px_streams.specs.Streams.{StandsAtFront}

-- a block that is whole in the bytes read ahead
pub block_stands : (limit n : ℕ) (stream ahead left block rest : List ℕ) → stream ≡ ahead ++ left → n ≤ length ahead
    → head_end limit (ahead ++ left) ≡ end.At n → block ≡ take n ahead → rest ≡ drop n ahead → StandsAtFront limit stream (front.Block block) (rest ++ left)
block_stands limit n stream ahead left block rest e le h is_block is_rest =
    let len : length block ≡ n = ap length is_block ∙ length-take-le n ahead le in
    let whole : ahead ≡ block ++ rest = rw (is_block, is_rest) (sym (take-append-drop n ahead)) in
    (ap (head_end limit) e ∙ h ∙ ap end.At (sym len), e ∙ ap (λ (xs : List ℕ). xs ++ left) whole ∙ append_assoc block rest left)
