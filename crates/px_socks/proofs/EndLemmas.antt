-- What lasts at a source lasts behind a handshake.
use Rattle.std.proofs.Common.{◌≡◌, ℕ, ◌-◌, Bool, true, false, IsTrue, List, ◌++◌, length, take, drop, sym, ap, ◌∙◌, arith, length-append, append_assoc, refl}
use Rattle.std.proofs.Math.Seq.{take-append_seam}
use Rattle.px_base.specs.Sources.{SourceState, SourceGoesOn}
use Rattle.px_socks.specs.declared.ends.HandshakePassage.{HandshakePassage}
use Rattle.px_socks.specs.Ends.{source_behind}
use Rattle.px_base.specs.Lists.{told}

-- what stands before what is left was given
whole_part : (offered before left : List ℕ) → offered ≡ before ++ left → offered ≡ take (length offered - length left) offered ++ left
whole_part offered before left e =
    let count : length offered - length left ≡ length before = omega (arith, ap (λ (zs : List ℕ). length zs) e, length-append before left) in
    let front : take (length before) offered ≡ before = rw e (take-append_seam before left) in
    rw (count, front) e

told_whole : (t : Bool) (offered left left' got : List ℕ) → (IsTrue t → left ≡ got ++ left')
    → (IsTrue t → told t offered ≡ take (length (told t offered) - length (told t left)) (told t offered) ++ told t left)
    → IsTrue t → told t offered ≡ take (length (told t offered) - length (told t left')) (told t offered) ++ told t left'
told_whole true offered left left' got moved whole k =
    let g = take (length offered - length left) offered in
    whole_part offered (g ++ got) left' (whole k ∙ ap (λ (l : List ℕ). g ++ l) (moved k) ∙ sym (append_assoc g got left'))
told_whole false offered left left' got moved whole k = (cc)

pub source_behind_goes_on : (p : HandshakePassage) (s s' : SourceState) (got : List ℕ) → SourceGoesOn s s' → (IsTrue s.tells → s.left ≡ got ++ s'.left)
    → SourceGoesOn (source_behind p s) (source_behind p s')
source_behind_goes_on p s s' got h moved = record {
  tells_same = h.tells_same;
  offered_same = rw (h.tells_same, h.offered_same) refl;
  mark_same = rw (h.tells_same, h.mark_same) refl;
  faults_later = h.faults_later;
  steady_kept = h.steady_kept;
  whole_kept = λ w. rw (h.tells_same, h.offered_same) (told_whole s.tells (drop p.heard s.offered) s.left s'.left got moved w);
}
