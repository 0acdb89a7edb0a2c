-- What was given and what is left of a feed.
use Rattle.std.proofs.Common.{◌≡◌, ℕ, ◌-◌, List, ◌++◌, length, take, drop, sym, ap, ◌∙◌, arith, length-append, append_assoc, refl}
use Rattle.std.proofs.lemmas.List.{take-append-drop}
use Rattle.std.proofs.Math.Seq.{take-append_seam}
use Rattle.px_base.specs.Sources.{SourceState, SourceGoesOn}

-- what stands before what is left was given
whole_part : (offered before left : List ℕ) → offered ≡ before ++ left → offered ≡ take (length offered - length left) offered ++ left
whole_part offered before left e =
    let count : length offered - length left ≡ length before = omega (arith, ap (λ (zs : List ℕ). length zs) e, length-append before left) in
    let front : take (length before) offered ≡ before = rw e (take-append_seam before left) in
    rw (count, front) e

-- the first bytes that were read ahead are given
feed_whole : (offered ahead left : List ℕ) (n : ℕ) → offered ≡ take (length offered - length (ahead ++ left)) offered ++ (ahead ++ left)
    → offered ≡ take (length offered - length (drop n ahead ++ left)) offered ++ (drop n ahead ++ left)
feed_whole offered ahead left n h =
    let g = take (length offered - length (ahead ++ left)) offered in
    let parts : g ++ (ahead ++ left) ≡ g ++ ((take n ahead ++ drop n ahead) ++ left) = ap (λ (a : List ℕ). g ++ (a ++ left)) (sym (take-append-drop n ahead)) in
    let grouped : g ++ ((take n ahead ++ drop n ahead) ++ left) ≡ (g ++ take n ahead) ++ (drop n ahead ++ left) = simp append_assoc in
    whole_part offered (g ++ take n ahead) (drop n ahead ++ left) (h ∙ parts ∙ grouped)

pub feed_goes_on : (s : SourceState) (ahead : List ℕ) (n : ℕ) → SourceGoesOn (record s { left = ahead ++ s.left }) (record s { left = drop n ahead ++ s.left })
feed_goes_on s ahead n = record {
  tells_same = refl;
  offered_same = refl;
  mark_same = refl;
  faults_later = omega arith;
  steady_kept = λ k. (k, refl);
  whole_kept = λ w t. feed_whole s.offered ahead s.left n (w t);
}
