-- A byte, a run of data and a whole line further, and moves one after another.
use Rattle.std.proofs.Common.{◌≡◌, ℕ, zero, suc, ◌+◌, ◌-◌, ◌<◌, ◌≤◌, true, false, List, [], ◌∷◌, ◌++◌, length, take, drop, refl, sym, ◌∙◌, ap, subst, arith, append_assoc, length-append}
use Rattle.std.proofs.lemmas.List.{take_all}
use Rattle.px_framing.specs.declared.places.ChunkPlace.{ChunkPlace}
use Rattle.px_framing.specs.declared.places.ChunkPlace.TheVariants.{Size, Data, Gap, Trailers, Done, Wrong}
use Rattle.px_framing.specs.declared.places.Verdict.{Verdict}
use Rattle.px_framing.specs.declared.places.Verdict.TheVariants as verdict
use Rattle.px_framing.specs.Lines.{data_place}
use Rattle.px_framing.specs.Body.{Part}
use Rattle.px_framing.specs.Reading.{before, verdict_of, ByteStep, line_step, step, is_last, is_line, reads}
use Rattle.px_framing.specs.Passing.{Goes}

-- ---- what was read before

pub before-before : (r1 q1 r2 q2 : List ℕ) (n1 n2 : ℕ) (p : Part) → before r1 q1 n1 (before r2 q2 n2 p) ≡ before (r1 ++ r2) (q1 ++ q2) (n1 + n2) p
before-before r1 q1 r2 q2 n1 n2 p =
    let e : n1 + (n2 + p.used) ≡ n1 + n2 + p.used = omega arith in
    λ i. record { raw = sym (append_assoc r1 r2 p.raw) i; plain = sym (append_assoc q1 q2 p.plain) i; used = e i; state = p.state }

-- ---- moves one after another

pub goes-then : (p m n : ChunkPlace) (k k1 k2 b1 b2 r1 r2 : List ℕ) → Goes p k b1 r1 m k1 → Goes m k1 b2 r2 n k2 → Goes p k (b1 ++ b2) (r1 ++ r2) n k2
goes-then p m n k k1 k2 b1 b2 r1 r2 x y = record {
  data_put = x.data_put ++ y.data_put;
  same = λ rest. ap (reads p k) (append_assoc b1 b2 rest) ∙ x.same (b2 ++ rest)
      ∙ ap (before r1 x.data_put (length b1)) (y.same rest)
      ∙ before-before r1 x.data_put r2 y.data_put (length b1) (length b2) (reads n k2 rest)
      ∙ ap (λ len. before (r1 ++ r2) (x.data_put ++ y.data_put) len (reads n k2 rest)) (sym (length-append b1 b2));
}

pub goes-none : (p : ChunkPlace) (k : List ℕ) → Goes p k [] [] p k
goes-none p k = record { data_put = []; same = λ rest. λ i. record { raw = (reads p k rest).raw; plain = (reads p k rest).plain; used = (let e : (reads p k rest).used ≡ 0 + (reads p k rest).used = omega arith in e) i; state = (reads p k rest).state } }

-- the bytes taken so far and the bytes of a further step
pub taken-on : (piece : List ℕ) (n m : ℕ) → take n piece ++ take m (drop n piece) ≡ take (n + m) piece
taken-on piece zero m = ap (λ (k : ℕ). take k piece) (let e : m ≡ 0 + m = omega arith in e)
taken-on [] (suc n) zero = sym (take_all (suc n + 0) [] (omega arith))
taken-on [] (suc n) (suc m) = sym (take_all (suc n + suc m) [] (omega arith))
taken-on (x ∷ xs) (suc n) m = ap (λ (w : List ℕ). x ∷ w) (taken-on xs n m) ∙ ap (λ (k : ℕ). take k (x ∷ xs)) (let e : suc (n + m) ≡ suc n + m = omega arith in e)

-- a move on from what was taken of a piece
pub goes-more : (p m n : ChunkPlace) (k k1 k2 piece r1 r2 : List ℕ) (i j : ℕ) → Goes p k (take i piece) r1 m k1 → Goes m k1 (take j (drop i piece)) r2 n k2 → Goes p k (take (i + j) piece) (r1 ++ r2) n k2
goes-more p m n k k1 k2 piece r1 r2 i j x y =
    subst (λ (b : List ℕ). Goes p k b (r1 ++ r2) n k2) (taken-on piece i j) (goes-then p m n k k1 k2 (take i piece) (take j (drop i piece)) r1 r2 x y)

-- ---- a byte further

pub reads-byte : (p : ChunkPlace) (k : List ℕ) (b : ℕ) (rest : List ℕ) → is_last p ≡ false → reads p k (b ∷ rest) ≡ before (step p k b).raw (step p k b).plain 1 (reads (step p k b).next (step p k b).kept rest)
unfolding reads
reads-byte p k b rest e = rw e refl

pub line-not-last : (p : ChunkPlace) → is_line p ≡ true → is_last p ≡ false
line-not-last Size l = refl
line-not-last (Data n) l = refl
line-not-last Gap l = refl
line-not-last (Trailers n) l = refl
line-not-last Done l = absurd (cc)
line-not-last Wrong l = absurd (cc)

step-line : (p : ChunkPlace) (k : List ℕ) (b : ℕ) → is_line p ≡ true → step p k b ≡ line_step p (k ++ b ∷ []) (verdict_of p k b)
step-line Size k b l = refl
step-line (Data n) k b l = absurd (cc)
step-line Gap k b l = refl
step-line (Trailers n) k b l = refl
step-line Done k b l = absurd (cc)
step-line Wrong k b l = absurd (cc)

pub reads-line-byte : (p : ChunkPlace) (k : List ℕ) (b : ℕ) (rest : List ℕ) (v : Verdict) → is_line p ≡ true → verdict_of p k b ≡ v
    → reads p k (b ∷ rest) ≡ before (line_step p (k ++ b ∷ []) v).raw (line_step p (k ++ b ∷ []) v).plain 1 (reads (line_step p (k ++ b ∷ []) v).next (line_step p (k ++ b ∷ []) v).kept rest)
reads-line-byte p k b rest v l e =
    let s : step p k b ≡ line_step p (k ++ b ∷ []) v = step-line p k b l ∙ ap (line_step p (k ++ b ∷ [])) e in
    reads-byte p k b rest (line-not-last p l) ∙ ap (λ (t : ByteStep). before t.raw t.plain 1 (reads t.next t.kept rest)) s

-- the bytes of a line that may go on
pub move-open : (p : ChunkPlace) (k k' : List ℕ) (b : ℕ) → is_line p ≡ true → verdict.Open ≡ verdict_of p k b → k' ≡ k ++ b ∷ [] → Goes p k (b ∷ []) [] p k'
move-open p k k' b l v e = record { data_put = []; same = λ rest. reads-line-byte p k b rest verdict.Open l (sym v) ∙ ap (λ (w : List ℕ). before [] [] 1 (reads p w rest)) (sym e) }

pub move-line : (p n : ChunkPlace) (k k' : List ℕ) (b : ℕ) → is_line p ≡ true → verdict.Line n ≡ verdict_of p k b → k' ≡ [] → Goes p k (b ∷ []) (k ++ b ∷ []) n k'
move-line p n k k' b l v f = record { data_put = []; same = λ rest. reads-line-byte p k b rest (verdict.Line n) l (sym v) ∙ ap (λ (w : List ℕ). before (k ++ b ∷ []) [] 1 (reads n w rest)) (sym f) }

pub move-wrong : (p : ChunkPlace) (k k' : List ℕ) (b : ℕ) → is_line p ≡ true → verdict.Wrong ≡ verdict_of p k b → k' ≡ [] → Goes p k (b ∷ []) [] Wrong k'
move-wrong p k k' b l v e = record { data_put = []; same = λ rest. reads-line-byte p k b rest verdict.Wrong l (sym v) ∙ ap (λ (w : List ℕ). before [] [] 1 (reads Wrong w rest)) (sym e) }

-- ---- a run of data

data-some : (n : ℕ) → 0 < n → Data n ≡ data_place n
data-some zero h = absurd (omega arith)
data-some (suc n) h = refl

reads-run : (n : ℕ) (b : ℕ) (bs rest : List ℕ) → length (b ∷ bs) ≤ n → reads (Data n) [] ((b ∷ bs) ++ rest) ≡ before (b ∷ bs) (b ∷ bs) (length (b ∷ bs)) (reads (data_place (n - length (b ∷ bs))) [] rest)
reads-run n b [] rest fits = reads-byte (Data n) [] b rest refl
reads-run n b (c ∷ cs) rest fits =
    let more = reads-run (n - 1) c cs rest (omega arith) in
    let left : n - 1 - length (c ∷ cs) ≡ n - length (b ∷ c ∷ cs) = omega arith in
    reads-byte (Data n) [] b ((c ∷ cs) ++ rest) refl
    ∙ ap (λ p. before (b ∷ []) (b ∷ []) 1 (reads p [] ((c ∷ cs) ++ rest))) (sym (data-some (n - 1) (omega arith)))
    ∙ ap (before (b ∷ []) (b ∷ []) 1) (more ∙ ap (λ k. before (c ∷ cs) (c ∷ cs) (length (c ∷ cs)) (reads (data_place k) [] rest)) left)
    ∙ before-before (b ∷ []) (b ∷ []) (c ∷ cs) (c ∷ cs) 1 (length (c ∷ cs)) (reads (data_place (n - length (b ∷ c ∷ cs))) [] rest)
    ∙ ap (λ k. before (b ∷ c ∷ cs) (b ∷ c ∷ cs) k (reads (data_place (n - length (b ∷ c ∷ cs))) [] rest)) (let e : 1 + length (c ∷ cs) ≡ length (b ∷ c ∷ cs) = omega arith in e)

pub move-data : (n : ℕ) (bs : List ℕ) (p : ChunkPlace) → 0 < length bs → length bs ≤ n → p ≡ data_place (n - length bs) → Goes (Data n) [] bs bs p []
move-data n [] p some fits c = absurd (omega arith)
move-data n (x ∷ bs) p some fits c = record { data_put = x ∷ bs; same = λ rest. reads-run n x bs rest fits ∙ ap (λ (m : ChunkPlace). before (x ∷ bs) (x ∷ bs) (length (x ∷ bs)) (reads m [] rest)) (sym c) }

pub data-place-zero : (n : ℕ) → n ≡ 0 → Gap ≡ data_place n
data-place-zero n e = ap data_place (sym e)

pub data-place-some : (n : ℕ) → 0 < n → Data n ≡ data_place n
data-place-some n h = data-some n h
