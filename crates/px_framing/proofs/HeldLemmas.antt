-- What is kept of an unfinished line, and a whole line at once.
use Rattle.std.proofs.Common.{◌≡◌, ℕ, ◌+◌, ◌-◌, ◌<◌, ◌≤◌, ◌⊎◌, inl, inr, Bool, true, false, ◌==◌, ◌&&◌, cond, nat_lt, nat_le, ◌^◌, List, [], ◌∷◌, ◌++◌, length, take, drop, length-drop, le-leb, slice_index, Option, Some, None, IsTrue, refl, sym, ◌∙◌, ap, subst, arith, append_assoc, eqb-true, lt-ltb}
use Rattle.std.proofs.lemmas.List.{append-nil, length_push, length-take-le, get_or_at, take_at}
use Rattle.std.proofs.lemmas.Bool.Decides.{nat_tests}
use Rattle.px_framing.specs.declared.places.ChunkPlace.{ChunkPlace}
use Rattle.px_framing.specs.declared.places.ChunkPlace.TheVariants.{Size, Data, Gap, Trailers, Done, Wrong}
use Rattle.px_framing.specs.declared.places.Verdict.TheVariants as verdict
use Rattle.std.specs.Str.Parse.{digits_value}
use Rattle.px_framing.specs.Lines.{front_while, is_hex, may_stand, place_after_line, after_size, size_of, IsOpen}
use Rattle.px_framing.specs.Reading.{before, ends_in_cr, verdict_of, is_line, reads, IsHeld}
use Rattle.px_framing.specs.Passing.{Goes, IsLineAt}
use Rattle.px_framing.proofs.LineLemmas.{closed, no_cr, ends_in, digits-taken, size-of-digits}
use Rattle.px_framing.proofs.MoveLemmas.{move-open, move-line, move-data, data-place-zero, goes-then, goes-more, taken-on}
use Rattle.px_head.specs.Prints.{crlf}
use Rattle.px_base.specs.Lists.{without_last}

-- ---- the last byte

pub cr-push : (t : List ℕ) (b : ℕ) → ends_in_cr (t ++ b ∷ []) ≡ (b == 13)
cr-push t b =
    let len : length (t ++ b ∷ []) ≡ length t + 1 = length_push t b in
    let last : slice_index (t ++ b ∷ []) (length (t ++ b ∷ []) - 1) ≡ b = get_or_at t b [] 0 (length (t ++ b ∷ []) - 1) (omega arith) in
    let some : nat_lt 0 (length (t ++ b ∷ [])) ≡ true = lt-ltb 0 (length (t ++ b ∷ [])) (omega arith) in
    rw (some, last) refl

pub without-push : (t : List ℕ) (b : ℕ) → without_last (t ++ b ∷ []) ≡ t
without-push t b =
    let len : length (t ++ b ∷ []) ≡ length t + 1 = length_push t b in
    take_at t (b ∷ []) (length (t ++ b ∷ []) - 1) (omega arith)

pub cr-front : (k : List ℕ) → ends_in_cr k ≡ true → k ≡ without_last k ++ 13 ∷ []
cr-front k e =
    let some : 0 < length k = grind (arith, nat_tests) in
    let last : slice_index k (length k - 1) ≡ 13 = grind (arith, nat_tests) in
    ends_in k some ∙ ap (λ b. without_last k ++ b ∷ []) last

true-or-false : (b : Bool) → (b ≡ true) ⊎ (b ≡ false)
true-or-false true = inl refl
true-or-false false = inr refl

-- a text that may go on to one that stands doesn't end in CR
no-cr-at : (p : ChunkPlace) (k xs : List ℕ) → IsTrue (may_stand p (k ++ xs)) → (ends_in_cr k ≡ true) ⊎ (ends_in_cr k ≡ false) → ends_in_cr k ≡ false
no-cr-at p k xs h (inl e) = absurd (no_cr p (without_last k) xs (subst (λ (w : List ℕ). IsTrue (may_stand p w)) (ap (λ (w : List ℕ). w ++ xs) (cr-front k e) ∙ append_assoc (without_last k) (13 ∷ []) xs) h))
no-cr-at p k xs h (inr e) = e

no-cr : (p : ChunkPlace) (k xs : List ℕ) → IsTrue (may_stand p (k ++ xs)) → ends_in_cr k ≡ false
no-cr p k xs h = no-cr-at p k xs h (true-or-false (ends_in_cr k))

not-cr : (p : ChunkPlace) (k : List ℕ) (b : ℕ) (xs : List ℕ) → IsTrue (may_stand p (k ++ b ∷ xs)) → (b == 13) ≡ false
not-cr p k b xs h = sym (cr-push k b) ∙ no-cr p (k ++ b ∷ []) xs (subst (λ (w : List ℕ). IsTrue (may_stand p w)) (sym (append_assoc k (b ∷ []) xs)) h)

fronts : (p : ChunkPlace) (k : List ℕ) (b : ℕ) (xs : List ℕ) → IsTrue (may_stand p (k ++ b ∷ xs)) → IsTrue (may_stand p (k ++ b ∷ []))
fronts p [] b xs h = closed p b [] xs h
fronts p (x ∷ k) b xs h = closed p x (k ++ b ∷ []) xs (subst (λ (w : List ℕ). IsTrue (may_stand p (x ∷ w))) (sym (append_assoc k (b ∷ []) xs)) h)

-- ---- a whole line at once

open-byte : (p : ChunkPlace) (k : List ℕ) (b : ℕ) (xs : List ℕ) → IsTrue (may_stand p (k ++ b ∷ xs)) → verdict.Open ≡ verdict_of p k b
unfolding verdict_of
open-byte p k b xs h =
    let front : ends_in_cr k ≡ false = no-cr p k (b ∷ xs) h in
    let other : (b == 13) ≡ false = not-cr p k b xs h in
    let stands : may_stand p (k ++ b ∷ []) ≡ true = fronts p k b xs h in
    rw (front, other, stands) refl

cr-byte : (p : ChunkPlace) (k : List ℕ) → IsTrue (may_stand p k) → verdict.Open ≡ verdict_of p k 13
unfolding verdict_of
cr-byte p k h =
    let front : ends_in_cr k ≡ false = no-cr p k [] (subst (λ (w : List ℕ). IsTrue (may_stand p w)) (sym (append-nil k)) h) in
    rw (front, h) refl

lf-byte : (p : ChunkPlace) (k : List ℕ) → IsTrue (may_stand p k) → verdict.Line (place_after_line p k) ≡ verdict_of p (k ++ 13 ∷ []) 10
unfolding verdict_of
lf-byte p k h =
    let front : ends_in_cr (k ++ 13 ∷ []) ≡ true = cr-push k 13 in
    rw (front, without-push k 13, h) refl

line-from : (p : ChunkPlace) (k t : List ℕ) → is_line p ≡ true → IsTrue (may_stand p (k ++ t)) → Goes p k (t ++ crlf) ((k ++ t) ++ crlf) (place_after_line p (k ++ t)) []
line-from p k [] l h =
    let stands = subst (λ (w : List ℕ). IsTrue (may_stand p w)) (append-nil k) h in
    let bytes : (k ++ 13 ∷ []) ++ 10 ∷ [] ≡ (k ++ []) ++ crlf = append_assoc k (13 ∷ []) (10 ∷ []) ∙ ap (λ (w : List ℕ). w ++ crlf) (sym (append-nil k)) in
    subst (λ (w : List ℕ). Goes p k crlf w (place_after_line p (k ++ [])) []) bytes
    (goes-then p p (place_after_line p (k ++ [])) k (k ++ 13 ∷ []) [] (13 ∷ []) (10 ∷ []) [] ((k ++ 13 ∷ []) ++ 10 ∷ []) (move-open p k (k ++ 13 ∷ []) 13 l (cr-byte p k stands) refl)
    (move-line p (place_after_line p (k ++ [])) (k ++ 13 ∷ []) [] 10 l (ap (λ (w : List ℕ). verdict.Line (place_after_line p w)) (append-nil k) ∙ lf-byte p k stands) refl))
line-from p k (b ∷ t) l h =
    let on : (k ++ b ∷ []) ++ t ≡ k ++ b ∷ t = append_assoc k (b ∷ []) t in
    let rest = line-from p (k ++ b ∷ []) t l (subst (λ (w : List ℕ). IsTrue (may_stand p w)) (sym on) h) in
    let rest' = subst (λ (w : List ℕ). Goes p (k ++ b ∷ []) (t ++ crlf) (w ++ crlf) (place_after_line p w) []) on rest in
    goes-then p p (place_after_line p (k ++ b ∷ t)) k (k ++ b ∷ []) [] (b ∷ []) (t ++ crlf) [] ((k ++ b ∷ t) ++ crlf) (move-open p k (k ++ b ∷ []) b l (open-byte p k b t h) refl) rest'

-- a line by its text
pub goes-line : (p n : ChunkPlace) (k k' text bytes : List ℕ) → is_line p ≡ true → IsTrue (may_stand p text) → k ≡ [] → k' ≡ [] → bytes ≡ text ++ crlf → n ≡ place_after_line p text → Goes p k bytes bytes n k'
goes-line p n k k' text bytes l h e f a c =
    let m = line-from p [] text l h in record {
      data_put = m.data_put;
      same = λ rest. ap (λ (w : List ℕ). reads p w (bytes ++ rest)) e ∙ ap (λ (w : List ℕ). reads p [] (w ++ rest)) a ∙ m.same rest
          ∙ (λ i. before (sym a i) m.data_put (length (sym a i)) (reads (sym c i) (sym f i) rest));
    }

-- a size line of digits alone
pub digits-line : (bytes : List ℕ) (len value : ℕ) (next : ChunkPlace) → len ≡ length (front_while is_hex bytes) → 0 < len → len ≤ 254 → len ≤ length bytes → value ≡ digits_value 16 (front_while is_hex bytes) → value < 2 ^ 63
    → (2 ≤ length (drop len bytes)) × (take 2 (drop len bytes) ≡ crlf) → next ≡ after_size (Some value) → IsLineAt Size bytes (record { text_len = len; next = next })
unfolding may_stand place_after_line
digits-line bytes len value next is some fits within value_is small behind next_is =
    let front : take len bytes ≡ front_while is_hex bytes = digits-taken bytes len is in
    let size : size_of (take len bytes) ≡ Some value = ap size_of front ∙ size-of-digits bytes (omega arith) (omega arith) ∙ ap Some (sym value_is) in
    let long : nat_le (length (take len bytes)) 254 ≡ true = ap (λ (w : List ℕ). nat_le (length w) 254) front ∙ le-leb (length (front_while is_hex bytes)) 254 (omega arith) in
    record {
      within = let l = length-drop len bytes in omega (arith, behind.0);
      text_and_end = sym (taken-on bytes len 2) ∙ ap (λ (w : List ℕ). take len bytes ++ w) behind.1;
      stands = rw (size, long) refl;
      next_is = next_is ∙ ap after_size (sym size);
    }

-- the CRLF behind the data
pub goes-gap : (k bytes : List ℕ) → k ≡ [] → bytes ≡ crlf → Goes Gap k bytes bytes Size k
unfolding may_stand place_after_line
goes-gap k bytes none is = goes-line Gap Size k k [] bytes refl refl none none is refl

-- the last data of a chunk and the CRLF behind them
pub goes-data-end : (n : ℕ) (bytes : List ℕ) → 0 < n → n ≤ length bytes → take 2 (drop n bytes) ≡ crlf → Goes (Data n) [] (take (n + 2) bytes) (take (n + 2) bytes) Size []
goes-data-end n bytes some within is =
    let len = length-take-le n bytes within in
    let run = move-data n (take n bytes) Gap (omega (arith, len)) (omega (arith, len)) (data-place-zero (n - length (take n bytes)) (omega (arith, len))) in
    subst (λ (w : List ℕ). Goes (Data n) [] (take (n + 2) bytes) w Size []) (taken-on bytes n 2)
    (goes-more (Data n) Gap Size [] [] [] bytes (take n bytes) (take 2 (drop n bytes)) n 2 run (goes-gap [] (take 2 (drop n bytes)) refl is))

-- ---- what is held

held-line : (p : ChunkPlace) (k : List ℕ) → is_line p ≡ true → IsOpen p k → IsHeld p k
held-line Size k l o = o
held-line (Data n) k l o = absurd (cc)
held-line Gap k l o = o
held-line (Trailers n) k l o = o
held-line Done k l o = absurd (cc)
held-line Wrong k l o = absurd (cc)

pub open-line : (p : ChunkPlace) (k : List ℕ) → is_line p ≡ true → IsHeld p k → IsOpen p k
open-line Size k l o = o
open-line (Data n) k l o = absurd (cc)
open-line Gap k l o = o
open-line (Trailers n) k l o = o
open-line Done k l o = absurd (cc)
open-line Wrong k l o = absurd (cc)

open-at : (p : ChunkPlace) (k : List ℕ) (b : ℕ) (cr lf stands last grown : Bool) → ends_in_cr k ≡ cr → (b == 13) ≡ last → may_stand p k ≡ stands → may_stand p (k ++ b ∷ []) ≡ grown
    → verdict.Open ≡ cond cr (cond lf (verdict.Line (place_after_line p (without_last k))) verdict.Wrong) (cond last (cond stands verdict.Open verdict.Wrong) (cond grown verdict.Open verdict.Wrong)) → IsOpen p (k ++ b ∷ [])
open-at p k b true true stands last grown a c d e v = absurd (cc)
open-at p k b true false stands last grown a c d e v = absurd (cc)
open-at p k b false lf true true grown a c d e v = inr (inr (k, d, ap (λ x. k ++ x ∷ []) (eqb-true b 13 c)))
open-at p k b false lf false true grown a c d e v = absurd (cc)
open-at p k b false lf stands false true a c d e v = inr (inl e)
open-at p k b false lf stands false false a c d e v = absurd (cc)

open-of : (p : ChunkPlace) (k : List ℕ) (b : ℕ) → verdict.Open ≡ verdict_of p k b → IsOpen p (k ++ b ∷ [])
unfolding verdict_of
open-of p k b v = open-at p k b (ends_in_cr k) (b == 10 && may_stand p (without_last k)) (may_stand p k) (b == 13) (may_stand p (k ++ b ∷ [])) refl refl refl refl v

pub held-open : (p : ChunkPlace) (k k' : List ℕ) (b : ℕ) → is_line p ≡ true → verdict.Open ≡ verdict_of p k b → k' ≡ k ++ b ∷ [] → IsHeld p k'
held-open p k k' b l v e = held-line p k' l (subst (IsOpen p) (sym e) (open-of p k b v))

some-held : (c : Bool) (n : ℕ) (k : List ℕ) → (n == 0) ≡ c → k ≡ [] → IsHeld (cond c (Trailers 0) (Data n)) k
some-held true n k z e = inl e
some-held false n k z e = ((let some : 0 < n = grind (arith, nat_tests) in some), e)

size-held : (o : Option ℕ) (k : List ℕ) → k ≡ [] → IsHeld (after_size o) k
size-held None k e = e
size-held (Some n) k e = some-held (n == 0) n k refl e

trailers-held : (c : Bool) (n : ℕ) (k : List ℕ) → k ≡ [] → IsHeld (cond c Done (Trailers n)) k
trailers-held true n k e = e
trailers-held false n k e = inl e

-- behind a whole line nothing is held
after-held : (p : ChunkPlace) (text k : List ℕ) → k ≡ [] → IsHeld (place_after_line p text) k
unfolding place_after_line
after-held Size text k e = size-held (size_of text) k e
after-held (Data m) text k e = e
after-held Gap text k e = inl e
after-held (Trailers m) text k e = trailers-held (nat_le (length text) 0) (m + length text + 2) k e
after-held Done text k e = e
after-held Wrong text k e = e

pub held-after : (p n : ChunkPlace) (text k : List ℕ) → n ≡ place_after_line p text → k ≡ [] → IsHeld n k
held-after p n text k is e = subst (λ (m : ChunkPlace). IsHeld m k) (sym is) (after-held p text k e)

line-at : (p n : ChunkPlace) (k : List ℕ) (b : ℕ) (cr lf stands last grown : Bool)
    → verdict.Line n ≡ cond cr (cond lf (verdict.Line (place_after_line p (without_last k))) verdict.Wrong) (cond last (cond stands verdict.Open verdict.Wrong) (cond grown verdict.Open verdict.Wrong)) → n ≡ place_after_line p (without_last k)
line-at p n k b true true stands last grown v = cc
line-at p n k b true false stands last grown v = absurd (cc)
line-at p n k b false lf true true grown v = absurd (cc)
line-at p n k b false lf false true grown v = absurd (cc)
line-at p n k b false lf stands false true v = absurd (cc)
line-at p n k b false lf stands false false v = absurd (cc)

pub held-line-end : (p n : ChunkPlace) (k k' : List ℕ) (b : ℕ) → verdict.Line n ≡ verdict_of p k b → k' ≡ [] → IsHeld n k'
unfolding verdict_of
held-line-end p n k k' b v e = held-after p n (without_last k) k' (line-at p n k b (ends_in_cr k) (b == 10 && may_stand p (without_last k)) (may_stand p k) (b == 13) (may_stand p (k ++ b ∷ [])) v) e

-- ---- little is held

stand-short : (p : ChunkPlace) (t : List ℕ) → IsTrue (may_stand p t) → length t ≤ 8190
unfolding may_stand
stand-short Size t h = grind (arith, nat_tests)
stand-short (Data n) t h = cc
stand-short Gap t h = grind (arith, nat_tests)
stand-short (Trailers n) t h = grind (arith, nat_tests)
stand-short Done t h = cc
stand-short Wrong t h = cc

pub open-short : (p : ChunkPlace) (k : List ℕ) → IsOpen p k → length k ≤ 8191
open-short p k (inl e) = let n = ap length e in omega arith
open-short p k (inr (inl h)) = let n = stand-short p k h in omega arith
open-short p k (inr (inr (t, h, e))) = let n = stand-short p t h in let m = ap length e ∙ length_push t 13 in omega arith

pub held-short : (p : ChunkPlace) (k : List ℕ) → IsHeld p k → length k ≤ 8191
held-short Size k o = open-short Size k o
held-short (Data n) k o = let e = ap length o.1 in omega arith
held-short Gap k o = open-short Gap k o
held-short (Trailers n) k o = open-short (Trailers n) k o
held-short Done k o = let e = ap length o in omega arith
held-short Wrong k o = let e = ap length o in omega arith

-- what was kept is the front of it with one more byte
pub front-of : (k all now : List ℕ) (b len : ℕ) → len ≡ length k → all ≡ k ++ b ∷ [] → now ≡ all → take len now ≡ k
front-of k all now b len n e f = ap (take len) (f ∙ e) ∙ take_at k (b ∷ []) len (sym n)
