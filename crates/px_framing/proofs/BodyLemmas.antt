-- What a reader reads whole bytes to is what is said of them, and nothing else is said.
use Rattle.std.proofs.Common.{◌≡◌, ◌≢◌, ℕ, zero, suc, ◌+◌, ◌-◌, ◌<◌, ◌≤◌, inl, Bool, true, false, ◌==◌, ◌&&◌, cond, nat_le, min, List, [], ◌∷◌, ◌++◌, length, take, IsTrue, refl, sym, ◌∙◌, ap, subst, arith, append_assoc, flat_map, length-append, length-take, eqb-true, eq-eqb}
use Rattle.std.proofs.lemmas.List.{append-nil, take_all, take-take, length-take-le}
use Rattle.std.proofs.lemmas.Bool.Decides.{nat_tests}
use Rattle.px_framing.specs.declared.places.ChunkPlace.{ChunkPlace}
use Rattle.px_framing.specs.declared.places.ChunkPlace.TheVariants.{Size, Data, Gap, Trailers, Done, Wrong}
use Rattle.px_framing.specs.declared.places.State.{State}
use Rattle.px_framing.specs.declared.places.State.TheVariants.{More, Whole, Cut, Misframed}
use Rattle.px_framing.specs.declared.places.Verdict.{Verdict}
use Rattle.px_framing.specs.declared.places.Verdict.TheVariants as verdict
use Rattle.px_framing.specs.declared.stages.Stage.TheVariants as stage
use Rattle.px_framing.specs.declared.rules.BodyRule.{BodyRule}
use Rattle.px_framing.specs.declared.rules.BodyRule.TheVariants as rule
use Rattle.px_framing.specs.Lines.{may_stand, place_after_line, data_place, IsOpen, NoLine}
use Rattle.px_framing.specs.Elements.{Element, print, data_of, ElementsLead, AreWhole}
use Rattle.px_framing.specs.Body.{Part, nothing, first_bytes, body_limit, StateSays, KeepsLimit, AreElements, IsBody, IsChunked, Body}
use Rattle.px_framing.specs.Reading.{before, ends_in_cr, verdict_of, step, reads, goes_on, reads_on, capped, cut_state, place_state, stage_state, is_line, is_last, first, IsHeld, IsSettled, ReaderAfter, Reading}
use Rattle.px_framing.proofs.LineLemmas.{wrong_after_cr, wrong_cr, wrong_byte, open_cr}
use Rattle.px_framing.proofs.MoveLemmas.{reads-byte, reads-line-byte}
use Rattle.px_framing.proofs.HeldLemmas.{cr-front, cr-push, held-open, held-line-end}
use Rattle.px_framing.proofs.StepLemmas.{nothing-left, reads-last, reads-none, le-yes}
use Rattle.px_framing.proofs.ElementLemmas.{Ends, not_wrong, fewer, shorter, says_of, one_end, same_length, same_data}
use Rattle.px_head.specs.Prints.{crlf}
use Rattle.px_base.specs.Lists.{without_last}

-- what the bytes are read to from a place: whole elements, and what is held back
record Found (p : ChunkPlace) (k bytes : List ℕ) (part : Part) : Type 0 where
  elements : List Element
  next : ChunkPlace
  held : List ℕ
  leads : ElementsLead p elements next
  raw_is : part.raw ≡ flat_map print elements
  plain_is : part.plain ≡ flat_map data_of elements
  whole : k ++ take part.used bytes ≡ flat_map print elements ++ held
  within : part.used ≤ length bytes
  all : part.state ≡ More → part.used ≡ length bytes
  ends : Ends part.state next held

-- ---- what a verdict says

wrong-at : (p : ChunkPlace) (k : List ℕ) (b : ℕ) (cr lf stands last grown : Bool) → IsOpen p k → ends_in_cr k ≡ cr → (b == 10) ≡ lf → may_stand p (without_last k) ≡ stands → (b == 13) ≡ last → may_stand p (k ++ b ∷ []) ≡ grown
    → verdict.Wrong ≡ cond cr (cond (lf && stands) (verdict.Line (place_after_line p (without_last k))) verdict.Wrong) (cond last (cond (may_stand p k) verdict.Open verdict.Wrong) (cond grown verdict.Open verdict.Wrong)) → NoLine p (k ++ b ∷ [])
wrong-at p k b true true true last grown o c l s r g v = absurd (cc)
wrong-at p k b true true false last grown o c l s r g v =
    let yes_ = open_cr p (without_last k) (subst (IsOpen p) (cr-front k c) o) in
    absurd (cc)
wrong-at p k b true false stands last grown o c l s r g v =
    subst (NoLine p) (ap (λ (w : List ℕ). w ++ b ∷ []) (sym (cr-front k c))) (wrong_after_cr p (without_last k) b (λ e. let both : true ≡ false = sym (eq-eqb b 10 e) ∙ l in cc))
wrong-at p k b false lf stands true grown o c l s r g v =
    subst (NoLine p) (ap (λ x. k ++ x ∷ []) (sym (eqb-true b 13 r))) (wrong_cr p k (λ yes_. let e : verdict.Wrong ≡ verdict.Open = v ∙ (λ i. cond (yes_ i) verdict.Open verdict.Wrong) in cc))
wrong-at p k b false lf stands false true o c l s r g v = absurd (cc)
wrong-at p k b false lf stands false false o c l s r g v =
    wrong_byte p k b (λ yes_. let both : true ≡ false = sym yes_ ∙ g in cc) (λ e. let both : true ≡ false = sym (eq-eqb b 13 e) ∙ r in cc)
    (λ t e. let both : true ≡ false = sym (cr-push t 13) ∙ ap ends_in_cr (sym e) ∙ c in cc)

no-line : (p : ChunkPlace) (k : List ℕ) (b : ℕ) → IsOpen p k → verdict.Wrong ≡ verdict_of p k b → NoLine p (k ++ b ∷ [])
unfolding verdict_of
no-line p k b o v = wrong-at p k b (ends_in_cr k) (b == 10) (may_stand p (without_last k)) (b == 13) (may_stand p (k ++ b ∷ [])) o refl refl refl refl refl v

-- the line that a byte ends
record IsEnd (p n : ChunkPlace) (k : List ℕ) (b : ℕ) : Type 0 where
  text : List ℕ
  line : k ++ b ∷ [] ≡ text ++ crlf
  stands : IsTrue (may_stand p text)
  leads : n ≡ place_after_line p text

end-at : (p n : ChunkPlace) (k : List ℕ) (b : ℕ) (cr lf stands last grown : Bool) → ends_in_cr k ≡ cr → (b == 10) ≡ lf → may_stand p (without_last k) ≡ stands
    → verdict.Line n ≡ cond cr (cond (lf && stands) (verdict.Line (place_after_line p (without_last k))) verdict.Wrong) (cond last (cond (may_stand p k) verdict.Open verdict.Wrong) (cond grown verdict.Open verdict.Wrong)) → IsEnd p n k b
end-at p n k b true true true last grown c l s v = record {
  text = without_last k;
  line = ap (λ (w : List ℕ). w ++ b ∷ []) (cr-front k c) ∙ ap (λ x. (without_last k ++ 13 ∷ []) ++ x ∷ []) (eqb-true b 10 l) ∙ append_assoc (without_last k) (13 ∷ []) (10 ∷ []);
  stands = s;
  leads = (cc);
}
end-at p n k b true true false last grown c l s v = absurd (cc)
end-at p n k b true false stands last grown c l s v = absurd (cc)
end-at p n k b false lf stands true grown c l s v = absurd (open-or-wrong (may_stand p k) n v)
  where
    open-or-wrong : (y : Bool) (m : ChunkPlace) → verdict.Line m ≡ cond y verdict.Open verdict.Wrong → ⊥
    open-or-wrong true m e = cc
    open-or-wrong false m e = cc
end-at p n k b false lf stands false true c l s v = absurd (cc)
end-at p n k b false lf stands false false c l s v = absurd (cc)

end-of : (p n : ChunkPlace) (k : List ℕ) (b : ℕ) → verdict.Line n ≡ verdict_of p k b → IsEnd p n k b
unfolding verdict_of
end-of p n k b v = end-at p n k b (ends_in_cr k) (b == 10) (may_stand p (without_last k)) (b == 13) (may_stand p (k ++ b ∷ [])) refl refl refl v

-- ---- from a place

held-ends : (p : ChunkPlace) (k : List ℕ) → IsHeld p k → p ≢ Wrong → Ends (place_state p) p k
held-ends Size k h w = (h, (λ e. cc), (λ e. cc), w)
held-ends (Data n) k h w = (inl h.1, (λ e. cc), (λ e. let z : n ≡ 0 = cc in let s = h.0 in omega arith), w)
held-ends Gap k h w = (h, (λ e. cc), (λ e. cc), w)
held-ends (Trailers n) k h w = (h, (λ e. cc), (λ e. cc), w)
held-ends Done k h w = (refl, h)
held-ends Wrong k h w = absurd (w refl)

found-none : (p : ChunkPlace) (k bytes : List ℕ) → IsHeld p k → p ≢ Wrong → (place_state p ≡ More → bytes ≡ []) → Found p k bytes (nothing (place_state p))
found-none p k bytes h w all = record {
  elements = [];
  next = p;
  held = k;
  leads = refl;
  raw_is = refl;
  plain_is = refl;
  whole = append-nil k;
  within = omega arith;
  all = λ more. sym (ap length (all more));
  ends = held-ends p k h w;
}

found-byte : (n : ℕ) (k : List ℕ) (b : ℕ) (bs : List ℕ) (part : Part) → 0 < n → k ≡ [] → Found (data_place (n - 1)) [] bs part → Found (Data n) k (b ∷ bs) (before (b ∷ []) (b ∷ []) 1 part)
found-byte n k b bs part some none f =
    let e : Data n ≡ Data (suc (n - 1)) = ap Data (let s : n ≡ suc (n - 1) = omega arith in s) in
    record {
      elements = Element.byte b ∷ f.elements;
      next = f.next;
      held = f.held;
      leads = (data_place (n - 1), (n - 1, e, refl), f.leads);
      raw_is = ap (λ (w : List ℕ). b ∷ w) f.raw_is;
      plain_is = ap (λ (w : List ℕ). b ∷ w) f.plain_is;
      whole = ap (λ (w : List ℕ). w ++ take (1 + part.used) (b ∷ bs)) none ∙ take-one b bs part.used ∙ ap (λ (w : List ℕ). b ∷ w) f.whole;
      within = omega (arith, f.within);
      all = λ more. let u = f.all more in omega arith;
      ends = f.ends;
    }
  where
    take-one : (x : ℕ) (xs : List ℕ) (m : ℕ) → take (1 + m) (x ∷ xs) ≡ x ∷ take m xs
    take-one x xs m = ap (λ j. take j (x ∷ xs)) (let s : 1 + m ≡ suc m = omega arith in s)

take-more : (k : List ℕ) (x : ℕ) (xs : List ℕ) (m : ℕ) → k ++ take (1 + m) (x ∷ xs) ≡ (k ++ x ∷ []) ++ take m xs
take-more k x xs m = ap (λ j. k ++ take j (x ∷ xs)) (let s : 1 + m ≡ suc m = omega arith in s) ∙ sym (append_assoc k (x ∷ []) (take m xs))

found-open : (p : ChunkPlace) (k : List ℕ) (b : ℕ) (bs : List ℕ) (part : Part) → Found p (k ++ b ∷ []) bs part → Found p k (b ∷ bs) (before [] [] 1 part)
found-open p k b bs part f = record {
  elements = f.elements;
  next = f.next;
  held = f.held;
  leads = f.leads;
  raw_is = f.raw_is;
  plain_is = f.plain_is;
  whole = take-more k b bs part.used ∙ f.whole;
  within = omega (arith, f.within);
  all = λ more. let u = f.all more in omega arith;
  ends = f.ends;
}

found-line : (p n : ChunkPlace) (k : List ℕ) (b : ℕ) (bs : List ℕ) (part : Part) → IsEnd p n k b → Found n [] bs part → Found p k (b ∷ bs) (before (k ++ b ∷ []) [] 1 part)
found-line p n k b bs part e f = record {
  elements = Element.line e.text ∷ f.elements;
  next = f.next;
  held = f.held;
  leads = (n, (e.stands, e.leads), f.leads);
  raw_is = (λ i. e.line i ++ f.raw_is i);
  plain_is = f.plain_is;
  whole = take-more k b bs part.used ∙ (λ i. e.line i ++ f.whole i) ∙ sym (append_assoc (e.text ++ crlf) (flat_map print f.elements) f.held);
  within = omega (arith, f.within);
  all = λ more. let u = f.all more in omega arith;
  ends = f.ends;
}

found-wrong : (p : ChunkPlace) (k : List ℕ) (b : ℕ) (bs : List ℕ) → is_line p ≡ true → IsOpen p k → NoLine p (k ++ b ∷ []) → Found p k (b ∷ bs) (before [] [] 1 (nothing Misframed))
found-wrong p k b bs l o none = record {
  elements = [];
  next = p;
  held = k ++ b ∷ [];
  leads = refl;
  raw_is = refl;
  plain_is = refl;
  whole = take-more k b bs 0 ∙ append-nil (k ++ b ∷ []);
  within = omega arith;
  all = λ more. absurd (cc);
  ends = (k, b, refl, o, none, (λ n e. let f : is_line (Data n) ≡ true = ap is_line (sym e) ∙ l in cc), (λ e. let f : is_line Done ≡ true = ap is_line (sym e) ∙ l in cc), (λ e. let f : is_line Wrong ≡ true = ap is_line (sym e) ∙ l in cc));
}

-- a verdict leads on
module _ (bs : List ℕ) (on : (p : ChunkPlace) (k : List ℕ) → IsHeld p k → p ≢ Wrong → Found p k bs (reads p k bs)) where
  by-verdict : (p : ChunkPlace) (k : List ℕ) (b : ℕ) (v : Verdict) → is_line p ≡ true → IsOpen p k → p ≢ Wrong → v ≡ verdict_of p k b → Found p k (b ∷ bs) (reads p k (b ∷ bs))
  by-verdict p k b verdict.Open l o w v =
      let held : IsHeld p (k ++ b ∷ []) = held-open p k (k ++ b ∷ []) b l v refl in
      subst (Found p k (b ∷ bs)) (sym (reads-line-byte p k b bs verdict.Open l (sym v))) (found-open p k b bs (reads p (k ++ b ∷ []) bs) (on p (k ++ b ∷ []) held w))
  by-verdict p k b (verdict.Line n) l o w v =
      let e = end-of p n k b v in
      let held : IsHeld n [] = held-line-end p n k [] b v refl in
      let right : n ≢ Wrong = λ is. not_wrong p e.text e.stands (sym e.leads ∙ is) in
      subst (Found p k (b ∷ bs)) (sym (reads-line-byte p k b bs (verdict.Line n) l (sym v))) (found-line p n k b bs (reads n [] bs) e (on n [] held right))
  by-verdict p k b verdict.Wrong l o w v =
      subst (Found p k (b ∷ bs)) (sym (reads-line-byte p k b bs verdict.Wrong l (sym v) ∙ ap (before [] [] 1) (reads-last Wrong [] bs refl))) (found-wrong p k b bs l o (no-line p k b o v))

  by-byte : (p : ChunkPlace) (k : List ℕ) (b : ℕ) → IsHeld p k → p ≢ Wrong → Found p k (b ∷ bs) (reads p k (b ∷ bs))
  by-byte Size k b h w = by-verdict Size k b (verdict_of Size k b) refl h w refl
  by-byte (Data n) k b h w =
      let next : IsHeld (data_place (n - 1)) [] = data-held (n - 1) in
      let right : data_place (n - 1) ≢ Wrong = data-right (n - 1) in
      subst (Found (Data n) k (b ∷ bs)) (sym (reads-byte (Data n) k b bs refl)) (found-byte n k b bs (reads (data_place (n - 1)) [] bs) h.0 h.1 (on (data_place (n - 1)) [] next right))
    where
      data-held : (m : ℕ) → IsHeld (data_place m) []
      data-held zero = inl refl
      data-held (suc m) = (omega arith, refl)

      data-right : (m : ℕ) → data_place m ≢ Wrong
      data-right zero e = cc
      data-right (suc m) e = cc
  by-byte Gap k b h w = by-verdict Gap k b (verdict_of Gap k b) refl h w refl
  by-byte (Trailers n) k b h w = by-verdict (Trailers n) k b (verdict_of (Trailers n) k b) refl h w refl
  by-byte Done k b h w = subst (Found Done k (b ∷ bs)) (sym (reads-last Done k (b ∷ bs) refl)) (found-none Done k (b ∷ bs) h w (λ e. absurd (cc)))
  by-byte Wrong k b h w = absurd (w refl)

found : (bs : List ℕ) (p : ChunkPlace) (k : List ℕ) → IsHeld p k → p ≢ Wrong → Found p k bs (reads p k bs)
found [] p k h w = subst (Found p k []) (sym (reads-none p k)) (found-none p k [] h w (λ e. refl))
found (b ∷ bs) p k h w = by-byte bs (λ q j. found bs q j) p k b h w

-- what is read from a place are whole elements and their data
pub whole-from : (bs : List ℕ) (p : ChunkPlace) (k : List ℕ) → IsHeld p k → p ≢ Wrong → AreWhole p (reads p k bs).raw (reads p k bs).plain
whole-from bs p k h w = let f = found bs p k h w in record { elements = f.elements; next = f.next; leads = f.leads; bytes_are = f.raw_is; data_is = f.plain_is }

-- ---- whole bytes

-- the state of a body that is cut at the limit, or isn't
limit-at : (s : State) (bytes : List ℕ) (used : ℕ) (full : Bool) → nat_le body_limit (length bytes) ≡ full → used ≤ min body_limit (length bytes) → (s ≡ More → used ≡ min body_limit (length bytes)) → s ≢ Cut
    → KeepsLimit (cut_state s full) used
limit-at More bytes used true f w a n = let u = a refl in let long : body_limit ≤ length bytes = grind (arith, nat_tests) in omega arith
limit-at More bytes used false f w a n = let u = a refl in let short : length bytes < body_limit = grind (arith, nat_tests) in omega arith
limit-at Whole bytes used full f w a n = omega arith
limit-at Cut bytes used full f w a n = absurd (n refl)
limit-at Misframed bytes used full f w a n = omega arith

ends-at : (s : State) (full : Bool) (p : ChunkPlace) (held : List ℕ) → Ends s p held → Ends (cut_state s full) p held
ends-at More true p held o = o
ends-at More false p held o = o
ends-at Whole full p held o = o
ends-at Cut full p held o = o
ends-at Misframed full p held o = o

more-at : (s : State) (full : Bool) → cut_state s full ≡ More → (s ≡ More) × (full ≡ false)
more-at More true e = absurd (cc)
more-at More false e = (refl, refl)
more-at Whole full e = absurd (cc)
more-at Cut full e = absurd (cc)
more-at Misframed full e = absurd (cc)

never-cut : (bs : List ℕ) (p : ChunkPlace) (k : List ℕ) → (reads p k bs).state ≢ Cut
unfolding reads
never-cut [] p k e = never-at p e
  where
    never-at : (q : ChunkPlace) → place_state q ≢ Cut
    never-at Size e = cc
    never-at (Data n) e = cc
    never-at Gap e = cc
    never-at (Trailers n) e = cc
    never-at Done e = cc
    never-at Wrong e = cc
never-cut (b ∷ bs) p k e = cut-at (is_last p) (step p k b).raw (step p k b).plain p (reads (step p k b).next (step p k b).kept bs) (never-cut bs (step p k b).next (step p k b).kept) e
  where
    never-at : (q : ChunkPlace) → place_state q ≢ Cut
    never-at Size e = cc
    never-at (Data n) e = cc
    never-at Gap e = cc
    never-at (Trailers n) e = cc
    never-at Done e = cc
    never-at Wrong e = cc

    cut-at : (c : Bool) (r q : List ℕ) (m : ChunkPlace) (part : Part) → part.state ≢ Cut → (cond c (nothing (place_state m)) (before r q 1 part)).state ≡ Cut → ⊥
    cut-at true r q m part n e = never-at m e
    cut-at false r q m part n e = n e

chunked-of : (bytes : List ℕ) (part : Part) (full : Bool) → nat_le body_limit (length bytes) ≡ full → part.state ≢ Cut → Found Size [] (take body_limit bytes) part → IsChunked bytes (capped full part)
chunked-of bytes part full f n x =
    let fits : part.used ≤ min body_limit (length bytes) = omega (arith, x.within, length-take body_limit bytes) in
    let window : take part.used (take body_limit bytes) ≡ take part.used bytes = take-take part.used body_limit bytes (omega arith) in
    let front : take part.used bytes ≡ flat_map print x.elements ++ x.held = sym window ∙ x.whole in
    let within : part.used ≤ length bytes = omega arith in
    let whole : part.state ≡ More → part.used ≡ min body_limit (length bytes) = λ e. x.all e ∙ length-take body_limit bytes in
    record {
      within = within;
      held = x.held;
      next = x.next;
      front = front ∙ ap (λ (w : List ℕ). w ++ x.held) (sym x.raw_is);
      elements = record { elements = x.elements; leads = x.leads; bytes_are = x.raw_is; data_is = x.plain_is };
      longest = λ r d rest place a e.
          let g = fewer part.state x.next place x.held rest x.elements a.elements x.ends x.leads a.leads (ap (λ (w : List ℕ). w ++ rest) (sym a.bytes_are) ∙ (sym e ∙ front)) in
          shorter r part.raw a.elements g.0 x.elements a.bytes_are x.raw_is g.1;
      says = says_of (cut_state part.state full) bytes x.held part.used x.next x.elements within
          (λ e. let m = more-at part.state full e in let u = whole m.0 in let short : length bytes < body_limit = below m.1 in omega arith)
          x.leads front (ends-at part.state full x.next x.held x.ends);
      limit = limit-at part.state bytes part.used full f fits whole n;
    }
  where
    below : full ≡ false → length bytes < body_limit
    below e = let g : nat_le body_limit (length bytes) ≡ false = f ∙ e in grind (arith, nat_tests)

length-of : (n : ℕ) (bytes : List ℕ) (c : Bool) → (n == 0) ≡ c → reads_on (cond c (stage.Ended Whole) (stage.Bytes n)) [] bytes ≡ first_bytes n Whole bytes
length-of n bytes true e =
    let z : n ≡ 0 = eqb-true n 0 e in
    let none : [] ≡ take n bytes = ap (λ m. take m bytes) (sym z) in
    let count : 0 ≡ min n (length bytes) = omega arith in
    let full : true ≡ nat_le n (length bytes) = sym (le-yes n (length bytes) (omega arith)) in
    λ i. record { raw = none i; plain = none i; used = count i; state = cond (full i) Whole More }
length-of n bytes false e = refl

-- read from its start, a body is read to what is said of it
pub whole : (r : BodyRule) (bytes : List ℕ) → Body r bytes (goes_on (first r) bytes)
unfolding goes_on
whole rule.Absent bytes = refl
whole (rule.Length n) bytes = length-of n bytes (n == 0) refl
whole rule.Chunked bytes =
    chunked-of bytes (reads Size [] (take body_limit bytes)) (nat_le body_limit (length bytes)) refl (never-cut (take body_limit bytes) Size []) (found (take body_limit bytes) Size [] (inl refl) (λ e. cc))
whole rule.ToClose bytes = refl

-- after any pieces, what was put out and how the body stands is what is said of the bytes
pub body-of : (r : BodyRule) (bytes raw plain : List ℕ) (used : ℕ) (reader : Reading) (state : State) → ReaderAfter r bytes raw plain used reader → IsSettled reader → state ≡ stage_state reader.stage
    → Body r bytes (record { raw = raw; plain = plain; used = used; state = state })
body-of r bytes raw plain used reader state after settled is =
    let put : goes_on (first r) bytes ≡ before raw plain used (nothing (stage_state reader.stage)) =
    ap (goes_on (first r)) (sym (append-nil bytes)) ∙ after.same [] ∙ ap (before raw plain used) (nothing-left reader settled) in
    let count : used + 0 ≡ used = omega arith in
    let part : before raw plain used (nothing (stage_state reader.stage)) ≡ record { raw = raw; plain = plain; used = used; state = state } =
    λ i. record { raw = append-nil raw i; plain = append-nil plain i; used = count i; state = sym is i } in
    subst (Body r bytes) (put ∙ part) (whole r bytes)

-- however bytes are cut, they are read to one part
pub cuts-agree : (q : BodyRule) (bytes raw raw' plain plain' : List ℕ) (count count' : ℕ) (r r' : Reading) → ReaderAfter q bytes raw plain count r → ReaderAfter q bytes raw' plain' count' r' → IsSettled r → IsSettled r'
    → (raw ≡ raw') × (plain ≡ plain') × (count ≡ count') × (stage_state r.stage ≡ stage_state r'.stage)
cuts-agree q bytes raw raw' plain plain' count count' r r' x y a b =
    let one : before raw plain count (nothing (stage_state r.stage)) ≡ before raw' plain' count' (nothing (stage_state r'.stage)) =
    ap (before raw plain count) (sym (nothing-left r a)) ∙ sym (x.same []) ∙ y.same [] ∙ ap (before raw' plain' count') (nothing-left r' b) in
    let counts : count + 0 ≡ count' + 0 = ap (λ (p : Part). p.used) one in (
      sym (append-nil raw) ∙ ap (λ (p : Part). p.raw) one ∙ append-nil raw',
      sym (append-nil plain) ∙ ap (λ (p : Part). p.plain) one ∙ append-nil plain',
      omega arith,
      ap (λ (p : Part). p.state) one,
    )

none-held : (raw held : List ℕ) → length (raw ++ held) ≤ length raw → held ≡ []
none-held raw [] h = refl
none-held raw (x ∷ held) h = absurd (omega (arith, length-append raw (x ∷ held)))

-- a whole chunked body is whole elements from its start
pub whole-raw : (bytes : List ℕ) (p : Part) → IsChunked bytes p → p.state ≡ Whole → p.used ≡ length bytes → AreWhole Size bytes p.plain
whole-raw bytes p x e n =
    let body = subst (λ (s : State). StateSays s bytes p.used) e x.says in
    let all : take p.used bytes ≡ bytes = take_all p.used bytes (omega arith) in
    let most : length (take p.used bytes) ≤ length p.raw = x.longest (take p.used bytes) body.0 [] Done body.1 (sym (append-nil (take p.used bytes))) in
    let none : x.held ≡ [] = none-held p.raw x.held (subst (λ (w : List ℕ). length w ≤ length p.raw) x.front most) in
    let same : bytes ≡ p.raw = sym all ∙ x.front ∙ ap (λ (w : List ℕ). p.raw ++ w) none ∙ append-nil p.raw in
    record { elements = x.elements.elements; next = x.next; leads = x.elements.leads; bytes_are = same ∙ x.elements.bytes_are; data_is = x.elements.data_is }

-- the raw bytes of a whole chunked body are one
pub raw-whole : (bytes : List ℕ) (p : Part) → IsChunked bytes p → p.state ≡ Whole → IsChunked p.raw (record p { used = length p.raw })
raw-whole bytes p x e =
    let body = subst (λ (s : State). StateSays s bytes p.used) e x.says in
    let all : length (take p.used bytes) ≤ length p.raw = x.longest (take p.used bytes) body.0 [] Done body.1 (sym (append-nil (take p.used bytes))) in
    let none : x.held ≡ [] = none-held p.raw x.held (subst (λ (w : List ℕ). length w ≤ length p.raw) x.front all) in
    let taken : take p.used bytes ≡ p.raw = x.front ∙ ap (λ (w : List ℕ). p.raw ++ w) none ∙ append-nil p.raw in
    let count : p.used ≡ length p.raw = sym (length-take-le p.used bytes x.within) ∙ ap length taken in
    let same : take (length p.raw) p.raw ≡ p.raw = take_all (length p.raw) p.raw (omega arith) in
    record {
      within = omega arith;
      held = [];
      next = x.next;
      front = same ∙ sym (append-nil p.raw);
      elements = x.elements;
      longest = λ r d rest place a f. omega (arith, ap length (sym same ∙ f), length-append r rest);
      says = subst (λ (s : State). StateSays s p.raw (length p.raw)) (sym e) (subst (λ (w : List ℕ). IsBody w) (taken ∙ sym same) body);
      limit = subst (KeepsLimit p.state) count x.limit;
    }

-- a body is read to one part
chunked-one : (bytes : List ℕ) (p q : Part) → IsChunked bytes p → IsChunked bytes q → p ≡ q
chunked-one bytes p q x y =
    let e = one_end bytes p.used q.used p.state q.state x.within y.within x.says y.says x.limit y.limit in
    let takes : take p.used bytes ≡ take q.used bytes = ap (λ n. take n bytes) e.1 in
    let less = x.longest q.raw q.plain y.held y.next y.elements (takes ∙ y.front) in
    let more = y.longest p.raw p.plain x.held x.next x.elements (sym takes ∙ x.front) in
    let raws : p.raw ≡ q.raw = same_length p.raw q.raw x.held y.held (sym x.front ∙ takes ∙ y.front) (omega (arith, less, more)) in
    let plains : p.plain ≡ q.plain = same_data q.raw p.plain q.plain x.next y.next (subst (λ (w : List ℕ). AreElements w p.plain x.next) raws x.elements) y.elements in
    λ i. record { raw = raws i; plain = plains i; used = e.1 i; state = e.0 i }

pub body-one : (r : BodyRule) (bytes : List ℕ) (p q : Part) → Body r bytes p → Body r bytes q → p ≡ q
body-one rule.Absent bytes p q x y = x ∙ sym y
body-one (rule.Length n) bytes p q x y = x ∙ sym y
body-one rule.Chunked bytes p q x y = chunked-one bytes p q x y
body-one rule.ToClose bytes p q x y = x ∙ sym y
