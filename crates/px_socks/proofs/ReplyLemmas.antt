-- Reading a reply piece by piece.
use Rattle.std.proofs.Common.{◌≡◌, ℕ, ◌+◌, ◌-◌, ◌<◌, ◌≤◌, Bool, true, false, IsTrue, List, [], ◌∷◌, ◌++◌, length, take, drop, sym, ap, ◌∙◌, arith, length-append, append_assoc, refl, inl, inr, Option, Some, None, Result, Ok, cond}
use Rattle.std.specs.Prelude.{◌==◌, ◌&&◌}
use Rattle.std.proofs.lemmas.Grind.{common_steps}
use Rattle.std.proofs.Math.Seq.{take-append_seam}
use Rattle.std.proofs.lemmas.List.{take_at, take-append-drop}
use Rattle.std.proofs.lemmas.Bool.{eqb-true, and_parts}
use borrow.Rule.Slice.PartMut.{put_mid, post_of}
use Rattle.px_base.specs.Sources.{SourceState, SourceGoesOn, Gives}
use Rattle.px_socks.specs.Messages.{IsReply, IsAccepted, is_bound_address, Took, TookSome, AnyBytes}
use Rattle.px_socks.specs.Replies.{Filled, rest_by, rest_length, IsReplyFront}

-- what lasts over two calls lasts over both
pub source_goes_on : {a b c : SourceState} → SourceGoesOn a b → SourceGoesOn b c → SourceGoesOn a c
source_goes_on h k = record {
  tells_same = k.tells_same ∙ h.tells_same;
  offered_same = k.offered_same ∙ h.offered_same;
  mark_same = k.mark_same ∙ h.mark_same;
  faults_later = omega arith;
  steady_kept = λ s. let p = h.steady_kept s in let q = k.steady_kept p.0 in (q.0, q.1 ∙ p.1);
  whole_kept = λ w. k.whole_kept (h.whole_kept w);
}

front_more : (done n k : ℕ) (buf part : List ℕ) → done ≤ length buf → n ≤ length part → take (done + n) (put_mid done k buf part) ≡ take done buf ++ take n part
front_more done n k buf part at within =
    let post = post_of done k buf in
    let parts : take done buf ++ ((take n part ++ drop n part) ++ post) ≡ (take done buf ++ take n part) ++ (drop n part ++ post) = simp append_assoc in
    let whole : take n part ++ drop n part ≡ part = take-append-drop n part in
    let count : length (take done buf ++ take n part) ≡ done + n = grind (arith, common_steps) in
    ap (λ (p : List ℕ). take (done + n) (take done buf ++ (p ++ post))) (sym whole) ∙ (ap (λ (l : List ℕ). take (done + n) l) parts ∙ take_at (take done buf ++ take n part) (drop n part ++ post) (done + n) count)

-- n more bytes came
pub filled_more : (a b c : SourceState) (done n : ℕ) (buf part : List ℕ) → Filled a b done buf → Gives b c n part → length part ≡ length buf - done
    → c.faults ≡ b.faults → SourceGoesOn b c → Filled a c (done + n) (put_mid done (length buf - done) buf part)
filled_more a b c done n buf part h g fits faults goes = record {
  within = let w = h.within in let v = g.within in grind (arith, common_steps);
  moved = λ t.
      let before = h.moved t in
      let now = g.moved (h.goes_on.tells_same ∙ t) in
      rw (front_more done n (length buf - done) buf part h.within g.within) (before ∙ ap (λ (l : List ℕ). take done buf ++ l) now ∙ sym (append_assoc (take done buf) (take n part) c.left));
  faults_same = faults ∙ h.faults_same;
  goes_on = source_goes_on h.goes_on goes;
}

-- a reply stands at the front: its first five bytes tell how many follow, and so many are there
pub record ReplyAhead (left : List ℕ) : Type 0 where
  pub more : ℕ
  pub there : 5 + more ≤ length left
  pub told : rest_length (take 5 left) ≡ Some more

pub rest_bound : (address_type first : ℕ) (more : List ℕ) → IsTrue (is_bound_address address_type (first ∷ more)) → rest_by address_type first ≡ Some (length more + 2)
rest_bound address_type first more h = grind (arith, common_steps)

bound_rest : (address_type first : ℕ) (more : List ℕ) (port_high port_low : ℕ) → rest_by address_type first ≡ Some (length (more ++ port_high ∷ port_low ∷ [])) → IsTrue (is_bound_address address_type (first ∷ more))
bound_rest address_type first more port_high port_low h = grind (arith, common_steps)

ahead_of : (reserved address_type : ℕ) (bound_address : List ℕ) (port_high port_low : ℕ) (r : List ℕ) → IsTrue (is_bound_address address_type bound_address)
    → ReplyAhead ((5 ∷ 0 ∷ reserved ∷ address_type ∷ (bound_address ++ port_high ∷ port_low ∷ [])) ++ r)
ahead_of reserved address_type [] port_high port_low r h = (cc)
ahead_of reserved address_type (first ∷ more) port_high port_low r h = record {
  more = length more + 2;
  there = grind (arith, common_steps);
  told = rest_bound address_type first more h;
}

pub reply_ahead : (left bytes rest : List ℕ) → left ≡ bytes ++ rest → IsReply bytes → ReplyAhead left
reply_ahead left bytes rest e p = rw (e, p.parts) (ahead_of p.reserved p.address_type p.bound_address p.port_high p.port_low rest p.fits)

-- the last two of a list
record LastTwo (xs : List ℕ) : Type 0 where
  front : List ℕ
  port_high : ℕ
  port_low : ℕ
  parts : xs ≡ front ++ port_high ∷ port_low ∷ []

last_two : (xs : List ℕ) → 2 ≤ length xs → LastTwo xs
last_two [] h = absurd (omega arith)
last_two (a ∷ []) h = absurd (omega arith)
last_two (a ∷ b ∷ []) h = record { front = []; port_high = a; port_low = b; parts = refl }
last_two (a ∷ b ∷ c ∷ xs) h =
    let r = last_two (b ∷ c ∷ xs) (omega arith) in
    record { front = a ∷ r.front; port_high = r.port_high; port_low = r.port_low; parts = ap (λ (l : List ℕ). a ∷ l) r.parts }

some_by : (t : Bool) (o : Option ℕ) (n : ℕ) → cond t o None ≡ Some n → (t ≡ true) × (o ≡ Some n)
some_by true o n e = (refl, e)
some_by false o n e = (cc)

rest_two : (address_type first n : ℕ) → rest_by address_type first ≡ Some n → 2 ≤ n
rest_two address_type first n h = grind (arith, common_steps)

five : (a b c d e : ℕ) (rest : List ℕ) → rest_length (a ∷ b ∷ c ∷ d ∷ e ∷ []) ≡ Some (length rest) → IsReply (a ∷ b ∷ c ∷ d ∷ e ∷ rest)
five a b c d e rest h =
    let p = some_by (a == 5 && b == 0) (rest_by d e) (length rest) h in
    let l = last_two rest (rest_two d e (length rest) p.1) in
    let is_five : a ≡ 5 = eqb-true a 5 (and_parts (a == 5) (b == 0) p.0).0 in
    let is_none : b ≡ 0 = eqb-true b 0 (and_parts (a == 5) (b == 0) p.0).1 in
    record {
      reserved = c;
      address_type = d;
      bound_address = e ∷ l.front;
      port_high = l.port_high;
      port_low = l.port_low;
      parts =
          ap (λ (x : ℕ). x ∷ b ∷ c ∷ d ∷ e ∷ rest) is_five ∙ ap (λ (x : ℕ). 5 ∷ x ∷ c ∷ d ∷ e ∷ rest) is_none
          ∙ ap (λ (r : List ℕ). 5 ∷ 0 ∷ c ∷ d ∷ e ∷ r) l.parts;
      fits = bound_rest d e l.front l.port_high l.port_low (p.1 ∙ ap (λ (r : List ℕ). Some (length r)) l.parts);
    }

pub is_reply : (first rest : List ℕ) → length first ≡ 5 → rest_length first ≡ Some (length rest) → IsReply (first ++ rest)
is_reply [] rest n h = absurd (omega arith)
is_reply (a ∷ []) rest n h = absurd (omega arith)
is_reply (a ∷ b ∷ []) rest n h = absurd (omega arith)
is_reply (a ∷ b ∷ c ∷ []) rest n h = absurd (omega arith)
is_reply (a ∷ b ∷ c ∷ d ∷ []) rest n h = absurd (omega arith)
is_reply (a ∷ b ∷ c ∷ d ∷ e ∷ []) rest n h = five a b c d e rest h
is_reply (a ∷ b ∷ c ∷ d ∷ e ∷ f ∷ fs) rest n h = absurd (omega arith)

pub took_reply : (first old mid new : List ℕ) (more : ℕ) → length first ≡ 5 → Some more ≡ rest_length first → old ≡ first ++ mid → Took AnyBytes more mid new → Took IsReply (5 + more) old new
took_reply first old mid new more n h e k = record {
  bytes = first ++ k.bytes;
  moved = rw append_assoc (e ∙ ap (λ (l : List ℕ). first ++ l) k.moved);
  counted = omega (arith, length-append first k.bytes, k.counted);
  taken = is_reply first k.bytes n (sym h ∙ ap (λ (i : ℕ). Some i) (sym k.counted));
}

pub took_accepted : (old mid new : List ℕ) (count : ℕ) → old ≡ 5 ∷ 0 ∷ mid → Took IsReply count mid new → Took IsAccepted (2 + count) old new
took_accepted old mid new count e k = record {
  bytes = 5 ∷ 0 ∷ k.bytes;
  moved = e ∙ ap (λ (l : List ℕ). 5 ∷ 0 ∷ l) k.moved;
  counted = omega (arith, k.counted);
  taken = record { reply = k.bytes; parts = refl; replied = k.taken };
}

-- the first five bytes of a reply of that length tell how many follow
record ToldLength (left : List ℕ) (count : ℕ) : Type 0 where
  more : ℕ
  told : rest_length (take 5 left) ≡ Some more
  counted : count ≡ 5 + more

length_told : (reserved address_type : ℕ) (bound_address : List ℕ) (port_high port_low : ℕ) (r : List ℕ) → IsTrue (is_bound_address address_type bound_address)
    → ToldLength ((5 ∷ 0 ∷ reserved ∷ address_type ∷ (bound_address ++ port_high ∷ port_low ∷ [])) ++ r) (length (5 ∷ 0 ∷ reserved ∷ address_type ∷ (bound_address ++ port_high ∷ port_low ∷ [])))
length_told reserved address_type [] port_high port_low r h = (cc)
length_told reserved address_type (first ∷ more) port_high port_low r h = record {
  more = length more + 2;
  told = rest_bound address_type first more h;
  counted = grind (arith, common_steps);
}

took_told : (left rest : List ℕ) (count : ℕ) → Took IsReply count left rest → ToldLength left count
took_told left rest count t =
    let p = t.taken in
    let whole : left ≡ (5 ∷ 0 ∷ p.reserved ∷ p.address_type ∷ (p.bound_address ++ p.port_high ∷ p.port_low ∷ [])) ++ rest = t.moved ∙ ap (λ (l : List ℕ). l ++ rest) p.parts in
    let counted : count ≡ length (5 ∷ 0 ∷ p.reserved ∷ p.address_type ∷ (p.bound_address ++ p.port_high ∷ p.port_low ∷ [])) = sym t.counted ∙ ap (λ (l : List ℕ). length l) p.parts in
    rw (whole, counted) (length_told p.reserved p.address_type p.bound_address p.port_high p.port_low rest p.fits)

-- no two counts of bytes at the front of the same bytes are accepted
pub prefix_free : (left rest rest' : List ℕ) (m n : ℕ) → Took IsAccepted m left rest → Took IsAccepted n left rest' → m ≡ n
prefix_free left rest rest' m n t u =
    let p = t.taken in
    let q = u.taken in
    let e : left ≡ 5 ∷ 0 ∷ (p.reply ++ rest) = t.moved ∙ ap (λ (l : List ℕ). l ++ rest) p.parts in
    let f : left ≡ 5 ∷ 0 ∷ (q.reply ++ rest') = u.moved ∙ ap (λ (l : List ℕ). l ++ rest') q.parts in
    let same : p.reply ++ rest ≡ q.reply ++ rest' = ap (λ (l : List ℕ). drop 2 l) (sym e ∙ f) in
    let one = took_told (p.reply ++ rest) rest (length p.reply) (record { bytes = p.reply; moved = refl; counted = refl; taken = p.replied }) in
    let other = took_told (q.reply ++ rest') rest' (length q.reply) (record { bytes = q.reply; moved = refl; counted = refl; taken = q.replied }) in
    let both : Some one.more ≡ Some other.more = sym one.told ∙ ap (λ (l : List ℕ). rest_length (take 5 l)) same ∙ other.told in
    let more : one.more ≡ other.more = (cc) in
    omega (arith, t.counted, ap (λ (l : List ℕ). length l) p.parts, u.counted, ap (λ (l : List ℕ). length l) q.parts, one.counted, other.counted, more)

-- fewer bytes were taken than that
pub few_taken : (n : ℕ) (old new : List ℕ) → n ≤ 5 → TookSome (λ bytes. length bytes < n) old new → TookSome IsReplyFront old new
few_taken n old new few k = record { bytes = k.bytes; moved = k.moved; taken = inl (omega (arith, k.taken)) }

-- the first five bytes were taken
pub five_taken : (first old mid : List ℕ) → length first ≡ 5 → old ≡ first ++ mid → TookSome IsReplyFront old mid
five_taken first old mid n e = record { bytes = first; moved = e; taken = inl (omega arith) }

-- the first five bytes were taken, and then fewer than follow
pub cut_taken : (first old mid new : List ℕ) (more : ℕ) → length first ≡ 5 → Some more ≡ rest_length first → old ≡ first ++ mid → TookSome (λ bytes. length bytes < more) mid new → TookSome IsReplyFront old new
cut_taken first old mid new more n h e k =
    let front : take 5 (first ++ k.bytes) ≡ first = ap (λ (i : ℕ). take i (first ++ k.bytes)) (sym n) ∙ take-append_seam first k.bytes in
    record {
      bytes = first ++ k.bytes;
      moved = e ∙ ap (λ (l : List ℕ). first ++ l) k.moved ∙ sym (append_assoc first k.bytes new);
      taken = inr (record { more = more; begins = ap rest_length front ∙ sym h; fewer = omega (arith, length-append first k.bytes, k.taken) });
    }

-- what is not filled is not answered by true
pub unfilled : {E : Type 0} (r : Result Bool E) (b : Bool) → r ≡ Ok b → b ≡ false → ¬ (r ≡ Ok true)
unfilled r b e f h = absurd (cc)

-- no reply is not answered by its length
pub not_some : {E : Type 0} (r : Result (Option ℕ) E) (o : Option ℕ) → r ≡ Ok o → o ≡ None → (n : ℕ) → ¬ (r ≡ Ok (Some n))
not_some r o e f n h = absurd (cc)
