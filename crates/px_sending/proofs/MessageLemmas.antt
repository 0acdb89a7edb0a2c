-- What was sent of a whole message.
use Rattle.std.proofs.Common.{◌≡◌, ℕ, ◌+◌, ◌<◌, true, false, cond, List, [], ◌++◌, length, take, sym, ap, ◌∙◌, refl, arith, append_assoc, length-append, nat_le}
use Rattle.std.proofs.lemmas.Bool.Decides.{nat_tests}
use Rattle.std.proofs.lemmas.List.{append-nil, take-append-le, length-take-le}
use Rattle.std.proofs.Math.Seq.{take-append_seam, take-append-add, take-length}
use Rattle.px_base.specs.Sinks.{AddsFront, AddsProperFront}
use Rattle.px_notes.specs.declared.messages.Message.{Message}
use Rattle.px_notes.specs.declared.messages.Sent.{Sent}
use Rattle.px_notes.specs.declared.messages.Sent.TheVariants as sent
use Rattle.px_sending.specs.Sends.{Sends, SendsBy, body_in, interim, interim_behind}
use Rattle.px_sending.specs.Pieces.{bare}

-- the head was sent whole, and perhaps some behind it
behind_whole : (m : Message) (more : List ℕ) → interim_behind m (m.head ++ more) ≡ interim m
behind_whole m more =
    let whole : nat_le (length m.head) (length (m.head ++ more)) ≡ true = (let long = length-append m.head more in grind (arith, nat_tests)) in
    ap (λ b. cond b (interim m) []) whole

-- it wasn't
behind_part : (m : Message) (n : ℕ) → n < length m.head → interim_behind m (take n m.head) ≡ []
behind_part m n h =
    let count : length (take n m.head) ≡ n = length-take-le n m.head (omega (arith, h)) in
    let part : nat_le (length m.head) (length (take n m.head)) ≡ false = grind (arith, nat_tests) in
    ap (λ b. cond b (interim m) []) part

no_front : (bytes : List ℕ) → AddsFront [] [] bytes
no_front bytes = (0, (omega arith), refl)

-- the link's sink failed in the head
pub head_cut : (m : Message) (left link link' taken : List ℕ) → AddsProperFront link link' m.head → Sends m left left link link' taken taken sent.LinkFailed
head_cut m left link link' taken (n, h, e) = record {
  came = left;
  is_stream = refl;
  out = take n m.head;
  sent = e;
  back = [];
  returned = sym (append-nil taken);
  by = (
    (
      n,
      omega (arith, h, length-append m.head (body_in m left).raw),
      sym (take-append-le n m.head (body_in m left).raw (omega (arith, h))),
    ),
    sym (behind_part m n h),
  );
}

-- memory was wanting in the head
pub head_wanting : (m : Message) (left link link' taken : List ℕ) → AddsProperFront link link' m.head → Sends m left left link link' taken taken sent.NoMemory
head_wanting m left link link' taken (n, h, e) = record {
  came = left;
  is_stream = refl;
  out = take n m.head;
  sent = e;
  back = [];
  returned = sym (append-nil taken);
  by = (
    (
      n,
      omega (arith, h, length-append m.head (body_in m left).raw),
      sym (take-append-le n m.head (body_in m left).raw (omega (arith, h))),
    ),
    no_front _,
  );
}

-- the client's sink failed behind the head
pub interim_cut : (m : Message) (left link link' taken taken' : List ℕ) → link' ≡ link ++ m.head → AddsProperFront taken taken' (interim m) → Sends m left left link link' taken taken' sent.WriteFailed
interim_cut m left link link' taken taken' w (n, h, e) = record {
  came = left;
  is_stream = refl;
  out = m.head;
  sent = w;
  back = take n (interim m);
  returned = e;
  by = (refl, (n, h, refl));
}

-- memory was wanting there
pub interim_wanting : (m : Message) (left link link' taken taken' : List ℕ) → link' ≡ link ++ m.head → AddsProperFront taken taken' (interim m) → Sends m left left link link' taken taken' sent.NoMemory
interim_wanting m left link link' taken taken' w (n, h, e) =
    let whole : interim_behind m m.head ≡ interim m = ap (interim_behind m) (sym (append-nil m.head)) ∙ behind_whole m [] in
    record {
      came = left;
      is_stream = refl;
      out = m.head;
      sent = w;
      back = take n (interim m);
      returned = e;
      by = (
        (length m.head, omega (arith, length-append m.head (body_in m left).raw), sym (take-append_seam m.head (body_in m left).raw)),
        (n, rw whole (omega (arith, h)), rw whole refl),
      );
    }

-- bytes behind the head
longer : (head raw out : List ℕ) → AddsProperFront [] out raw → AddsProperFront [] (head ++ out) (head ++ raw)
longer head raw out (n, h, e) = (
  length head + n,
  omega (arith, h, length-append head raw),
  ap (λ (zs : List ℕ). head ++ zs) e ∙ sym (take-append-add head raw n),
)

longer_front : (head raw out : List ℕ) → AddsFront [] out raw → AddsFront [] (head ++ out) (head ++ raw)
longer_front head raw out (n, h, e) = (
  length head + n,
  omega (arith, h, length-append head raw),
  ap (λ (zs : List ℕ). head ++ zs) e ∙ sym (take-append-add head raw n),
)

by_body : (m : Message) (came rest out back : List ℕ) (how : Sent) → SendsBy (bare m.rule) came rest out back how → SendsBy m came rest (m.head ++ out) (interim m) how
by_body m came rest out back sent.Whole (e, o, b, r) = (e, ap (λ (zs : List ℕ). m.head ++ zs) o, refl, r)
by_body m came rest out back sent.Cut (e, o, b, r) = (e, ap (λ (zs : List ℕ). m.head ++ zs) o, refl, r)
by_body m came rest out back sent.Misframed (e, o, b, r) = (e, ap (λ (zs : List ℕ). m.head ++ zs) o, refl, r)
by_body m came rest out back sent.ReadFailed (e, o, b) = (e, ap (λ (zs : List ℕ). m.head ++ zs) o, refl)
by_body m came rest out back sent.LinkFailed (f, b) = (longer m.head (body_in m came).raw out f, sym (behind_whole m out))
by_body m came rest out back sent.WriteFailed (o, f) = (let none = f.1 in absurd (omega (arith, none)))
by_body m came rest out back sent.NoMemory (f, b) =
    (longer_front m.head (body_in m came).raw out f, rw (behind_whole m out) ((length (interim m), (omega arith), sym (take-length (interim m)))))

-- the body was sent behind the head and the interim head
pub head_and_body : (m : Message) (left left' link link1 link2 taken taken' : List ℕ) (how : Sent) → link1 ≡ link ++ m.head → taken' ≡ taken ++ interim m → Sends (bare m.rule) left left' link1 link2 [] [] how
    → Sends m left left' link link2 taken taken' how
head_and_body m left left' link link1 link2 taken taken' how w t h = record {
  came = h.came;
  is_stream = h.is_stream;
  out = m.head ++ h.out;
  sent = h.sent ∙ ap (λ (zs : List ℕ). zs ++ h.out) w ∙ append_assoc link m.head h.out;
  back = interim m;
  returned = t;
  by = by_body m h.came left' h.out h.back how h.by;
}
