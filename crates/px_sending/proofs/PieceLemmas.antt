-- What was sent of a body behind each piece.
use Rattle.std.proofs.Common.{rules, IsTrue, ◌≡◌, ◌≢◌, ℕ, ◌+◌, ◌<◌, ◌≤◌, Bool, true, false, cond, min, List, [], ◌++◌, length, take, drop, sym, ap, ◌∙◌, refl, arith, append_assoc, length-append, inl, inr, nat_le, subst}
use Rattle.std.proofs.lemmas.Bool.Decides.{nat_tests}
use Rattle.std.proofs.lemmas.List.{append-nil, drop-append-le, take-append-le, take_all}
use Rattle.std.proofs.Math.Seq.{take-append_seam, take-append-add, drop-append_seam, drop-append-add}
use Rattle.px_base.specs.Sources.{SourceState, SourceGoesOn}
use Rattle.px_base.specs.Sinks.{SinkState, SinkGoesOn, AddsFront, AddsProperFront}
use Rattle.px_base.specs.declared.faults.SinkFault.{SinkFault}
use Rattle.px_base.specs.declared.faults.SinkFault.TheVariants as fault
use Rattle.px_framing.specs.Body.{Part, nothing, first_bytes, at_end}
use Rattle.px_framing.specs.Reading.{ReaderAfter, IsSettled, IsSettledAt, Reading, Uses, before, capped, first, goes_on, is_last, reads, reads_on, stage_state}
use Rattle.px_framing.specs.declared.places.ChunkPlace.{ChunkPlace}
use Rattle.px_framing.specs.declared.places.ChunkPlace.TheVariants as place
use Rattle.px_framing.specs.declared.places.State.{State}
use Rattle.px_framing.specs.declared.places.State.TheVariants as state
use Rattle.px_framing.specs.declared.rules.BodyRule.{BodyRule}
use Rattle.px_framing.specs.declared.rules.BodyRule.TheVariants as rule
use Rattle.px_framing.specs.declared.stages.Stage.{Stage}
use Rattle.px_framing.specs.declared.stages.Stage.TheVariants as stage
use Rattle.px_notes.specs.declared.messages.Sent.TheVariants as sent
use Rattle.px_sending.specs.Sends.{Sends, body_in, end_of_body, behind_body, interim_behind}
use Rattle.px_sending.specs.Pieces.{PassesPiece, StopsInPiece, PieceStopsBy, SentSoFar, bare, link_refused, sent_at}

-- a reader at its end reads nothing more
pub ended_reads : (r : Reading) (more : List ℕ) → stage_state r.stage ≢ state.More → goes_on r more ≡ nothing (stage_state r.stage)
unfolding goes_on
ended_reads r more n = by r.stage r.kept n
  where
    by : (s : Stage) (kept : List ℕ) → stage_state s ≢ state.More → reads_on s kept more ≡ nothing (stage_state s)
    by (stage.Ended x) kept n = refl
    by (stage.Bytes left) kept n = absurd (n refl)
    by (stage.Rest room) kept n = absurd (n refl)
    by (stage.Chunks place room) kept n = absurd (n refl)

bytes_none : (n : ℕ) (s : State) → 0 < n → first_bytes n s [] ≡ nothing state.More
bytes_none n s some =
    let low : 0 ≤ n = omega arith in
    let none : take n [] ≡ [] = take_all {A = ℕ} n [] low in
    let count : min n 0 ≡ 0 = omega arith in
    let full : nat_le n 0 ≡ false = grind (arith, nat_tests) in
    λ i. record { raw = none i; plain = none i; used = count i; state = cond (full i) s state.More }

place_none : (p : ChunkPlace) (kept : List ℕ) → is_last p ≡ false → reads p kept [] ≡ nothing state.More
unfolding reads
place_none place.Size kept e = refl
place_none (place.Data n) kept e = refl
place_none place.Gap kept e = refl
place_none (place.Trailers n) kept e = refl
place_none place.Done kept e = absurd (cc)
place_none place.Wrong kept e = absurd (cc)

-- no bytes settle nothing
pub none_reads : (r : Reading) → IsSettled r → stage_state r.stage ≡ state.More → goes_on r [] ≡ nothing state.More
unfolding goes_on
none_reads r i m = by r.stage r.kept i.settled m
  where
    by : (s : Stage) (kept : List ℕ) → IsSettledAt s kept → stage_state s ≡ state.More → reads_on s kept [] ≡ nothing state.More
    by (stage.Ended x) kept i m = absurd (i.1 m)
    by (stage.Bytes n) kept i m = bytes_none n state.Whole i.1
    by (stage.Rest n) kept i m = bytes_none n state.Cut i.1
    by (stage.Chunks p room) kept i m =
        let low : 0 ≤ room = omega arith in
        let none : take room [] ≡ [] = take_all {A = ℕ} room [] low in
        let found : reads p kept (take room []) ≡ nothing state.More = ap (reads p kept) none ∙ place_none p kept i.1 in
        let full : nat_le room 0 ≡ false = (let some = i.2 in grind (arith, nat_tests)) in
        λ j. capped (full j) (found j)

-- at the end of the bytes a body that is at its end stays as it is
at_end_same : (r : BodyRule) (s : State) → s ≢ state.More → at_end r s ≡ s
at_end_same r state.More n = absurd (n refl)
at_end_same r state.Whole n = refl
at_end_same r state.Cut n = refl
at_end_same r state.Misframed n = refl

end_not_more : (r : BodyRule) → at_end r state.More ≢ state.More
end_not_more rule.Absent e = absurd (cc)
end_not_more (rule.Length m) e = absurd (cc)
end_not_more rule.Chunked e = absurd (cc)
end_not_more rule.ToClose e = absurd (cc)

-- the body ended so: all that it settles was sent, and what is left is what follows it
ends_by : (r : BodyRule) (stream rest link link' out : List ℕ) (s : State) → s ≢ state.More → end_of_body (bare r) stream ≡ s → out ≡ (body_in (bare r) stream).raw
    → rest ≡ behind_body (bare r) stream → link' ≡ link ++ out → Sends (bare r) stream rest link link' [] [] (sent_at s)
ends_by r stream rest link link' out state.More n e o b w = absurd (n refl)
ends_by r stream rest link link' out state.Whole n e o b w = record { came = stream; is_stream = refl; out = out; sent = w; back = []; returned = refl; by = (e, o, refl, b) }
ends_by r stream rest link link' out state.Cut n e o b w = record { came = stream; is_stream = refl; out = out; sent = w; back = []; returned = refl; by = (e, o, refl, b) }
ends_by r stream rest link link' out state.Misframed n e o b w = record { came = stream; is_stream = refl; out = out; sent = w; back = []; returned = refl; by = (e, o, refl, b) }

-- the loop goes on
pub sent_on : (r : BodyRule) (stream ahead ahead' left link link1 link2 : List ℕ) (s : State) (old new : Reading) → SentSoFar r stream (ahead ++ left) link link1 old
    → ((fed put plain : List ℕ) → ReaderAfter r fed put plain (length fed) old → PassesPiece r fed put plain ahead ahead' link1 link2 s new) → s ≡ state.More → ahead' ≡ []
    → SentSoFar r stream (ahead' ++ left) link link2 new
sent_on r stream ahead ahead' left link link1 link2 s old new h k m e =
    let p = k h.fed h.put h.plain h.after in
    let count : length h.fed + p.used ≡ length (h.fed ++ ahead) = omega (arith, p.uses.all m, length-append h.fed ahead) in
    record {
      fed = h.fed ++ ahead;
      put = h.put ++ p.more;
      plain = h.plain ++ p.data_more;
      read = rw e (h.read ∙ sym (append_assoc h.fed ahead left));
      sent = p.sent ∙ ap (λ (zs : List ℕ). zs ++ p.more) h.sent ∙ append_assoc link h.put p.more;
      after = rw (sym count) p.after;
    }

-- the body ends with a piece
pub sent_whole : (r : BodyRule) (stream ahead ahead' left link link1 link2 : List ℕ) (s : State) (old new : Reading) → SentSoFar r stream (ahead ++ left) link link1 old
    → ((fed put plain : List ℕ) → ReaderAfter r fed put plain (length fed) old → PassesPiece r fed put plain ahead ahead' link1 link2 s new) → s ≡ stage_state new.stage → s ≢ state.More
    → Sends (bare r) stream (ahead' ++ left) link link2 [] [] (sent_at s)
sent_whole r stream ahead ahead' left link link1 link2 s old new h k is n =
    let p = k h.fed h.put h.plain h.after in
    let whole : stream ≡ (h.fed ++ ahead) ++ left = h.read ∙ sym (append_assoc h.fed ahead left) in
    let reads : goes_on (first r) stream ≡ before (h.put ++ p.more) (h.plain ++ p.data_more) (length h.fed + p.used) (nothing s) =
    ap (goes_on (first r)) whole ∙ p.after.same left
    ∙ ap (before (h.put ++ p.more) (h.plain ++ p.data_more) (length h.fed + p.used)) (ended_reads new left (λ e. n (is ∙ e)) ∙ ap nothing (sym is)) in
    let state_is : at_end r (goes_on (first r) stream).state ≡ s = ap (λ (q : Part). at_end r q.state) reads ∙ at_end_same r s n in
    let raw_is : (goes_on (first r) stream).raw ≡ h.put ++ p.more = ap (λ (q : Part). q.raw) reads ∙ append-nil (h.put ++ p.more) in
    let used_is : (goes_on (first r) stream).used ≡ length h.fed + p.used = (let e : (goes_on (first r) stream).used ≡ length h.fed + p.used + 0 = ap (λ (q : Part). q.used) reads in omega (arith, e)) in
    let rest_is : drop (goes_on (first r) stream).used stream ≡ ahead' ++ left =
    ap (λ n. drop n stream) used_is ∙ ap (drop (length h.fed + p.used)) h.read ∙ drop-append-add h.fed (ahead ++ left) p.used
    ∙ drop-append-le p.used ahead left p.uses.within ∙ ap (λ (zs : List ℕ). zs ++ left) (sym p.left) in
    ends_by r stream (ahead' ++ left) link link2 (h.put ++ p.more) s n state_is (sym raw_is) (sym rest_is) (p.sent ∙ ap (λ (zs : List ℕ). zs ++ p.more) h.sent ∙ append_assoc link h.put p.more)

-- what a stream settles begins with what was put out
raw_of : (r : BodyRule) (stream bytes rest put plain : List ℕ) (count : ℕ) (reading : Reading) → stream ≡ bytes ++ rest → ReaderAfter r bytes put plain count reading
    → (goes_on (first r) stream).raw ≡ put ++ (goes_on reading rest).raw
raw_of r stream bytes rest put plain count reading e a = ap (λ (zs : List ℕ). (goes_on (first r) zs).raw) e ∙ ap (λ (q : Part). q.raw) (a.same rest)

front_of : (put more tail : List ℕ) (n : ℕ) → n < length more → put ++ take n more ≡ take (length put + n) ((put ++ more) ++ tail)
front_of put more tail n h =
    sym (ap (take (length put + n)) (append_assoc put more tail) ∙ take-append-add put (more ++ tail) n ∙ ap (λ (zs : List ℕ). put ++ zs) (take-append-le n more tail (omega (arith, h))))

long_of : (put more tail : List ℕ) (n : ℕ) → n < length more → length put + n < length ((put ++ more) ++ tail)
long_of put more tail n h = omega (arith, h, length-append put more, length-append (put ++ more) tail)

front_put : (put tail : List ℕ) → AddsFront [] put (put ++ tail)
front_put put tail = (length put, omega (arith, length-append put tail), sym (take-append_seam put tail))

no_front : (bytes : List ℕ) → AddsFront [] [] bytes
no_front bytes = (0, (omega arith), refl)

no_interim : (r : BodyRule) (out : List ℕ) → [] ≡ interim_behind (bare r) out
no_interim r out = by (nat_le 0 (length out)) []
  where
    by : (b : Bool) (bytes : List ℕ) → bytes ≡ cond b bytes bytes
    by true bytes = refl
    by false bytes = refl

-- memory was wanting between two pieces
pub sent_wanting : (r : BodyRule) (stream rest rest' link link' : List ℕ) (reading : Reading) → SentSoFar r stream rest link link' reading → Sends (bare r) stream rest' link link' [] [] sent.NoMemory
sent_wanting r stream rest rest' link link' reading h = record {
  came = stream;
  is_stream = refl;
  out = h.put;
  sent = h.sent;
  back = [];
  returned = refl;
  by = (subst (λ (zs : List ℕ). AddsFront [] h.put zs) (sym (raw_of r stream h.fed rest h.put h.plain (length h.fed) reading h.read h.after)) (front_put h.put (goes_on reading rest).raw), no_front _);
}

-- a write was refused
pub sent_some : (r : BodyRule) (stream ahead left rest link link1 link2 : List ℕ) (f : SinkFault) (old : Reading) → SentSoFar r stream (ahead ++ left) link link1 old
    → ((fed put plain : List ℕ) → ReaderAfter r fed put plain (length fed) old → PieceStopsBy r fed put plain ahead link1 link2 f)
    → Sends (bare r) stream rest link link2 [] [] (link_refused f)
sent_some r stream ahead left rest link link1 link2 f old h k = by f (k h.fed h.put h.plain h.after)
  where
    raw_is : (x : StopsInPiece r h.fed h.put h.plain ahead link1 link2) → (goes_on (first r) stream).raw ≡ (h.put ++ x.more) ++ (goes_on x.reading left).raw
    raw_is x = raw_of r stream (h.fed ++ ahead) left (h.put ++ x.more) (h.plain ++ x.data_more) (length h.fed + x.used) x.reading (h.read ∙ sym (append_assoc h.fed ahead left)) x.after

    sent_is : (x : StopsInPiece r h.fed h.put h.plain ahead link1 link2) → link2 ≡ link ++ (h.put ++ take x.front.0 x.more)
    sent_is x = x.front.2 ∙ ap (λ (zs : List ℕ). zs ++ take x.front.0 x.more) h.sent ∙ append_assoc link h.put (take x.front.0 x.more)

    by : (f : SinkFault) → PieceStopsBy r h.fed h.put h.plain ahead link1 link2 f → Sends (bare r) stream rest link link2 [] [] (link_refused f)
    by fault.Failed x = record {
      came = stream;
      is_stream = refl;
      out = h.put ++ take x.front.0 x.more;
      sent = sent_is x;
      back = [];
      returned = refl;
      by = (
        (
          length h.put + x.front.0,
          rw (raw_is x) (long_of h.put x.more (goes_on x.reading left).raw x.front.0 x.front.1),
          rw (raw_is x) (front_of h.put x.more (goes_on x.reading left).raw x.front.0 x.front.1),
        ),
        no_interim r (h.put ++ take x.front.0 x.more),
      );
    }
    by fault.Mem (inl x) = record {
      came = stream;
      is_stream = refl;
      out = h.put ++ take x.front.0 x.more;
      sent = sent_is x;
      back = [];
      returned = refl;
      by = (
        (
          length h.put + x.front.0,
          (let long = long_of h.put x.more (goes_on x.reading left).raw x.front.0 x.front.1 in rw (raw_is x) (omega (arith, long))),
          rw (raw_is x) (front_of h.put x.more (goes_on x.reading left).raw x.front.0 x.front.1),
        ),
        no_front _,
      );
    }
    by fault.Mem (inr e) = rw e (sent_wanting r stream (ahead ++ left) rest link link1 old h)

-- the stream ends
pub sent_to_end : (r : BodyRule) (stream rest rest' link link' : List ℕ) (s : State) (reading : Reading) → SentSoFar r stream rest link link' reading → rest ≡ [] → rest' ≡ [] → IsSettled reading → stage_state reading.stage ≡ state.More
    → ((fed put plain : List ℕ) (count : ℕ) → ReaderAfter r fed put plain count reading → s ≡ at_end r (stage_state reading.stage)) → Sends (bare r) stream rest' link link' [] [] (sent_at s)
sent_to_end r stream rest rest' link link' s reading h e e' i m k =
    let by_rule : s ≡ at_end r state.More = k h.fed h.put h.plain (length h.fed) h.after ∙ ap (at_end r) m in
    let whole : stream ≡ h.fed ++ [] = h.read ∙ ap (λ (zs : List ℕ). h.fed ++ zs) e in
    let reads : goes_on (first r) stream ≡ before h.put h.plain (length h.fed) (nothing state.More) =
    ap (goes_on (first r)) whole ∙ h.after.same [] ∙ ap (before h.put h.plain (length h.fed)) (none_reads reading i m) in
    let state_is : at_end r (goes_on (first r) stream).state ≡ s = ap (λ (q : Part). at_end r q.state) reads ∙ sym by_rule in
    let raw_is : (goes_on (first r) stream).raw ≡ h.put = ap (λ (q : Part). q.raw) reads ∙ append-nil h.put in
    let used_is : (goes_on (first r) stream).used ≡ length h.fed = (let e : (goes_on (first r) stream).used ≡ length h.fed + 0 = ap (λ (q : Part). q.used) reads in omega (arith, e)) in
    let rest_is : drop (goes_on (first r) stream).used stream ≡ [] = ap (λ n. drop n stream) used_is ∙ ap (drop (length h.fed)) whole ∙ drop-append_seam h.fed [] in
    ends_by r stream rest' link link' h.put s (λ x. end_not_more r (sym by_rule ∙ x)) state_is (sym raw_is) (e' ∙ sym rest_is) h.sent

-- the source failed
pub sent_read : (r : BodyRule) (stream rest link link' : List ℕ) (reading : Reading) → SentSoFar r stream rest link link' reading → IsSettled reading → stage_state reading.stage ≡ state.More
    → Sends (bare r) stream rest link link' [] [] sent.ReadFailed
sent_read r stream rest link link' reading h i m =
    let reads : goes_on (first r) h.fed ≡ before h.put h.plain (length h.fed) (nothing state.More) =
    ap (goes_on (first r)) (sym (append-nil h.fed)) ∙ h.after.same [] ∙ ap (before h.put h.plain (length h.fed)) (none_reads reading i m) in
    record {
      came = h.fed;
      is_stream = h.read;
      out = h.put;
      sent = h.sent;
      back = [];
      returned = refl;
      by = (ap (λ (q : Part). q.state) reads, sym (ap (λ (q : Part). q.raw) reads ∙ append-nil h.put), refl);
    }

-- a piece was sent behind a line that an earlier one began
pub passes_piece : (r : BodyRule) (fed put plain piece piece' line data_more link link' : List ℕ) (whole used : ℕ) (s : State) (new : Reading) → Uses piece used s → piece' ≡ drop used piece → link' ≡ link ++ (line ++ take whole piece)
    → ReaderAfter r (fed ++ piece) (put ++ (line ++ take whole piece)) (plain ++ data_more) (length fed + used) new → PassesPiece r fed put plain piece piece' link link' s new
passes_piece r fed put plain piece piece' line data_more link link' whole used s new u e w a =
    record { more = line ++ take whole piece; data_more = data_more; used = used; uses = u; left = e; sent = w; after = a }

-- a write was refused in it
pub stops_in_piece : (r : BodyRule) (fed put plain piece line data_more link link' : List ℕ) (whole used : ℕ) (f : SinkFault) (new : Reading) → AddsProperFront link link' (line ++ take whole piece)
    → ReaderAfter r (fed ++ piece) (put ++ (line ++ take whole piece)) (plain ++ data_more) (length fed + used) new → PieceStopsBy r fed put plain piece link link' f
stops_in_piece r fed put plain piece line data_more link link' whole used f new w a = by f
  where
    stops : StopsInPiece r fed put plain piece link link'
    stops = record { more = line ++ take whole piece; data_more = data_more; used = used; reading = new; front = w; after = a }

    by : (f : SinkFault) → PieceStopsBy r fed put plain piece link link' f
    by fault.Failed = stops
    by fault.Mem = inl stops

-- a front of what comes first is a front of all
pub first_front : (old new xs ys : List ℕ) → AddsProperFront old new xs → AddsProperFront old new (xs ++ ys)
first_front old new xs ys (n, h, e) = (n, omega (arith, h, length-append xs ys), e ∙ ap (λ (zs : List ℕ). old ++ zs) (sym (take-append-le n xs ys (omega (arith, h)))))

-- and so is what comes first with a front of what follows
pub second_front : (old mid new xs ys : List ℕ) → mid ≡ old ++ xs → AddsProperFront mid new ys → AddsProperFront old new (xs ++ ys)
second_front old mid new xs ys w (n, h, e) =
    (length xs + n, omega (arith, h, length-append xs ys), e ∙ ap (λ (zs : List ℕ). zs ++ take n ys) w ∙ append_assoc old xs (take n ys) ∙ ap (λ (zs : List ℕ). old ++ zs) (sym (take-append-add xs ys n)))

-- no byte was lost
pub still_so_far : (r : BodyRule) (stream rest rest' link link' : List ℕ) (reading : Reading) → rest ≡ rest' → SentSoFar r stream rest link link' reading → SentSoFar r stream rest' link link' reading
still_so_far r stream rest rest' link link' reading e h = rw e at h

-- what lasts from one state to the next lasts over both
pub in_goes_on : {a b c : SourceState} → SourceGoesOn a b → SourceGoesOn b c → SourceGoesOn a c
in_goes_on h k = search rules

open_before : (a b : Bool) → (IsTrue a → IsTrue b) → b ≡ false → a ≡ false
open_before true b kept e = sym (kept refl) ∙ e
open_before false b kept e = refl

pub link_goes_on : {a b c : SinkState} → SinkGoesOn a b → SinkGoesOn b c → SinkGoesOn a c
link_goes_on {b = b} {c = c} h k = record {
  tells_same = k.tells_same ∙ h.tells_same;
  finished_kept = λ f. k.finished_kept (h.finished_kept f);
  mark_same = k.mark_same ∙ h.mark_same;
  faults_later = omega arith;
  steady_kept = λ s o. let p = h.steady_kept s (open_before b.finished c.finished k.finished_kept o) in let q = k.steady_kept p.0 o in (q.0, q.1 ∙ p.1);
}
