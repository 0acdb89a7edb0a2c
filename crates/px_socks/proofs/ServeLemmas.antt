-- A dial of a server that is refused, and one that goes on.
use Rattle.std.proofs.Common.{◌≡◌, ℕ, zero, suc, ◌-◌, length-append, Bool, true, false, IsTrue, List, [], ◌∷◌, ◌++◌, length, take, drop, sym, ap, subst, ◌∙◌, arith, refl, ◌⊎◌, inl, inr, Result, Ok, Err}
use Rattle.std.specs.Prelude.{◌||◌, IfOk, IfErr}
use Rattle.std.proofs.lemmas.Bool.{eq-eqb}
use Rattle.std.proofs.lemmas.Grind.{common_steps}
use Rattle.std.proofs.Math.Seq.{take-append_seam, drop-append_seam}
use Rattle.px_base.specs.Causes.{Rose}
use Rattle.px_base.specs.Sources.{SourceState, given}
use Rattle.px_base.specs.Sinks.{SinkState, AddsFront}
use Rattle.px_base.specs.Dials.{Traffic, traffic, DialerState, IsTold, is_open_at, is_open, finish, closed_dial}
use Rattle.px_base.specs.declared.dials.Dial.{Dial}
use Rattle.px_socks.specs.declared.handshakes.Refusal.{Refusal}
use Rattle.px_socks.specs.declared.handshakes.Refusal.TheVariants as refusal
use Rattle.px_socks.specs.declared.servers.ServerStop.{ServerStop}
use Rattle.px_socks.specs.declared.servers.ServerStop.TheVariants as stop
use Rattle.px_socks.specs.Ends.{InnerSource, InnerSink, has_failed}
use Rattle.px_socks.specs.Messages.{due_messages, IsAccepted, Took, NoneAhead}
use Rattle.px_socks.specs.Replies.{IsHeardFront}
use Rattle.px_socks.specs.Shaking.{SendsDue, IsHandshakeRefused}
use Rattle.px_socks.specs.Serving.{IsOpenLink, RefusedOver, Hung, IsBehindHandshake, open_dial, IsNewLink, ServesDial}

failed_of : (n : ℕ) → Rose 0 n → has_failed n ≡ true
failed_of zero h = absurd (omega (arith, h))
failed_of (suc n) h = grind (arith, common_steps)

pub refused_over : (i i' : SourceState) (o o' : SinkState) → i.faults ≡ 0 → o.faults ≡ 0 → i.left ≡ i.offered → IsHandshakeRefused i i' o o' → RefusedOver i' o' i
refused_over i i' o o' e f l (inl read) = inl (failed_of i'.faults (rw e at read))
refused_over i i' o o' e f l (inr (inl write)) = inr (inl (failed_of o'.faults (rw f at write)))
refused_over i i' o o' e f l (inr (inr none)) = inr (inr (λ t. let P = λ (bytes : List ℕ). NoneAhead IsAccepted bytes in subst P l (none t)))

pub front_sent : (old new bytes : List ℕ) → old ≡ [] → AddsFront old new bytes → AddsFront [] new bytes
front_sent old new bytes e (n, within, h) = (n, within, h ∙ ap (λ (l : List ℕ). l ++ take n bytes) e)

-- what was heard was given, by a source of which nothing was read before
given_is : (i i' : SourceState) (heard : List ℕ) → i.left ≡ i.offered → i'.offered ≡ i.offered → i.left ≡ heard ++ i'.left → given i' ≡ heard
given_is i i' heard fresh same moved =
    let e : i'.offered ≡ heard ++ i'.left = same ∙ sym fresh ∙ moved in
    let count : length i'.offered - length i'.left ≡ length heard = omega (arith, ap (λ (l : List ℕ). length l) e, length-append heard i'.left) in
    rw (count, e) (take-append_seam heard i'.left)

pub heard_front : (i i' : SourceState) (o o' : SinkState) (both : List ℕ) (r : Refusal) → i.left ≡ i.offered → i'.offered ≡ i.offered → SendsDue i i' o o' both r → IsHeardFront (given i')
heard_front i i' o o' both r fresh same h = subst IsHeardFront (sym (given_is i i' h.heard fresh same h.moved)) h.enough

pub sent_front : (i i' : SourceState) (o o' : SinkState) (both : List ℕ) (r : Refusal) → i.left ≡ i.offered → i'.offered ≡ i.offered → o.taken ≡ [] → SendsDue i i' o o' both r
    → AddsFront [] o'.taken (due_messages (given i') both)
sent_front i i' o o' both r fresh same empty h =
    let P = λ (bytes : List ℕ). AddsFront [] o'.taken (due_messages bytes both) in
    subst P (sym (given_is i i' h.heard fresh same h.moved)) (front_sent o.taken o'.taken (due_messages h.heard both) empty h.front)

pub sent_whole : (i i' : SourceState) (o o' : SinkState) (both : List ℕ) (r : Refusal) → i.left ≡ i.offered → i'.offered ≡ i.offered → o.taken ≡ [] → SendsDue i i' o o' both r
    → r ≡ refusal.NotReached → o.faults ≡ 0 → has_failed o'.faults ≡ false → o'.taken ≡ due_messages (given i') both
sent_whole i i' o o' both r fresh same empty h e calm never =
    let P = λ (bytes : List ℕ). o'.taken ≡ due_messages bytes both in
    let no_rise : ¬ (Rose o.faults o'.faults) = λ rose. let yes = failed_of o'.faults (rw calm at rose) in absurd (cc) in
    subst P (sym (given_is i i' h.heard fresh same h.moved)) (h.whole e no_rise ∙ ap (λ (l : List ℕ). l ++ due_messages h.heard both) empty)

-- the link of the last dial is open
pub open_last : (mark : ℕ) (ds : List Dial) (d : Dial) → is_open_at mark d.outcome ≡ true → is_open mark (ds ++ d ∷ []) ≡ true
open_last mark [] d h = rw h refl
open_last mark (x ∷ xs) d h = or_right (is_open_at mark x.outcome) (is_open mark (xs ++ d ∷ [])) (open_last mark xs d h)
  where
    or_right : (a b : Bool) → b ≡ true → (a || b) ≡ true
    or_right true b e = refl
    or_right false b e = e

-- the last dial's link is hung up, where no other has its mark
pub finish_last : (mark : ℕ) (t : Traffic) (ds : List Dial) (d : Dial) → is_open mark ds ≡ false → is_open_at mark d.outcome ≡ true → finish mark t (ds ++ d ∷ []) ≡ ds ++ closed_dial t d ∷ []
finish_last mark t [] d h k = rw k refl
finish_last mark t (x ∷ xs) d h k =
    let first : is_open_at mark x.outcome ≡ false = or_none (is_open_at mark x.outcome) (is_open mark xs) h in
    let later : is_open mark xs ≡ false = rw first at h in
    rw first (ap (λ (ds : List Dial). x ∷ ds) (finish_last mark t xs d later k))
  where
    or_none : (a b : Bool) → (a || b) ≡ false → a ≡ false
    or_none true b e = e
    or_none false b e = refl

pub dialled_open : (old mid : DialerState) (host : List ℕ) (port : ℕ) (i : SourceState) (o : SinkState)
    → mid.dials ≡ old.dials ++ open_dial host port i ∷ [] → IsTold old (record { link_in = i; link_out = o }) → IsOpenLink mid i o
dialled_open old mid host port i o added told = record {
  in_tells = told.in_tells;
  out_tells = told.out_tells;
  one_mark = told.one_mark;
  there = rw added (open_last i.mark old.dials (open_dial host port i) (eq-eqb i.mark i.mark refl));
}

rest_of_took : (offered left : List ℕ) (count : ℕ) → Took IsAccepted count offered left → left ≡ drop count offered
rest_of_took offered left count t = rw t.moved (let n : count ≡ length t.bytes = sym t.counted in rw n (sym (drop-append_seam t.bytes left)))

new_link : (old : DialerState) (i : SourceState) (o : SinkState) (messages : List ℕ) (link : InnerSource × InnerSink) → IsTold old (record { link_in = i; link_out = o }) → IsBehindHandshake i o messages link → IsNewLink old link
new_link old i o messages link told behind =
    let took = behind.accepted told.in_tells in
    let rest = rest_of_took i.offered link.0.source.left link.0.passage.heard took in
    record {
      in_tells = behind.in_goes_on.tells_same ∙ told.in_tells;
      out_tells = behind.out_goes_on.tells_same ∙ told.out_tells;
      one_mark = behind.out_goes_on.mark_same ∙ told.one_mark ∙ sym behind.in_goes_on.mark_same;
      new_mark = rw behind.in_goes_on.mark_same told.new_mark;
      accepted = rw behind.in_goes_on.offered_same (let P = λ (l : List ℕ). Took IsAccepted link.0.passage.heard i.offered l in subst P rest took);
    }

serves_ok : (old mid : DialerState) (host : List ℕ) (port : ℕ) (messages : List ℕ) (i : SourceState) (o : SinkState) (link : InnerSource × InnerSink)
    → mid.dials ≡ old.dials ++ open_dial host port i ∷ [] → IsTold old (record { link_in = i; link_out = o }) → IsBehindHandshake i o messages link → ServesDial old mid host port messages (Ok link)
serves_ok old mid host port messages i o link added told behind =
    (new_link old i o messages link told behind, added ∙ rw (behind.in_goes_on.mark_same, behind.in_goes_on.offered_same) refl)

hung_dials : (old mid new : DialerState) (host : List ℕ) (port : ℕ) (messages : List ℕ) (i : SourceState) (o : SinkState) (s : ServerStop) → IsTrue mid.tells
    → mid.dials ≡ old.dials ++ open_dial host port i ∷ [] → IsTold old (record { link_in = i; link_out = o }) → (h : Hung mid new i o messages s)
    → new.dials ≡ old.dials ++ closed_dial (traffic h.last_in h.last_out) (open_dial host port i) ∷ []
hung_dials old mid new host port messages i o s t added told h =
    h.hung_up.dials t ∙ rw (h.in_goes_on.mark_same, added) (finish_last i.mark (traffic h.last_in h.last_out) old.dials (open_dial host port i) told.new_mark (eq-eqb i.mark i.mark refl))

serves_hung : (old mid new : DialerState) (host : List ℕ) (port : ℕ) (messages : List ℕ) (i : SourceState) (o : SinkState) (s : ServerStop) → IsTrue mid.tells
    → mid.dials ≡ old.dials ++ open_dial host port i ∷ [] → IsTold old (record { link_in = i; link_out = o }) → Hung mid new i o messages s → ¬ (s ≡ stop.Mem) → ServesDial old new host port messages (Err s)
serves_hung old mid new host port messages i o stop.Refused t added told h never = record {
  dial = closed_dial (traffic h.last_in h.last_out) (open_dial host port i);
  added = hung_dials old mid new host port messages i o stop.Refused t added told h;
  to_host = refl;
  to_port = refl;
  outcome = (h.enough told.in_tells told.out_tells, h.sent told.in_tells told.out_tells, λ never_failed. h.whole told.in_tells told.out_tells refl never_failed, why (h.why refl));
}
  where
    why : RefusedOver h.last_in h.last_out i → (has_failed h.last_in.faults ≡ true) ⊎ ((has_failed h.last_out.faults ≡ true) ⊎ NoneAhead IsAccepted i.offered)
    why (inl read) = inl read
    why (inr (inl write)) = inr (inl write)
    why (inr (inr none)) = inr (inr (none told.in_tells))
serves_hung old mid new host port messages i o stop.Lost t added told h never = record {
  dial = closed_dial (traffic h.last_in h.last_out) (open_dial host port i);
  added = hung_dials old mid new host port messages i o stop.Lost t added told h;
  to_host = refl;
  to_port = refl;
  outcome = (h.enough told.in_tells told.out_tells, h.sent told.in_tells told.out_tells);
}
serves_hung old mid new host port messages i o stop.Mem t added told h never = absurd (never refl)

-- what comes of the handshake over a link that was dialled
pub serves_behind : (old mid new : DialerState) (host : List ℕ) (port : ℕ) (messages : List ℕ) (i : SourceState) (o : SinkState) (r : Result (InnerSource × InnerSink) ServerStop) → IsTrue mid.tells
    → mid.dials ≡ old.dials ++ open_dial host port i ∷ [] → IsTold old (record { link_in = i; link_out = o })
    → IfOk r (IsBehindHandshake i o messages) → IfOk r (λ _. new ≡ mid) → IfErr r (Hung mid new i o messages) → ¬ (r ≡ Err stop.Mem) → ServesDial old new host port messages r
serves_behind old mid new host port messages i o (Ok link) t added told behind same hung never = rw same (serves_ok old mid host port messages i o link added told behind)
serves_behind old mid new host port messages i o (Err s) t added told behind same hung never = serves_hung old mid new host port messages i o s t added told hung (λ e. never (ap (λ (x : ServerStop). Err x) e))
