-- A tunnel over one link: the head, the greeting, and both directions.
use Rattle.std.proofs.Common.{◌≡◌, ℕ, Bool, IsTrue, true, false, not, ◌==◌, ◌||◌, nat_le, List, [], ◌++◌, length, take, sym, ap, ◌∙◌, refl, subst, arith, append_assoc}
use Rattle.std.proofs.lemmas.Bool.{or_parts}
use Rattle.std.proofs.lemmas.Bool.Decides.{nat_tests}
use Rattle.std.proofs.lemmas.List.{append-nil}
use Rattle.std.proofs.Math.Seq.{take-length}
use Rattle.px_base.specs.Causes.{Rose}
use Rattle.px_base.specs.Sources.{SourceState}
use Rattle.px_base.specs.Sinks.{SinkState, AddsFront, AddsProperFront}
use Rattle.px_ways.specs.Directions.{AddsSome, StopSinkCause, SourceCause, DirectionTakes}
use Rattle.px_ways.specs.Ways.{carried_of, is_sink_failed, is_source_failed, is_stop_wanting}
use Rattle.px_ways.specs.declared.directions.TheConstants.{DIRECTION_LIMIT}
use Rattle.px_ways.specs.declared.directions.DirectionStop.{DirectionStop}
use Rattle.px_ways.specs.declared.directions.DirectionStop.TheVariants as stop
use Rattle.px_templates.specs.declared.pages.Page.{Page}
use Rattle.px_templates.specs.declared.pages.Page.TheVariants as page
use Rattle.px_notes.specs.declared.messages.Sent.TheVariants as sent
use Rattle.px_notes.specs.Endings.{broken}
use Rattle.px_notes.specs.declared.endings.After.TheVariants as after
use Rattle.px_judging.specs.declared.judgements.TunnelPlan.{TunnelPlan}
use Rattle.px_pumps.specs.declared.dues.Due.{Due}
use Rattle.px_pumps.specs.declared.talks.Talked.TheVariants as talked
use Rattle.px_sending.specs.Sends.{RoseWhere}
use Rattle.px_exchange.specs.Exchange.{CarriesSome, DoesOver, link_seen}
use Rattle.px_exchange.specs.Rows.{Over, Through, Tunnel, carried_so, greeting_behind}
use Rattle.px_exchange.proofs.StandingLemmas.{front_of_proper, nothing_added}
use Rattle.px_exchange.proofs.TalkLemmas.{failed_now}

-- ---- one direction

-- what was carried, whatever stopped it
carried_some : (bytes taken taken' : List ℕ) (s : DirectionStop) → DirectionTakes bytes taken taken' s → AddsSome DIRECTION_LIMIT bytes taken taken'
carried_some bytes taken taken' stop.Whole e = record { count = DIRECTION_LIMIT; within = omega arith; added = e }
carried_some bytes taken taken' stop.SourceFailed h = h
carried_some bytes taken taken' stop.SinkFailed h = h
carried_some bytes taken taken' stop.NoMemory h = h

-- what a direction carried, by whether it was cut short
record Carried_out (cut : Bool) (bytes taken taken' : List ℕ) : Type 0 where
  pub out : List ℕ
  pub added : taken' ≡ taken ++ out
  pub some : CarriesSome cut bytes out

cut_out : (bytes taken taken' : List ℕ) (cut : Bool) → cut ≡ true → AddsSome DIRECTION_LIMIT bytes taken taken' → Carried_out cut bytes taken taken'
cut_out bytes taken taken' true e h = record { out = take h.count bytes; added = h.added; some = record { count = h.count; within = h.within; added = refl } }
cut_out bytes taken taken' false e h = absurd (cc)

whole_out : (bytes taken taken' : List ℕ) (cut : Bool) → cut ≡ false → taken' ≡ taken ++ take DIRECTION_LIMIT bytes → Carried_out cut bytes taken taken'
whole_out bytes taken taken' false e h = record { out = take DIRECTION_LIMIT bytes; added = h; some = refl }
whole_out bytes taken taken' true e h = absurd (cc)

-- the client's bytes, whose sink is the link's
there_out : (bytes : List ℕ) (l l' : SinkState) (s : DirectionStop) → l.faults ≡ 0 → DirectionTakes bytes l.taken l'.taken s → StopSinkCause l l' s → is_stop_wanting s ≡ false
    → Carried_out (is_source_failed s || not (l'.faults == 0)) bytes l.taken l'.taken
there_out bytes l l' stop.Whole none h cause w = whole_out bytes l.taken l'.taken (not (l'.faults == 0)) (failed_now false l.faults l'.faults none cause) h
there_out bytes l l' stop.SourceFailed none h cause w = cut_out bytes l.taken l'.taken true refl h
there_out bytes l l' stop.SinkFailed none h cause w = cut_out bytes l.taken l'.taken (not (l'.faults == 0)) (failed_now true l.faults l'.faults none cause) h
there_out bytes l l' stop.NoMemory none h cause w = absurd (cc)

-- the link's bytes, whose sink is the client's
back_out : (bytes taken taken' : List ℕ) (i i' : SourceState) (s : DirectionStop) → i.faults ≡ 0 → DirectionTakes bytes taken taken' s → SourceCause i i' s → is_stop_wanting s ≡ false
    → Carried_out (not (i'.faults == 0) || is_sink_failed s) bytes taken taken'
back_out bytes taken taken' i i' stop.Whole none h cause w =
    whole_out bytes taken taken' (not (i'.faults == 0) || false) (ap (λ b. b || false) (failed_now false i.faults i'.faults none cause)) h
back_out bytes taken taken' i i' stop.SourceFailed none h cause w =
    cut_out bytes taken taken' (not (i'.faults == 0) || false) (ap (λ b. b || false) (failed_now true i.faults i'.faults none cause)) h
back_out bytes taken taken' i i' stop.SinkFailed none h cause w =
    cut_out bytes taken taken' (not (i'.faults == 0) || true) (ap (λ b. b || true) (failed_now false i.faults i'.faults none cause)) h
back_out bytes taken taken' i i' stop.NoMemory none h cause w = absurd (cc)

-- a direction that was cut short for want of memory, in one or the other
some_out : (wanting cut : Bool) (bytes taken taken' : List ℕ) → wanting ≡ true → AddsSome DIRECTION_LIMIT bytes taken taken' → Carried_out (wanting || cut) bytes taken taken'
some_out wanting cut bytes taken taken' e h = cut_out bytes taken taken' (wanting || cut) (ap (λ b. b || cut) e) h

-- a direction for which memory wasn't wanting
same_out : (wanting cut : Bool) (bytes taken taken' : List ℕ) → wanting ≡ false → Carried_out cut bytes taken taken' → Carried_out (wanting || cut) bytes taken taken'
same_out wanting cut bytes taken taken' e h = subst (λ (b : Bool). Carried_out (b || cut) bytes taken taken') (sym e) h

-- ---- the lines

-- the link's sink failed in the head
pub head_failed : (failed : Bool) (pages : Page → Due) (t : TunnelPlan) (stream taken : List ℕ) (i : SourceState) (l l' : SinkState) → l.taken ≡ [] → l.faults ≡ 0 → Rose l.faults l'.faults → AddsProperFront l.taken l'.taken t.head
    → DoesOver failed (Tunnel pages t) (record { stream = stream; behind = stream }) taken taken (talked.Page page.SendFailed) (link_seen i l')
head_failed failed pages t stream taken i l l' fresh none rose cut = record {
  came = Over (link_seen i l') stream sent.LinkFailed;
  over = refl;
  reads = (refl, tt, failed_now true l.faults l'.faults none rose);
  stands = record { sent = rw fresh at cut; mid = taken; first = sym (append-nil taken); talks = (refl, refl) };
}

-- memory was wanting in the head
pub head_wanting : (failed : Bool) (pages : Page → Due) (t : TunnelPlan) (stream taken : List ℕ) (i : SourceState) (l l' : SinkState) → l.taken ≡ [] → l.faults ≡ 0 → l'.faults ≡ l.faults → AddsProperFront l.taken l'.taken t.head
    → DoesOver failed (Tunnel pages t) (record { stream = stream; behind = stream }) taken taken (talked.Ended (broken after.NoMemory)) (link_seen i l')
head_wanting failed pages t stream taken i l l' fresh none calm cut = record {
  came = Over (link_seen i l') stream sent.NoMemory;
  over = refl;
  reads = (refl, tt, failed_now false l.faults l'.faults none calm);
  stands = record { sent = front_of_proper [] l'.taken t.head (rw fresh at cut); mid = taken; first = nothing_added taken (greeting_behind t l'.taken); talks = (refl, refl) };
}

-- the head was sent
pub sent_head : (t : TunnelPlan) (l l' : SinkState) → l.taken ≡ [] → l'.taken ≡ l.taken ++ t.head → l'.taken ≡ t.head
sent_head t l l' fresh e = e ∙ ap (λ (zs : List ℕ). zs ++ t.head) fresh

-- the client's sink failed in the greeting
pub greeting_failed : (failed : Bool) (pages : Page → Due) (t : TunnelPlan) (stream taken taken' : List ℕ) (i : SourceState) (l l' : SinkState) → l.taken ≡ [] → l.faults ≡ 0 → l'.taken ≡ l.taken ++ t.head → l'.faults ≡ l.faults
    → AddsProperFront taken taken' t.greeting
    → DoesOver failed (Tunnel pages t) (record { stream = stream; behind = stream }) taken taken' (talked.Ended (broken after.WriteFailed)) (link_seen i l')
greeting_failed failed pages t stream taken taken' i l l' fresh none asked calm cut = record {
  came = Over (link_seen i l') stream sent.WriteFailed;
  over = refl;
  reads = (refl, tt, failed_now false l.faults l'.faults none calm);
  stands = record { sent = sent_head t l l' fresh asked; mid = taken'; first = cut; talks = (refl, refl) };
}

-- all of the greeting is due behind the whole head
greets : (t : TunnelPlan) (out : List ℕ) → out ≡ t.head → greeting_behind t out ≡ t.greeting
greets t out e = rw (e, whole) refl
  where
    whole : nat_le (length t.head) (length t.head) ≡ true
    whole = grind (arith, nat_tests)

-- memory was wanting in the greeting
pub greeting_wanting : (failed : Bool) (pages : Page → Due) (t : TunnelPlan) (stream taken taken' : List ℕ) (i : SourceState) (l l' : SinkState) → l.taken ≡ [] → l.faults ≡ 0 → l'.taken ≡ l.taken ++ t.head → l'.faults ≡ l.faults
    → AddsProperFront taken taken' t.greeting
    → DoesOver failed (Tunnel pages t) (record { stream = stream; behind = stream }) taken taken' (talked.Ended (broken after.NoMemory)) (link_seen i l')
greeting_wanting failed pages t stream taken taken' i l l' fresh none asked calm cut = record {
  came = Over (link_seen i l') stream sent.NoMemory;
  over = refl;
  reads = (refl, tt, failed_now false l.faults l'.faults none calm);
  stands = record {
    sent = (length t.head, omega arith, sent_head t l l' fresh asked ∙ sym (take-length t.head));
    mid = taken';
    first = subst (λ (zs : List ℕ). AddsFront taken taken' zs) (sym (greets t l'.taken (sent_head t l l' fresh asked))) (front_of_proper taken taken' t.greeting cut);
    talks = (refl, refl);
  };
}

-- both directions were carried
pub both_carried : (pages : Page → Due) (t : TunnelPlan) (stream behind taken mid taken' : List ℕ) (i i' : SourceState) (l l' : SinkState) (there back : DirectionStop)
    → mid ≡ taken ++ t.greeting → l.taken ≡ t.head → l.faults ≡ 0 → i.faults ≡ 0 → i.left ≡ i.offered → i'.offered ≡ i.offered
    → DirectionTakes stream l.taken l'.taken there → StopSinkCause l l' there → DirectionTakes i.left mid taken' back → SourceCause i i' back → IsTrue l'.finished
    → DoesOver (is_sink_failed back) (Tunnel pages t) (record { stream = stream; behind = behind }) taken taken' (talked.Ended (carried_so (carried_of there back))) (link_seen i' l')
both_carried pages t stream behind taken mid taken' i i' l l' there back greeted asked calm_out calm_in fresh same takes_there cause_there takes_back cause_back finished = record {
  came = Through (link_seen i' l') (carried_of there back) (outs.0).out (outs.1).out;
  over = refl;
  reads = (refl, finished, (outs.0).some, (outs.1).some);
  stands = record {
    sent = (outs.0).added ∙ ap (λ (zs : List ℕ). zs ++ (outs.0).out) asked;
    mid = taken';
    first = (outs.1).added ∙ ap (λ (zs : List ℕ). zs ++ (outs.1).out) greeted ∙ append_assoc taken t.greeting (outs.1).out;
    talks = (refl, refl);
  };
}
  where
    returns : DirectionTakes i'.offered mid taken' back
    returns = rw (fresh ∙ sym same) at takes_back

    wanting : Bool
    wanting = is_stop_wanting there || is_stop_wanting back

    outs : Carried_out (wanting || (is_source_failed there || not (l'.faults == 0))) stream l.taken l'.taken × Carried_out (wanting || (not (i'.faults == 0) || is_sink_failed back)) i'.offered mid taken'
    outs = by wanting refl
      where
        by : (b : Bool) → is_stop_wanting there || is_stop_wanting back ≡ b
            → Carried_out (wanting || (is_source_failed there || not (l'.faults == 0))) stream l.taken l'.taken × Carried_out (wanting || (not (i'.faults == 0) || is_sink_failed back)) i'.offered mid taken'
        by true e = (
          some_out wanting _ stream l.taken l'.taken e (carried_some stream l.taken l'.taken there takes_there),
          some_out wanting _ i'.offered mid taken' e (carried_some i'.offered mid taken' back returns),
        )
        by false e =
            let parts = or_parts (is_stop_wanting there) (is_stop_wanting back) e in (
              same_out wanting _ stream l.taken l'.taken e (there_out stream l l' there calm_out takes_there cause_there parts.0),
              same_out wanting _ i'.offered mid taken' e (back_out i'.offered mid taken' i i' back calm_in returns cause_back parts.1),
            )

-- the client's sink failed exactly where the direction to it stopped for that
pub sink_failed_by : (old mid new : SinkState) (s : DirectionStop) → mid.faults ≡ old.faults → StopSinkCause mid new s → RoseWhere (is_sink_failed s) old.faults new.faults
sink_failed_by old mid new stop.Whole same cause = cause ∙ same
sink_failed_by old mid new stop.SourceFailed same cause = cause ∙ same
sink_failed_by old mid new stop.SinkFailed same cause = rw same at cause
sink_failed_by old mid new stop.NoMemory same cause = cause ∙ same
