-- What came of a request over one link.
use Rattle.std.specs.Prelude.{MatchBool}
use Rattle.std.proofs.Common.{◌≡◌, ℕ, ◌-◌, ◌≤◌, Bool, true, false, not, ◌==◌, List, ◌++◌, length, take, None, Some, sym, ap, ◌∙◌, refl, subst, arith, length-append, [], inl, inr}
use Rattle.std.proofs.Math.Seq.{take-append_seam}
use Rattle.px_base.specs.Causes.{Rose}
use Rattle.px_base.specs.Sources.{SourceState}
use Rattle.px_base.specs.Sinks.{SinkState, AddsFront}
use Rattle.px_base.specs.declared.dials.LinkSeen.{LinkSeen}
use Rattle.px_streams.specs.Streams.{IsStream}
use Rattle.px_decide.specs.declared.routes.Route.{Route}
use Rattle.px_notes.specs.declared.messages.Message.{Message}
use Rattle.px_notes.specs.declared.messages.Sent.{Sent}
use Rattle.px_notes.specs.declared.messages.Sent.TheVariants as sent
use Rattle.px_notes.specs.Endings.{broken}
use Rattle.px_notes.specs.declared.endings.After.TheVariants as after
use Rattle.px_notes.specs.declared.endings.Conclusion.{Conclusion}
use Rattle.px_sending.specs.Sends.{Sends, interim_behind, is_link_failed}
use Rattle.px_pumps.specs.Answering.{Ask, Answered}
use Rattle.px_pumps.specs.Hearing.{HearsStream}
use Rattle.px_pumps.specs.Returning.{Returns, TalkGives}
use Rattle.px_pumps.specs.declared.dues.Due.{Due}
use Rattle.px_pumps.specs.declared.talks.Talked.{Talked}
use Rattle.px_pumps.specs.declared.talks.Talked.TheVariants as talked
use Rattle.px_templates.specs.declared.pages.Page.TheVariants as page
use Rattle.px_exchange.specs.Exchange.{Client, DoesOver, link_seen}
use Rattle.px_exchange.specs.Rows.{Answer, Forward, Over, exchange_row}
use Rattle.px_exchange.specs.Standing.{Memory, Nothing, ReturnsDue, Sink, TalksOf, answer_of, stopped}
use Rattle.px_exchange.proofs.StandingLemmas.{front_added, proper_added}

-- an end of a fresh link failed exactly where its count isn't 0
pub failed_now : (failed : Bool) (old new : ℕ) → old ≡ 0 → MatchBool failed (Rose old new) (new ≡ old) → not (new == 0) ≡ failed
failed_now true old new z c =
    let some : 1 ≤ new = rw z at c in
    grind (arith, some)
failed_now false old new z c = rw (c, z) refl

-- the bytes of the answer
heard : (answer left left' offered : List ℕ) → left ≡ answer ++ left' → offered ≡ left → take (length offered - length left') offered ≡ answer
heard answer left left' offered e o =
    let whole : offered ≡ answer ++ left' = o ∙ e in
    let count : length offered - length left' ≡ length answer = omega (arith, ap (λ (zs : List ℕ). length zs) whole, length-append answer left') in
    rw (count, whole) (take-append_seam answer left')

answer_is : (failed : Bool) (answer : List ℕ) (i i' : SourceState) (o : SinkState) → i.left ≡ i.offered → i'.offered ≡ i.offered → not (i'.faults == 0) ≡ failed → IsStream failed answer i.left i'.left → answer_of (link_seen i' o) ≡ answer
answer_is true answer i i' o fresh same f a = rw f (heard answer i.left i'.left i'.offered a (same ∙ sym fresh))
answer_is false answer i i' o fresh same f a = rw f (same ∙ sym fresh ∙ sym a)

-- ---- the sending

-- what was sent and what the client was written first are the line's
stands_over : (failed : Bool) (ask : Ask) (route : Route) (m : Message) (c : Client) (seen : LinkSeen) (taken mid taken' : List ℕ) (how : Sent) (t : Talked)
    (s : Sends m c.stream c.behind [] seen.sent taken mid how) → seen.write_failed ≡ is_link_failed how
    → TalksOf ask.page_due (exchange_row (Forward ask route m) (Over seen s.came how)).owed mid taken' t
    → DoesOver failed (Forward ask route m) c taken taken' t seen
stands_over failed ask route m c seen taken mid taken' sent.Whole t s l k = record {
  came = Over seen s.came sent.Whole;
  over = refl;
  reads = (s.is_stream, (s.by.0, s.by.3), l);
  stands = record { sent = s.sent ∙ s.by.1; mid = mid; first = s.returned ∙ ap (λ (zs : List ℕ). taken ++ zs) s.by.2; talks = k };
}
stands_over failed ask route m c seen taken mid taken' sent.Cut t s l k = record {
  came = Over seen s.came sent.Cut;
  over = refl;
  reads = (s.is_stream, (s.by.0, s.by.3), l);
  stands = record { sent = s.sent ∙ s.by.1; mid = mid; first = s.returned ∙ ap (λ (zs : List ℕ). taken ++ zs) s.by.2; talks = k };
}
stands_over failed ask route m c seen taken mid taken' sent.Misframed t s l k = record {
  came = Over seen s.came sent.Misframed;
  over = refl;
  reads = (s.is_stream, (s.by.0, s.by.3), l);
  stands = record { sent = s.sent ∙ s.by.1; mid = mid; first = s.returned ∙ ap (λ (zs : List ℕ). taken ++ zs) s.by.2; talks = k };
}
stands_over failed ask route m c seen taken mid taken' sent.ReadFailed t s l k = record {
  came = Over seen s.came sent.ReadFailed;
  over = refl;
  reads = (s.is_stream, s.by.0, l);
  stands = record { sent = s.sent ∙ s.by.1; mid = mid; first = s.returned ∙ ap (λ (zs : List ℕ). taken ++ zs) s.by.2; talks = k };
}
stands_over failed ask route m c seen taken mid taken' sent.LinkFailed t s l k = record {
  came = Over seen s.came sent.LinkFailed;
  over = refl;
  reads = (s.is_stream, tt, l);
  stands = record {
    sent = proper_added [] seen.sent s.out _ s.sent s.by.0;
    mid = mid;
    first = s.returned ∙ ap (λ (zs : List ℕ). taken ++ zs) (s.by.1 ∙ ap (λ (zs : List ℕ). interim_behind m zs) (sym s.sent));
    talks = k;
  };
}
stands_over failed ask route m c seen taken mid taken' sent.WriteFailed t s l k = record {
  came = Over seen s.came sent.WriteFailed;
  over = refl;
  reads = (s.is_stream, tt, l);
  stands = record { sent = s.sent ∙ s.by.0; mid = mid; first = proper_added taken mid s.back _ s.returned s.by.1; talks = k };
}
stands_over failed ask route m c seen taken mid taken' sent.NoMemory t s l k = record {
  came = Over seen s.came sent.NoMemory;
  over = refl;
  reads = (s.is_stream, tt, l);
  stands = record {
    sent = front_added [] seen.sent s.out _ s.sent s.by.0;
    mid = mid;
    first = subst (λ (zs : List ℕ). AddsFront taken mid (interim_behind m zs)) (sym s.sent) (front_added taken mid s.back (interim_behind m s.out) s.returned s.by.1);
    talks = k;
  };
}

-- ---- the answer

returns_due : (due : Due) (taken taken' : List ℕ) (x : Conclusion) → Returns due taken taken' x → ReturnsDue due taken taken' x
returns_due due taken taken' x (inl whole) = record { stop = Nothing; returned = whole.0; concluded = whole.1 }
returns_due due taken taken' x (inr front) = record { stop = Sink; returned = front.0; concluded = front.1 }

answer_talks : (ask : Ask) (seen : LinkSeen) (taken taken' : List ℕ) (t : Talked) → TalkGives ask.page_due (Answered ask (answer_of seen) seen.read_failed) taken taken' t
    → TalksOf ask.page_due (Answer ask seen) taken taken' t
answer_talks ask seen taken taken' (talked.Page p) (inl h) = (h.is_so.1, subst (λ (d : Due). Answered ask (answer_of seen) seen.read_failed d) h.is_so.0 h.is_due)
answer_talks ask seen taken taken' (talked.Page p) (inr w) = let e = w.wanting in absurd (cc)
answer_talks ask seen taken taken' (talked.Ended x) (inl h) = inl (record { due = h.due; is_due = h.is_due; is_so = returns_due h.due taken taken' x h.is_so })
answer_talks ask seen taken taken' (talked.Ended x) (inr w) =
    let e = w.wanting in
    let is : x ≡ broken after.NoMemory = cc in
    elim w.returned [
      | inl quiet ↦ inr (quiet, is)
      | inr some ↦ inl (record { due = some.due; is_due = some.is_due; is_so = record { stop = Memory; returned = some.is_so; concluded = is } })
    ]

-- the request was sent whole, and the answer was heard
talk_heard : (sink_failed : Bool) (ask : Ask) (route : Route) (m : Message) (c : Client) (i i' : SourceState) (o' : SinkState) (taken mid taken' : List ℕ) (t : Talked) (failed : Bool)
    → Sends m c.stream c.behind [] o'.taken taken mid sent.Whole → not (o'.faults == 0) ≡ false
    → i.left ≡ i.offered → i.faults ≡ 0 → i'.offered ≡ i.offered → MatchBool failed (Rose i.faults i'.faults) (i'.faults ≡ i.faults)
    → HearsStream ask failed i.left i'.left mid taken' t → DoesOver sink_failed (Forward ask route m) c taken taken' t (link_seen i' o')
talk_heard sink_failed ask route m c i i' o' taken mid taken' t failed s calm fresh none same cause h =
    stands_over sink_failed ask route m c (link_seen i' o') taken mid taken' sent.Whole t s calm (answer_talks ask (link_seen i' o') mid taken' t gives)
  where
    f : not (i'.faults == 0) ≡ failed
    f = failed_now failed i.faults i'.faults none cause

    a : answer_of (link_seen i' o') ≡ h.answer
    a = answer_is failed h.answer i i' o' fresh same f h.is_answer

    gives : TalkGives ask.page_due (Answered ask (answer_of (link_seen i' o')) (not (i'.faults == 0))) mid taken' t
    gives =
        subst (λ (b : Bool). TalkGives ask.page_due (Answered ask (answer_of (link_seen i' o')) b) mid taken' t) (sym f)
        (subst (λ (zs : List ℕ). TalkGives ask.page_due (Answered ask zs failed) mid taken' t) (sym a) h.gives)

pub talk_whole : (sink_failed : Bool) (ask : Ask) (route : Route) (m : Message) (c : Client) (i i' : SourceState) (o' : SinkState) (taken mid taken' : List ℕ) (how : Sent) (t : Talked) (failed : Bool)
    → None ≡ stopped how → Sends m c.stream c.behind [] o'.taken taken mid how → not (o'.faults == 0) ≡ is_link_failed how
    → i.left ≡ i.offered → i.faults ≡ 0 → i'.offered ≡ i.offered → MatchBool failed (Rose i.faults i'.faults) (i'.faults ≡ i.faults)
    → HearsStream ask failed i.left i'.left mid taken' t → DoesOver sink_failed (Forward ask route m) c taken taken' t (link_seen i' o')
talk_whole sink_failed ask route m c i i' o' taken mid taken' sent.Whole t failed e s l fresh none same cause h =
    talk_heard sink_failed ask route m c i i' o' taken mid taken' t failed s l fresh none same cause h
talk_whole sink_failed ask route m c i i' o' taken mid taken' sent.LinkFailed t failed e s l fresh none same cause h = absurd (cc)
talk_whole sink_failed ask route m c i i' o' taken mid taken' sent.Misframed t failed e s l fresh none same cause h = absurd (cc)
talk_whole sink_failed ask route m c i i' o' taken mid taken' sent.Cut t failed e s l fresh none same cause h = absurd (cc)
talk_whole sink_failed ask route m c i i' o' taken mid taken' sent.ReadFailed t failed e s l fresh none same cause h = absurd (cc)
talk_whole sink_failed ask route m c i i' o' taken mid taken' sent.WriteFailed t failed e s l fresh none same cause h = absurd (cc)
talk_whole sink_failed ask route m c i i' o' taken mid taken' sent.NoMemory t failed e s l fresh none same cause h = absurd (cc)

-- the request wasn't sent whole, and its answer isn't read
pub talk_stopped : (sink_failed : Bool) (ask : Ask) (route : Route) (m : Message) (c : Client) (i' : SourceState) (o' : SinkState) (taken mid : List ℕ) (how : Sent) (t : Talked)
    → Some t ≡ stopped how → Sends m c.stream c.behind [] o'.taken taken mid how → not (o'.faults == 0) ≡ is_link_failed how
    → DoesOver sink_failed (Forward ask route m) c taken mid t (link_seen i' o')
talk_stopped sink_failed ask route m c i' o' taken mid sent.Whole t e s l = absurd (cc)
talk_stopped sink_failed ask route m c i' o' taken mid sent.LinkFailed t e s l =
    let is : t ≡ talked.Page page.SendFailed = cc in
    stands_over sink_failed ask route m c (link_seen i' o') taken mid mid sent.LinkFailed t s l (rw is (refl, refl))
talk_stopped sink_failed ask route m c i' o' taken mid sent.Misframed t e s l =
    let is : t ≡ talked.Page page.InvalidRequest = cc in
    stands_over sink_failed ask route m c (link_seen i' o') taken mid mid sent.Misframed t s l (rw is (refl, refl))
talk_stopped sink_failed ask route m c i' o' taken mid sent.Cut t e s l =
    let is : t ≡ talked.Ended (broken after.Cut) = cc in
    stands_over sink_failed ask route m c (link_seen i' o') taken mid mid sent.Cut t s l (rw is (refl, refl))
talk_stopped sink_failed ask route m c i' o' taken mid sent.ReadFailed t e s l =
    let is : t ≡ talked.Ended (broken after.ReadFailed) = cc in
    stands_over sink_failed ask route m c (link_seen i' o') taken mid mid sent.ReadFailed t s l (rw is (refl, refl))
talk_stopped sink_failed ask route m c i' o' taken mid sent.WriteFailed t e s l =
    let is : t ≡ talked.Ended (broken after.WriteFailed) = cc in
    stands_over sink_failed ask route m c (link_seen i' o') taken mid mid sent.WriteFailed t s l (rw is (refl, refl))
talk_stopped sink_failed ask route m c i' o' taken mid sent.NoMemory t e s l =
    let is : t ≡ talked.Ended (broken after.NoMemory) = cc in
    stands_over sink_failed ask route m c (link_seen i' o') taken mid mid sent.NoMemory t s l (rw is (refl, refl))
