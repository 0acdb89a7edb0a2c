-- What a link's bytes, fed and written piece by piece, come to.
use Rattle.std.proofs.Common.{rules, IsTrue, ◌≡◌, ◌≢◌, ℕ, ◌+◌, ◌<◌, ◌≤◌, Bool, true, false, List, [], ◌++◌, length, take, sym, ap, ◌∙◌, refl, subst, arith, append_assoc, length-append, inl, inr, ◌⊎◌}
use Rattle.std.proofs.lemmas.Grind.{common_steps}
use Rattle.std.proofs.lemmas.List.{append-nil, take-take}
use Rattle.std.proofs.Math.Seq.{take-append-add}
use Rattle.px_base.specs.Sources.{SourceState, SourceGoesOn}
use Rattle.px_base.specs.Sinks.{SinkState, SinkGoesOn, AddsFront, AddsProperFront}
use Rattle.px_base.specs.declared.faults.SinkFault.{SinkFault}
use Rattle.px_base.specs.declared.faults.SinkFault.TheVariants as fault
use Rattle.px_notes.specs.declared.endings.After.TheVariants as after
use Rattle.px_notes.specs.Endings.{broken}
use Rattle.px_pumps.specs.declared.flows.Flow.{Flow}
use Rattle.px_pumps.specs.declared.flows.Flow.TheVariants as flow
use Rattle.px_pumps.specs.declared.talks.Talked.{Talked}
use Rattle.px_pumps.specs.declared.talks.Talked.TheVariants as talked
use Rattle.px_pumps.specs.Answering.{Ask, Answered, due_of}
use Rattle.px_pumps.specs.Pumps.{Pumping, PumpAfter, EndsAnswer, DueSoFar, SoFar, keeps_at, EndsTalk}
use Rattle.px_pumps.specs.Returning.{HasDue}
use Rattle.px_pumps.specs.Hearing.{AnswerGives, HearsStream, FedOn, CutOff, NoMore, Stopped, Flows, talk_refused}

-- a proper front is a front
proper_is_front : (old new bytes : List ℕ) → AddsProperFront old new bytes → AddsFront old new bytes
proper_is_front old new bytes a = (a.0, omega (arith, a.1), a.2)

-- a front of a front
front_take : (bytes xs : List ℕ) (k : ℕ) → k < length xs → take (length xs) bytes ≡ xs → (k < length bytes) × (take k xs ≡ take k bytes)
front_take bytes xs k h t =
    let whole : length (take (length xs) bytes) ≡ length xs = ap (λ (zs : List ℕ). length zs) t in
    let long : length (take (length xs) bytes) ≤ length bytes = grind (arith, common_steps) in
    (omega (arith, h, whole, long), ap (λ (zs : List ℕ). take k zs) (sym t) ∙ take-take k (length xs) bytes (omega (arith, h)))

-- a write was refused
pub cut_front : (ask : Ask) (bytes : List ℕ) (failed : Bool) (put more start taken taken' : List ℕ) → ((put ++ more ≡ []) ⊎ DueSoFar ask bytes failed (put ++ more)) → AddsProperFront taken taken' more → taken ≡ start ++ put → HasDue (Answered ask bytes failed) (λ d. AddsProperFront start taken' d.bytes)
cut_front ask bytes failed put more start taken taken' (inl e) a w = absurd (omega (arith, ap (λ (zs : List ℕ). length zs) e, length-append put more, a.1))
cut_front ask bytes failed put more start taken taken' (inr r) a w =
    let n = length put + a.0 in
    let f = front_take r.due.bytes (put ++ more) n (omega (arith, length-append put more, a.1)) r.front in
    let same : put ++ take a.0 more ≡ take n r.due.bytes = sym (take-append-add put more a.0) ∙ f.1 in
    record { due = r.due; is_due = r.answered; is_so = (n, f.0, a.2 ∙ ap (λ (zs : List ℕ). zs ++ take a.0 more) w ∙ append_assoc start put (take a.0 more) ∙ ap (λ (zs : List ℕ). start ++ zs) same) }

-- a write was refused, for that cause
pub refused_gives : (ask : Ask) (bytes : List ℕ) (failed : Bool) (start taken' : List ℕ) (e : SinkFault) → HasDue (Answered ask bytes failed) (λ d. AddsProperFront start taken' d.bytes) → AnswerGives ask bytes failed start taken' (talk_refused e)
refused_gives ask bytes failed start taken' fault.Failed h = inl (record { due = h.due; is_due = h.is_due; is_so = inr (h.is_so, refl) })
refused_gives ask bytes failed start taken' fault.Mem h = inr (record {
  wanting = refl;
  returned = inr (record { due = h.due; is_due = h.is_due; is_so = proper_is_front start taken' h.due.bytes h.is_so });
})

-- memory was wanting behind what was put out
pub so_far_wants : (ask : Ask) (bytes : List ℕ) (failed : Bool) (put start taken : List ℕ) → ((put ≡ []) ⊎ DueSoFar ask bytes failed put) → taken ≡ start ++ put
    → AnswerGives ask bytes failed start taken (talked.Ended (broken after.NoMemory))
so_far_wants ask bytes failed put start taken (inl e) w = inr (record { wanting = refl; returned = inl (w ∙ ap (λ (zs : List ℕ). start ++ zs) e ∙ append-nil start) })
so_far_wants ask bytes failed put start taken (inr r) w =
    let whole : length (take (length put) r.due.bytes) ≡ length put = ap (λ (zs : List ℕ). length zs) r.front in
    let long : length (take (length put) r.due.bytes) ≤ length r.due.bytes = grind (arith, common_steps) in
    let some : AddsFront start taken r.due.bytes = (length put, omega (arith, whole, long), w ∙ ap (λ (zs : List ℕ). start ++ zs) (sym r.front)) in
    inr (record { wanting = refl; returned = inr (record { due = r.due; is_due = r.answered; is_so = some }) })

at_rest : (ask : Ask) (fed put rest : List ℕ) (failed : Bool) → SoFar ask fed put → (put ≡ []) ⊎ DueSoFar ask (fed ++ rest) failed put
at_rest ask fed put rest failed (inl e) = inl e
at_rest ask fed put rest failed (inr r) = inr (r rest failed)

-- what is returned of an answer at the end of the flow
ends_answered : (ask : Ask) (f : Flow) (keeps : Bool) (bytes : List ℕ) (failed : Bool) (put : List ℕ) (e : EndsAnswer ask f keeps bytes failed put) → Answered ask bytes failed (due_of ask e.seen failed)
ends_answered ask f keeps bytes failed put e = record { seen = e.seen; shows = e.shows.shows; due_is = refl }

-- the end of the flow, written whole
pub ends_talk : (ask : Ask) (keeps : Bool) (f : Flow) (t : Talked) (bytes : List ℕ) (failed : Bool) (put more start taken taken' : List ℕ) → EndsAnswer ask f keeps bytes failed (put ++ more) → taken ≡ start ++ put → taken' ≡ taken ++ more
    → EndsTalk f keeps t → AnswerGives ask bytes failed start taken' t
ends_talk ask keeps flow.More t bytes failed put more start taken taken' e w k h = absurd h
ends_talk ask keeps (flow.Done x) t bytes failed put more start taken taken' e w k h =
    let all : taken' ≡ start ++ (put ++ more) = k ∙ ap (λ (zs : List ℕ). zs ++ more) w ∙ append_assoc start put more in
    rw h (inl (record { due = due_of ask e.seen failed; is_due = ends_answered ask (flow.Done x) keeps bytes failed (put ++ more) e; is_so = inl (rw e.ends_as all, rw e.ends_as refl) }))
ends_talk ask keeps (flow.Refused p) t bytes failed put more start taken taken' e w k h =
    let all : taken' ≡ start ++ (put ++ more) = k ∙ ap (λ (zs : List ℕ). zs ++ more) w ∙ append_assoc start put more in
    rw h (inl (record { due = due_of ask e.seen failed; is_due = ends_answered ask (flow.Refused p) keeps bytes failed (put ++ more) e; is_so = (e.ends_as.1, all ∙ ap (λ (zs : List ℕ). start ++ zs) e.ends_as.0 ∙ append-nil start) }))

pub ends_some : (ask : Ask) (keeps : Bool) (f : Flow) (bytes : List ℕ) (failed : Bool) (put : List ℕ) → EndsAnswer ask f keeps bytes failed put → (put ≡ []) ⊎ DueSoFar ask bytes failed put
ends_some ask keeps flow.More bytes failed put e = absurd e.ends_as
ends_some ask keeps (flow.Done x) bytes failed put e = inr (record { due = due_of ask e.seen failed; answered = ends_answered ask (flow.Done x) keeps bytes failed put e; front = rw e.ends_as (grind (arith, common_steps)) })
ends_some ask keeps (flow.Refused p) bytes failed put e = inl e.ends_as.0

-- memory was wanting at the end of the bytes
pub end_wants : (ask : Ask) (fed : List ℕ) (failed : Bool) (put start taken : List ℕ) → SoFar ask fed put → taken ≡ start ++ put → AnswerGives ask fed failed start taken (talked.Ended (broken after.NoMemory))
end_wants ask fed failed put start taken s w =
    subst (λ (xs : List ℕ). AnswerGives ask xs failed start taken (talked.Ended (broken after.NoMemory))) (append-nil fed)
    (so_far_wants ask (fed ++ []) failed put start taken (at_rest ask fed put [] failed s) w)

-- the source failed
pub hears_failed : (ask : Ask) (l l1 l2 t t1 t2 : List ℕ) (s : Pumping) (x : Talked) → Flows ask l l1 t t1 s → l2 ≡ l1
    → ((fed put taken : List ℕ) → PumpAfter ask fed put s → t1 ≡ taken ++ put → AnswerGives ask fed true taken t2 x) → HearsStream ask true l l2 t t2 x
hears_failed ask l l1 l2 t t1 t2 s x h e k = record { answer = h.fed; is_answer = h.read ∙ ap (λ (zs : List ℕ). h.fed ++ zs) (sym e); gives = k h.fed h.put t h.after h.written }

-- the source ended
pub hears_ended : (ask : Ask) (l l1 l2 t t1 t2 : List ℕ) (s : Pumping) (x : Talked) → Flows ask l l1 t t1 s → l1 ≡ []
    → ((fed put taken : List ℕ) → PumpAfter ask fed put s → t1 ≡ taken ++ put → AnswerGives ask fed false taken t2 x) → HearsStream ask false l l2 t t2 x
hears_ended ask l l1 l2 t t1 t2 s x h e k = record { answer = h.fed; is_answer = sym (h.read ∙ ap (λ (zs : List ℕ). h.fed ++ zs) e ∙ append-nil h.fed); gives = k h.fed h.put t h.after h.written }

read_more : (ask : Ask) (l l1 l2 t t1 piece : List ℕ) (s : Pumping) (h : Flows ask l l1 t t1 s) → l1 ≡ piece ++ l2 → (h.fed ++ piece) ++ l2 ≡ l
read_more ask l l1 l2 t t1 piece s h e = sym (h.read ∙ ap (λ (zs : List ℕ). h.fed ++ zs) e ∙ sym (append_assoc h.fed piece l2))

-- a write was refused
cut_off : (ask : Ask) (fed put start taken taken' rest : List ℕ) → CutOff ask fed put taken taken' → taken ≡ start ++ put → HasDue (Answered ask (fed ++ rest) false) (λ d. AddsProperFront start taken' d.bytes)
cut_off ask fed put start taken taken' rest c w = cut_front ask (fed ++ rest) false put c.more start taken taken' (at_rest ask fed (put ++ c.more) rest false c.so_far) c.front w

-- nothing came out
no_more : (ask : Ask) (fed put start taken taken' rest : List ℕ) → NoMore ask fed put taken taken' → taken ≡ start ++ put → AnswerGives ask (fed ++ rest) false start taken' (talked.Ended (broken after.NoMemory))
no_more ask fed put start taken taken' rest c w = so_far_wants ask (fed ++ rest) false put start taken' (at_rest ask fed put rest false c.so_far) (c.nothing ∙ w)

stopped_gives : (ask : Ask) (fed piece put start taken taken' rest : List ℕ) (e : SinkFault) → Stopped ask fed piece put taken taken' e → taken ≡ start ++ put → AnswerGives ask ((fed ++ piece) ++ rest) false start taken' (talk_refused e)
stopped_gives ask fed piece put start taken taken' rest fault.Failed c w = refused_gives ask ((fed ++ piece) ++ rest) false start taken' fault.Failed (cut_off ask (fed ++ piece) put start taken taken' rest c w)
stopped_gives ask fed piece put start taken taken' rest fault.Mem (inl c) w = refused_gives ask ((fed ++ piece) ++ rest) false start taken' fault.Mem (cut_off ask (fed ++ piece) put start taken taken' rest c w)
stopped_gives ask fed piece put start taken taken' rest fault.Mem (inr c) w = rw (append_assoc fed piece rest) (no_more ask fed put start taken taken' (piece ++ rest) c w)

pub hears_stopped : (ask : Ask) (l l1 l2 t t1 t2 piece : List ℕ) (s : Pumping) (e : SinkFault) → Flows ask l l1 t t1 s → l1 ≡ piece ++ l2
    → ((fed put : List ℕ) → PumpAfter ask fed put s → Stopped ask fed piece put t1 t2 e) → HearsStream ask false l l2 t t2 (talk_refused e)
hears_stopped ask l l1 l2 t t1 t2 piece s e h moved k = record {
  answer = (h.fed ++ piece) ++ l2;
  is_answer = read_more ask l l1 l2 t t1 piece s h moved;
  gives = stopped_gives ask h.fed piece h.put t t1 t2 l2 e (k h.fed h.put h.after) h.written;
}

-- the answer was done or refused
pub hears_settled : (ask : Ask) (l l1 l2 t t1 t2 piece : List ℕ) (s s2 : Pumping) (f : Flow) (x : Talked) → Flows ask l l1 t t1 s → l1 ≡ piece ++ l2
    → ((fed put : List ℕ) → PumpAfter ask fed put s → FedOn ask (fed ++ piece) put t1 t2 f s2) → f ≢ flow.More → EndsTalk f (keeps_at s2.stage) x → HearsStream ask false l l2 t t2 x
hears_settled ask l l1 l2 t t1 t2 piece s s2 f x h e k n ends =
    let a = k h.fed h.put h.after in
    record {
      answer = (h.fed ++ piece) ++ l2;
      is_answer = read_more ask l l1 l2 t t1 piece s h e;
      gives = ends_talk ask (keeps_at s2.stage) f x ((h.fed ++ piece) ++ l2) false h.put a.more t t1 t2 (a.pumped.settles n l2 false) h.written a.written ends;
    }

-- the loop goes on
pub flows_on : (ask : Ask) (l l1 l2 t t1 t2 piece : List ℕ) (s s2 : Pumping) (f : Flow) → Flows ask l l1 t t1 s → l1 ≡ piece ++ l2
    → ((fed put : List ℕ) → PumpAfter ask fed put s → FedOn ask (fed ++ piece) put t1 t2 f s2) → Flows ask l l2 t t2 s2
flows_on ask l l1 l2 t t1 t2 piece s s2 f h e k =
    let a = k h.fed h.put h.after in
    record {
      fed = h.fed ++ piece;
      put = h.put ++ a.more;
      read = sym (read_more ask l l1 l2 t t1 piece s h e);
      written = a.written ∙ ap (λ (zs : List ℕ). zs ++ a.more) h.written ∙ append_assoc t h.put a.more;
      after = a.after;
    }

-- a write was refused, for whatever cause
pub stopped : (ask : Ask) (fed piece put taken taken' : List ℕ) (e : SinkFault) → CutOff ask (fed ++ piece) put taken taken' → Stopped ask fed piece put taken taken' e
stopped ask fed piece put taken taken' fault.Failed c = c
stopped ask fed piece put taken taken' fault.Mem c = inl c

-- what lasts from one state to the next lasts over both
pub in_goes_on : {a b c : SourceState} → SourceGoesOn a b → SourceGoesOn b c → SourceGoesOn a c
in_goes_on h k = search rules

open_before : (a b : Bool) → (IsTrue a → IsTrue b) → b ≡ false → a ≡ false
open_before true b kept e = sym (kept refl) ∙ e
open_before false b kept e = refl

pub out_goes_on : {a b c : SinkState} → SinkGoesOn a b → SinkGoesOn b c → SinkGoesOn a c
out_goes_on {b = b} {c = c} h k = record {
  tells_same = k.tells_same ∙ h.tells_same;
  finished_kept = λ f. k.finished_kept (h.finished_kept f);
  mark_same = k.mark_same ∙ h.mark_same;
  faults_later = omega arith;
  steady_kept = λ s o. let p = h.steady_kept s (open_before b.finished c.finished k.finished_kept o) in let q = k.steady_kept p.0 o in (q.0, q.1 ∙ p.1);
}
