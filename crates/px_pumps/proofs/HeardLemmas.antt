-- What a step of a talk that ends it says of the whole talk.
use Rattle.std.proofs.Common.{rules, ◌≡◌, [], ◌∙◌, sym, subst, refl}
use Rattle.std.proofs.lemmas.List.{append-nil}
use Rattle.px_base.specs.Causes.{Rose}
use Rattle.px_base.specs.Sources.{SourceState, SourceGoesOn}
use Rattle.px_base.specs.Sinks.{SinkState, SinkGoesOn}
use Rattle.px_base.specs.declared.faults.SinkFault.{SinkFault}
use Rattle.px_base.specs.declared.faults.SinkFault.TheVariants as fault
use Rattle.px_notes.specs.declared.endings.After.{After}
use Rattle.px_notes.specs.declared.endings.After.TheVariants as after
use Rattle.px_pumps.specs.declared.talks.Talked.{Talked}
use Rattle.px_pumps.specs.declared.talks.Talked.TheVariants as talked
use Rattle.px_pumps.specs.Answering.{Ask}
use Rattle.px_pumps.specs.Pumps.{Pumping, PumpAfter}
use Rattle.px_pumps.specs.Returning.{TalkCause, WriteCause, IsHeard}
use Rattle.px_pumps.specs.Hearing.{PutFaultCause, Flowing, Hears, HeardOut, talk_refused}
use Rattle.px_pumps.proofs.HearingLemmas.{in_goes_on, out_goes_on}

write_cause : (o p q : SinkState) (x : After) → p.faults ≡ o.faults → WriteCause p q x → WriteCause o q x
write_cause o p q after.Keep same h = h ∙ same
write_cause o p q after.Close same h = h ∙ same
write_cause o p q after.Cut same h = h ∙ same
write_cause o p q after.ReadFailed same h = h ∙ same
write_cause o p q after.WriteFailed same h = subst (λ n. Rose n q.faults) same h
write_cause o p q after.NoMemory same h = h ∙ same

talk_cause : (o p q : SinkState) (t : Talked) → p.faults ≡ o.faults → TalkCause p q t → TalkCause o q t
talk_cause o p q (talked.Page g) same h = h ∙ same
talk_cause o p q (talked.Ended x) same h = write_cause o p q x.after same h

-- the cause of a write that was refused
pub refused_cause : (o p : SinkState) (e : SinkFault) → PutFaultCause o p e → TalkCause o p (talk_refused e)
refused_cause o p fault.Failed h = h
refused_cause o p fault.Mem h = h

-- a step that ends a talk, behind those before it
pub heard_out : (first : Pumping) (i0 i i' : SourceState) (o0 o o' : SinkState) (p : Pumping) (t : Talked) → Flowing first i0 i o0 o p
    → ((ask : Ask) → PumpAfter ask [] [] first → Hears ask i0 i' o0 o' t) → TalkCause o o' t → IsHeard t → o'.finished ≡ o.finished → SourceGoesOn i i' → SinkGoesOn o o' → HeardOut first i0 i' o0 o' t
heard_out first i0 i i' o0 o o' p t f hears cause heard open_ goes_in goes_out = record {
  hears = hears;
  cause = talk_cause o0 o o' t f.out_faults_same cause;
  heard = heard;
  open_ = open_ ∙ f.open_;
  in_goes_on = in_goes_on f.in_goes_on goes_in;
  out_goes_on = out_goes_on f.out_goes_on goes_out;
}

-- before the first step
pub flowing_first : (p : Pumping) (i : SourceState) (o : SinkState) → Flowing p i i o o p
flowing_first p i o = record {
  flows = λ ask h t u. record { fed = []; put = []; read = refl; written = sym (append-nil o.taken); after = h };
  in_faults_same = refl;
  out_faults_same = refl;
  open_ = refl;
  in_goes_on = search rules;
  out_goes_on = search rules;
}
