-- A link that is hung up, in both lists.
use Rattle.std.proofs.Common.{◌≡◌, ℕ, ◌+◌, ◌-◌, true, List, length, take, drop, sym, ap, subst, ◌∙◌, refl, arith, length-drop, inl, inr}
use Rattle.std.proofs.lemmas.List.{drop-take, drop_all, length-take}
use Rattle.std.proofs.lemmas.Bool.{cases_lt}
use Rattle.px_base.specs.Dials.{DialerState, traffic, is_open, finish}
use Rattle.px_socks.specs.Marks.{mark_behind}
use Rattle.px_socks.specs.Ends.{InnerSource, InnerSink, BeginsWithMessages, source_behind, sink_behind}
use Rattle.px_socks.specs.Notes.{traffic_behind, outer_dials, KeepsNotes}
use Rattle.px_socks.specs.Dialers.{KeptDialer, outer_state}
use Rattle.px_socks.proofs.MarkLemmas.{mark_injective}
use Rattle.px_socks.proofs.NoteLemmas.{open_below, outer_finish, tied_finish, distinct_finish}

-- both ends are those of one link, which is open in the inner list
pub record IsHeld (k : KeptDialer) (i : InnerSource) (o : InnerSink) : Type 0 where
  pub in_tells : i.source.tells ≡ true
  pub out_tells : o.sink.tells ≡ true
  pub one_passage : o.passage ≡ i.passage
  pub one_mark : o.sink.mark ≡ i.source.mark
  pub there : is_open i.source.mark k.inner.dials ≡ true
  pub outer_there : is_open (mark_behind true i.passage i.source.mark) (outer_dials k.notes k.inner.dials) ≡ true

pub held : (k : KeptDialer) (i : InnerSource) (o : InnerSink)
    → is_open (source_behind i.passage i.source).mark (outer_state k).dials ≡ true → (sink_behind o.passage o.sink).mark ≡ (source_behind i.passage i.source).mark
    → IsHeld k i o
held k i o open_there one =
    let below = open_below (mark_behind i.source.tells i.passage i.source.mark) k.notes k.inner.dials open_there in
    let same = mark_injective i.source.tells i.passage below.passage i.source.mark below.inner below.same in
    let both = mark_injective o.sink.tells o.passage i.passage o.sink.mark i.source.mark (rw same.tells at one) in
    record {
      in_tells = same.tells;
      out_tells = both.tells;
      one_passage = both.passage;
      one_mark = both.mark;
      there = let P = λ (n : ℕ). is_open n k.inner.dials ≡ true in subst P (sym same.mark) below.open_there;
      outer_there = rw same.tells at open_there;
    }

given_behind : (k : ℕ) (offered left : List ℕ) → take (length (drop k offered) - length left) (drop k offered) ≡ drop k (take (length offered - length left) offered)
given_behind k offered left = elim (cases_lt (length offered - length left) k) as (λ _. take (length (drop k offered) - length left) (drop k offered) ≡ drop k (take (length offered - length left) offered)) [
  | inl less ↦
      let none : length (drop k offered) - length left ≡ 0 = omega (arith, length-drop k offered) in
      rw none (sym (drop_all k (take (length offered - length left) offered) (omega (arith, length-take (length offered - length left) offered))))
  | inr ge ↦
      let some : length (drop k offered) - length left ≡ length offered - length left - k = omega (arith, length-drop k offered) in
      let parts : length offered - length left ≡ k + (length offered - length left - k) = omega arith in
      rw some (sym (ap (λ (n : ℕ). drop k (take n offered)) parts ∙ drop-take k (length offered - length left - k) offered))
]

traffic_is : (i : InnerSource) (o : InnerSink) → i.source.tells ≡ true → o.sink.tells ≡ true → o.passage ≡ i.passage
    → traffic (source_behind i.passage i.source) (sink_behind o.passage o.sink) ≡ traffic_behind i.passage (traffic i.source o.sink)
traffic_is i o t u e = rw (t, u, e, given_behind i.passage.heard i.source.offered i.source.left) refl

-- the outer list behind the hanging up
pub hung_outer : (k : KeptDialer) (d : DialerState) (i : InnerSource) (o : InnerSink) → IsHeld k i o → KeepsNotes k.notes k.inner.dials → d.dials ≡ finish i.source.mark (traffic i.source o.sink) k.inner.dials
    → outer_dials k.notes d.dials ≡ finish (source_behind i.passage i.source).mark (traffic (source_behind i.passage i.source) (sink_behind o.passage o.sink)) (outer_dials k.notes k.inner.dials)
hung_outer k d i o h kept e =
    rw (traffic_is i o h.in_tells h.out_tells h.one_passage, h.in_tells, e)
    (outer_finish i.source.mark i.passage (traffic i.source o.sink) k.notes k.inner.dials kept.tied kept.distinct h.outer_there)

pub hung_keeps : (k : KeptDialer) (d : DialerState) (i : InnerSource) (o : InnerSink) → IsHeld k i o → KeepsNotes k.notes k.inner.dials → BeginsWithMessages o.passage.messages o.sink
    → d.dials ≡ finish i.source.mark (traffic i.source o.sink) k.inner.dials → KeepsNotes k.notes d.dials
hung_keeps k d i o h kept begins e = record {
  tied = rw e (tied_finish i.source.mark i.passage (traffic i.source o.sink) k.notes k.inner.dials kept.tied kept.distinct h.outer_there (rw h.one_passage at (begins h.out_tells)));
  distinct = rw e (distinct_finish i.source.mark (traffic i.source o.sink) k.inner.dials kept.distinct);
}
