-- One direction, piece by piece.
use Rattle.std.proofs.Common.{rules, ◌≡◌, ◌≢◌, ℕ, ◌+◌, ◌-◌, ◌≤◌, min, length-take, IsTrue, List, [], ◌++◌, length, take, drop, sym, subst, ap, ◌∙◌, arith, append_assoc, refl}
use Rattle.std.proofs.lemmas.List.{append-nil, drop-drop, take-append-le}
use Rattle.std.proofs.Math.Seq.{take-add, take-nil, take-append_seam, drop-append_seam}
use Rattle.px_base.proofs.SinkLemmas.{sink_goes_on}
use Rattle.px_base.specs.Causes.{Rose}
use Rattle.px_base.specs.Sources.{SourceState, SourceGoesOn, Gives}
use Rattle.px_base.specs.declared.faults.SinkFault.{SinkFault}
use Rattle.px_base.specs.declared.faults.SinkFault.TheVariants as fault
use Rattle.px_base.specs.Sinks.{SinkState, SinkGoesOn, AddsProperFront, RefusesBy}
use Rattle.px_ways.specs.Directions.{AddsSome, Carries, CopiesSome, StopSinkCause, SourceCause, StopsIn, DirectionTakes, stop_of}
use Rattle.px_ways.specs.declared.directions.TheConstants.{DIRECTION_LIMIT}
use Rattle.px_ways.specs.declared.directions.DirectionStop.{DirectionStop}
use Rattle.px_ways.specs.declared.directions.DirectionStop.TheVariants as stop

-- the first bytes of a direction went to a sink, and so many more may
pub record Moved (bytes : List ℕ) (i i' : SourceState) (o o' : SinkState) (left : ℕ) : Type 0 where
  pub count : ℕ
  pub sum : count + left ≡ DIRECTION_LIMIT
  pub taken : IsTrue i.tells → IsTrue o.tells → o'.taken ≡ o.taken ++ take count bytes
  pub behind : IsTrue i.tells → i'.left ≡ drop count bytes
  pub source_faults : i'.faults ≡ i.faults
  pub sink_faults : o'.faults ≡ o.faults
  pub as_open : o'.finished ≡ o.finished
  pub source_goes_on : SourceGoesOn i i'
  pub sink_goes_on : SinkGoesOn o o'

source_same : (i : SourceState) → SourceGoesOn i i
source_same i = search rules

-- the bytes that were read ahead
pub moved_first : {o o' : SinkState} (ahead : List ℕ) (i : SourceState) → length ahead ≤ DIRECTION_LIMIT → (IsTrue o.tells → o'.taken ≡ o.taken ++ ahead) → o'.faults ≡ o.faults → o'.finished ≡ o.finished → SinkGoesOn o o'
    → Moved (ahead ++ i.left) i i o o' (DIRECTION_LIMIT - length ahead)
moved_first {o = o} ahead i short added same same_end goes_on = record {
  count = length ahead;
  sum = omega (arith, short);
  taken = λ ti to. added to ∙ ap (λ (zs : List ℕ). o.taken ++ zs) (sym (take-append_seam ahead i.left));
  behind = λ ti. sym (drop-append_seam ahead i.left);
  source_faults = refl;
  sink_faults = same;
  as_open = same_end;
  source_goes_on = source_same i;
  sink_goes_on = goes_on;
}

source_goes_on : {a b c : SourceState} → SourceGoesOn a b → SourceGoesOn b c → SourceGoesOn a c
source_goes_on h k = search rules

-- what was added by a piece more
more_taken : (taken mid now bytes left : List ℕ) (count n : ℕ) → mid ≡ taken ++ take count bytes → left ≡ drop count bytes → now ≡ mid ++ take n left → now ≡ taken ++ take (count + n) bytes
more_taken taken mid now bytes left count n em el en =
    en
    ∙ ap (λ (zs : List ℕ). mid ++ take n zs) el
    ∙ ap (λ (zs : List ℕ). zs ++ take n (drop count bytes)) em
    ∙ append_assoc taken (take count bytes) (take n (drop count bytes))
    ∙ ap (λ (zs : List ℕ). taken ++ zs) (sym (take-add count n bytes))

-- what is taken of a list of which nothing is left behind its first elements
all_of : (bytes : List ℕ) (count limit : ℕ) → drop count bytes ≡ [] → count ≤ limit → take count bytes ≡ take limit bytes
all_of bytes count limit none h =
    let k = limit - count in
    let sum : limit ≡ count + k = omega (arith, h) in
    sym (ap (λ (n : ℕ). take n bytes) sum ∙ take-add count k bytes ∙ ap (λ (zs : List ℕ). take count bytes ++ take k zs) none ∙ ap (λ (zs : List ℕ). take count bytes ++ zs) (take-nil k) ∙ append-nil (take count bytes))

-- a piece more
pub moved_more : {bytes : List ℕ} {i m i' : SourceState} {o p o' : SinkState} {left room n : ℕ} → Moved bytes i m o p left → CopiesSome m i' p o' room n → o'.finished ≡ p.finished → SourceGoesOn m i' → SinkGoesOn p o' → room ≤ left → Moved bytes i i' o o' (left - n)
moved_more {bytes = bytes} {i = i} {m = m} {i' = i'} {o = o} {p = p} {o' = o'} {n = n} h k same_end gi go fits = record {
  count = h.count + n;
  sum = omega (arith, h.sum, k.within, fits);
  taken = λ ti to. more_taken o.taken p.taken o'.taken bytes m.left h.count n (h.taken ti to) (h.behind ti) (k.taken (h.source_goes_on.tells_same ∙ ti) (h.sink_goes_on.tells_same ∙ to));
  behind = λ ti. k.behind (h.source_goes_on.tells_same ∙ ti) ∙ ap (λ (zs : List ℕ). drop n zs) (h.behind ti) ∙ drop-drop n h.count bytes;
  source_faults = k.source_same ∙ h.source_faults;
  sink_faults = k.sink_same ∙ h.sink_faults;
  as_open = same_end ∙ h.as_open;
  source_goes_on = source_goes_on h.source_goes_on gi;
  sink_goes_on = sink_goes_on h.sink_goes_on go;
}

-- all that a direction carries went to the sink: nothing is left of the source
pub moved_all : {bytes : List ℕ} {i m i' : SourceState} {o p o' : SinkState} {left room : ℕ} → Moved bytes i m o p left → CopiesSome m i' p o' room 0 → SourceGoesOn m i' → SinkGoesOn p o' → Carries bytes i i' o o' stop.Whole
moved_all {bytes = bytes} {i = i} {m = m} {o = o} {p = p} h k gi go = record {
  takes = λ ti to.
      let none : drop h.count bytes ≡ [] = sym (h.behind ti) ∙ k.end (h.source_goes_on.tells_same ∙ ti) refl in
      k.taken (h.source_goes_on.tells_same ∙ ti) (h.sink_goes_on.tells_same ∙ to) ∙ append-nil p.taken ∙ h.taken ti to
      ∙ ap (λ (zs : List ℕ). o.taken ++ zs) (all_of bytes h.count DIRECTION_LIMIT none (omega (arith, h.sum)));
  source_cause = k.source_same ∙ h.source_faults;
  sink_cause = k.sink_same ∙ h.sink_faults;
  source_goes_on = source_goes_on h.source_goes_on gi;
  sink_goes_on = sink_goes_on h.sink_goes_on go;
}

-- as many bytes as a direction carries went to the sink
pub moved_most : {bytes : List ℕ} {i i' : SourceState} {o o' : SinkState} {left : ℕ} → left ≡ 0 → Moved bytes i i' o o' left → Carries bytes i i' o o' stop.Whole
moved_most {bytes = bytes} {o = o} none h = record {
  takes = λ ti to. let most : h.count ≡ DIRECTION_LIMIT = omega (arith, h.sum, none) in h.taken ti to ∙ ap (λ (n : ℕ). o.taken ++ take n bytes) most;
  source_cause = h.source_faults;
  sink_cause = h.sink_faults;
  source_goes_on = h.source_goes_on;
  sink_goes_on = h.sink_goes_on;
}

source_cause_from : (i m i' : SourceState) (s : DirectionStop) → m.faults ≡ i.faults → SourceCause m i' s → SourceCause i i' s
source_cause_from i m i' stop.Whole e k = k ∙ e
source_cause_from i m i' stop.SourceFailed e k = subst (λ (n : ℕ). Rose n i'.faults) e k
source_cause_from i m i' stop.SinkFailed e k = k ∙ e
source_cause_from i m i' stop.NoMemory e k = k ∙ e

sink_cause_from : (o p o' : SinkState) (s : DirectionStop) → p.faults ≡ o.faults → StopSinkCause p o' s → StopSinkCause o o' s
sink_cause_from o p o' stop.Whole e k = k ∙ e
sink_cause_from o p o' stop.SourceFailed e k = k ∙ e
sink_cause_from o p o' stop.SinkFailed e k = subst (λ (n : ℕ). Rose n o'.faults) e k
sink_cause_from o p o' stop.NoMemory e k = k ∙ e

takes_some : (bytes taken taken' : List ℕ) (s : DirectionStop) → s ≢ stop.Whole → AddsSome DIRECTION_LIMIT bytes taken taken' → DirectionTakes bytes taken taken' s
takes_some bytes taken taken' stop.Whole u h = absurd (u refl)
takes_some bytes taken taken' stop.SourceFailed u h = h
takes_some bytes taken taken' stop.SinkFailed u h = h
takes_some bytes taken taken' stop.NoMemory u h = h

more_some : {room left : ℕ} (taken mid now bytes behind : List ℕ) (count : ℕ) → room ≤ left → count + left ≡ DIRECTION_LIMIT → mid ≡ taken ++ take count bytes → behind ≡ drop count bytes → AddsSome room behind mid now → AddsSome DIRECTION_LIMIT bytes taken now
more_some taken mid now bytes behind count fits sum em eb h = record {
  count = count + h.count;
  within = omega (arith, sum, h.within, fits);
  added = more_taken taken mid now bytes behind count h.count em eb h.added;
}

-- a direction that stopped in a piece
pub moved_some : {bytes : List ℕ} {i m i' : SourceState} {o p o' : SinkState} {left room : ℕ} (s : DirectionStop) → Moved bytes i m o p left → StopsIn m i' p o' room s → SourceGoesOn m i' → SinkGoesOn p o' → room ≤ left → Carries bytes i i' o o' s
moved_some {bytes = bytes} {i = i} {m = m} {i' = i'} {o = o} {p = p} {o' = o'} s h k gi go fits = record {
  takes = λ ti to. takes_some bytes o.taken o'.taken s k.unfinished (more_some o.taken p.taken o'.taken bytes m.left h.count fits h.sum (h.taken ti to) (h.behind ti) (k.taken (h.source_goes_on.tells_same ∙ ti) (h.sink_goes_on.tells_same ∙ to)));
  source_cause = source_cause_from i m i' s h.source_faults k.source_cause;
  sink_cause = sink_cause_from o p o' s h.sink_faults k.sink_cause;
  source_goes_on = source_goes_on h.source_goes_on gi;
  sink_goes_on = sink_goes_on h.sink_goes_on go;
}

-- as much of a buffer as there is still to carry
pub fits : {X : Type 0} (xs : List X) (room left : ℕ) → room ≡ min left 8192 → length (take room xs) ≤ left
fits xs room left e = let count = length-take room xs in omega (arith, count, e)

-- a front of the bytes of a piece
front_of : (taken now bytes buf rest : List ℕ) (n room : ℕ) → bytes ≡ take n buf ++ rest → n ≤ room → AddsProperFront taken now (take n buf) → AddsSome room bytes taken now
front_of taken now bytes buf rest n room e within (k, shorter, added) = record {
  count = k;
  within = omega (arith, shorter, within, length-take n buf);
  added = added ∙ ap (λ (zs : List ℕ). taken ++ zs) (sym (ap (λ (zs : List ℕ). take k zs) e ∙ take-append-le k (take n buf) rest (omega (arith, shorter))));
}

-- a refused write stops a direction for its sink alone
calm_source : (i i' : SourceState) (f : SinkFault) → i'.faults ≡ i.faults → SourceCause i i' (stop_of f)
calm_source i i' fault.Failed calm = calm
calm_source i i' fault.Mem calm = calm

refused_sink : (o o' : SinkState) (size : ℕ) (f : SinkFault) → RefusesBy o o' size f → StopSinkCause o o' (stop_of f)
refused_sink o o' size fault.Failed refused = refused
refused_sink o o' size fault.Mem refused = refused.0

not_whole : (f : SinkFault) → stop_of f ≢ stop.Whole
not_whole fault.Failed e = absurd (cc)
not_whole fault.Mem e = absurd (cc)

-- a piece that wasn't written whole
pub stops_in : (i i' : SourceState) (o o' : SinkState) (buf : List ℕ) (n size room : ℕ) (f : SinkFault) → length buf ≡ room → Gives i i' n buf → i'.faults ≡ i.faults
    → (IsTrue o.tells → AddsProperFront o.taken o'.taken (take n buf)) → RefusesBy o o' size f → StopsIn i i' o o' room (stop_of f)
stops_in i i' o o' buf n size room f same g calm added refused = record {
  taken = λ ti to. front_of o.taken o'.taken i.left buf i'.left n room (g.moved ti) (omega (arith, g.within, same)) (added to);
  source_cause = calm_source i i' f calm;
  sink_cause = refused_sink o o' size f refused;
  unfinished = not_whole f;
}

-- a front of the bytes that were read ahead
front_first : (taken now ahead left : List ℕ) → length ahead ≤ DIRECTION_LIMIT → AddsProperFront taken now ahead → AddsSome DIRECTION_LIMIT (ahead ++ left) taken now
front_first taken now ahead left short (k, shorter, added) = record {
  count = k;
  within = omega (arith, shorter, short);
  added = added ∙ ap (λ (zs : List ℕ). taken ++ zs) (sym (take-append-le k ahead left (omega (arith, shorter))));
}

-- the bytes that were read ahead weren't written whole
pub stops_first : (o o' : SinkState) (size : ℕ) (f : SinkFault) (ahead : List ℕ) (i : SourceState) → length ahead ≤ DIRECTION_LIMIT → (IsTrue o.tells → AddsProperFront o.taken o'.taken ahead) → RefusesBy o o' size f → SinkGoesOn o o'
    → Carries (ahead ++ i.left) i i o o' (stop_of f)
stops_first o o' size f ahead i short added refused goes_on = record {
  takes = λ ti to. takes_some (ahead ++ i.left) o.taken o'.taken (stop_of f) (not_whole f) (front_first o.taken o'.taken ahead i.left short (added to));
  source_cause = calm_source i i f refl;
  sink_cause = refused_sink o o' size f refused;
  source_goes_on = source_same i;
  sink_goes_on = goes_on;
}
