-- The outgoing side, call by call.
use Rattle.std.proofs.Common.{inl, Result, Err, Option, Some, None, ◌≡◌, ℕ, ◌+◌, ◌-◌, ◌<◌, ◌≤◌, Bool, true, false, IsTrue, ◌==◌, ◌&&◌, List, [], ◌++◌, length, take, drop, sym, ap, refl, ◌∙◌, append_assoc, length-append, length-drop, arith, Ok}
use Rattle.std.proofs.lemmas.List.{take-append-drop, append-nil, drop_all, drop-append-le, take_at}
use Rattle.std.proofs.Math.Seq.{take-append-add, drop-append-add, drop-append_seam}
use Rattle.std.proofs.lemmas.Grind.{common_steps}
use Rattle.std.specs.Prelude.{OnOk}
use Rattle.px_base.specs.Causes.{Rose}
use Rattle.px_base.specs.declared.faults.SinkFault.{SinkFault}
use Rattle.px_base.specs.declared.faults.SinkFault.TheVariants as fault
use Rattle.px_base.specs.Sinks.{SinkState, SinkGoesOn, Takes}
use Rattle.px_base.specs.Sources.{SourceState}
use Rattle.px_pool_ends.specs.Names.{Passed, passed_so_far, lent_mark}
use Rattle.px_pool_ends.specs.Closings.{IsImage, replaced, as_it_is}
use Rattle.px_pool_ends.specs.declared.steps.Step.{Step}
use Rattle.px_pool_ends.specs.Steps.{SendingSteps, Decides, unfinished, replaces, passes}
use Rattle.px_pool_ends.specs.Outgoings.{Sending, last_refusal, pending, taken_and_pending, behind_head, written_bytes, image, outer_sink, KeepsSending, IsSent, SendsBytes, FinishesBehind, StopCause, Wrote}
use Rattle.px_pool_ends.proofs.HeadLemmas.{none_in_none, no_closing}

open_before : (a b : Bool) → (IsTrue a → IsTrue b) → b ≡ false → a ≡ false
open_before true b kept e = sym (kept refl) ∙ e
open_before false b kept e = refl

not_both : (b : Bool) → IsTrue b → b ≡ false → ⊥
not_both true t f = (cc)
not_both false t f = (cc)

-- what lasts over two calls lasts over both
pub sink_goes_on : (a b c : SinkState) → SinkGoesOn a b → SinkGoesOn b c → SinkGoesOn a c
sink_goes_on a b c h k = record {
  tells_same = k.tells_same ∙ h.tells_same;
  finished_kept = λ f. k.finished_kept (h.finished_kept f);
  mark_same = k.mark_same ∙ h.mark_same;
  faults_later = omega arith;
  steady_kept = λ s o. let p = h.steady_kept s (open_before b.finished c.finished k.finished_kept o) in let q = k.steady_kept p.0 o in (q.0, q.1 ∙ p.1);
}

dropped : (xs : List ℕ) (n m : ℕ) → drop (n + m) xs ≡ drop m (drop n xs)
dropped xs n m = grind (arith, common_steps)

-- a write sends n more
pub sends_more : (old now next : SinkState) (bytes : List ℕ) (from at n : ℕ) → SendsBytes old now bytes from at → Takes now next n (drop at bytes) → at + n ≤ length bytes → next.finished ≡ now.finished → SinkGoesOn now next
    → SendsBytes old next bytes from (at + n)
sends_more old now next bytes from at n h t le same on = record {
  onward = omega (arith, h.onward);
  within = le;
  joined = λ tells.
      let e : next.taken ≡ now.taken ++ take n (drop at bytes) = t.added (h.goes_on.tells_same ∙ tells) in
      ap (λ (x : List ℕ). x ++ drop (at + n) bytes) e ∙ append_assoc now.taken (take n (drop at bytes)) (drop (at + n) bytes)
      ∙ ap (λ (x : List ℕ). now.taken ++ (take n (drop at bytes) ++ x)) (dropped bytes at n)
      ∙ ap (λ (x : List ℕ). now.taken ++ x) (take-append-drop n (drop at bytes)) ∙ h.joined tells;
  open_same = same ∙ h.open_same;
  goes_on = sink_goes_on old now next h.goes_on on;
}

pub room_for : (bytes : List ℕ) (at n : ℕ) → at < length bytes → n ≤ length (drop at bytes) → at + n ≤ length bytes
room_for bytes at n lt le = omega (arith, length-drop at bytes)

rose_from : (begun old new : ℕ) → begun ≤ old → Rose old new → Rose begun new
rose_from begun old new le r = omega (arith, le, r)

-- ---- what stands

pub keeps_new : (sink : SinkState) (source : SourceState) (host : List ℕ) (port : ℕ) → sink.finished ≡ false
    → KeepsSending (record { sink = sink; begun = sink; begun_in = source; host = host; port = port; head = []; out = []; at = 0; holding = true; replaced = false; method = []; stopped = None; faults = 0; finished = false })
keeps_new sink source host port fresh = record {
  within = omega arith;
  decides = unfinished [] (omega arith) none_in_none (inl refl);
  begins = λ _. ap (λ (x : List ℕ). sink.taken ++ x) (sym (drop_all (length sink.taken + 0) (sink.taken ++ []) (omega (arith, length-append sink.taken []))));
  prompt = λ h _. (cc);
  later = omega arith;
  cause = λ e. (cc);
  clean = λ _ _. refl;
  none_sent = λ _. refl;
  none_taken = λ _ _. refl;
  method = λ e. (cc);
  unfinished = λ _. fresh;
  passed_on = λ e _. (cc);
  ended = λ e _. (cc);
}

-- the same but for the sink, how far it is, and the faults
abbrev pub moved : Sending → SinkState → ℕ → ℕ → Option SinkFault → Sending
moved s new to faults stopped = record { sink = new; begun = s.begun; begun_in = s.begun_in; host = s.host; port = s.port; head = s.head; out = s.out; at = to; holding = s.holding; replaced = s.replaced; method = s.method; stopped = stopped; faults = faults; finished = s.finished }

-- the line is as long as what stands before what came behind the head
long_line : (s : Sending) → KeepsSending s → IsTrue s.sink.tells → length s.begun.taken + length s.out ≤ length (taken_and_pending s)
long_line s k tells = omega (arith, ap (λ (x : List ℕ). length x) (k.begins tells), length-append s.begun.taken (image s), length-append s.out (behind_head s))

behind_grown : (s : Sending) (new : SinkState) (to faults : ℕ) (stopped : Option SinkFault) (more : List ℕ) → KeepsSending s → IsTrue s.sink.tells → new.taken ++ drop to s.out ≡ taken_and_pending s ++ more
    → behind_head (moved s new to faults stopped) ≡ behind_head s ++ more
behind_grown s new to faults stopped more k tells e =
    ap (λ (x : List ℕ). drop (length s.begun.taken + length s.out) x) e ∙ drop-append-le (length s.begun.taken + length s.out) (taken_and_pending s) more (long_line s k tells)

pub written_grown : (s : Sending) (new : SinkState) (to faults : ℕ) (stopped : Option SinkFault) (more : List ℕ) → KeepsSending s → IsTrue s.sink.tells → new.taken ++ drop to s.out ≡ taken_and_pending s ++ more
    → written_bytes (moved s new to faults stopped) ≡ written_bytes s ++ more
written_grown s new to faults stopped more k tells e =
    ap (λ (x : List ℕ). s.head ++ x) (behind_grown s new to faults stopped more k tells e) ∙ sym (append_assoc s.head (behind_head s) more)

pub keeps_grown : (s : Sending) (new : SinkState) (to faults : ℕ) (stopped : Option SinkFault) (more : List ℕ) → KeepsSending s → s.holding ≡ false → to ≤ length s.out
    → (IsTrue s.sink.tells → new.taken ++ drop to s.out ≡ taken_and_pending s ++ more) → new.tells ≡ s.sink.tells → new.finished ≡ s.sink.finished → (stopped ≡ None → to ≡ length s.out) → s.sink.faults ≤ new.faults → (stopped ≡ Some fault.Failed → Rose s.begun.faults new.faults) → (stopped ≡ None → faults ≡ 0 → new.faults ≡ s.begun.faults) → s.finished ≡ false → KeepsSending (moved s new to faults stopped)
keeps_grown s new to faults stopped more k passing le grown same_tells same_end all more_faults rose clean still = record {
  within = le;
  decides = k.decides;
  begins = λ t.
      let tells : IsTrue s.sink.tells = sym same_tells ∙ t in
      let e = grown tells in
      e ∙ ap (λ (x : List ℕ). x ++ more) (k.begins tells) ∙ append_assoc s.begun.taken (image s) more
      ∙ ap (λ (x : List ℕ). s.begun.taken ++ x) (append_assoc s.out (behind_head s) more ∙ ap (λ (x : List ℕ). s.out ++ x) (sym (behind_grown s new to faults stopped more k tells e)));
  prompt = λ _ e. all e;
  later = omega (arith, k.later, more_faults);
  cause = rose;
  clean = clean;
  none_sent = λ h. absurd (not_both s.holding h passing);
  none_taken = λ h _. absurd (not_both s.holding h passing);
  method = k.method;
  unfinished = λ u. same_end ∙ k.unfinished u;
  passed_on = λ e _. absurd (not_both s.finished e still);
  ended = λ e _. absurd (not_both s.finished e still);
}

-- the line is the same once more was sent
pub line_sent : (s : Sending) (new : SinkState) (to : ℕ) → SendsBytes s.sink new s.out s.at to → IsTrue s.sink.tells → new.taken ++ drop to s.out ≡ taken_and_pending s ++ []
line_sent s new to h tells = h.joined tells ∙ sym (append-nil (taken_and_pending s))

pub keeps_sent : (s : Sending) (new : SinkState) (to faults : ℕ) (stopped : Option SinkFault) → KeepsSending s → s.holding ≡ false → SendsBytes s.sink new s.out s.at to → (stopped ≡ None → to ≡ length s.out) → (stopped ≡ Some fault.Failed → Rose s.begun.faults new.faults) → (stopped ≡ None → faults ≡ 0 → new.faults ≡ s.begun.faults) → s.finished ≡ false → KeepsSending (moved s new to faults stopped)
keeps_sent s new to faults stopped k passing h all rose clean still = keeps_grown s new to faults stopped [] k passing h.within (line_sent s new to h) h.goes_on.tells_same h.open_same all h.goes_on.faults_later rose clean still

-- ---- the end

end_decides : (f h r : Bool) (head out : List ℕ) → Decides f h r head out → Decides true false r head out
end_decides _ _ _ _ _ (unfinished head le none may) = passes true head (λ e. (cc))
end_decides _ _ _ _ _ (replaces f front x) = replaces true front x
end_decides _ _ _ _ _ (passes f head never) = passes true head (λ e. (cc))

-- ---- what is sent for what was written

image_of : (f h r : Bool) (head out rest : List ℕ) → Decides f h r head out → (IsTrue h → rest ≡ []) → f ≡ false → IsImage (head ++ rest) (out ++ rest) r
image_of _ _ _ _ _ rest (unfinished head le none may) held e = rw (held refl, append-nil head) (as_it_is (no_closing head none) refl)
image_of _ _ _ _ _ rest (replaces f front x) held e = replaced front rest x refl refl
image_of _ _ _ _ _ rest (passes f head never) held e = as_it_is (never e rest) refl

-- where the line is replaced, nothing is held back
goes_out : (f h r : Bool) (head out : List ℕ) → Decides f h r head out → IsTrue r → h ≡ false
goes_out _ _ _ _ _ (unfinished head le none may) t = (cc)
goes_out _ _ _ _ _ (replaces f front x) t = refl
goes_out _ _ _ _ _ (passes f head never) t = (cc)

-- nor is it behind the end
let_go : (f h r : Bool) (head out : List ℕ) → Decides f h r head out → IsTrue f → h ≡ false
let_go _ _ _ _ _ (unfinished head le none may) t = (cc)
let_go _ _ _ _ _ (replaces f front x) t = refl
let_go _ _ _ _ _ (passes f head never) t = refl

-- while bytes are held back, nothing came behind them
pub nothing_behind : (begun out : List ℕ) (taken : List ℕ) (at : ℕ) → at ≡ 0 → taken ≡ begun → (taken ++ drop at out ≡ begun ++ out) × (drop (length begun + length out) (taken ++ drop at out) ≡ [])
nothing_behind begun out taken at z e =
    let l : taken ++ drop at out ≡ begun ++ out = ap (λ k. taken ++ drop k out) z ∙ ap (λ (x : List ℕ). x ++ out) e in
    (l, ap (λ (x : List ℕ). drop (length begun + length out) x) l ∙ drop_all (length begun + length out) (begun ++ out) (omega (arith, length-append begun out)))

-- what is sent for what was written, while the end wasn't said
image_open : (s : Sending) → KeepsSending s → IsTrue s.sink.tells → s.finished ≡ false → IsImage (written_bytes s) (image s) s.replaced
image_open s k tells still = image_of s.finished s.holding s.replaced s.head s.out (behind_head s) k.decides (λ h. (nothing_behind s.begun.taken s.out s.sink.taken s.at (k.none_sent h) (k.none_taken h tells)).1) still

pub keeps_ended : (s : Sending) (fin : SinkState) (to : ℕ) (stopped : Option SinkFault) → KeepsSending s → s.finished ≡ false → FinishesBehind s.sink fin s.out s.at to → (stopped ≡ None → to ≡ length s.out) → (stopped ≡ Some fault.Failed → Rose s.begun.faults fin.faults) → (stopped ≡ None → s.faults ≡ 0 → fin.faults ≡ s.begun.faults)
    → KeepsSending (record { sink = fin; begun = s.begun; begun_in = s.begun_in; host = s.host; port = s.port; head = s.head; out = s.out; at = to; holding = false; replaced = s.replaced; method = s.method; stopped = stopped; faults = s.faults; finished = true })
keeps_ended s fin to stopped k still h all rose clean = record {
  within = h.within;
  decides = end_decides s.finished s.holding s.replaced s.head s.out k.decides;
  begins = λ t. let tells : IsTrue s.sink.tells = sym h.goes_on.tells_same ∙ t in rw (h.joined tells) (k.begins tells);
  prompt = λ _ e. all e;
  later = omega (arith, k.later, h.goes_on.faults_later);
  cause = rose;
  clean = clean;
  none_sent = λ e. (cc);
  none_taken = λ e _. (cc);
  method = k.method;
  unfinished = λ e. (cc);
  passed_on = λ _ t. h.finished (sym h.goes_on.tells_same ∙ t);
  ended = λ _ t. let tells : IsTrue s.sink.tells = sym h.goes_on.tells_same ∙ t in rw (h.joined tells) (image_open s k tells still);
}

-- a write behind the end changes the count of failures alone
pub keeps_refused : (s : Sending) (faults : ℕ) → KeepsSending s → IsTrue s.finished → (faults ≡ 0 → ⊥) → KeepsSending (moved s s.sink s.at faults s.stopped)
keeps_refused s faults k e some = record {
  within = k.within;
  decides = k.decides;
  begins = k.begins;
  prompt = k.prompt;
  later = k.later;
  cause = k.cause;
  clean = λ _ z. absurd (some z);
  none_sent = k.none_sent;
  none_taken = k.none_taken;
  method = k.method;
  unfinished = k.unfinished;
  passed_on = k.passed_on;
  ended = k.ended;
}

-- what stands before a rest is as long as the whole without it
before_rest : (all front rest : List ℕ) → all ≡ front ++ rest → take (length all - length rest) all ≡ front
before_rest all front rest e = rw e (take_at front rest (length (front ++ rest) - length rest) (omega (arith, length-append front rest)))

-- what is held back is the end of what is sent for what was written
joined_less : (taken pending begun image : List ℕ) → taken ++ pending ≡ begun ++ image → length pending ≤ length image
    → (image ≡ take (length image - length pending) image ++ pending) × (taken ≡ begun ++ take (length image - length pending) image)
joined_less taken pending begun image e le =
    let n : ℕ = length image - length pending in
    let long : length taken ≡ length begun + n = omega (arith, ap (λ (x : List ℕ). length x) e, length-append taken pending, length-append begun image, le) in
    let front : taken ≡ begun ++ take n image =
    sym (take_at taken pending (length begun + n) (omega (arith, long))) ∙ ap (λ (x : List ℕ). take (length begun + n) x) e ∙ take-append-add begun image n in
    let rest : drop n image ≡ pending =
    sym (drop-append-add begun image n) ∙ ap (λ (x : List ℕ). drop (length begun + n) x) (sym e) ∙ ap (λ m. drop m (taken ++ pending)) (sym long) ∙ drop-append_seam taken pending in
    (sym (take-append-drop n image) ∙ ap (λ (x : List ℕ). take n image ++ x) rest, front)

image_still : (s : Sending) → KeepsSending s → IsTrue s.sink.tells → (f : Bool) → s.finished ≡ f → IsImage (written_bytes s) (image s) s.replaced
image_still s k tells true e = k.ended e tells
image_still s k tells false e = image_open s k tells e

pub is_sent : (s : Sending) → KeepsSending s → IsTrue s.sink.tells → IsSent s
is_sent s k tells =
    let less = joined_less s.sink.taken (pending s) s.begun.taken (image s) (k.begins tells) (omega (arith, length-drop s.at s.out, length-append s.out (behind_head s))) in record {
      is_image = rw tells (image_still s k tells s.finished refl);
      image_is = less.0;
      joined = less.1;
      prompt = λ h e. drop_all s.at s.out (omega (arith, k.prompt h e));
      decided = goes_out s.finished s.holding s.replaced s.head s.out k.decides;
      let_go = let_go s.finished s.holding s.replaced s.head s.out k.decides;
      unfinished = k.unfinished;
      passed_on = λ e. k.passed_on e tells;
      method = k.method;
      cause = k.cause;
      clean = k.clean;
    }

-- ---- a write while bytes are held back

held_is_out : (f h r : Bool) (head out : List ℕ) → Decides f h r head out → IsTrue h → (head ≡ out) × (f ≡ false)
held_is_out _ _ _ _ _ (unfinished head le none may) t = (refl, refl)
held_is_out _ _ _ _ _ (replaces f front x) t = (cc)
held_is_out _ _ _ _ _ (passes f head never) t = (cc)

-- while bytes are held back, the end wasn't said
pub open_held : (s : Sending) → KeepsSending s → IsTrue s.holding → s.finished ≡ false
open_held s k h = (held_is_out s.finished s.holding s.replaced s.head s.out k.decides h).1

abbrev pub held_by : Sending → Step → Option SinkFault → Sending
held_by s step stopped = record {
  sink = s.sink;
  begun = s.begun;
  begun_in = s.begun_in;
  host = s.host;
  port = s.port;
  head = step.head.value;
  out = step.out;
  at = s.at;
  holding = step.holding;
  replaced = step.replaced;
  method = step.method;
  stopped = stopped;
  faults = s.faults;
  finished = s.finished;
}

pub keeps_held : (s : Sending) (step : Step) (bytes : List ℕ) (stopped : Option SinkFault) → KeepsSending s → IsTrue s.holding → SendingSteps s.out bytes step → (step.holding ≡ false → stopped ≡ None → ⊥) → (stopped ≡ Some fault.Failed → Rose s.begun.faults s.sink.faults) → (stopped ≡ None → s.faults ≡ 0 → s.sink.faults ≡ s.begun.faults) → KeepsSending (held_by s step stopped)
keeps_held s step bytes stopped k h d un rose clean =
    let was = held_is_out s.finished s.holding s.replaced s.head s.out k.decides h in
    let z : s.at ≡ 0 = k.none_sent h in record {
      within = omega (arith, z);
      decides = rw was.1 d.decides;
      begins = λ tells.
          let n = nothing_behind s.begun.taken step.out s.sink.taken s.at z (k.none_taken h tells) in
          n.0 ∙ ap (λ (x : List ℕ). s.begun.taken ++ x) (sym (append-nil step.out) ∙ ap (λ (x : List ℕ). step.out ++ x) (sym n.1));
      prompt = λ h e. absurd (un h e);
      later = k.later;
      cause = rose;
      clean = clean;
      none_sent = λ _. z;
      none_taken = λ _ tells. k.none_taken h tells;
      method = d.method;
      unfinished = k.unfinished;
      passed_on = k.passed_on;
      ended = λ e _. absurd (not_both s.finished e was.1);
    }

pub steady_parts : (s : Bool) (n : ℕ) → IsTrue (s && (n == 0)) → IsTrue s × (n ≡ 0)
steady_parts true n h = (refl, grind (arith, common_steps, h))
steady_parts false n h = (cc)

pub steady_whole : (s : Bool) (n : ℕ) → IsTrue s → n ≡ 0 → IsTrue (s && (n == 0))
steady_whole true n h e = rw e refl
steady_whole false n h e = (cc)

pub same_mark : (t u : Bool) (m n : ℕ) (w x : Passed) → t ≡ u → m ≡ n → w ≡ x → lent_mark t m w ≡ lent_mark u n x
same_mark t u m n w x e f g = rw (e, f, g) refl

-- what lasts at the inner sink lasts at the outer one
pub outer_goes_on : (s t : Sending) → passed_so_far t.host t.port t.begun_in t.begun ≡ passed_so_far s.host s.port s.begun_in s.begun → SinkGoesOn s.sink t.sink → (IsTrue s.finished → IsTrue t.finished) → (t.finished ≡ false → t.sink.finished ≡ false) → s.faults ≤ t.faults
    → (s.sink.faults ≡ 0 → t.sink.faults ≡ 0 → t.faults ≡ s.faults) → SinkGoesOn (outer_sink s) (outer_sink t)
outer_goes_on s t went h kept still le none = record {
  tells_same = h.tells_same;
  finished_kept = kept;
  mark_same = same_mark t.sink.tells s.sink.tells t.sink.mark s.sink.mark _ _ h.tells_same h.mark_same went;
  faults_later = le;
  steady_kept = λ e o.
      let p = steady_parts s.sink.steady s.sink.faults e in
      let q = h.steady_kept p.0 (still o) in
      (steady_whole t.sink.steady t.sink.faults q.0 (q.1 ∙ p.1), none p.1 (q.1 ∙ p.1));
}

pub sends_none : (sink : SinkState) (bytes : List ℕ) (at : ℕ) → at ≤ length bytes → SendsBytes sink sink bytes at at
sends_none sink bytes at le = record {
  onward = omega arith;
  within = le;
  joined = λ _. refl;
  open_same = refl;
  goes_on = record { tells_same = refl; finished_kept = λ f. f; mark_same = refl; faults_later = omega arith; steady_kept = λ s _. (s, refl) };
}

pub wrote_held : (s : Sending) (step : Step) (bytes : List ℕ) (new : SinkState) (to : ℕ) (stopped : Option SinkFault) → KeepsSending s → IsTrue s.holding → SendingSteps s.out bytes step → SendsBytes s.sink new step.out s.at to
    → Wrote (outer_sink s) (outer_sink (moved (held_by s step stopped) new to s.faults stopped)) (Ok step.count) bytes
wrote_held s step bytes new to stopped k h d sent =
    let was = held_is_out s.finished s.holding s.replaced s.head s.out k.decides h in
    let z : s.at ≡ 0 = k.none_sent h in record {
      adds = record {
        within = d.within;
        some = λ _. d.some;
        added = λ tells.
            let mine = (nothing_behind s.begun.taken s.out s.sink.taken s.at z (k.none_taken h tells)).1 in
            let next = (nothing_behind s.begun.taken step.out s.sink.taken s.at z (k.none_taken h tells)).1 in
            let e : written_bytes (moved (held_by s step stopped) new to s.faults stopped) ≡ written_bytes s ++ take step.count bytes =
            ap (λ (x : List ℕ). step.head.value ++ x) (ap (λ (x : List ℕ). drop (length s.begun.taken + length step.out) x) (sent.joined tells) ∙ next) ∙ append-nil step.head.value
            ∙ d.head ∙ ap (λ (x : List ℕ). x ++ take step.count bytes) (sym was.0 ∙ sym (append-nil s.head) ∙ ap (λ (x : List ℕ). s.head ++ x) (sym mine)) in
            rw (sent.goes_on.tells_same, tells) e;
        room_left = omega arith;
      };
      cause = refl;
      open_same = refl;
      goes_on = outer_goes_on s (moved (held_by s step stopped) new to s.faults stopped) refl sent.goes_on (λ f. f) (λ u. sent.open_same ∙ k.unfinished u) (omega arith) (λ _ _. refl);
    }

pub both_values : (b : Bool) → b ≡ true → b ≡ false → ⊥
both_values b t f = let o = sym t ∙ f in (cc)

-- where none was ever refused, all is sent
pub refusal_sent : (stopped : Option SinkFault) (r : Result (Unit {0}) SinkFault) (all : Type 0) → OnOk r all → last_refusal stopped r ≡ None → all
refusal_sent stopped (Ok x) all h e = h
refusal_sent stopped (Err x) all h e = (cc)

-- why one was refused
pub refusal_cause : (begun : ℕ) (old new : SinkState) (stopped : Option SinkFault) (r : Result (Unit {0}) SinkFault) → (stopped ≡ Some fault.Failed → Rose begun old.faults) → begun ≤ old.faults → StopCause old new r
    → last_refusal stopped r ≡ Some fault.Failed → Rose begun new.faults
refusal_cause begun old new stopped (Ok x) was le h e = rw h (was e)
refusal_cause begun old new stopped (Err fault.Failed) was le h e = rose_from begun old.faults new.faults le h
refusal_cause begun old new stopped (Err fault.Mem) was le h e = (cc)

-- where none was ever refused, the inner sink didn't fail
pub refusal_none : (begun faults : ℕ) (old new : SinkState) (stopped : Option SinkFault) (r : Result (Unit {0}) SinkFault) → (stopped ≡ None → faults ≡ 0 → old.faults ≡ begun) → StopCause old new r
    → last_refusal stopped r ≡ None → faults ≡ 0 → new.faults ≡ begun
refusal_none begun faults old new stopped (Ok x) was h e z = h ∙ was e z
refusal_none begun faults old new stopped (Err x) was h e z = (cc)
