-- What a course says of what is returned.
use Rattle.std.proofs.Common.{◌≡◌, ◌≢◌, ℕ, ◌+◌, ◌<◌, ◌≤◌, Bool, true, false, ◌&&◌, List, [], ◌++◌, length, drop, sym, ap, ◌∙◌, refl, arith, append_assoc, length-append, nat_le, Option, Some, None, is_some, not, min}
use Rattle.std.proofs.lemmas.Grind.{common_steps}
use Rattle.std.proofs.lemmas.Bool.Decides.{nat_tests}
use Rattle.std.proofs.Math.Seq.{take-append_seam, take-nil, drop-append_seam, drop-length}
use Rattle.std.proofs.lemmas.List.{append-nil}
use Rattle.px_framing.specs.Body.{Part, nothing, first_bytes, at_end}
use Rattle.px_framing.specs.declared.rules.BodyRule.{BodyRule}
use Rattle.px_framing.specs.declared.rules.BodyRule.TheVariants as rule
use Rattle.px_framing.specs.declared.places.ChunkPlace.{ChunkPlace}
use Rattle.px_framing.specs.declared.places.ChunkPlace.TheVariants as place
use Rattle.px_framing.specs.declared.stages.Stage.{Stage}
use Rattle.px_framing.specs.declared.stages.Stage.TheVariants as stage
use Rattle.px_framing.specs.Reading as framing
use Rattle.px_framing.specs.Reading.{Reading, IsSettled, ReaderSteps, KeepsKind, goes_on, reads, first, before, stage_state, is_ended, is_to_close, added}
use Rattle.px_framing.specs.declared.places.State.{State}
use Rattle.px_framing.specs.declared.places.State.TheVariants as state
use Rattle.px_answers.specs.declared.forms.Framed.{Framed}
use Rattle.px_answers.specs.declared.forms.AnswerOutcome.{AnswerOutcome}
use Rattle.px_answers.specs.declared.forms.Form.{Form}
use Rattle.px_answers.specs.declared.forms.Form.TheVariants as form
use Rattle.px_answers.specs.declared.courses.Course.{Course}
use Rattle.px_answers.specs.declared.courses.Course.TheVariants as course
use Rattle.px_answers.specs.Forms.{allows_filters, body_of, formed, passed_head, may_filter, is_open_to_filters, is_more, is_sound, is_whole, state_at_end}
use Rattle.px_answers.specs.Finished.{Work, finished, by_end, passed, passed_outcome, returned_so_far}
use Rattle.px_answers.specs.Passages.{IsRaw, Read, TakesOn, Holds, PassesFront, FinishesBody, CourseAfter, BeginsReturned, ended_of, passing}

-- ---- lists

-- what stands behind an old list
pub put_one : (old new a : List ℕ) → new ≡ old ++ a → added old new ≡ a
put_one old new a e = ap (drop (length old)) e ∙ drop-append_seam old a

pub put_two : (old mid new a b : List ℕ) → mid ≡ old ++ a → new ≡ mid ++ b → added old new ≡ a ++ b
put_two old mid new a b e f = put_one old new (a ++ b) (f ∙ ap (λ (xs : List ℕ). xs ++ b) e ∙ append_assoc old a b)

formed_more : (f : Form) (raw plain r p : List ℕ) → formed f (raw ++ r) (plain ++ p) ≡ formed f raw plain ++ formed f r p
formed_more form.Raw raw plain r p = refl
formed_more form.Plain raw plain r p = refl

-- ---- readers

-- a body that was fed bytes, and takes more
pub read_on : (r : BodyRule) (rest raw plain piece x y : List ℕ) (n : ℕ) (old new : Reading) → Read r rest raw plain old → ReaderSteps old piece x y n new
    → Read r (rest ++ piece) (raw ++ x) (plain ++ y) new
read_on r rest raw plain piece x y n old new read steps = record {
  used = read.used + n;
  after = record {
    same = λ more. ap (goes_on (first r)) (append_assoc rest piece more) ∙ read.after.same (piece ++ more) ∙ ap (before raw plain read.used) (steps.same more)
        ∙ joins (goes_on new more);
    kind = record {
      ended = λ e. read.after.kind.ended (steps.kind.ended e);
      to_close = λ e. steps.kind.to_close e ∙ read.after.kind.to_close (steps.kind.ended e);
    };
  };
}
  where
    joins : (p : Part) → before raw plain read.used (before x y n p) ≡ before (raw ++ x) (plain ++ y) (read.used + n) p
    joins p =
        let counts : read.used + (n + p.used) ≡ (read.used + n) + p.used = omega arith in
        rw (append_assoc raw x p.raw, append_assoc plain y p.plain, counts) refl

-- a reader at its end reads nothing more
ended_reads : (r : Reading) (more : List ℕ) → stage_state r.stage ≢ state.More → goes_on r more ≡ nothing (stage_state r.stage)
unfolding goes_on
ended_reads r more n = by r.stage r.kept n
  where
    by : (s : Stage) (kept : List ℕ) → stage_state s ≢ state.More → framing.reads_on s kept more ≡ nothing (stage_state s)
    by (stage.Ended x) kept n = refl
    by (stage.Bytes left) kept n = absurd (n refl)
    by (stage.Rest room) kept n = absurd (n refl)
    by (stage.Chunks place room) kept n = absurd (n refl)

-- and a reader that is fed nothing reads nothing
pub nothing_left : (r : Reading) → IsSettled r → goes_on r [] ≡ nothing (stage_state r.stage)
unfolding goes_on reads
nothing_left r settled = by r.stage r.kept settled.settled
  where
    over : (n : ℕ) → 0 < n → nat_le n 0 ≡ false
    over n h = grind (arith, nat_tests)

    none : (n : ℕ) (s : State) → 0 < n → first_bytes n s [] ≡ nothing state.More
    none n s h = let fewest : min n 0 ≡ 0 = omega arith in rw (over n h, take-nil n, fewest) refl

    at : (p : ChunkPlace) (kept : List ℕ) → framing.is_last p ≡ false → framing.capped false (reads p kept []) ≡ nothing state.More
    at place.Size kept h = refl
    at (place.Data m) kept h = refl
    at place.Gap kept h = refl
    at (place.Trailers m) kept h = refl
    at place.Done kept h = absurd (cc)
    at place.Wrong kept h = absurd (cc)

    by : (s : Stage) (kept : List ℕ) → framing.IsSettledAt s kept → framing.reads_on s kept [] ≡ nothing (stage_state s)
    by (stage.Ended x) kept h = refl
    by (stage.Bytes n) kept h = none n state.Whole h.1
    by (stage.Rest n) kept h = none n state.Cut h.1
    by (stage.Chunks p n) kept h = rw (over n h.2, take-nil n) (at p kept h.1)

pub stands_ended : (r : BodyRule) (failed : Bool) (s : State) → s ≢ state.More → state_at_end r failed s ≡ s
stands_ended r true state.More n = absurd (n refl)
stands_ended r true state.Whole n = refl
stands_ended r true state.Cut n = refl
stands_ended r true state.Misframed n = refl
stands_ended r false s n = by r s n
  where
    by : (r : BodyRule) (s : State) → s ≢ state.More → at_end r s ≡ s
    by rule.Absent state.More n = absurd (n refl)
    by rule.Absent state.Whole n = refl
    by rule.Absent state.Cut n = refl
    by rule.Absent state.Misframed n = refl
    by (rule.Length m) state.More n = absurd (n refl)
    by (rule.Length m) state.Whole n = refl
    by (rule.Length m) state.Cut n = refl
    by (rule.Length m) state.Misframed n = refl
    by rule.Chunked state.More n = absurd (n refl)
    by rule.Chunked state.Whole n = refl
    by rule.Chunked state.Cut n = refl
    by rule.Chunked state.Misframed n = refl
    by rule.ToClose state.More n = absurd (n refl)
    by rule.ToClose state.Whole n = refl
    by rule.ToClose state.Cut n = refl
    by rule.ToClose state.Misframed n = refl

-- chunks that are whole at the end were whole before
pub whole_before : (r : BodyRule) (failed : Bool) (s : State) → r ≡ rule.Chunked → state_at_end r failed s ≡ state.Whole → s ≡ state.Whole
whole_before r failed state.Whole e h = refl
whole_before r true state.More e h = cc
whole_before r true state.Cut e h = cc
whole_before r true state.Misframed e h = cc
whole_before rule.Chunked false state.More e h = cc
whole_before rule.Chunked false state.Cut e h = cc
whole_before rule.Chunked false state.Misframed e h = cc
whole_before rule.Absent false s e h = cc
whole_before (rule.Length n) false s e h = cc
whole_before rule.ToClose false s e h = cc

-- what a reader from the start of a body put out of all its bytes
pub decoded : (r : BodyRule) (bytes x y : List ℕ) (n : ℕ) (new : Reading) → ReaderSteps (first r) bytes x y n new → IsSettled new → (body_of r bytes).plain ≡ y
decoded r bytes x y n new steps settled =
    ap (λ (xs : List ℕ). (goes_on (first r) xs).plain) (sym (append-nil bytes)) ∙ ap (λ (p : Part). p.plain) (steps.same [])
    ∙ ap (λ (p : Part). y ++ p.plain) (nothing_left new settled) ∙ append-nil y

-- a held body, with one more piece
pub holds_on : (r : BodyRule) (rest raw raw' plain piece : List ℕ) (old new : Reading) → Read r rest raw plain old → (t : TakesOn form.Raw old piece (added raw raw') new)
    → raw' ≡ raw ++ added raw raw' → Read r (rest ++ piece) raw' (plain ++ t.plain) new
holds_on r rest raw raw' plain piece old new read t grows =
    rw (grows ∙ ap (λ (xs : List ℕ). raw ++ xs) t.put_is) (read_on r rest raw plain piece t.raw t.plain t.used old new read t.steps)

pub is_raw_on : (r : BodyRule) (raw raw' piece : List ℕ) (old new : Reading) → IsRaw r raw old → TakesOn form.Raw old piece (added raw raw') new
    → raw' ≡ raw ++ added raw raw' → IsRaw r raw' new
is_raw_on r raw raw' piece old new h t grows =
    record { rest = h.rest ++ piece; plain = h.plain ++ t.plain; read = holds_on r h.rest raw raw' h.plain piece old new h.read t grows }

-- ---- what is returned

-- of a body at its end, whatever follows
pub end_due : (w : Work) (f : Framed) (rest raw plain : List ℕ) (reader : Reading) → Read f.rule rest raw plain reader → stage_state reader.stage ≢ state.More
    → (more : List ℕ) (failed : Bool) → finished w f (body_of f.rule (rest ++ more)) failed ≡ by_end w f raw plain (stage_state reader.stage)
end_due w f rest raw plain reader read n more failed =
    rw (read.after.same more, ended_reads reader more n, append-nil raw, append-nil plain, stands_ended f.rule failed (stage_state reader.stage) n) refl

pub end_over : (f : Framed) (rest raw plain : List ℕ) (reader : Reading) → Read f.rule rest raw plain reader → stage_state reader.stage ≢ state.More
    → (more : List ℕ) → (body_of f.rule (rest ++ more)).state ≢ state.More
end_over f rest raw plain reader read n more = rw (read.after.same more, ended_reads reader more n) n

-- what the bytes so far are read to
pub read_now : (f : Framed) (rest raw plain : List ℕ) (reader : Reading) (read : Read f.rule rest raw plain reader) → IsSettled reader
    → body_of f.rule rest ≡ before raw plain read.used (nothing (stage_state reader.stage))
read_now f rest raw plain reader read settled =
    ap (goes_on (first f.rule)) (sym (append-nil rest)) ∙ read.after.same [] ∙ ap (before raw plain read.used) (nothing_left reader settled)

-- where the bytes end
pub now_due : (w : Work) (f : Framed) (rest raw plain : List ℕ) (reader : Reading) (failed : Bool) → Read f.rule rest raw plain reader → IsSettled reader
    → finished w f (body_of f.rule rest) failed ≡ by_end w f raw plain (state_at_end f.rule failed (stage_state reader.stage))
now_due w f rest raw plain reader failed read settled = rw (read_now f rest raw plain reader read settled, append-nil raw, append-nil plain) refl

-- a raw front above the limit stays above
stays_closed : (f : Framed) (n m : ℕ) → is_open_to_filters f n ≡ false → n ≤ m → is_open_to_filters f m ≡ false
stays_closed f n m h le = by f.filters h
  where
    by : (names : Option (List (List ℕ))) → (allows_filters names && nat_le n f.limit) ≡ false → (allows_filters names && nat_le m f.limit) ≡ false
    by None h = refl
    by (Some names) h = grind (arith, nat_tests, common_steps)

-- an unfiltered body, by how it stands
closed_end : (w : Work) (f : Framed) (raw plain : List ℕ) (s : State) → is_open_to_filters f (length raw) ≡ false → by_end w f raw plain s ≡ passed f raw plain (is_whole s)
closed_end w f raw plain s closed = rw closed refl

begun : (w : Work) (f : Framed) (rest raw plain : List ℕ) (reader : Reading) → Read f.rule rest raw plain reader → IsSettled reader
    → is_open_to_filters f (length raw) ≡ false → CourseAfter w f rest (passed_head f ++ formed f.form raw plain) (passing f reader)
begun w f rest raw plain reader read settled closed = by (stage_state reader.stage) refl
  where
    ends : (s : State) → stage_state reader.stage ≡ s → s ≢ state.More → FinishesBody w f rest (passed_head f ++ formed f.form raw plain) (passed_outcome f (is_whole s))
    ends s e n =
        let not_more : stage_state reader.stage ≢ state.More = λ h. n (sym e ∙ h) in
        record {
          over = end_over f rest raw plain reader read not_more;
          settled = λ more failed. end_due w f rest raw plain reader read not_more more failed ∙ closed_end w f raw plain (stage_state reader.stage) closed ∙ ap (λ (t : State). passed f raw plain (is_whole t)) e;
        }

    by : (s : State) → stage_state reader.stage ≡ s → CourseAfter w f rest (passed_head f ++ formed f.form raw plain) (passing f reader)
    by state.More e = rw e (record { raw = raw; plain = plain; read = read; more = e; excluded = closed; settled = settled; put_is = refl })
    by state.Whole e = rw e (ends state.Whole e (λ h. cc))
    by state.Cut e = rw e (ends state.Cut e (λ h. cc))
    by state.Misframed e = rw e (ends state.Misframed e (λ h. cc))

-- one more piece of an unfiltered body
pub passes_on : (w : Work) (f : Framed) (rest put piece x : List ℕ) (old new : Reading) → PassesFront f rest put old → TakesOn f.form old piece x new → IsSettled new
    → CourseAfter w f (rest ++ piece) (put ++ x) (passing f new)
passes_on w f rest put piece x old new h t settled =
    let read = read_on f.rule rest h.raw h.plain piece t.raw t.plain t.used old new h.read t.steps in
    let closed : is_open_to_filters f (length (h.raw ++ t.raw)) ≡ false = stays_closed f (length h.raw) (length (h.raw ++ t.raw)) h.excluded (omega (arith, length-append h.raw t.raw)) in
    let all : put ++ x ≡ passed_head f ++ formed f.form (h.raw ++ t.raw) (h.plain ++ t.plain) =
    rw (h.put_is, t.put_is, formed_more f.form h.raw h.plain t.raw t.plain) (append_assoc (passed_head f) (formed f.form h.raw h.plain) (formed f.form t.raw t.plain)) in
    rw all (begun w f (rest ++ piece) (h.raw ++ t.raw) (h.plain ++ t.plain) new read settled closed)

-- a held body above the limit is put out unfiltered
pub gives_up : (w : Work) (f : Framed) (rest raw plain again old mid out : List ℕ) (reader : Reading) → Read f.rule rest raw plain reader → IsSettled reader
    → is_more (stage_state reader.stage) ≡ true → is_open_to_filters f (length raw) ≡ false → again ≡ plain → mid ≡ old ++ passed_head f → out ≡ mid ++ formed f.form raw again
    → CourseAfter w f rest (added old out) (course.Passing reader)
gives_up w f rest raw plain again old mid out reader read settled more closed same head body = record {
  raw = raw;
  plain = plain;
  read = read;
  more = is_more_is (stage_state reader.stage) more;
  excluded = closed;
  settled = settled;
  put_is = put_two old mid out (passed_head f) (formed f.form raw again) head body ∙ ap (λ (p : List ℕ). passed_head f ++ formed f.form raw p) same;
}
  where
    is_more_is : (s : State) → is_more s ≡ true → s ≡ state.More
    is_more_is state.More e = refl
    is_more_is state.Whole e = cc
    is_more_is state.Cut e = cc
    is_more_is state.Misframed e = cc

-- a body within the limit is held
pub keeps_on : (w : Work) (f : Framed) (rest raw plain out : List ℕ) (reader : Reading) → Read f.rule rest raw plain reader → IsSettled reader
    → is_more (stage_state reader.stage) ≡ true → is_open_to_filters f (length raw) ≡ true → CourseAfter w f rest (added out out) (course.Holding raw reader)
keeps_on w f rest raw plain out reader read settled more allowed = record {
  plain = plain;
  read = read;
  more = by (stage_state reader.stage) more;
  allowed = allowed;
  settled = settled;
  quiet = drop-length out;
}
  where
    by : (s : State) → is_more s ≡ true → s ≡ state.More
    by state.More e = refl
    by state.Whole e = cc
    by state.Cut e = cc
    by state.Misframed e = cc

-- a held body at its end was put out
pub finishes : (w : Work) (f : Framed) (rest raw plain again old out : List ℕ) (reader : Reading) (s : State) (outcome : AnswerOutcome) → Read f.rule rest raw plain reader
    → stage_state reader.stage ≡ s → is_more s ≡ false → again ≡ plain → outcome ≡ (by_end w f raw again s).outcome → out ≡ old ++ (by_end w f raw again s).bytes
    → CourseAfter w f rest (added old out) (course.Ended outcome)
finishes w f rest raw plain again old out reader s outcome read is over same o grows =
    let not_more : stage_state reader.stage ≢ state.More = λ h. differs s (sym is ∙ h) over in
    record {
      over = end_over f rest raw plain reader read not_more;
      settled = λ more failed. end_due w f rest raw plain reader read not_more more failed ∙ due more failed;
    }
  where
    differs : (s : State) → s ≡ state.More → is_more s ≡ false → ⊥
    differs state.More e h = cc
    differs state.Whole e h = cc
    differs state.Cut e h = cc
    differs state.Misframed e h = cc

    due : (more : List ℕ) (failed : Bool) → by_end w f raw plain (stage_state reader.stage) ≡ record { bytes = added old out; outcome = outcome }
    due more failed = rw (is, sym same, put_one old out (by_end w f raw again s).bytes grows, o) refl

-- a held body was put out where its bytes end
pub ends_held : (w : Work) (f : Framed) (rest put raw again old out : List ℕ) (reader : Reading) (failed : Bool) (s : State) (outcome : AnswerOutcome) (h : Holds f rest put raw reader)
    → s ≡ state_at_end f.rule failed (stage_state reader.stage) → again ≡ h.plain → outcome ≡ (by_end w f raw again s).outcome → out ≡ old ++ (by_end w f raw again s).bytes
    → finished w f (body_of f.rule rest) failed ≡ record { bytes = put ++ added old out; outcome = outcome }
ends_held w f rest put raw again old out reader failed s outcome h is same o grows =
    now_due w f rest raw h.plain reader failed h.read h.settled ∙ rw (sym is, sym same, h.quiet, put_one old out (by_end w f raw again s).bytes grows, o) refl

-- an unfiltered one was put out before
pub ends_passing : (w : Work) (f : Framed) (rest put out : List ℕ) (reader : Reading) (failed : Bool) (s : State) (h : PassesFront f rest put reader)
    → s ≡ state_at_end f.rule failed (stage_state reader.stage)
    → finished w f (body_of f.rule rest) failed ≡ record { bytes = put ++ added out out; outcome = passed_outcome f (is_whole s) }
ends_passing w f rest put out reader failed s h is =
    let all : put ++ added out out ≡ passed_head f ++ formed f.form h.raw h.plain = ap (λ (xs : List ℕ). put ++ xs) (drop-length out) ∙ append-nil put ∙ h.put_is in
    now_due w f rest h.raw h.plain reader failed h.read h.settled ∙ rw (sym is, all) (closed_end w f h.raw h.plain s h.excluded)

-- and one that was at its end
pub ends_again : (w : Work) (f : Framed) (rest put out : List ℕ) (failed : Bool) (outcome : AnswerOutcome) → FinishesBody w f rest put outcome
    → finished w f (body_of f.rule rest) failed ≡ record { bytes = put ++ added out out; outcome = outcome }
ends_again w f rest put out failed outcome h =
    ap (λ (xs : List ℕ). finished w f (body_of f.rule xs) failed) (sym (append-nil rest)) ∙ h.settled [] failed ∙ rw (drop-length out, append-nil put) refl

-- bytes behind the end change nothing
pub stays_ended : (w : Work) (f : Framed) (rest put piece out : List ℕ) (outcome : AnswerOutcome) → FinishesBody w f rest put outcome → FinishesBody w f (rest ++ piece) (put ++ added out out) outcome
stays_ended w f rest put piece out outcome h =
    rw (drop-length out, append-nil put) (record {
      over = λ more. rw (append_assoc rest piece more) (h.over (piece ++ more));
      settled = λ more failed. rw (append_assoc rest piece more) (h.settled (piece ++ more) failed);
    })

-- ---- fronts

whole_of : (w : Work) (f : Framed) (rest put : List ℕ) (reader : Reading) (p : PassesFront f rest put reader) (more : List ℕ) (failed : Bool)
    → (finished w f (body_of f.rule (rest ++ more)) failed).bytes ≡ put ++ formed f.form (goes_on reader more).raw (goes_on reader more).plain
whole_of w f rest put reader p more failed =
    let q = goes_on reader more in
    let s = state_at_end f.rule failed q.state in
    let closed : is_open_to_filters f (length (p.raw ++ q.raw)) ≡ false = stays_closed f (length p.raw) (length (p.raw ++ q.raw)) p.excluded (omega (arith, length-append p.raw q.raw)) in
    rw (p.read.after.same more, closed, formed_more f.form p.raw p.plain q.raw q.plain, p.put_is) (sym (append_assoc (passed_head f) (formed f.form p.raw p.plain) (formed f.form q.raw q.plain)))

-- what was put out is a front of what is returned, whatever follows
pub begins : (w : Work) (f : Framed) (rest put : List ℕ) (c : Course) → CourseAfter w f rest put c → BeginsReturned w f rest put
begins w f rest put (course.Holding raw reader) h = record { front = λ more failed. rw h.quiet (grind (arith, common_steps)) }
begins w f rest put (course.Passing reader) h =
    record { front = λ more failed. rw (whole_of w f rest put reader h more failed) (take-append_seam put (formed f.form (goes_on reader more).raw (goes_on reader more).plain)) }
begins w f rest put (course.Ended outcome) h = record { front = λ more failed. rw (h.settled more failed) (grind (arith, common_steps)) }
begins w f rest put course.Wanting h = absurd h

-- a body that is broken, or whose raw front is above the limit, isn't filtered at its end
not_later : (b : Bool) (r : BodyRule) (s : State) → (b && is_sound s) ≡ false → (b && is_whole (at_end r s)) ≡ false
not_later false r s h = refl
not_later true r state.More h = cc
not_later true r state.Whole h = cc
not_later true rule.Absent state.Cut h = refl
not_later true (rule.Length n) state.Cut h = refl
not_later true rule.Chunked state.Cut h = refl
not_later true rule.ToClose state.Cut h = refl
not_later true rule.Absent state.Misframed h = refl
not_later true (rule.Length n) state.Misframed h = refl
not_later true rule.Chunked state.Misframed h = refl
not_later true rule.ToClose state.Misframed h = refl

so_far_within : (w : Work) (f : Framed) (p : Part) → length (returned_so_far f p) ≤ length (finished w f p false).bytes
so_far_within w f p = by (may_filter f (length p.raw) p.state) refl
  where
    by : (b : Bool) → may_filter f (length p.raw) p.state ≡ b → length (returned_so_far f p) ≤ length (finished w f p false).bytes
    by true e = rw e (omega arith)
    by false e = rw (e, not_later (is_open_to_filters f (length p.raw)) f.rule p.state e) (omega arith)

-- no byte that may be returned is held back
pub no_lag : (w : Work) (f : Framed) (rest put : List ℕ) (c : Course) → CourseAfter w f rest put c → length (returned_so_far f (body_of f.rule rest)) ≤ length put
no_lag w f rest put (course.Holding raw reader) h =
    rw (read_now f rest raw h.plain reader h.read h.settled, append-nil raw, h.more, h.allowed) (omega arith)
no_lag w f rest put (course.Passing reader) h =
    rw (read_now f rest h.raw h.plain reader h.read h.settled, append-nil h.raw, append-nil h.plain, h.more, h.excluded, h.put_is) (omega arith)
no_lag w f rest put (course.Ended outcome) h =
    let all : finished w f (body_of f.rule rest) false ≡ record { bytes = put; outcome = outcome } = rw (append-nil rest) at (h.settled [] false) in
    rw all at (so_far_within w f (body_of f.rule rest))
no_lag w f rest put course.Wanting h = absurd h

-- the course is at its end exactly where the body is
pub ends_exactly : (w : Work) (f : Framed) (rest put : List ℕ) (c : Course) → CourseAfter w f rest put c → is_some (ended_of c) ≡ not (is_more (body_of f.rule rest).state)
ends_exactly w f rest put (course.Holding raw reader) h = rw (read_now f rest raw h.plain reader h.read h.settled, h.more) refl
ends_exactly w f rest put (course.Passing reader) h = rw (read_now f rest h.raw h.plain reader h.read h.settled, h.more) refl
ends_exactly w f rest put (course.Ended outcome) h = by (body_of f.rule rest).state (rw (append-nil rest) at (h.over []))
  where
    by : (s : State) → s ≢ state.More → true ≡ not (is_more s)
    by state.More n = absurd (n refl)
    by state.Whole n = refl
    by state.Cut n = refl
    by state.Misframed n = refl
ends_exactly w f rest put course.Wanting h = absurd h
