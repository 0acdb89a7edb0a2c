-- What a body is read to at its end is the same whatever follows.
use Rattle.std.proofs.Common.{◌≡◌, ◌≢◌, ℕ, ◌+◌, ◌-◌, ◌<◌, ◌≤◌, Bool, true, false, cond, nat_le, min, List, [], ◌∷◌, ◌++◌, length, take, sym, ap, ◌∙◌, refl, arith, length-append}
use Rattle.std.proofs.lemmas.Grind.{common_steps}
use Rattle.std.proofs.lemmas.Bool.Decides.{nat_tests}
use Rattle.std.proofs.lemmas.List.{take-append-le}
use Rattle.std.proofs.Math.Seq.{take-append-add}
use Rattle.px_framing.specs.Body.{Part, nothing, first_bytes}
use Rattle.px_framing.specs.Reading.{before, cut_state, first, goes_on, is_last, reads, reads_on, place_state, step, ByteStep}
use Rattle.px_framing.specs.declared.places.ChunkPlace.{ChunkPlace}
use Rattle.px_framing.specs.declared.places.ChunkPlace.TheVariants as place
use Rattle.px_framing.specs.declared.places.State.{State}
use Rattle.px_framing.specs.declared.places.State.TheVariants as state
use Rattle.px_framing.specs.declared.stages.Stage.{Stage}
use Rattle.px_framing.specs.declared.stages.Stage.TheVariants as stage
use Rattle.px_answers.specs.declared.forms.Framed.{Framed}
use Rattle.px_answers.specs.Forms.{body_of}
use Rattle.px_answers.specs.Finished.{Work, finished, by_end}
use Rattle.px_answers.proofs.PassageLemmas.{stands_ended}

-- behind the last place nothing is read
last_over : (p : ChunkPlace) (kept more : List ℕ) → place_state p ≢ state.More → reads p kept more ≡ nothing (place_state p)
unfolding reads
last_over p kept [] n = refl
last_over place.Size kept (b ∷ bs) n = absurd (n refl)
last_over (place.Data m) kept (b ∷ bs) n = absurd (n refl)
last_over place.Gap kept (b ∷ bs) n = absurd (n refl)
last_over (place.Trailers m) kept (b ∷ bs) n = absurd (n refl)
last_over place.Done kept (b ∷ bs) n = refl
last_over place.Wrong kept (b ∷ bs) n = refl

reads_over : (p : ChunkPlace) (kept bytes more : List ℕ) → (reads p kept bytes).state ≢ state.More → reads p kept (bytes ++ more) ≡ reads p kept bytes
unfolding reads
reads_over p kept [] more n = last_over p kept more n
reads_over p kept (b ∷ bs) more n =
    by (step p kept b) (reads_over (step p kept b).next (step p kept b).kept bs more) (is_last p) n
  where
    by : (s : ByteStep) → ((reads s.next s.kept bs).state ≢ state.More → reads s.next s.kept (bs ++ more) ≡ reads s.next s.kept bs) → (last : Bool)
        → (cond last (nothing (place_state p)) (before s.raw s.plain 1 (reads s.next s.kept bs))).state ≢ state.More
        → cond last (nothing (place_state p)) (before s.raw s.plain 1 (reads s.next s.kept (bs ++ more))) ≡ cond last (nothing (place_state p)) (before s.raw s.plain 1 (reads s.next s.kept bs))
    by s same true n = refl
    by s same false n = ap (before s.raw s.plain 1) (same n)

first_over : (n : ℕ) (s : State) (bytes more : List ℕ) → (first_bytes n s bytes).state ≢ state.More → first_bytes n s (bytes ++ more) ≡ first_bytes n s bytes
first_over n s bytes more not_more = by (nat_le n (length bytes)) refl
  where
    by : (enough : Bool) → nat_le n (length bytes) ≡ enough → first_bytes n s (bytes ++ more) ≡ first_bytes n s bytes
    by false e = absurd (not_more (rw e refl))
    by true e =
        let le : n ≤ length bytes = grind (arith, nat_tests) in
        let longer : nat_le n (length (bytes ++ more)) ≡ true = rw (length-append bytes more) (grind (arith, nat_tests)) in
        let counts : min n (length (bytes ++ more)) ≡ min n (length bytes) = omega (arith, le, length-append bytes more) in
        rw (e, longer, counts, take-append-le n bytes more le) refl

keeps_state : (s : State) (full : Bool) → s ≢ state.More → cut_state s full ≡ s
keeps_state state.More full n = absurd (n refl)
keeps_state state.Whole full n = refl
keeps_state state.Cut full n = refl
keeps_state state.Misframed full n = refl

stage_over : (s : Stage) (kept bytes more : List ℕ) → (reads_on s kept bytes).state ≢ state.More → reads_on s kept (bytes ++ more) ≡ reads_on s kept bytes
stage_over (stage.Ended x) kept bytes more n = refl
stage_over (stage.Bytes left) kept bytes more n = first_over left state.Whole bytes more n
stage_over (stage.Rest room) kept bytes more n = first_over room state.Cut bytes more n
stage_over (stage.Chunks p room) kept bytes more n = by (nat_le room (length bytes)) refl
  where
    by : (full : Bool) → nat_le room (length bytes) ≡ full → reads_on (stage.Chunks p room) kept (bytes ++ more) ≡ reads_on (stage.Chunks p room) kept bytes
    by true e =
        let le : room ≤ length bytes = grind (arith, nat_tests) in
        let longer : nat_le room (length (bytes ++ more)) ≡ true = rw (length-append bytes more) (grind (arith, nat_tests)) in
        rw (e, longer, take-append-le room bytes more le) refl
    by false e =
        let lt : length bytes < room = grind (arith, nat_tests) in
        let all : take room bytes ≡ bytes = grind (arith, common_steps) in
        let x = take (room - length bytes) more in
        let count : room ≡ length bytes + (room - length bytes) = omega arith in
        let front : take room (bytes ++ more) ≡ bytes ++ x = ap (λ (n : ℕ). take n (bytes ++ more)) count ∙ take-append-add bytes more (room - length bytes) in
        let open_ : (reads p kept bytes).state ≢ state.More = λ h. n (rw (e, all, h) refl) in
        let same : reads p kept (bytes ++ x) ≡ reads p kept bytes = reads_over p kept bytes x open_ in
        rw (e, all, front, same, keeps_state (reads p kept bytes).state (nat_le room (length (bytes ++ more))) open_, keeps_state (reads p kept bytes).state false open_) refl

-- what is returned is settled there
pub settled : (w : Work) (f : Framed) (bytes more : List ℕ) (failed : Bool) → (body_of f.rule bytes).state ≢ state.More
    → finished w f (body_of f.rule (bytes ++ more)) failed ≡ finished w f (body_of f.rule bytes) false
unfolding goes_on
settled w f bytes more failed n =
    let p = body_of f.rule bytes in
    ap (λ (q : Part). finished w f q failed) (stage_over (first f.rule).stage [] bytes more n)
    ∙ ap (by_end w f p.raw p.plain) (stands_ended f.rule failed p.state n ∙ sym (stands_ended f.rule false p.state n))
