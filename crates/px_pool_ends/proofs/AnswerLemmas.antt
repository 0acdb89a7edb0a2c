-- How far an answer was heard, piece by piece.
use Rattle.std.proofs.Common.{◌≡◌, ◌↔◌, ◌⊎◌, inl, inr, ℕ, ◌+◌, ◌-◌, ◌<◌, ◌≤◌, Bool, true, false, List, [], ◌∷◌, ◌++◌, length, take, drop, sym, ap, refl, subst, ◌∙◌, append_assoc, append-nil, length-append, arith, Ok, Err, take_all}
use Rattle.std.proofs.lemmas.List.{take-append-drop, take-append-le}
use Rattle.std.proofs.Math.Seq.{take-append_seam}
use Rattle.httparse.specs.Grammar as grammar
use Rattle.httparse.proofs.GrammarLemmas.{response_unique, ReadsResponse-append}
use Rattle.px_head.specs.Blocks.{head_end}
use Rattle.px_head.specs.Heads.{IsResponse, response_of, is_interim}
use Rattle.px_head.specs.declared.TheConstants.{HEAD_LIMIT}
use Rattle.px_head.specs.declared.blocks.HeadEnd.{HeadEnd}
use Rattle.px_head.specs.declared.blocks.HeadEnd.TheVariants.{At, NotYet, Over}
use Rattle.px_head.specs.declared.responses.ResponseHead.{ResponseHead}
use Rattle.px_head.proofs.BlockLemmas.{head-end-found, head-end-stable, head-end-within}
use Rattle.px_head.proofs.GrammarBlocks.{response-block}
use Rattle.px_framing.specs.Body.{Body, Part, nothing}
use Rattle.px_framing.specs.Rules.{response_rule}
use Rattle.px_framing.specs.Reading.{Reading, ReaderSteps, first, goes_on, stage_state, before}
use Rattle.px_framing.specs.declared.rules.BodyRule.{BodyRule}
use Rattle.px_framing.specs.declared.stages.Stage.{Stage}
use Rattle.px_framing.specs.declared.stages.Stage.TheVariants as stage
use Rattle.px_framing.specs.declared.places.State.{State}
use Rattle.px_framing.specs.declared.places.State.TheVariants.{More, Whole, Cut}
use Rattle.px_framing.proofs.BodyLemmas.{body-one, whole}
use Rattle.px_framing.specs.Reading.{IsSettled, IsSettledAt, is_last, place_state, reads, reads_on, cut_state}
use Rattle.px_framing.specs.declared.places.ChunkPlace.{ChunkPlace}
use Rattle.px_framing.specs.declared.places.ChunkPlace.TheVariants as place
use Rattle.std.proofs.lemmas.Grind.{common_steps}
use Rattle.std.specs.Prelude.{nat_le, if◌then◌else◌}
use Rattle.px_head.specs.Blocks.{block_len, block_of, whole_lines}
use Rattle.px_head.specs.declared.faults.HeadFault.{HeadFault}
use Rattle.px_head.specs.declared.faults.HeadFault.TheVariants as fault
use Rattle.px_head.specs.Faults.{IsHeadReadAs}
use Rattle.px_framing.proofs.StepLemmas.{reads-none}
use Rattle.px_pool_ends.specs.declared.judges.Judged.{Judged}
use Rattle.px_pool_ends.specs.declared.judges.Judged.TheVariants as judged
use Rattle.px_pool_ends.specs.Answers.{Judges, JudgedSays, IsInterim, IsFinalHead, IsWholeBody, IsAnswer, interim, final, EndsWhole}
use Rattle.px_pool_ends.proofs.HeadLemmas.{not_both}

-- ---- heads

-- two heads at the front of the same bytes are one
same_head : (b block r rest : List ℕ) (h k : ResponseHead) → IsResponse b h → IsResponse block k → b ++ r ≡ block ++ rest → (b ≡ block) × (r ≡ rest) × (h ≡ k)
same_head b block r rest h k x y e =
    let u = response_unique (b ++ r) x.tree y.tree r rest (ReadsResponse-append b x.tree [] r x.reads) (rw e (ReadsResponse-append block y.tree [] rest y.reads)) in
    (x.reads.1 ∙ ap (λ t. grammar.print_response t ++ []) u.0 ∙ sym y.reads.1, u.1, x.parts ∙ ap response_of u.0 ∙ sym y.parts)

less : (n : ℕ) → n ≡ (n + 1) - 1
less n = omega arith

pub interim_passed : (n : ℕ) (xs block rest : List ℕ) → IsAnswer n xs → xs ≡ block ++ rest → IsInterim block → (0 < n) × IsAnswer (n - 1) rest
interim_passed _ _ block rest (interim count b r i a) e k =
    let s = same_head b block r rest i.head k.head i.reads k.reads e in
    (omega arith, subst (λ m. IsAnswer m rest) (less count) (rw s.1 at a))
interim_passed _ _ block rest (final count b r rule f w) e k =
    let s = same_head b block r rest f.head k.head f.reads k.reads e in
    absurd (not_both (is_interim k.head.status) k.interim (rw s.2 at f.final))

same_rule : (a b : BodyRule) (h k : ResponseHead) → h ≡ k → response_rule h [] ≡ Ok a → response_rule k [] ≡ Ok b → a ≡ b
same_rule a b h k e p q = let o = sym p ∙ ap (λ x. response_rule x []) e ∙ q in (cc)

pub final_passed : (n : ℕ) (xs block rest : List ℕ) (rule : BodyRule) → IsAnswer n xs → xs ≡ block ++ rest → IsFinalHead block rule → IsWholeBody rule rest
final_passed _ _ block rest rule (interim count b r i a) e k =
    let s = same_head b block r rest i.head k.head i.reads k.reads e in
    absurd (not_both (is_interim k.head.status) (rw s.2 at i.interim) k.final)
final_passed _ _ block rest rule (final count b r other f w) e k =
    let s = same_head b block r rest f.head k.head f.reads k.reads e in
    rw (← s.1, ← same_rule other rule f.head k.head s.2 f.rule_is k.rule_is) w

-- what stands at the front of an answer
record Front (xs : List ℕ) : Type 0 where
  pub block : List ℕ
  pub rest : List ℕ
  pub is : xs ≡ block ++ rest
  pub end : head_end HEAD_LIMIT xs ≡ At (length block)
  pub either : IsInterim block ⊎ ((rule : BodyRule) × IsFinalHead block rule)

block_end : (block rest : List ℕ) (h : ResponseHead) → IsResponse block h → length block ≤ HEAD_LIMIT → head_end HEAD_LIMIT (block ++ rest) ≡ At (length block)
block_end block rest h x le = head-end-found HEAD_LIMIT block rest le (rw (x.reads.1 ∙ append-nil (grammar.print_response x.tree)) (response-block x.tree x.reads.0))

front : (n : ℕ) (xs : List ℕ) → IsAnswer n xs → Front xs
front _ _ (interim count b r i a) = record { block = b; rest = r; is = refl; end = block_end b r i.head i.reads i.within; either = inl i }
front _ _ (final count b r rule f w) = record { block = b; rest = r; is = refl; end = block_end b r f.head f.reads f.within; either = inr (rule, f) }

not_over : (n : ℕ) (xs : List ℕ) → head_end HEAD_LIMIT xs ≡ Over → IsAnswer n xs → ⊥
not_over n xs o a = let e = sym (front n xs a).end ∙ o in (cc)

pub never_over : (n : ℕ) (bytes more : List ℕ) → head_end HEAD_LIMIT bytes ≡ Over → IsAnswer n (bytes ++ more) → ⊥
never_over n bytes more o a = not_over n (bytes ++ more) (head-end-stable HEAD_LIMIT bytes more (λ y. let e = sym y ∙ o in (cc)) ∙ o) a

pub never_yet : (n : ℕ) (bytes : List ℕ) → head_end HEAD_LIMIT bytes ≡ NotYet → IsAnswer n (bytes ++ []) → ⊥
never_yet n bytes y a = let e = sym (front n (bytes ++ []) a).end ∙ ap (λ (x : List ℕ). head_end HEAD_LIMIT x) (append-nil bytes) ∙ y in (cc)

at_same : (m n : ℕ) (e : HeadEnd) → e ≡ At m → e ≡ At n → m ≡ n
at_same m n e p q = let o = sym p ∙ q in (cc)

never_either : (block : List ℕ) → (IsInterim block → ⊥) → ((rule : BodyRule) → IsFinalHead block rule → ⊥) → IsInterim block ⊎ ((rule : BodyRule) × IsFinalHead block rule) → ⊥
never_either block i f (inl x) = i x
never_either block i f (inr x) = f x.0 x.1

pub never_judged : (n : ℕ) (bytes more : List ℕ) (len : ℕ) → head_end HEAD_LIMIT bytes ≡ At len → (IsInterim (take len bytes) → ⊥) → ((rule : BodyRule) → IsFinalHead (take len bytes) rule → ⊥) → IsAnswer n (bytes ++ more) → ⊥
never_judged n bytes more len e i f a =
    let x = front n (bytes ++ more) a in
    let within = head-end-within HEAD_LIMIT bytes (At len) e in
    let same : len ≡ length x.block = at_same len (length x.block) (head_end HEAD_LIMIT (bytes ++ more)) (head-end-stable HEAD_LIMIT bytes more (λ y. let o = sym y ∙ e in (cc)) ∙ e) x.end in
    let is : take len bytes ≡ x.block =
    sym (take-append-le len bytes more within.1) ∙ ap (λ (y : List ℕ). take len y) x.is ∙ ap (λ k. take k (x.block ++ x.rest)) same ∙ take-append_seam x.block x.rest in
    never_either x.block (λ y. i (rw is y)) (λ rule y. f rule (rw is y)) x.either

-- no head ends among no bytes
pub none_yet : head_end HEAD_LIMIT [] ≡ NotYet
unfolding head_end block_len block_of whole_lines
none_yet = refl

-- ---- the body

pub body_read : (rule : BodyRule) (bytes : List ℕ) → Body rule bytes (goes_on (first rule) bytes)
body_read rule bytes = whole rule bytes

-- a body is whole exactly where a reader at its start reads it so
pub body_due : (rule : BodyRule) (bytes : List ℕ) → Body rule bytes (goes_on (first rule) bytes) → IsWholeBody rule bytes ↔ EndsWhole (goes_on (first rule) bytes) bytes
body_due rule bytes read = (
  λ w. let e = body-one rule bytes w.part (goes_on (first rule) bytes) w.is_body read in (ap (λ (p : Part). p.state) (sym e) ∙ w.whole, ap (λ (p : Part). p.used) (sym e) ∙ w.no_more),
  λ h. record { part = goes_on (first rule) bytes; is_body = read; whole = h.0; no_more = h.1 },
)

ended_stage : (s : Stage) (state : State) → state ≡ stage_state s → (state ≡ More → ⊥) → s ≡ stage.Ended state
ended_stage (stage.Ended a) state e n = ap stage.Ended (sym e)
ended_stage (stage.Bytes left) state e n = absurd (n e)
ended_stage (stage.Rest room) state e n = absurd (n e)
ended_stage (stage.Chunks place room) state e n = absurd (n e)

ended_reads : (r : Reading) (state : State) (more : List ℕ) → r.stage ≡ stage.Ended state → goes_on r more ≡ nothing state
unfolding goes_on
ended_reads r state more e = rw e refl

-- the piece was used, and more is due
pub more_due : (old new : Reading) (piece raw plain more : List ℕ) (used : ℕ) → ReaderSteps old piece raw plain used new → used ≡ length piece
    → EndsWhole (goes_on old (piece ++ more)) (piece ++ more) ↔ EndsWhole (goes_on new more) more
more_due old new piece raw plain more used s e = (
  λ h. (ap (λ (p : Part). p.state) (sym (s.same more)) ∙ h.0, omega (arith, ap (λ (p : Part). p.used) (s.same more), h.1, e, length-append piece more)),
  λ h. (ap (λ (p : Part). p.state) (s.same more) ∙ h.0, omega (arith, ap (λ (p : Part). p.used) (s.same more), h.1, e, length-append piece more)),
)

-- the body has ended with the piece
read_at_end : (old new : Reading) (piece raw plain more : List ℕ) (used : ℕ) (state : State) → ReaderSteps old piece raw plain used new → state ≡ stage_state new.stage → (state ≡ More → ⊥)
    → ((goes_on old (piece ++ more)).state ≡ state) × ((goes_on old (piece ++ more)).used ≡ used)
read_at_end old new piece raw plain more used state s e n =
    let r : goes_on new more ≡ nothing state = ended_reads new state more (ended_stage new.stage state e n) in
    let same = s.same more ∙ ap (λ (p : Part). before raw plain used p) r in
    (ap (λ (p : Part). p.state) same, ap (λ (p : Part). p.used) same ∙ omega arith)

no_bytes : (xs : List ℕ) → length xs ≡ 0 → xs ≡ []
no_bytes [] e = refl
no_bytes (x ∷ xs) e = absurd (omega (arith, e))

pub whole_due : (old new : Reading) (piece raw plain more : List ℕ) (used : ℕ) → ReaderSteps old piece raw plain used new → Whole ≡ stage_state new.stage → used ≡ length piece
    → EndsWhole (goes_on old (piece ++ more)) (piece ++ more) ↔ (more ≡ [])
whole_due old new piece raw plain more used s e u =
    let r = read_at_end old new piece raw plain more used Whole s e (λ x. (cc)) in (
      λ h. no_bytes more (omega (arith, r.1, h.1, u, length-append piece more)),
      λ h. (r.0, omega (arith, r.1, u, length-append piece more, ap (λ (x : List ℕ). length x) h)),
    )

pub over_due : (old new : Reading) (piece raw plain more : List ℕ) (used : ℕ) → ReaderSteps old piece raw plain used new → Whole ≡ stage_state new.stage → used ≤ length piece → (used ≡ length piece → ⊥)
    → EndsWhole (goes_on old (piece ++ more)) (piece ++ more) → ⊥
over_due old new piece raw plain more used s e le u h =
    let r = read_at_end old new piece raw plain more used Whole s e (λ x. (cc)) in
    u (omega (arith, r.1, h.1, le, length-append piece more))

pub other_due : (old new : Reading) (piece raw plain more : List ℕ) (used : ℕ) (state : State) → ReaderSteps old piece raw plain used new → state ≡ stage_state new.stage → (state ≡ More → ⊥) → (state ≡ Whole → ⊥)
    → EndsWhole (goes_on old (piece ++ more)) (piece ++ more) → ⊥
other_due old new piece raw plain more used state s e n w h =
    let r = read_at_end old new piece raw plain more used state s e n in
    w (sym r.0 ∙ h.0)

more_than_none : (n : ℕ) → 0 < n → nat_le n 0 ≡ false
more_than_none n lt = grind (arith, common_steps, lt)

not_all : (n : ℕ) (state : State) → 0 < n → (if nat_le n 0 then state else More) ≡ Whole → ⊥
not_all n state lt e = let o = ap (λ b. if b then state else More) (sym (more_than_none n lt)) ∙ e in (cc)

not_cut : (full : Bool) → cut_state More full ≡ Whole → ⊥
not_cut true e = (cc)
not_cut false e = (cc)

more_at : (place : ChunkPlace) → is_last place ≡ false → place_state place ≡ More
more_at place.Size e = refl
more_at (place.Data n) e = refl
more_at place.Gap e = refl
more_at (place.Trailers n) e = refl
more_at place.Done e = (cc)
more_at place.Wrong e = (cc)

take_none : (n : ℕ) (xs : List ℕ) → xs ≡ [] → take n xs ≡ []
take_none n xs e = take_all n xs (omega (arith, ap (λ (x : List ℕ). length x) e)) ∙ e

open_at : (s : Stage) (kept : List ℕ) → stage_state s ≡ More → IsSettledAt s kept → (reads_on s kept []).state ≡ Whole → ⊥
open_at (stage.Ended state) kept m x e = let o = sym m ∙ e in (cc)
open_at (stage.Bytes left) kept m x e = not_all left Whole x.1 e
open_at (stage.Rest room) kept m x e = not_all room Cut x.1 e
open_at (stage.Chunks place room) kept m x e =
    let none : take room [] ≡ [] = take_none room [] refl in
    let reads_none : (reads place kept (take room [])).state ≡ More =
    ap (λ (y : List ℕ). (reads place kept y).state) none ∙ ap (λ (p : Part). p.state) (reads-none place kept) ∙ more_at place x.1 in
    not_cut (nat_le room 0) (ap (λ t. cut_state t (nat_le room 0)) (sym reads_none) ∙ e)

-- a reader that is due more bytes isn't at its end
pub open_ends : (r : Reading) → stage_state r.stage ≡ More → IsSettled r → EndsWhole (goes_on r []) [] → ⊥
unfolding goes_on
open_ends r m s h = open_at r.stage r.kept m s.settled h.0

-- ---- what a head is

pub judged_head : (block : List ℕ) (head : ResponseHead) (j : Judged) → IsResponse block head → length block ≤ HEAD_LIMIT → JudgedSays head j → Judges block j
judged_head block head judged.Interim x le s = record { head = head; reads = x; within = le; interim = s }
judged_head block head (judged.Final rule) x le s = record { head = head; reads = x; within = le; final = s.0; version = s.1; same_protocol = s.2; stays = s.3; rule_is = s.4; ends = s.5 }
judged_head block head judged.Never x le s = (
  λ i. not_both (is_interim head.status) (rw (same_head block block [] [] i.head head i.reads x refl).2 at i.interim) s.0,
  λ rule f.
      let e = (same_head block block [] [] f.head head f.reads x refl).2 in
      s.1 (rw e at f.version) (rw e at f.same_protocol) (rw e at f.stays) rule (rw e at f.rule_is) f.ends,
)
judged_head block head judged.Lost x le s = s

pub judged_none : (block : List ℕ) → ((head : ResponseHead) → IsResponse block head → ⊥) → Judges block judged.Never
judged_none block none = (λ i. none i.head i.reads, λ rule f. none f.head f.reads)

pub not_read : {T : Type 0} (e : HeadFault) (head : T) → (e ≡ fault.Mem → ⊥) → IsHeadReadAs (Err e) head → ⊥
not_read e head n (inl x) = (cc)
not_read e head n (inr x) = n (let o = x in (cc))

-- ---- one more head

cut_at : (bytes more : List ℕ) (len : ℕ) → bytes ++ more ≡ take len bytes ++ (drop len bytes ++ more)
cut_at bytes more len = ap (λ (x : List ℕ). x ++ more) (sym (take-append-drop len bytes)) ∙ append_assoc (take len bytes) (drop len bytes) more

pub ninth : (passed len : ℕ) (bytes more : List ℕ) → 8 ≤ passed → IsInterim (take len bytes) → IsAnswer (8 - passed) (bytes ++ more) → ⊥
ninth passed len bytes more le i a =
    let x = interim_passed (8 - passed) (bytes ++ more) (take len bytes) (drop len bytes ++ more) a (cut_at bytes more len) i in absurd (omega (arith, x.0, le))

down : (passed : ℕ) → (8 - passed) - 1 ≡ 8 - (passed + 1)
down passed = omega arith

up : (passed : ℕ) → passed < 8 → (8 - (passed + 1)) + 1 ≡ 8 - passed
up passed lt = omega arith

pub one_passed : (passed len : ℕ) (bytes more : List ℕ) → passed < 8 → IsInterim (take len bytes) → IsAnswer (8 - passed) (bytes ++ more) ↔ IsAnswer (8 - (passed + 1)) (drop len bytes ++ more)
one_passed passed len bytes more lt i = (
  λ a.
      let x = interim_passed (8 - passed) (bytes ++ more) (take len bytes) (drop len bytes ++ more) a (cut_at bytes more len) i in
      subst (λ m. IsAnswer m (drop len bytes ++ more)) (down passed) x.1,
  λ a. subst (λ m. IsAnswer m (bytes ++ more)) (up passed lt) (rw (cut_at bytes more len) (interim (8 - (passed + 1)) (take len bytes) (drop len bytes ++ more) i a)),
)

pub both : {A B C : Type 0} → A ↔ B → B ↔ C → A ↔ C
both h k = (λ a. k.0 (h.0 a), λ c. h.1 (k.1 c))

pub body_begins : (n len : ℕ) (bytes more : List ℕ) (rule : BodyRule) → IsFinalHead (take len bytes) rule → Body rule (drop len bytes ++ more) (goes_on (first rule) (drop len bytes ++ more))
    → IsAnswer n (bytes ++ more) ↔ EndsWhole (goes_on (first rule) (drop len bytes ++ more)) (drop len bytes ++ more)
body_begins n len bytes more rule f read =
    let d = body_due rule (drop len bytes ++ more) read in (
      λ a. d.0 (final_passed n (bytes ++ more) (take len bytes) (drop len bytes ++ more) rule a (cut_at bytes more len) f),
      λ h. rw (cut_at bytes more len) (final n (take len bytes) (drop len bytes ++ more) rule f (d.1 h)),
    )
