-- What a stage reads bytes to, before and behind a piece.
use Rattle.std.proofs.Common.{◌≡◌, ◌≢◌, ℕ, ◌+◌, ◌-◌, ◌<◌, ◌≤◌, Bool, true, false, ◌==◌, cond, nat_le, min, List, [], ◌∷◌, ◌++◌, length, take, drop, refl, sym, ◌∙◌, ap, arith, append_assoc, length-append, length-take, eqb-true}
use Rattle.std.proofs.lemmas.List.{append-nil, take_all, take-take, take-append-le, take-append-drop, length-take-le}
use Rattle.std.proofs.Math.Seq.{take-append-add, drop-append_seam}
use Rattle.std.proofs.lemmas.Bool.Decides.{nat_tests}
use Rattle.px_framing.specs.declared.places.ChunkPlace.{ChunkPlace}
use Rattle.px_framing.specs.declared.places.ChunkPlace.TheVariants.{Size, Data, Gap, Trailers, Done, Wrong}
use Rattle.px_framing.specs.declared.places.State.{State}
use Rattle.px_framing.specs.declared.places.State.TheVariants.{More, Whole, Cut, Misframed}
use Rattle.px_framing.specs.declared.stages.Stage.{Stage}
use Rattle.px_framing.specs.declared.stages.Stage.TheVariants as stage
use Rattle.px_framing.specs.declared.rules.BodyRule.{BodyRule}
use Rattle.px_framing.specs.declared.rules.BodyRule.TheVariants as rule
use Rattle.px_framing.specs.Body.{nothing, first_bytes, at_end}
use Rattle.px_framing.specs.Reading.{before, reads, reads_on, goes_on, capped, cut_state, place_state, stage_state, is_last, is_ended, is_to_close, KeepsKind, stage_before, added, ReaderAfter, first_stage, end_state, Reading, ReaderSteps, IsSettled, IsSettledAt}
use Rattle.px_framing.specs.Passing.{Goes, PassesOn}
use Rattle.px_framing.proofs.MoveLemmas.{before-before}

-- all of a test: a ≤ b and not
pub le-yes : (a b : ℕ) → a ≤ b → nat_le a b ≡ true
le-yes a b h = grind (arith, nat_tests)

pub le-no : (a b : ℕ) → b < a → nat_le a b ≡ false
le-no a b h = grind (arith, nat_tests)

-- one test for another
le-same : (a b c d : ℕ) → (a ≤ b → c ≤ d) → (c ≤ d → a ≤ b) → nat_le a b ≡ nat_le c d
le-same a b c d f g = grind (arith, nat_tests)

-- ---- the kind of a body

kind-ended : (old : Stage) (s : State) (new : Stage) → new ≡ stage.Ended s → KeepsKind old new
kind-ended old s new is = record {
  ended = λ e. absurd (let both : true ≡ false = ap is_ended (sym is) ∙ e in cc);
  to_close = λ e. absurd (let both : true ≡ false = ap is_ended (sym is) ∙ e in cc);
}

kind-chunks : (p n : ChunkPlace) (room room' : ℕ) (new : Stage) → new ≡ stage.Chunks n room' → KeepsKind (stage.Chunks p room) new
kind-chunks p n room room' new is = record { ended = λ e. refl; to_close = λ e. ap is_to_close is }

kind-on : (a b c : Stage) → KeepsKind a b → KeepsKind b c → KeepsKind a c
kind-on a b c x y = record { ended = λ e. x.ended (y.ended e); to_close = λ e. y.to_close e ∙ x.to_close (y.ended e) }

kind-same : (a : Stage) → KeepsKind a a
kind-same a = record { ended = λ e. e; to_close = λ e. refl }

-- ---- the first bytes

pub first-all : (n : ℕ) (s : State) (piece rest : List ℕ) → n ≤ length piece → first_bytes n s (piece ++ rest) ≡ before (take n piece) (take n piece) n (nothing s)
first-all n s piece rest h =
    let bytes : take n (piece ++ rest) ≡ take n piece ++ [] = take-append-le n piece rest h ∙ sym (append-nil (take n piece)) in
    let count : min n (length (piece ++ rest)) ≡ n + 0 = omega (arith, length-append piece rest) in
    let full : nat_le n (length (piece ++ rest)) ≡ true = le-yes n (length (piece ++ rest)) (omega (arith, length-append piece rest)) in
    λ i. record { raw = bytes i; plain = bytes i; used = count i; state = cond (full i) s More }

pub first-part : (n : ℕ) (s : State) (piece rest : List ℕ) → length piece < n → first_bytes n s (piece ++ rest) ≡ before piece piece (length piece) (first_bytes (n - length piece) s rest)
first-part n s piece rest h =
    let split : n ≡ length piece + (n - length piece) = omega arith in
    let bytes : take n (piece ++ rest) ≡ piece ++ take (n - length piece) rest = ap (λ k. take k (piece ++ rest)) split ∙ take-append-add piece rest (n - length piece) in
    let count : min n (length (piece ++ rest)) ≡ length piece + min (n - length piece) (length rest) = omega (arith, length-append piece rest) in
    let full : nat_le n (length (piece ++ rest)) ≡ nat_le (n - length piece) (length rest) =
    let len = length-append piece rest in le-same n (length (piece ++ rest)) (n - length piece) (length rest) (λ a. omega arith) (λ a. omega arith) in
    λ i. record { raw = bytes i; plain = bytes i; used = count i; state = cond (full i) s More }

-- ---- chunks

pub reads-last : (p : ChunkPlace) (k rest : List ℕ) → is_last p ≡ true → reads p k rest ≡ nothing (place_state p)
unfolding reads
reads-last p k [] e = refl
reads-last p k (b ∷ rest) e = rw e refl

pub reads-none : (p : ChunkPlace) (k : List ℕ) → reads p k [] ≡ nothing (place_state p)
unfolding reads
reads-none p k = refl

state-last : (p : ChunkPlace) (full : Bool) → is_last p ≡ true → cut_state (place_state p) full ≡ place_state p
state-last Size full e = absurd (cc)
state-last (Data n) full e = absurd (cc)
state-last Gap full e = absurd (cc)
state-last (Trailers n) full e = absurd (cc)
state-last Done full e = refl
state-last Wrong full e = refl

state-more : (p : ChunkPlace) → is_last p ≡ false → place_state p ≡ More
state-more Size e = refl
state-more (Data n) e = refl
state-more Gap e = refl
state-more (Trailers n) e = refl
state-more Done e = absurd (cc)
state-more Wrong e = absurd (cc)

-- the end of the body is reached
chunks-last : (p n : ChunkPlace) (room used : ℕ) (k k' piece rest put data_put : List ℕ) → is_last n ≡ true → used ≤ min room (length piece)
    → ((more : List ℕ) → reads p k (take used (take room piece) ++ more) ≡ before put data_put (length (take used (take room piece))) (reads n k' more))
    → reads_on (stage.Chunks p room) k (piece ++ rest) ≡ before put data_put used (nothing (place_state n))
chunks-last p n room used k k' piece rest put data_put last fits same =
    let window : take used (take room (piece ++ rest)) ≡ take used (take room piece) =
    take-take used room (piece ++ rest) (omega arith) ∙ take-append-le used piece rest (omega arith) ∙ sym (take-take used room piece (omega arith)) in
    let bytes : take room (piece ++ rest) ≡ take used (take room piece) ++ drop used (take room (piece ++ rest)) =
    sym (take-append-drop used (take room (piece ++ rest))) ∙ ap (λ (w : List ℕ). w ++ drop used (take room (piece ++ rest))) window in
    let len : length (take used (take room piece)) ≡ used = length-take-le used (take room piece) (omega (arith, length-take room piece)) in
    let full = nat_le room (length (piece ++ rest)) in
    let found : reads p k (take room (piece ++ rest)) ≡ before put data_put used (nothing (place_state n)) =
    ap (reads p k) bytes ∙ same (drop used (take room (piece ++ rest))) ∙ (λ i. before put data_put (len i) (reads-last n k' (drop used (take room (piece ++ rest))) last i)) in
    ap (capped full) found ∙ (λ i. record { raw = put ++ []; plain = data_put ++ []; used = used + 0; state = state-last n full last i })

-- the greatest number of bytes is reached
chunks-full : (p n : ChunkPlace) (room used : ℕ) (k k' piece rest put data_put : List ℕ) → is_last n ≡ false → room ≤ length piece → used ≡ room
    → ((more : List ℕ) → reads p k (take used (take room piece) ++ more) ≡ before put data_put (length (take used (take room piece))) (reads n k' more))
    → reads_on (stage.Chunks p room) k (piece ++ rest) ≡ before put data_put used (nothing Cut)
chunks-full p n room used k k' piece rest put data_put going long all same =
    let len : length (take used (take room piece)) ≡ used = length-take-le used (take room piece) (omega (arith, length-take room piece)) in
    let taken : take used (take room piece) ≡ take room piece = take-take used room piece (omega arith) ∙ ap (λ m. take m piece) all in
    let bytes : take room (piece ++ rest) ≡ take used (take room piece) ++ [] = take-append-le room piece rest long ∙ sym taken ∙ sym (append-nil (take used (take room piece))) in
    let full : nat_le room (length (piece ++ rest)) ≡ true = le-yes room (length (piece ++ rest)) (omega (arith, length-append piece rest)) in
    let found : reads p k (take room (piece ++ rest)) ≡ before put data_put used (nothing (place_state n)) =
    ap (reads p k) bytes ∙ same [] ∙ (λ i. before put data_put (len i) (reads-none n k' i)) in
    (λ i. capped (full i) (found i)) ∙ (λ i. record { raw = put ++ []; plain = data_put ++ []; used = used + 0; state = cut_state (state-more n going i) true })

-- the body may go on
chunks-on : (p n : ChunkPlace) (room used : ℕ) (k k' piece rest put data_put : List ℕ) → length piece < room → used ≡ length piece
    → ((more : List ℕ) → reads p k (take used (take room piece) ++ more) ≡ before put data_put (length (take used (take room piece))) (reads n k' more))
    → reads_on (stage.Chunks p room) k (piece ++ rest) ≡ before put data_put used (reads_on (stage.Chunks n (room - used)) k' rest)
chunks-on p n room used k k' piece rest put data_put short all same =
    let taken : take used (take room piece) ≡ piece = ap (λ (w : List ℕ). take used w) (take_all room piece (omega arith)) ∙ take_all used piece (omega arith) in
    let split : room ≡ length piece + (room - used) = omega arith in
    let bytes : take room (piece ++ rest) ≡ take used (take room piece) ++ take (room - used) rest =
    ap (λ m. take m (piece ++ rest)) split ∙ take-append-add piece rest (room - used) ∙ ap (λ (w : List ℕ). w ++ take (room - used) rest) (sym taken) in
    let len : length (take used (take room piece)) ≡ used = ap length taken ∙ sym all in
    let full : nat_le room (length (piece ++ rest)) ≡ nat_le (room - used) (length rest) =
    let sum = length-append piece rest in le-same room (length (piece ++ rest)) (room - used) (length rest) (λ a. omega arith) (λ a. omega arith) in
    let found : reads p k (take room (piece ++ rest)) ≡ before put data_put used (reads n k' (take (room - used) rest)) =
    ap (reads p k) bytes ∙ same (take (room - used) rest) ∙ (λ i. before put data_put (len i) (reads n k' (take (room - used) rest))) in
    λ i. capped (full i) (found i)

-- behind a piece, by how it went
pass-at : (last full : Bool) (p n : ChunkPlace) (room used : ℕ) (k k' kept' piece put : List ℕ) (s : Stage) → is_last n ≡ last → (room - used == 0) ≡ full
    → s ≡ cond last (stage.Ended (place_state n)) (cond full (stage.Ended Cut) (stage.Chunks n (room - used))) → used ≤ min room (length piece) → (is_last n ≡ false → used ≡ min room (length piece))
    → Goes p k (take used (take room piece)) put n k' → (is_last n ≡ false → 0 < room - used → kept' ≡ k') → PassesOn (stage.Chunks p room) k piece put used s kept'
pass-at true full p n room used k k' kept' piece put s e f is fits all m keeps = record {
  data_put = m.data_put;
  same = λ rest. chunks-last p n room used k k' piece rest put m.data_put e fits m.same ∙ ap (λ (t : Stage). before put m.data_put used (reads_on t kept' rest)) (sym is);
  kind = kind-ended (stage.Chunks p room) (place_state n) s is;
}
pass-at false true p n room used k k' kept' piece put s e f is fits all m keeps =
    let gone : room - used ≡ 0 = eqb-true (room - used) 0 f in
    let whole = all e in
    record {
      data_put = m.data_put;
      same = λ rest. chunks-full p n room used k k' piece rest put m.data_put e (omega arith) (omega arith) m.same ∙ ap (λ (t : Stage). before put m.data_put used (reads_on t kept' rest)) (sym is);
      kind = kind-ended (stage.Chunks p room) Cut s is;
    }
pass-at false false p n room used k k' kept' piece put s e f is fits all m keeps =
    let some : 0 < room - used = grind (arith, nat_tests) in
    let whole = all e in
    record {
      data_put = m.data_put;
      same = λ rest. chunks-on p n room used k k' piece rest put m.data_put (omega arith) (omega arith) m.same
          ∙ ap (λ (w : List ℕ). before put m.data_put used (reads_on (stage.Chunks n (room - used)) w rest)) (sym (keeps e some))
          ∙ ap (λ (t : Stage). before put m.data_put used (reads_on t kept' rest)) (sym is);
      kind = kind-chunks p n room (room - used) s is;
    }

pub pass-chunks : (p n : ChunkPlace) (room used : ℕ) (k k' kept' piece put : List ℕ) (s : Stage) → s ≡ stage_before n (room - used) → used ≤ min room (length piece) → (is_last n ≡ false → used ≡ min room (length piece))
    → Goes p k (take used (take room piece)) put n k' → (is_last n ≡ false → 0 < room - used → kept' ≡ k') → PassesOn (stage.Chunks p room) k piece put used s kept'
pass-chunks p n room used k k' kept' piece put s is fits all m keeps = pass-at (is_last n) (room - used == 0) p n room used k k' kept' piece put s refl refl is fits all m keeps

-- the stage isn't ended, where the body may go on
pub chunks-kept : (n : ChunkPlace) (room : ℕ) (s : Stage) → s ≡ stage_before n room → is_ended s ≡ true → is_last n ≡ false → 0 < room → ⊥
chunks-kept n room s is ended going some =
    let open_ : (room == 0) ≡ false = grind (arith, nat_tests) in
    let e : s ≡ stage.Chunks n room = is ∙ (λ i. cond (going i) (stage.Ended (place_state n)) (cond (open_ i) (stage.Ended Cut) (stage.Chunks n room))) in
    let both : true ≡ false = sym ended ∙ ap is_ended e in
    cc

-- ---- readers

-- what was added is what was put
pub added-is : (old new put : List ℕ) → new ≡ old ++ put → added old new ≡ put
added-is old new put e = ap (drop (length old)) e ∙ drop-append_seam old put

-- one piece after another
pub steps-on : (a b c : Reading) (b1 b2 r1 r2 q1 q2 : List ℕ) (n1 n2 : ℕ) → ReaderSteps a b1 r1 q1 n1 b → ReaderSteps b b2 r2 q2 n2 c → ReaderSteps a (b1 ++ b2) (r1 ++ r2) (q1 ++ q2) (n1 + n2) c
steps-on a b c b1 b2 r1 r2 q1 q2 n1 n2 x y = record {
  same = λ rest. ap (goes_on a) (append_assoc b1 b2 rest) ∙ x.same (b2 ++ rest) ∙ ap (before r1 q1 n1) (y.same rest) ∙ before-before r1 q1 r2 q2 n1 n2 (goes_on c rest);
  kind = kind-on a.stage b.stage c.stage x.kind y.kind;
}

pub steps-none : (r : Reading) → ReaderSteps r [] [] [] 0 r
steps-none r = record { same = λ rest. λ i. record { raw = (goes_on r rest).raw; plain = (goes_on r rest).plain; used = (let e : (goes_on r rest).used ≡ 0 + (goes_on r rest).used = omega arith in e) i; state = (goes_on r rest).state }; kind = kind-same r.stage }

bytes-none : (n : ℕ) (s : State) → 0 < n → first_bytes n s [] ≡ nothing More
bytes-none n s some =
    let low : 0 ≤ n = omega arith in
    let none : take n [] ≡ [] = take_all {A = ℕ} n [] low in
    let count : min n 0 ≡ 0 = omega arith in
    let full : nat_le n 0 ≡ false = le-no n 0 some in
    λ i. record { raw = none i; plain = none i; used = count i; state = cond (full i) s More }

nothing-at : (s : Stage) (k : List ℕ) → IsSettledAt s k → reads_on s k [] ≡ nothing (stage_state s)
nothing-at (stage.Ended state) k h = refl
nothing-at (stage.Bytes n) k h = bytes-none n Whole h.1
nothing-at (stage.Rest n) k h = bytes-none n Cut h.1
nothing-at (stage.Chunks p room) k h =
    let low : 0 ≤ room = omega arith in
    let none : take room [] ≡ [] = take_all room [] low in
    let found : reads p k (take room []) ≡ nothing More = ap (reads p k) none ∙ reads-none p k ∙ ap nothing (state-more p h.1) in
    let full : nat_le room 0 ≡ false = le-no room 0 h.2 in
    λ i. capped (full i) (found i)

-- a settled reader puts out nothing by itself
pub nothing-left : (r : Reading) → IsSettled r → goes_on r [] ≡ nothing (stage_state r.stage)
unfolding goes_on
nothing-left r settled = nothing-at r.stage r.kept settled.settled

-- what the end makes of a reader's stage is what it makes of the rule
pub end-of : (r : BodyRule) (bytes raw plain : List ℕ) (used : ℕ) (reader : Reading) → ReaderAfter r bytes raw plain used reader → IsSettled reader → end_state reader.stage ≡ at_end r (stage_state reader.stage)
end-of r bytes raw plain used reader after settled = end-at r reader.stage reader.kept settled.settled after.kind
  where
    ended-at : (q : BodyRule) (s : State) → s ≢ More → s ≡ at_end q s
    ended-at q More n = absurd (n refl)
    ended-at q Whole n = refl
    ended-at q Cut n = refl
    ended-at q Misframed n = refl

    first-at : (c : Bool) (n : ℕ) → is_to_close (cond c (stage.Ended Whole) (stage.Bytes n)) ≡ false
    first-at true n = refl
    first-at false n = refl

    open-at : (q : BodyRule) (s : Stage) → is_ended s ≡ false → is_to_close s ≡ is_to_close (first_stage q) → end_state s ≡ at_end q More
    open-at q (stage.Ended t) open_ e = absurd (cc)
    open-at rule.ToClose (stage.Bytes n) open_ e = absurd (cc)
    open-at rule.ToClose (stage.Rest n) open_ e = refl
    open-at rule.ToClose (stage.Chunks p n) open_ e = absurd (cc)
    open-at rule.Absent (stage.Bytes n) open_ e = refl
    open-at rule.Absent (stage.Rest n) open_ e = absurd (cc)
    open-at rule.Absent (stage.Chunks p n) open_ e = refl
    open-at (rule.Length m) (stage.Bytes n) open_ e = refl
    open-at (rule.Length m) (stage.Rest n) open_ e = let f : true ≡ false = e ∙ first-at (m == 0) m in absurd (cc)
    open-at (rule.Length m) (stage.Chunks p n) open_ e = refl
    open-at rule.Chunked (stage.Bytes n) open_ e = refl
    open-at rule.Chunked (stage.Rest n) open_ e = absurd (cc)
    open-at rule.Chunked (stage.Chunks p n) open_ e = refl

    end-at : (q : BodyRule) (s : Stage) (k : List ℕ) → IsSettledAt s k → KeepsKind (first_stage q) s → end_state s ≡ at_end q (stage_state s)
    end-at q (stage.Ended t) k h kind = ended-at q t h.1
    end-at q (stage.Bytes n) k h kind = open-at q (stage.Bytes n) refl (kind.to_close refl)
    end-at q (stage.Rest n) k h kind = open-at q (stage.Rest n) refl (kind.to_close refl)
    end-at q (stage.Chunks p n) k h kind = open-at q (stage.Chunks p n) refl (kind.to_close refl)
