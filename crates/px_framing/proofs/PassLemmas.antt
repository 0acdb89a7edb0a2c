-- What is passed on of a piece.
use Rattle.std.proofs.Common.{◌≡◌, ◌≢◌, ℕ, zero, suc, ◌+◌, ◌-◌, ◌<◌, ◌≤◌, Bool, true, false, ◌==◌, cond, min, List, [], ◌∷◌, ◌++◌, length, take, drop, refl, sym, ◌∙◌, ap, subst, arith, append_assoc, length-append, length-take}
use Rattle.std.proofs.lemmas.List.{append-nil, take_all, take-take}
use Rattle.std.proofs.Math.Seq.{drop-append_seam}
use Rattle.std.proofs.lemmas.Bool.Decides.{nat_tests}
use Rattle.px_framing.specs.declared.places.ChunkPlace.{ChunkPlace}
use Rattle.px_framing.specs.declared.places.ChunkPlace.TheVariants.{Size, Data, Gap, Trailers, Done, Wrong}
use Rattle.px_framing.specs.declared.stages.Stage.{Stage}
use Rattle.px_framing.specs.declared.stages.Stage.TheVariants as stage
use Rattle.px_framing.specs.declared.places.State.{State}
use Rattle.px_framing.specs.Body.{Part, nothing, first_bytes}
use Rattle.px_framing.specs.Reading.{before, reads_on, goes_on, is_ended, is_last, is_to_close, end_state, stage_before, stage_state, place_state, IsHeld, Uses, KeepsKind, Reading, ReaderSteps, IsSettled, IsSettledAt}
use Rattle.px_framing.specs.declared.places.State.TheVariants.{More, Whole, Cut, Misframed}
use Rattle.px_framing.specs.Passing.{Goes, PassesOn, settled, bytes_left, data_in, due_part, last_state, IsDataOf}
use Rattle.px_framing.proofs.MoveLemmas.{goes-more, taken-on}
use Rattle.px_framing.proofs.BodyLemmas.{whole-from}
use Rattle.px_framing.proofs.StepLemmas.{pass-chunks, first-all, first-part, nothing-left}

settled-some : (k piece : List ℕ) (n : ℕ) → 0 < n → settled k piece n ≡ k ++ take n piece
settled-some k piece n some = let e : (n == 0) ≡ false = grind (arith, nat_tests) in ap (λ c. cond c [] (k ++ take n piece)) e

-- all that came is settled or kept
all-taken : (k k1 s piece : List ℕ) (at used : ℕ) → s ++ k1 ≡ k ++ take at piece → s ++ (k1 ++ take used (drop at piece)) ≡ k ++ take (at + used) piece
all-taken k k1 s piece at used all =
    sym (append_assoc s k1 (take used (drop at piece))) ∙ ap (λ (w : List ℕ). w ++ take used (drop at piece)) all
    ∙ append_assoc k (take at piece) (take used (drop at piece)) ∙ ap (λ (w : List ℕ). k ++ w) (taken-on piece at used)

-- a step further in a piece
pub goes-step : (p m n : ChunkPlace) (k k1 k2 piece : List ℕ) (at used whole : ℕ) (ends : Bool) → 0 < used → Goes p k (take at piece) (settled k piece whole) m k1 → settled k piece whole ++ k1 ≡ k ++ take at piece
    → Goes m k1 (take used (drop at piece)) (cond ends (k1 ++ take used (drop at piece)) []) n k2 → Goes p k (take (at + used) piece) (settled k piece (cond ends (at + used) whole)) n k2
goes-step p m n k k1 k2 piece at used whole true some x all y =
    subst (λ (w : List ℕ). Goes p k (take (at + used) piece) w n k2) (all-taken k k1 (settled k piece whole) piece at used all ∙ sym (settled-some k piece (at + used) (omega arith)))
    (goes-more p m n k k1 k2 piece (settled k piece whole) (k1 ++ take used (drop at piece)) at used x y)
goes-step p m n k k1 k2 piece at used whole false some x all y =
    subst (λ (w : List ℕ). Goes p k (take (at + used) piece) w n k2) (append-nil (settled k piece whole)) (goes-more p m n k k1 k2 piece (settled k piece whole) [] at used x y)

pub all-step : (k k1 k2 piece : List ℕ) (at used whole : ℕ) (ends : Bool) → 0 < used → settled k piece whole ++ k1 ≡ k ++ take at piece → (ends ≡ true → k2 ≡ []) → (ends ≡ false → k2 ≡ k1 ++ take used (drop at piece))
    → settled k piece (cond ends (at + used) whole) ++ k2 ≡ k ++ take (at + used) piece
all-step k k1 k2 piece at used whole true some all fresh grows =
    ap (λ (w : List ℕ). settled k piece (at + used) ++ w) (fresh refl) ∙ append-nil (settled k piece (at + used)) ∙ settled-some k piece (at + used) (omega arith)
all-step k k1 k2 piece at used whole false some all fresh grows =
    ap (λ (w : List ℕ). settled k piece whole ++ w) (grows refl) ∙ all-taken k k1 (settled k piece whole) piece at used all

-- little is kept
pub kept-len : (k k1 piece : List ℕ) (at whole : ℕ) → settled k piece whole ++ k1 ≡ k ++ take at piece → length k1 ≤ length k + at
kept-len k k1 piece at whole all =
    let left = length-append (settled k piece whole) k1 in
    let right = length-append k (take at piece) in
    let same = ap (λ (w : List ℕ). length w) all in
    let few = length-take at piece in
    omega arith

-- ---- stages

-- only the first bytes up to the limit are looked at
window : (k piece : List ℕ) (whole room : ℕ) → whole ≤ room → settled k (take room piece) whole ≡ settled k piece whole
window k piece whole room fits = ap (λ (w : List ℕ). cond (whole == 0) [] (k ++ w)) (take-take whole room piece fits)

pub chunks-pass : (p n : ChunkPlace) (room used whole : ℕ) (k k' kept' piece : List ℕ) (s : Stage) → s ≡ stage_before n (room - used) → whole ≤ used → used ≤ min room (length piece) → (is_last n ≡ false → used ≡ min room (length piece))
    → Goes p k (take used (take room piece)) (settled k (take room piece) whole) n k' → (is_last n ≡ false → 0 < room - used → kept' ≡ k') → PassesOn (stage.Chunks p room) k piece (settled k piece whole) used s kept'
chunks-pass p n room used whole k k' kept' piece s is within fits all g keeps =
    subst (λ (w : List ℕ). PassesOn (stage.Chunks p room) k piece w used s kept') (window k piece whole room (omega arith))
    (pass-chunks p n room used k k' kept' piece (settled k (take room piece) whole) s is fits all g keeps)

last-not-more : (p : ChunkPlace) → is_last p ≡ true → place_state p ≡ More → ⊥
last-not-more Size l e = cc
last-not-more (Data n) l e = cc
last-not-more Gap l e = cc
last-not-more (Trailers n) l e = cc
last-not-more Done l e = cc
last-not-more Wrong l e = cc

settled-at : (last full : Bool) (n : ChunkPlace) (room : ℕ) (s : Stage) (k k' : List ℕ) → is_last n ≡ last → (room == 0) ≡ full → s ≡ cond last (stage.Ended (place_state n)) (cond full (stage.Ended Cut) (stage.Chunks n room)) → IsHeld n k
    → (is_ended s ≡ true → k' ≡ []) → (is_ended s ≡ false → k' ≡ k) → IsSettledAt s k'
settled-at true full n room s k k' e f is held clear same = subst (λ (t : Stage). IsSettledAt t k') (sym is) (clear (ap is_ended is), last-not-more n e)
settled-at false true n room s k k' e f is held clear same = subst (λ (t : Stage). IsSettledAt t k') (sym is) (clear (ap is_ended is), λ x. cc)
settled-at false false n room s k k' e f is held clear same =
    let some : 0 < room = grind (arith, nat_tests) in
    subst (λ (t : Stage). IsSettledAt t k') (sym is) (subst (IsHeld n) (sym (same (ap is_ended is))) held, e, some)

-- the stage behind a piece is settled
pub settled-before : (n : ChunkPlace) (room : ℕ) (s : Stage) (k k' : List ℕ) → s ≡ stage_before n room → IsHeld n k → (is_ended s ≡ true → k' ≡ []) → (is_ended s ≡ false → k' ≡ k) → IsSettledAt s k'
settled-before n room s k k' is held clear same = settled-at (is_last n) (room == 0) n room s k k' refl refl is held clear same

more-from : (last full : Bool) (n : ChunkPlace) (room : ℕ) (s : Stage) → is_last n ≡ last → (room == 0) ≡ full → s ≡ cond last (stage.Ended (place_state n)) (cond full (stage.Ended Cut) (stage.Chunks n room)) → stage_state s ≡ More
    → (is_last n ≡ false) × (0 < room) × (s ≡ stage.Chunks n room)
more-from true full n room s e f is more = absurd (last-not-more n e (sym (ap stage_state is) ∙ more))
more-from false true n room s e f is more = absurd (let both : Cut ≡ More = sym (ap stage_state is) ∙ more in cc)
more-from false false n room s e f is more = (e, (let some : 0 < room = grind (arith, nat_tests) in some), is)

-- a chunked body that may go on behind a piece
pub more-before : (n : ChunkPlace) (room : ℕ) (s : Stage) → s ≡ stage_before n room → stage_state s ≡ More → (is_last n ≡ false) × (0 < room) × (s ≡ stage.Chunks n room)
more-before n room s is more = more-from (is_last n) (room == 0) n room s refl refl is more

-- it used the whole piece
pub uses-chunks : (n : ChunkPlace) (room used : ℕ) (s : Stage) (piece : List ℕ) → s ≡ stage_before n (room - used) → used ≤ min room (length piece) → (is_last n ≡ false → used ≡ min room (length piece)) → Uses piece used (stage_state s)
uses-chunks n room used s piece is fits all = record {
  within = omega arith;
  all = λ more. let m = more-before n (room - used) s is more in let whole = all m.0 in let some = m.1 in omega arith;
}

-- and may take so many fewer
pub left-chunks : (n : ChunkPlace) (room used : ℕ) (s : Stage) → s ≡ stage_before n (room - used) → used ≤ room → stage_state s ≡ More → bytes_left s + used ≡ room
left-chunks n room used s is fits more = let m = more-before n (room - used) s is more in let e : bytes_left s ≡ room - used = ap bytes_left m.2 in omega arith

-- ---- readers

-- what a passing says of the whole reader: its data are those that the old reader reads in the piece
pub steps-passed : (old new : Reading) (piece put : List ℕ) (used : ℕ) → PassesOn old.stage old.kept piece put used new.stage new.kept → IsSettled new → ReaderSteps old piece put (data_in old piece) used new
unfolding goes_on
steps-passed old new piece put used a settled_ =
    let now : goes_on old piece ≡ before put a.data_put used (goes_on new []) = ap (goes_on old) (sym (append-nil piece)) ∙ a.same [] in
    let none : (goes_on new []).plain ≡ [] = ap (λ (x : Part). x.plain) (nothing-left new settled_) in
    let data_is : data_in old piece ≡ a.data_put = ap (λ (x : Part). x.plain) now ∙ ap (λ (w : List ℕ). a.data_put ++ w) none ∙ append-nil a.data_put in
    record { same = λ rest. a.same rest ∙ ap (λ (w : List ℕ). before put w used (goes_on new rest)) (sym data_is); kind = a.kind }

-- what was added and the first bytes of the piece are what is settled
pub put-all : (k l l' piece : List ℕ) (whole : ℕ) → (whole ≡ 0 → l' ≡ l) → (0 < whole → l' ≡ l ++ k) → drop (length l) l' ++ take whole piece ≡ settled k piece whole
put-all k l l' piece zero none some = ap (λ (w : List ℕ). drop (length l) w ++ []) (none refl) ∙ append-nil (drop (length l) l) ∙ drop-all l
  where
    drop-all : (xs : List ℕ) → drop (length xs) xs ≡ []
    drop-all [] = refl
    drop-all (x ∷ xs) = drop-all xs
put-all k l l' piece (suc n) none some = ap (λ (w : List ℕ). drop (length l) w ++ take (suc n) piece) (some (omega arith)) ∙ ap (λ (w : List ℕ). w ++ take (suc n) piece) (drop-append_seam l k) ∙ sym (settled-some k piece (suc n) (omega arith))

-- ---- bytes alone

settled-all : (piece : List ℕ) (n : ℕ) → 0 < n → take n piece ≡ settled [] piece n
settled-all piece n some = sym (settled-some [] piece n some)

settled-whole : (piece : List ℕ) → piece ≡ settled [] piece (length piece)
settled-whole [] = refl
settled-whole (x ∷ xs) = sym (take_all (length (x ∷ xs)) (x ∷ xs) (omega arith)) ∙ settled-all (x ∷ xs) (length (x ∷ xs)) (omega arith)

-- the last bytes of a body that has so many more
pub full-pass : (n : ℕ) (s : State) (old : Stage) (piece : List ℕ) → ((rest : List ℕ) → reads_on old [] rest ≡ first_bytes n s rest) → 0 < n → n ≤ length piece → PassesOn old [] piece (settled [] piece n) n (stage.Ended s) []
full-pass n s old piece is some fits = record {
  data_put = take n piece;
  same = λ rest. is (piece ++ rest) ∙ first-all n s piece rest fits ∙ ap (λ (w : List ℕ). before w (take n piece) n (nothing s)) (settled-all piece n some);
  kind = record { ended = λ e. absurd (cc); to_close = λ e. absurd (cc) };
}

-- bytes that aren't the last
pub part-pass : (n : ℕ) (s : State) (old new : Stage) (piece : List ℕ) → ((rest : List ℕ) → reads_on old [] rest ≡ first_bytes n s rest) → ((rest : List ℕ) → reads_on new [] rest ≡ first_bytes (n - length piece) s rest)
    → KeepsKind old new → length piece < n → PassesOn old [] piece (settled [] piece (length piece)) (length piece) new []
part-pass n s old new piece is next kind short = record {
  data_put = piece;
  same = λ rest. is (piece ++ rest) ∙ first-part n s piece rest short ∙ (λ i. before (settled-whole piece i) piece (length piece) (sym (next rest) i));
  kind = kind;
}

-- ---- what is due

kind-at : (s : Stage) (k rest : List ℕ) (c : Bool) → IsSettledAt s k → (is_ended s ≡ false → is_to_close s ≡ c) → last_state c (reads_on s k rest).state ≡ last_state (is_to_close s) (reads_on s k rest).state
kind-at (stage.Ended More) k rest c h f = absurd (h.1 refl)
kind-at (stage.Ended Whole) k rest c h f = refl
kind-at (stage.Ended Cut) k rest c h f = refl
kind-at (stage.Ended Misframed) k rest c h f = refl
kind-at (stage.Bytes n) k rest c h f = ap (λ d. last_state d (reads_on (stage.Bytes n) k rest).state) (sym (f refl))
kind-at (stage.Rest n) k rest c h f = ap (λ d. last_state d (reads_on (stage.Rest n) k rest).state) (sym (f refl))
kind-at (stage.Chunks p n) k rest c h f = ap (λ d. last_state d (reads_on (stage.Chunks p n) k rest).state) (sym (f refl))

pub due-steps : (old new : Reading) (piece raw plain : List ℕ) (used : ℕ) → ReaderSteps old piece raw plain used new → IsSettled new → (rest : List ℕ) → due_part old (piece ++ rest) ≡ before raw plain used (due_part new rest)
unfolding goes_on
due-steps old new piece raw plain used s settled_ rest =
    let e : goes_on old (piece ++ rest) ≡ before raw plain used (goes_on new rest) = s.same rest in
    let state : last_state (is_to_close old.stage) (goes_on old (piece ++ rest)).state ≡ last_state (is_to_close new.stage) (goes_on new rest).state =
    ap (λ (p : Part). last_state (is_to_close old.stage) p.state) e ∙ kind-at new.stage new.kept rest (is_to_close old.stage) settled_.settled s.kind.to_close in
    λ i. record { raw = (e i).raw; plain = (e i).plain; used = (e i).used; state = state i }

end-due-at : (s : Stage) (k : List ℕ) → IsSettledAt s k → end_state s ≡ last_state (is_to_close s) (stage_state s)
end-due-at (stage.Ended More) k h = absurd (h.1 refl)
end-due-at (stage.Ended Whole) k h = refl
end-due-at (stage.Ended Cut) k h = refl
end-due-at (stage.Ended Misframed) k h = refl
end-due-at (stage.Bytes n) k h = refl
end-due-at (stage.Rest n) k h = refl
end-due-at (stage.Chunks p n) k h = refl

pub end-due : (r : Reading) → IsSettled r → end_state r.stage ≡ (due_part r []).state
end-due r settled_ = end-due-at r.stage r.kept settled_.settled ∙ ap (λ (p : Part). last_state (is_to_close r.stage) p.state) (sym (nothing-left r settled_))

-- ---- data

-- what is settled is what the reader reads in the piece
pub raw-put : (old new : Reading) (piece put : List ℕ) (used : ℕ) → PassesOn old.stage old.kept piece put used new.stage new.kept → IsSettled new → (goes_on old piece).raw ≡ put
unfolding goes_on
raw-put old new piece put used a settled_ =
    let now : goes_on old piece ≡ before put a.data_put used (goes_on new []) = ap (goes_on old) (sym (append-nil piece)) ∙ a.same [] in
    ap (λ (x : Part). x.raw) now ∙ ap (λ (x : Part). put ++ x.raw) (nothing-left new settled_) ∙ append-nil put

not-wrong : (p : ChunkPlace) → is_last p ≡ false → p ≢ Wrong
not-wrong p e w = let both : true ≡ false = sym (ap is_last w) ∙ e in cc

data-at : (s : Stage) (k piece : List ℕ) → IsSettledAt s k → IsDataOf s (reads_on s k piece).raw (reads_on s k piece).plain
data-at (stage.Ended t) k piece h = refl
data-at (stage.Bytes n) k piece h = refl
data-at (stage.Rest n) k piece h = refl
data-at (stage.Chunks p room) k piece h = whole-from (take room piece) p k h.0 (not-wrong p h.1)

-- the data of what is settled are those that the reader reads in the piece
pub data-put : (old new : Reading) (piece put : List ℕ) (used : ℕ) → PassesOn old.stage old.kept piece put used new.stage new.kept → IsSettled old → IsSettled new → IsDataOf old.stage put (data_in old piece)
unfolding goes_on
data-put old new piece put used a from to = subst (λ (w : List ℕ). IsDataOf old.stage w (data_in old piece)) (raw-put old new piece put used a to) (data-at old.stage old.kept piece from.settled)
