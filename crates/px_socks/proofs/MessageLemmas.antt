-- Sending the messages one behind the other, and what a handshake sends that gives no link.
use Rattle.std.proofs.Common.{◌≡◌, ℕ, ◌+◌, ◌-◌, ◌≤◌, inl, List, [], ◌∷◌, ◌++◌, length, take, drop, sym, ap, subst, ◌∙◌, arith, append_assoc, length-append}
use Rattle.std.proofs.Math.Seq.{take-append-add}
use Rattle.std.proofs.lemmas.Grind.{common_steps}
use Rattle.px_base.specs.Causes.{Rose}
use Rattle.px_base.specs.Sources.{SourceState}
use Rattle.px_base.specs.Sinks.{SinkState, AddsFront}
use Rattle.px_socks.specs.declared.handshakes.Refusal.{Refusal}
use Rattle.px_socks.specs.declared.handshakes.Refusal.TheVariants as refusal
use Rattle.px_socks.specs.Messages.{TookSome}
use Rattle.px_socks.specs.Replies.{IsReplyFront, SelectsNone}
use Rattle.px_socks.specs.Shaking.{SendsDue}

-- the two parts of the bytes, as slices read them
pub parts_of : (k : ℕ) (bytes : List ℕ) → k ≤ length bytes → take k bytes ++ take (length bytes - k) (drop k bytes) ≡ bytes
parts_of k bytes within = grind (arith, common_steps)

-- all of the first part and a front of the other are a front of all
some_more : (old mid new first rest : List ℕ) → mid ≡ old ++ first → AddsFront mid new rest → AddsFront old new (first ++ rest)
some_more old mid new first rest e (n, few, h) =
    let same : take (length first + n) (first ++ rest) ≡ first ++ take n rest = take-append-add first rest n in
    (length first + n, omega (arith, length-append first rest), h ∙ ap (λ (l : List ℕ). l ++ take n rest) e ∙ append_assoc old first (take n rest) ∙ ap (λ (l : List ℕ). old ++ l) (sym same))

all_some : (old new bytes : List ℕ) → new ≡ old ++ bytes → AddsFront old new bytes
all_some old new bytes e = (length bytes, (omega arith), grind (arith, common_steps))

-- the greeting and a front of the request
pub some_sent : (old mid new both : List ℕ) → 3 ≤ length both → mid ≡ old ++ take 3 both → AddsFront mid new (take (length both - 3) (drop 3 both)) → AddsFront old new both
some_sent old mid new both within e h =
    let P = λ (l : List ℕ). AddsFront old new l in
    subst P (parts_of 3 both within) (some_more old mid new (take 3 both) (take (length both - 3) (drop 3 both)) e h)

-- the greeting and the request
pub both_sent : (old mid new both : List ℕ) → 3 ≤ length both → mid ≡ old ++ take 3 both → new ≡ mid ++ take (length both - 3) (drop 3 both) → new ≡ old ++ both
both_sent old mid new both within e h =
    h ∙ ap (λ (l : List ℕ). l ++ take (length both - 3) (drop 3 both)) e ∙ append_assoc old (take 3 both) (take (length both - 3) (drop 3 both)) ∙ ap (λ (l : List ℕ). old ++ l) (parts_of 3 both within)

-- the greeting was sent, and the method isn't selected
pub due_greeting : (i i' : SourceState) (o o' : SinkState) (both : List ℕ) (r : Refusal) → TookSome SelectsNone i.left i'.left → o'.taken ≡ o.taken ++ take 3 both → SendsDue i i' o o' both r
due_greeting i i' o o' both r k sent = record {
  heard = k.bytes;
  moved = k.moved;
  enough = rw k.taken.other k.taken.few;
  front = rw k.taken.other (all_some o.taken o'.taken (take 3 both) sent);
  whole = λ e none. rw k.taken.other sent;
}

-- the method was selected, and a write of the request is refused
pub due_front : (i i' : SourceState) (o o' : SinkState) (both : List ℕ) (r : Refusal) → i.left ≡ 5 ∷ 0 ∷ i'.left → AddsFront o.taken o'.taken both
    → (r ≡ refusal.NotReached → Rose o.faults o'.faults) → SendsDue i i' o o' both r
due_front i i' o o' both r e sent rose = record {
  heard = 5 ∷ 0 ∷ [];
  moved = e;
  enough = inl (omega arith);
  front = sent;
  whole = λ f none. absurd (none (rose f));
}

-- both messages were sent
pub due_both : (i m i' : SourceState) (o o' : SinkState) (both : List ℕ) (r : Refusal) → i.left ≡ 5 ∷ 0 ∷ m.left → TookSome IsReplyFront m.left i'.left → o'.taken ≡ o.taken ++ both → SendsDue i i' o o' both r
due_both i m i' o o' both r e k sent = record {
  heard = 5 ∷ 0 ∷ k.bytes;
  moved = e ∙ ap (λ (l : List ℕ). 5 ∷ 0 ∷ l) k.moved;
  enough = k.taken;
  front = all_some o.taken o'.taken both sent;
  whole = λ f none. sent;
}
