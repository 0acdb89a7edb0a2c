-- What was read of the heads of an answer is what its bytes show.
use Rattle.std.proofs.Common.{◌≡◌, ℕ, zero, suc, ◌+◌, ◌-◌, ◌<◌, ◌≤◌, nat_lt, ◌↔◌, ◌⊎◌, true, false, List, [], ◌++◌, length, take, drop, drop-drop, Option, Some, None, Result, Ok, Err, sym, ◌∙◌, refl, subst, arith, inl, inr, append_assoc, length-drop}
use Rattle.std.proofs.lemmas.List.{take-append-le, drop-append-le, length-take-le}
use Rattle.px_head.specs.declared.TheConstants.{HEAD_LIMIT}
use Rattle.px_head.specs.Blocks.{head_end, block_len, block_of, whole_lines}
use Rattle.px_head.specs.Heads.{IsResponse, is_interim}
use Rattle.px_head.specs.Searches.{BeginsSearched, Searched}
use Rattle.px_head.specs.Faults.{IsHeadReadAs}
use Rattle.px_head.specs.declared.searches.HeadSearch.{HeadSearch}
use Rattle.px_head.specs.declared.blocks.HeadEnd.TheVariants as end
use Rattle.px_head.specs.declared.faults.HeadFault.{HeadFault}
use Rattle.px_head.specs.declared.faults.HeadFault.TheVariants as fault
use Rattle.px_head.specs.declared.responses.ResponseHead.{ResponseHead}
use Rattle.px_framing.specs.declared.rules.BodyRule.{BodyRule}
use Rattle.px_pumps.specs.declared.heads.HeadRead.{HeadRead}
use Rattle.px_pumps.specs.declared.heads.HeadRead.TheVariants as read
use Rattle.px_pumps.specs.Answering.{Seen, Waiting, Bad, Good, ReadsAsHead, Shows, ShowsRead, ShowsBlock, seen_final}
use Rattle.px_pumps.specs.Heads.{ShowsOnly, LeadsPastInterims, IsWaiting, seen_of, IsFinalRead, EndsBehind, BlockShows, HeadShows, ReadsHead, AtHead, Waits, heads_room}

-- one reading of a block is its only one
only_reading : (block : List ℕ) (one : Option ResponseHead) → ReadsAsHead block one → ((other : ResponseHead) → IsResponse block other → Some other ≡ one) → (o : Option ResponseHead) → ReadsAsHead block o → o ≡ one
only_reading block one r same (Some other) h = same other h
only_reading block None r same None h = refl
only_reading block (Some head) r same None h = absurd (h head r)

pub block_shown : (method block : List ℕ) (one : Option ResponseHead) → ReadsAsHead block one → ((other : ResponseHead) → IsResponse block other → Some other ≡ one)
    → (n : ℕ) (rest : List ℕ) (seen : Seen) → ShowsRead (Shows n method) method one rest seen ↔ ShowsBlock (Shows n method) method block rest seen
block_shown method block one r same n rest seen = (
  λ s. record { reading = one; reads = r; shows = s },
  λ b. subst (λ (o : Option ResponseHead). ShowsRead (Shows n method) method o rest seen) (only_reading block one r same b.reading b.reads) b.shows,
)

-- a block that was read
pub read_only : (result : Result ResponseHead HeadFault) (head other : ResponseHead) → result ≡ Ok head → IsHeadReadAs result other → Some other ≡ Some head
read_only result head other e (inl same) = cc
read_only result head other e (inr mem) = absurd (cc)

-- a block that was refused
pub not_read : (result : Result ResponseHead HeadFault) (f : HeadFault) (other : ResponseHead) → result ≡ Err f → (f ≡ fault.Mem → ⊥) → IsHeadReadAs result other → ⊥
not_read result f other e n (inl same) = absurd (cc)
not_read result f other e n (inr mem) = n (cc)

-- an interim head
pub shown_interim : (method block : List ℕ) (head : ResponseHead) (count : ℕ) → is_interim head.status ≡ true
    → ((n : ℕ) (rest : List ℕ) (seen : Seen) → ShowsRead (Shows n method) method (Some head) rest seen ↔ ShowsBlock (Shows n method) method block rest seen)
    → BlockShows method block (read.Interim count)
shown_interim method block head count e h n rest seen = rw e at (h n rest seen)

-- the answer's own head
pub shown_final : (method block : List ℕ) (head : ResponseHead) (r : HeadRead) → is_interim head.status ≡ false → IsFinalRead r → ((rest : List ℕ) → seen_of r rest ≡ seen_final method head rest)
    → ((n : ℕ) (rest : List ℕ) (seen : Seen) → ShowsRead (Shows n method) method (Some head) rest seen ↔ ShowsBlock (Shows n method) method block rest seen)
    → BlockShows method block r
shown_final method block head read.NotYet e k s h n rest seen = absurd k
shown_final method block head read.Refused e k s h n rest seen =
    subst (λ (x : Seen). (seen ≡ x) ↔ ShowsBlock (Shows n method) method block rest seen) (sym (s rest)) (rw e at (h n rest seen))
shown_final method block head (read.Interim count) e k s h n rest seen = absurd k
shown_final method block head (read.Final own rule count) e k s h n rest seen =
    subst (λ (x : Seen). (seen ≡ x) ↔ ShowsBlock (Shows n method) method block rest seen) (sym (s rest)) (rw e at (h n rest seen))

-- a head at the front of bytes
head_shows : (method bytes : List ℕ) (k : ℕ) (r : HeadRead) → k ≤ length bytes → ((more : List ℕ) → head_end HEAD_LIMIT (bytes ++ more) ≡ end.At k) → BlockShows method (take k bytes) r → HeadShows method bytes r k
head_shows method bytes k r le at b = record {
  within = le;
  same = λ n more seen.
      let front : take k (bytes ++ more) ≡ take k bytes = take-append-le k bytes more le in
      let back : drop k (bytes ++ more) ≡ drop k bytes ++ more = drop-append-le k bytes more le in
      rw (at more, front, back) (b n (drop k bytes ++ more) seen);
}

pub read_shows : (method bytes : List ℕ) (k : ℕ) (r : HeadRead) → k ≤ length bytes → ((more : List ℕ) → head_end HEAD_LIMIT (bytes ++ more) ≡ end.At k) → BlockShows method (take k bytes) r → EndsBehind (length (take k bytes)) r
    → ReadsHead method bytes r
read_shows method bytes k read.NotYet le at b e = absurd e
read_shows method bytes k read.Refused le at b e =
    let h = head_shows method bytes k read.Refused le at b in
    record { within = omega arith; same = h.same }
read_shows method bytes k (read.Interim count) le at b e =
    subst (λ (j : ℕ). HeadShows method bytes (read.Interim count) j) (sym (e ∙ length-take-le k bytes le)) (head_shows method bytes k (read.Interim count) le at b)
read_shows method bytes k (read.Final head rule count) le at b e =
    subst (λ (j : ℕ). HeadShows method bytes (read.Final head rule count) j) (sym (e ∙ length-take-le k bytes le)) (head_shows method bytes k (read.Final head rule count) le at b)

-- bytes without a head within the limit
pub over_shows : (method bytes : List ℕ) → ((more : List ℕ) → head_end HEAD_LIMIT (bytes ++ more) ≡ end.Over) → HeadShows method bytes read.Refused 0
over_shows method bytes over = record {
  within = omega arith;
  same = λ n more seen. rw (over more) (λ (e : seen ≡ Bad). e, λ (e : seen ≡ Bad). e);
}

-- behind an interim head
pub leads_on : (n m from k : ℕ) (method bytes : List ℕ) → 0 < m → LeadsPastInterims n method bytes m (drop from bytes) → HeadShows method (drop from bytes) (read.Interim k) k
    → LeadsPastInterims n method bytes (m - 1) (drop (from + k) bytes)
leads_on n zero from k method bytes some l h = absurd (omega arith)
leads_on n (suc m) from k method bytes some l h =
    let e : suc m - 1 ≡ m = omega arith in
    rw (e, ← drop-drop k from bytes) (λ more seen. (λ s. (l more seen).0 ((h.same m more seen).0 s), λ s. (h.same m more seen).1 ((l more seen).1 s)))

-- where the loop over the heads begins
pub at_first : (n : ℕ) (method bytes : List ℕ) (search : HeadSearch) → BeginsSearched HEAD_LIMIT bytes search → AtHead n method bytes n 0 search
at_first n method bytes search b = record { within = omega arith; leads = λ more seen. (λ s. s, λ s. s); begins = b; fewer = inl (refl, refl) }

-- the loop over the heads goes on behind an interim one
pub at_next : (n m from k : ℕ) (method bytes : List ℕ) (search search' : HeadSearch) → 0 < m → AtHead n method bytes m from search → HeadShows method (drop from bytes) (read.Interim k) k
    → ((limit : ℕ) → Searched limit [] search') → AtHead n method bytes (m - 1) (from + k) search'
at_next n m from k method bytes search search' some a h s = record {
  within = omega (arith, a.within, h.within, length-drop from bytes);
  leads = leads_on n m from k method bytes some a.leads h;
  begins = record { front = []; more = drop (from + k) bytes; is = refl; searched = s HEAD_LIMIT };
  fewer = inr (less a.fewer);
}
  where
    less : ((from ≡ 0) × (m ≡ n)) ⊎ (m < n) → m - 1 < n
    less (inl e) = omega (arith, e.1, some)
    less (inr l) = omega (arith, l)

-- no answer that begins so is returned
pub heads_bad : (n m from : ℕ) (method bytes : List ℕ) (search : HeadSearch) → 0 < m → AtHead n method bytes m from search → HeadShows method (drop from bytes) read.Refused 0 → (more : List ℕ) → ShowsOnly n method (bytes ++ more) Bad
heads_bad n zero from method bytes search some a h more = absurd (omega arith)
heads_bad n (suc m) from method bytes search some a h more = record {
  shows = (a.leads more Bad).0 ((h.same m more Bad).0 refl);
  only = λ other s. (h.same m more other).1 ((a.leads more other).1 s);
}

-- the answer's own head
pub heads_final : (n m from k : ℕ) (method bytes : List ℕ) (search : HeadSearch) (head : ResponseHead) (rule : BodyRule) → 0 < m → AtHead n method bytes m from search → HeadShows method (drop from bytes) (read.Final head rule k) k
    → (from + k ≤ length bytes) × ((more : List ℕ) → ShowsOnly n method (bytes ++ more) (Good head rule (drop (from + k) bytes ++ more)))
heads_final n zero from k method bytes search head rule some a h = absurd (omega arith)
heads_final n (suc m) from k method bytes search head rule some a h = (
  omega (arith, a.within, h.within, length-drop from bytes),
  rw (← drop-drop k from bytes) (λ more. record {
    shows = (a.leads more (Good head rule (drop k (drop from bytes) ++ more))).0 ((h.same m more (Good head rule (drop k (drop from bytes) ++ more))).0 refl);
    only = λ other s. (h.same m more other).1 ((a.leads more other).1 s);
  }),
)

-- no head is read any more
pub heads_spent : (n m from : ℕ) (method bytes : List ℕ) (search : HeadSearch) → m ≤ 0 → AtHead n method bytes m from search → (more : List ℕ) → ShowsOnly n method (bytes ++ more) Bad
heads_spent n zero from method bytes search none a more = record { shows = (a.leads more Bad).0 refl; only = λ other s. (a.leads more other).1 s }
heads_spent n (suc m) from method bytes search none a more = absurd (omega arith)

-- a head isn't whole
pub heads_wait : (n m from : ℕ) (method bytes : List ℕ) (search search' : HeadSearch) → 0 < m → AtHead n method bytes m from search → IsWaiting (drop from bytes) → Searched HEAD_LIMIT (drop from bytes) search'
    → Waits n method bytes m from search'
heads_wait n m from method bytes search search' some a w s = record { some = some; within = a.within; leads = a.leads; waits = w; searched = s; falls = λ count few below. falls a.fewer count few below }
  where
    falls : ((from ≡ 0) × (m ≡ n)) ⊎ (m < n) → (count : ℕ) → count < length bytes → count < HEAD_LIMIT → heads_room m (length (drop from bytes)) < heads_room n count
    falls (inl e) count few below = omega (arith, e.0, e.1, few, below, length-drop from bytes)
    falls (inr l) count few below = omega (arith, l, few, below)

-- bytes in which no block is whole yet
pub shows_waiting : (n : ℕ) (method held : List ℕ) → 0 < n → IsWaiting held → ShowsOnly n method held Waiting
shows_waiting zero method held some w = absurd (omega arith)
shows_waiting (suc n) method held some w = record { shows = rw (w.0) refl; only = λ other s. rw (w.0) at s }

-- what bytes show that lead to others
pub leads_only : (n m : ℕ) (method bytes rest more : List ℕ) (seen : Seen) → LeadsPastInterims n method bytes m rest → ShowsOnly m method (rest ++ more) seen → ShowsOnly n method (bytes ++ more) seen
leads_only n m method bytes rest more seen l s = record { shows = (l more seen).0 s.shows; only = λ other x. s.only other ((l more other).1 x) }

pub leads_over : (n m k : ℕ) (method bytes rest last : List ℕ) → LeadsPastInterims n method bytes m rest → LeadsPastInterims m method rest k last → LeadsPastInterims n method bytes k last
leads_over n m k method bytes rest last l j more seen = (λ s. (l more seen).0 ((j more seen).0 s), λ s. (j more seen).1 ((l more seen).1 s))

-- and with more bytes
pub leads_more : (n m : ℕ) (method bytes rest piece : List ℕ) → LeadsPastInterims n method bytes m rest → LeadsPastInterims n method (bytes ++ piece) m (rest ++ piece)
leads_more n m method bytes rest piece l more seen = rw (append_assoc rest piece more, append_assoc bytes piece more) (l (piece ++ more) seen)

pub leads_self : (n : ℕ) (method bytes : List ℕ) → LeadsPastInterims n method bytes n bytes
leads_self n method bytes more seen = (λ s. s, λ s. s)

-- no bytes, by whatever limit but 0: at a limit as large as that of a head it would be computed step by step
none_ends : (less : ℕ) → nat_lt 0 (suc less) ≡ true → head_end (suc less) [] ≡ end.NotYet
unfolding head_end block_len block_of whole_lines
none_ends less h = rw h refl

some_within : (limit : ℕ) → 0 < limit → length {A = ℕ} [] < limit
some_within limit h = h

nothing_waits : (held : List ℕ) → held ≡ [] → IsWaiting held
nothing_waits held e = rw e (none_ends 131071 refl, some_within HEAD_LIMIT (omega arith))

-- a search that has looked at none
pub nothing_searched : (held : List ℕ) (search : HeadSearch) → held ≡ [] → ((limit : ℕ) → Searched limit [] search) → IsWaiting held × Searched HEAD_LIMIT held search
nothing_searched held search e s = (nothing_waits held e, rw e (s HEAD_LIMIT))

-- bytes behind those that were searched
pub begins_searched : (held piece held' : List ℕ) (search : HeadSearch) → held' ≡ held ++ piece → Searched HEAD_LIMIT held search → BeginsSearched HEAD_LIMIT held' search
begins_searched held piece held' search e s = record { front = held; more = piece; is = e; searched = s }
