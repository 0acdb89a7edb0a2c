-- How the dials of a pool and its kept links stand to the inner dialer, step by step.
use Rattle.std.proofs.Common.{◌≡◌, ℕ, ◌+◌, ◌≤◌, Bool, true, false, not, IsTrue, ◌==◌, ◌&&◌, ◌||◌, List, [], ◌∷◌, ◌++◌, Result, Ok, Err, Option, Some, None, find, sym, ap, refl, ◌∙◌, arith}
use Rattle.std.specs.Prelude.{IfOk}
use Rattle.std.specs.Str.{bytes_eq}
use Rattle.std.proofs.lemmas.Slice.Eq.{bytes_eq-Decides}
use Rattle.std.proofs.lemmas.Bool.{eqb-true, eq-eqb, false_from_ne_true}
use Rattle.std.proofs.lemmas.Grind.{common_steps}
use Rattle.px_base.specs.declared.dials.Dial.{Dial}
use Rattle.px_base.specs.declared.dials.DialOutcome.{DialOutcome}
use Rattle.px_base.specs.declared.dials.DialOutcome.TheVariants as outcome
use Rattle.px_base.specs.declared.faults.DialFault.{DialFault}
use Rattle.px_base.specs.declared.faults.DialFault.TheVariants as fault
use Rattle.px_base.specs.Sources.{SourceState, SourceGoesOn, given}
use Rattle.px_base.specs.Sinks.{SinkState}
use Rattle.px_base.specs.Dials.{DialerState, DialerGoesOn, LinkState, Traffic, IsTold, is_open_at, is_open, closed, finish, dialed}
use Rattle.px_link_pool.specs.declared.shelves.KeptLink.{KeptLink}
use Rattle.px_link_pool.specs.declared.shelves.Shelf.{Shelf}
use Rattle.px_link_pool.specs.Shelves.{items, without_first}
use Rattle.px_pool_ends.specs.Names.{Passed}
use Rattle.px_link_pool.specs.Joins.{is_joined, are_joined}
use Rattle.px_link_pool.specs.Standing.{KeptState, kept_state, kept_states, tally, open_count, held_count, is_source_whole, is_told, are_told, is_ready, are_ready, PoolStands}

pub opens-append : (m : ℕ) (ds es : List Dial) → open_count m (ds ++ es) ≡ open_count m ds + open_count m es
opens-append m [] es = grind arith
opens-append m (d ∷ ds) es = omega (arith, opens-append m ds es)

pub open_some : (m : ℕ) (ds : List Dial) → is_open m ds ≡ true → 1 ≤ open_count m ds
open_some m [] h = (cc)
open_some m (d ∷ ds) h = elim (is_open_at m d.outcome) as (λ b. (b || is_open m ds) ≡ true → 1 ≤ tally b + open_count m ds) [
  | true ↦ λ _. omega arith
  | false ↦ λ k. omega (arith, open_some m ds k)
] h

pub some_open : (m : ℕ) (ds : List Dial) → 1 ≤ open_count m ds → is_open m ds ≡ true
some_open m [] h = absurd (omega arith)
some_open m (d ∷ ds) h = elim (is_open_at m d.outcome) as (λ b. 1 ≤ tally b + open_count m ds → (b || is_open m ds) ≡ true) [
  | true ↦ λ _. refl
  | false ↦ λ k. some_open m ds (omega arith)
] h

pub open_none : (m : ℕ) (ds : List Dial) → open_count m ds ≡ 0 → is_open m ds ≡ false
open_none m ds h = false_from_ne_true _ (λ k. absurd (omega (arith, open_some m ds k)))

pub none_open : (m : ℕ) (ds : List Dial) → is_open m ds ≡ false → open_count m ds ≡ 0
none_open m [] h = refl
none_open m (d ∷ ds) h = elim (is_open_at m d.outcome) as (λ b. (b || is_open m ds) ≡ false → tally b + open_count m ds ≡ 0) [
  | true ↦ λ k. (cc)
  | false ↦ λ k. omega (arith, none_open m ds k)
] h

-- a link that is hung up isn't open
closed_none : (m n : ℕ) (t : Traffic) (o : DialOutcome) → is_open_at m o ≡ true → is_open_at n (closed t o) ≡ false
closed_none m n t outcome.NoName h = (cc)
closed_none m n t outcome.NotReached h = (cc)
closed_none m n t (outcome.Open k offered) h = refl
closed_none m n t (outcome.Link seen) h = (cc)

-- an open link has one mark
one_mark : (m n : ℕ) (o : DialOutcome) → is_open_at m o ≡ true → is_open_at n o ≡ (m == n)
one_mark m n outcome.NoName h = (cc)
one_mark m n outcome.NotReached h = (cc)
one_mark m n (outcome.Open k offered) h = let e : k ≡ m = eqb-true k m h in ap (λ x. x == n) e
one_mark m n (outcome.Link seen) h = (cc)

-- hanging up takes one from the open links with that mark
finish_here : (m n : ℕ) (t : Traffic) (d : Dial) (ds : List Dial) → is_open_at m d.outcome ≡ true → open_count n (finish m t (d ∷ ds)) + tally (m == n) ≡ open_count n (d ∷ ds)
finish_here m n t d ds e = rw (e, closed_none m n t d.outcome e, one_mark m n d.outcome e) (omega arith)

finish_there : (m n : ℕ) (t : Traffic) (d : Dial) (ds : List Dial) → is_open_at m d.outcome ≡ false → open_count n (finish m t ds) + tally (m == n) ≡ open_count n ds
    → open_count n (finish m t (d ∷ ds)) + tally (m == n) ≡ open_count n (d ∷ ds)
finish_there m n t d ds e h = rw e (omega (arith, h))

pub opens-finish : (m n : ℕ) (t : Traffic) (ds : List Dial) → is_open m ds ≡ true → open_count n (finish m t ds) + tally (m == n) ≡ open_count n ds
opens-finish m n t [] h = (cc)
opens-finish m n t (d ∷ ds) h =
    elim (is_open_at m d.outcome) as (λ b. is_open_at m d.outcome ≡ b → (b || is_open m ds) ≡ true → open_count n (finish m t (d ∷ ds)) + tally (m == n) ≡ open_count n (d ∷ ds)) [
      | true ↦ λ e _. finish_here m n t d ds e
      | false ↦ λ e k. finish_there m n t d ds e (opens-finish m n t ds k)
    ] refl h

-- ---- the steps

pub not_so : (b : Bool) → IsTrue (not b) → b ≡ false
not_so true h = (cc)
not_so false h = refl

same_bytes : (xs ys : List ℕ) → bytes_eq xs ys ≡ true → xs ≡ ys
same_bytes xs ys h = (bytes_eq-Decides xs ys).0 h

bytes_same : (xs ys : List ℕ) → xs ≡ ys → bytes_eq xs ys ≡ true
bytes_same xs ys h = (bytes_eq-Decides xs ys).1 h

and_parts : (a b : Bool) → IsTrue (a && b) → IsTrue a × IsTrue b
and_parts true b h = (refl, h)
and_parts false b h = (cc)

opens-one : (m n : ℕ) (host : List ℕ) (port : ℕ) (offered : List ℕ) → open_count n (record { host = host; port = port; outcome = outcome.Open m offered } ∷ []) ≡ tally (m == n)
opens-one m n host port offered = omega arith

pub same_mark : (m n : ℕ) → m ≡ n → tally (m == n) ≡ 1
same_mark m n e = rw (eq-eqb m n e) refl

tally_le : (b : Bool) → tally b ≤ 1
tally_le true = omega arith
tally_le false = omega arith

dialled_once : (old : DialerState) (outer : List Dial) (kept : List KeptState) (host : List ℕ) (port : ℕ) (r : Result LinkState DialFault) (m : ℕ) → open_count m outer + held_count m kept ≤ open_count m old.dials
    → open_count m outer + held_count m kept ≤ 1 → IfOk r (IsTold old) → open_count m (outer ++ dialed host port r) + held_count m kept ≤ 1
dialled_once old outer kept host port (Ok l) m backed once told =
    elim (l.link_in.mark == m) as (λ b. (l.link_in.mark == m) ≡ b → open_count m (outer ++ dialed host port (Ok l)) + held_count m kept ≤ 1) [
      | true ↦ λ e.
          let same : l.link_in.mark ≡ m = eqb-true _ _ e in
          let none : open_count m old.dials ≡ 0 = ap (λ k. open_count k old.dials) (sym same) ∙ none_open _ old.dials told.new_mark in
          omega (arith, opens-append m outer (dialed host port (Ok l)), opens-one l.link_in.mark m host port l.link_in.offered, tally_le (l.link_in.mark == m))
      | false ↦ λ e.
          let zero_more : tally (l.link_in.mark == m) ≡ 0 = rw e refl in
          omega (arith, opens-append m outer (dialed host port (Ok l)), opens-one l.link_in.mark m host port l.link_in.offered, zero_more)
    ] refl
dialled_once old outer kept host port (Err fault.NoName) m backed once told = omega (arith, opens-append m outer (dialed host port (Err fault.NoName)))
dialled_once old outer kept host port (Err fault.NotReached) m backed once told = omega (arith, opens-append m outer (dialed host port (Err fault.NotReached)))
dialled_once old outer kept host port (Err fault.Mem) m backed once told = omega (arith, opens-append m outer (dialed host port (Err fault.Mem)))

-- a dial of the inner dialer, which is put on both lists
pub stands_dialled : (old new : DialerState) (outer more : List Dial) (kept : List KeptState) (host : List ℕ) (port : ℕ) (r : Result LinkState DialFault) → PoolStands old outer kept → new.tells ≡ old.tells
    → ((m : ℕ) → open_count m more ≡ open_count m (dialed host port r)) → (IsTrue old.tells → new.dials ≡ old.dials ++ dialed host port r) → (IsTrue old.tells → IfOk r (IsTold old)) → PoolStands new (outer ++ more) kept
stands_dialled old new outer more kept host port r s e alike dials told = record {
  backed = λ t m.
      let was : IsTrue old.tells = sym e ∙ t in
      let grown : open_count m new.dials ≡ open_count m old.dials + open_count m (dialed host port r) = ap (open_count m) (dials was) ∙ opens-append m old.dials (dialed host port r) in
      omega (arith, s.backed was m, opens-append m outer more, alike m, grown);
  once = λ t m.
      let was : IsTrue old.tells = sym e ∙ t in
      omega (arith, dialled_once old outer kept host port r m (s.backed was m) (s.once was m) (told was), opens-append m outer more, opens-append m outer (dialed host port r), alike m);
  told = λ t. s.told (sym e ∙ t);
  ready = s.ready;
}

-- a link that is hung up at the inner dialer too
pub stands_hung_up : (old new : DialerState) (outer : List Dial) (kept : List KeptState) (mark : ℕ) (t u : Traffic) → PoolStands old outer kept → new.tells ≡ old.tells
    → (IsTrue old.tells → is_open mark outer ≡ true) → (IsTrue old.tells → new.dials ≡ finish mark t old.dials) → PoolStands new (finish mark u outer) kept
stands_hung_up old new outer kept mark t u s e here dials = record {
  backed = λ told m.
      let was : IsTrue old.tells = sym e ∙ told in
      let some : 1 ≤ open_count mark old.dials = omega (arith, s.backed was mark, open_some mark outer (here was)) in
      let less : open_count m new.dials + tally (mark == m) ≡ open_count m old.dials = ap (λ ds. open_count m ds + tally (mark == m)) (dials was) ∙ opens-finish mark m t old.dials (some_open mark old.dials some) in
      omega (arith, s.backed was m, opens-finish mark m u outer (here was), less);
  once = λ told m.
      let was : IsTrue old.tells = sym e ∙ told in
      omega (arith, s.once was m, opens-finish mark m u outer (here was));
  told = λ told. s.told (sym e ∙ told);
  ready = s.ready;
}

pub held-append : (m : ℕ) (ks ls : List KeptState) → held_count m (ks ++ ls) ≡ held_count m ks + held_count m ls
held-append m [] ls = grind arith
held-append m (k ∷ ks) ls = omega (arith, held-append m ks ls)

are_told-append : (ks : List KeptState) (k : KeptState) → IsTrue (are_told ks) → IsTrue (is_told k) → IsTrue (are_told (ks ++ k ∷ []))
are_told-append [] k h t = grind (arith, common_steps, t)
are_told-append (l ∷ ks) k h t = grind (arith, common_steps, h, are_told-append ks k)

are_ready-append : (ks : List KeptState) (k : KeptState) → IsTrue (are_ready ks) → IsTrue (is_ready k) → IsTrue (are_ready (ks ++ k ∷ []))
are_ready-append [] k h t = grind (arith, common_steps, t)
are_ready-append (l ∷ ks) k h t = grind (arith, common_steps, h, are_ready-append ks k)

-- a link that is kept
pub stands_kept : (inner : DialerState) (outer : List Dial) (kept : List KeptState) (k : KeptState) (t : Traffic) → PoolStands inner outer kept → (IsTrue inner.tells → is_open k.link_in.mark outer ≡ true)
    → (IsTrue inner.tells → IsTrue (is_told k)) → IsTrue (is_ready k) → PoolStands inner (finish k.link_in.mark t outer) (kept ++ k ∷ [])
stands_kept inner outer kept k t s here told ready = record {
  backed = λ tells m. omega (arith, s.backed tells m, opens-finish k.link_in.mark m t outer (here tells), held-append m kept (k ∷ []));
  once = λ tells m. omega (arith, s.once tells m, opens-finish k.link_in.mark m t outer (here tells), held-append m kept (k ∷ []));
  told = λ tells. are_told-append kept k (s.told tells) (told tells);
  ready = are_ready-append kept k s.ready ready;
}

first_told : (k : KeptState) (ks : List KeptState) → IsTrue (are_told (k ∷ ks)) → IsTrue (is_told k) × IsTrue (are_told ks)
first_told k ks h = and_parts (is_told k) (are_told ks) h

first_held : (k : KeptState) (ks : List KeptState) → 1 ≤ held_count k.link_in.mark (k ∷ ks)
first_held k ks = rw (eq-eqb k.link_in.mark k.link_in.mark refl) (omega arith)

-- the oldest kept link is hung up
pub stands_without_oldest : (old new : DialerState) (outer : List Dial) (kept : List KeptState) (k : KeptState) (t : Traffic) → PoolStands old outer (k ∷ kept) → new.tells ≡ old.tells
    → (IsTrue old.tells → new.dials ≡ finish k.link_in.mark t old.dials) → PoolStands new outer kept
stands_without_oldest old new outer kept k t s e dials = record {
  backed = λ told m.
      let was : IsTrue old.tells = sym e ∙ told in
      let some : 1 ≤ open_count k.link_in.mark old.dials = omega (arith, s.backed was k.link_in.mark, first_held k kept) in
      let less : open_count m new.dials + tally (k.link_in.mark == m) ≡ open_count m old.dials = ap (λ ds. open_count m ds + tally (k.link_in.mark == m)) (dials was) ∙ opens-finish k.link_in.mark m t old.dials (some_open k.link_in.mark old.dials some) in
      omega (arith, s.backed was m, less);
  once = λ told m. omega (arith, s.once (sym e ∙ told) m);
  told = λ told. (first_told k kept (s.told (sym e ∙ told))).1;
  ready = (and_parts (is_ready k) (are_ready kept) s.ready).1;
}

-- what the inner dialer asks of a link that is hung up there
pub inner_open : (inner : DialerState) (outer : List Dial) (kept : List KeptState) (mark : ℕ) → PoolStands inner outer kept → IsTrue inner.tells → is_open mark outer ≡ true → is_open mark inner.dials ≡ true
inner_open inner outer kept mark s tells here = some_open mark inner.dials (omega (arith, s.backed tells mark, open_some mark outer here))

pub oldest_open : (inner : DialerState) (outer : List Dial) (kept : List KeptState) (k : KeptState) → PoolStands inner outer (k ∷ kept) → IsTrue inner.tells → is_open k.link_in.mark inner.dials ≡ true
oldest_open inner outer kept k s tells = some_open k.link_in.mark inner.dials (omega (arith, s.backed tells k.link_in.mark, first_held k kept))

pub oldest_told : (inner : DialerState) (outer : List Dial) (kept : List KeptState) (k : KeptState) → PoolStands inner outer (k ∷ kept) → IsTrue inner.tells → IsTrue (is_told k)
oldest_told inner outer kept k s tells = (first_told k kept (s.told tells)).0

-- ---- a kept link that is taken off the list

-- the list is that link and the others
pub record TakenOff {I O : Type 0} (ins : I → SourceState) (outs : O → SinkState) (ks others : List (KeptLink I O)) (k : KeptLink I O) : Type 0 where
  pub held_more : (m : ℕ) → held_count m (kept_states ins outs others) + tally ((ins k.source).mark == m) ≡ held_count m (kept_states ins outs ks)
  pub told : IsTrue (are_told (kept_states ins outs ks)) → IsTrue (is_told (kept_state ins outs k)) × IsTrue (are_told (kept_states ins outs others))
  pub ready : IsTrue (are_ready (kept_states ins outs ks)) → IsTrue (is_ready (kept_state ins outs k)) × IsTrue (are_ready (kept_states ins outs others))
  pub joined : (w : ℕ → Passed) → IsTrue (are_joined w (kept_states ins outs ks)) → IsTrue (is_joined w (kept_state ins outs k)) × IsTrue (are_joined w (kept_states ins outs others))

some_is_none : {A : Type 0} (a : A) → None ≡ Some a → ⊥
some_is_none a e = cc

same_some : {A : Type 0} (a b : A) → Some a ≡ Some b → a ≡ b
same_some a b e = cc

taken_here : {I O : Type 0} (ins : I → SourceState) (outs : O → SinkState) (ks : List (KeptLink I O)) (k : KeptLink I O) → TakenOff ins outs (k ∷ ks) ks k
taken_here ins outs ks k = record {
  held_more = λ m. omega arith;
  told = λ h. and_parts (is_told (kept_state ins outs k)) (are_told (kept_states ins outs ks)) h;
  ready = λ h. and_parts (is_ready (kept_state ins outs k)) (are_ready (kept_states ins outs ks)) h;
  joined = λ w h. and_parts (is_joined w (kept_state ins outs k)) (are_joined w (kept_states ins outs ks)) h;
}

both : (a b : Bool) → IsTrue a → IsTrue b → IsTrue (a && b)
both true b h k = k
both false b h k = (cc)

taken_there : {I O : Type 0} (ins : I → SourceState) (outs : O → SinkState) (ks others : List (KeptLink I O)) (j k : KeptLink I O) → TakenOff ins outs ks others k → TakenOff ins outs (j ∷ ks) (j ∷ others) k
taken_there ins outs ks others j k t = record {
  held_more = λ m. omega (arith, t.held_more m);
  told = λ h.
      let p = and_parts (is_told (kept_state ins outs j)) (are_told (kept_states ins outs ks)) h in
      let q = t.told p.1 in
      (q.0, both (is_told (kept_state ins outs j)) (are_told (kept_states ins outs others)) p.0 q.1);
  ready = λ h.
      let p = and_parts (is_ready (kept_state ins outs j)) (are_ready (kept_states ins outs ks)) h in
      let q = t.ready p.1 in
      (q.0, both (is_ready (kept_state ins outs j)) (are_ready (kept_states ins outs others)) p.0 q.1);
  joined = λ w h.
      let p = and_parts (is_joined w (kept_state ins outs j)) (are_joined w (kept_states ins outs ks)) h in
      let q = t.joined w p.1 in
      (q.0, both (is_joined w (kept_state ins outs j)) (are_joined w (kept_states ins outs others)) p.0 q.1);
}

pub taken_off : {I O : Type 0} (ins : I → SourceState) (outs : O → SinkState) (p : KeptLink I O → Bool) (ks : List (KeptLink I O)) (k : KeptLink I O) → Some k ≡ find p ks → TakenOff ins outs ks (without_first p ks) k
taken_off ins outs p [] k h = (cc)
taken_off ins outs p (j ∷ ks) k h =
    elim (p j) as (λ b. p j ≡ b → TakenOff ins outs (j ∷ ks) (without_first p (j ∷ ks)) k) [
      | true ↦ λ e. rw e (let same : k ≡ j = same_some k j (rw e at h) in rw same (taken_here ins outs ks j))
      | false ↦ λ e. rw e (taken_there ins outs ks (without_first p ks) j k (taken_off ins outs p ks k (rw e at h)))
    ] refl

pub none_taken : {A : Type 0} (p : A → Bool) (ks : List A) → None ≡ find p ks → without_first p ks ≡ ks
none_taken p [] h = refl
none_taken p (j ∷ ks) h =
    elim (p j) as (λ b. p j ≡ b → without_first p (j ∷ ks) ≡ j ∷ ks) [
      | true ↦ λ e. absurd (some_is_none j (rw e at h))
      | false ↦ λ e. rw e (ap (λ l. j ∷ l) (none_taken p ks (rw e at h)))
    ] refl

-- a kept link that is given again
pub stands_again : {I O : Type 0} (ins : I → SourceState) (outs : O → SinkState) (inner : DialerState) (outer : List Dial) (ks others : List (KeptLink I O)) (k : KeptLink I O) (host : List ℕ) (port : ℕ) (offered : List ℕ)
    → PoolStands inner outer (kept_states ins outs ks) → TakenOff ins outs ks others k
    → PoolStands inner (outer ++ record { host = host; port = port; outcome = outcome.Open (ins k.source).mark offered } ∷ []) (kept_states ins outs others)
stands_again ins outs inner outer ks others k host port offered s t = record {
  backed = λ tells m. omega (arith, s.backed tells m, t.held_more m, opens-append m outer (record { host = host; port = port; outcome = outcome.Open (ins k.source).mark offered } ∷ []), opens-one (ins k.source).mark m host port offered);
  once = λ tells m. omega (arith, s.once tells m, t.held_more m, opens-append m outer (record { host = host; port = port; outcome = outcome.Open (ins k.source).mark offered } ∷ []), opens-one (ins k.source).mark m host port offered);
  told = λ tells. (t.told (s.told tells)).1;
  ready = (t.ready s.ready).1;
}

-- its mark is that of no open link
pub again_new : {I O : Type 0} (ins : I → SourceState) (outs : O → SinkState) (inner : DialerState) (outer : List Dial) (ks others : List (KeptLink I O)) (k : KeptLink I O)
    → PoolStands inner outer (kept_states ins outs ks) → TakenOff ins outs ks others k → IsTrue inner.tells → is_open (ins k.source).mark outer ≡ false
again_new ins outs inner outer ks others k s t tells =
    let here : tally ((ins k.source).mark == (ins k.source).mark) ≡ 1 = rw (eq-eqb (ins k.source).mark (ins k.source).mark refl) refl in
    open_none (ins k.source).mark outer (omega (arith, s.once tells (ins k.source).mark, t.held_more (ins k.source).mark, here))

pub told_parts : (k : KeptState) → IsTrue (is_told k) → IsTrue k.link_in.tells × IsTrue k.link_out.tells × (k.link_out.mark ≡ k.link_in.mark)
told_parts k h =
    let p = and_parts k.link_in.tells (k.link_out.tells && (k.link_out.mark == k.link_in.mark)) h in
    let q = and_parts k.link_out.tells (k.link_out.mark == k.link_in.mark) p.1 in
    (p.0, q.0, eqb-true k.link_out.mark k.link_in.mark q.1)

pub told_whole : (k : KeptState) → IsTrue k.link_in.tells → IsTrue k.link_out.tells → k.link_out.mark ≡ k.link_in.mark → IsTrue (is_told k)
told_whole k i o e = both k.link_in.tells (k.link_out.tells && (k.link_out.mark == k.link_in.mark)) i (both k.link_out.tells (k.link_out.mark == k.link_in.mark) o (eq-eqb k.link_out.mark k.link_in.mark e))

whole_at : (i : SourceState) (tells : Bool) → IsTrue (not tells || bytes_eq i.offered (given i ++ i.left)) → IsTrue tells → i.offered ≡ given i ++ i.left
whole_at i true h t = same_bytes i.offered (given i ++ i.left) h
whole_at i false h t = (cc)

whole_from : (i : SourceState) (tells : Bool) → (IsTrue tells → i.offered ≡ given i ++ i.left) → IsTrue (not tells || bytes_eq i.offered (given i ++ i.left))
whole_from i true h = bytes_same i.offered (given i ++ i.left) (h refl)
whole_from i false h = refl

pub ready_parts : (k : KeptState) → IsTrue (is_ready k) → (k.link_out.finished ≡ false) × (IsTrue k.link_in.tells → k.link_in.offered ≡ given k.link_in ++ k.link_in.left)
ready_parts k h =
    let p = and_parts (not k.link_out.finished) (is_source_whole k.link_in) h in
    (not_so k.link_out.finished p.0, whole_at k.link_in k.link_in.tells p.1)

so_not : (b : Bool) → b ≡ false → IsTrue (not b)
so_not true h = (cc)
so_not false h = refl

pub ready_whole : (k : KeptState) → k.link_out.finished ≡ false → (IsTrue k.link_in.tells → k.link_in.offered ≡ given k.link_in ++ k.link_in.left) → IsTrue (is_ready k)
ready_whole k f w = both (not k.link_out.finished) (is_source_whole k.link_in) (so_not k.link_out.finished f) (whole_from k.link_in k.link_in.tells w)

pub kept_states-append : {I O : Type 0} (ins : I → SourceState) (outs : O → SinkState) (ks ls : List (KeptLink I O)) → kept_states ins outs (ks ++ ls) ≡ kept_states ins outs ks ++ kept_states ins outs ls
kept_states-append ins outs [] ls = refl
kept_states-append ins outs (k ∷ ks) ls = ap (λ xs. kept_state ins outs k ∷ xs) (kept_states-append ins outs ks ls)

-- ---- the joins of what the calls say

-- a link goes to the end of the list
pub kept_on : {I O : Type 0} (ins : I → SourceState) (outs : O → SinkState) (inner : DialerState) (outer later : List Dial) (ks others : List (KeptLink I O)) (k : KeptLink I O) (t : Traffic)
    → PoolStands inner outer (kept_states ins outs ks) → later ≡ finish (ins k.source).mark t outer → others ≡ ks ++ k ∷ []
    → (IsTrue inner.tells → is_open (ins k.source).mark outer ≡ true) → (IsTrue inner.tells → IsTrue (ins k.source).tells) → (IsTrue inner.tells → IsTrue (outs k.sink).tells)
    → (IsTrue inner.tells → (outs k.sink).mark ≡ (ins k.source).mark) → (IsTrue (ins k.source).tells → (ins k.source).offered ≡ given (ins k.source) ++ (ins k.source).left) → (outs k.sink).finished ≡ false
    → PoolStands inner later (kept_states ins outs others)
kept_on ins outs inner outer later ks others k t s e f here i o m w unfinished =
    rw (e, f, kept_states-append ins outs ks (k ∷ [])) (stands_kept inner outer (kept_states ins outs ks) (kept_state ins outs k) t s here
    (λ tells. told_whole (kept_state ins outs k) (i tells) (o tells) (m tells)) (ready_whole (kept_state ins outs k) unfinished w))

-- a link is hung up at both
pub hung_up_on : (old new : DialerState) (outer later : List Dial) (kept : List KeptState) (mark : ℕ) (t u : Traffic) → PoolStands old outer kept → new.tells ≡ old.tells → later ≡ finish mark u outer
    → (IsTrue old.tells → is_open mark outer ≡ true) → (IsTrue old.tells → new.dials ≡ finish mark t old.dials) → PoolStands new later kept
hung_up_on old new outer later kept mark t u s e f here dials = rw f (stands_hung_up old new outer kept mark t u s e here dials)

-- the link that was found is off the list
pub taken_by : {I O : Type 0} (ins : I → SourceState) (outs : O → SinkState) (p : KeptLink I O → Bool) (shelf was rest slot : Shelf (KeptLink I O)) (found : Option (KeptLink I O)) (k : KeptLink I O)
    → was ≡ shelf → found ≡ find p (items was) → items rest ≡ without_first p (items was) → slot ≡ rest → found ≡ Some k → TakenOff ins outs (items shelf) (items slot) k
taken_by ins outs p shelf was rest slot found k e f o s is =
    rw (s, o, e) (taken_off ins outs p (items shelf) k (sym is ∙ f ∙ ap (λ x. find p (items x)) e))

pub none_taken_by : {A : Type 0} (p : A → Bool) (shelf was rest slot : Shelf A) (found : Option A)
    → was ≡ shelf → found ≡ find p (items was) → items rest ≡ without_first p (items was) → slot ≡ rest → found ≡ None → items slot ≡ items shelf
none_taken_by p shelf was rest slot found e f o s is = rw (s, o, e) (none_taken p (items shelf) (sym is ∙ f ∙ ap (λ x. find p (items x)) e))

-- a kept link is given again
pub again_on : {I O : Type 0} (ins : I → SourceState) (outs : O → SinkState) (inner : DialerState) (outer later : List Dial) (ks others : List (KeptLink I O)) (k : KeptLink I O) (host : List ℕ) (port mark : ℕ) (offered : List ℕ)
    → PoolStands inner outer (kept_states ins outs ks) → TakenOff ins outs ks others k → later ≡ outer ++ record { host = host; port = port; outcome = outcome.Open mark offered } ∷ [] → mark ≡ (ins k.source).mark
    → PoolStands inner later (kept_states ins outs others)
again_on ins outs inner outer later ks others k host port mark offered s t e m =
    rw (e, m) (stands_again ins outs inner outer ks others k host port offered s t)

pub opens-err : (m : ℕ) (host more : List ℕ) (port : ℕ) (f : DialFault) → open_count m (dialed more port (Err f)) ≡ open_count m (dialed host port (Err f))
opens-err m host more port fault.NoName = refl
opens-err m host more port fault.NotReached = refl
opens-err m host more port fault.Mem = refl

-- a link was dialled at both
pub dialled_on : {A : Type 0} (old new : DialerState) (outer later more : List Dial) (states : List A → List KeptState) (ks others : List A) (host : List ℕ) (port : ℕ) (r : Result LinkState DialFault)
    → PoolStands old outer (states ks) → others ≡ ks → new.tells ≡ old.tells → later ≡ outer ++ more → ((m : ℕ) → open_count m more ≡ open_count m (dialed host port r))
    → (IsTrue old.tells → new.dials ≡ old.dials ++ dialed host port r) → (IsTrue old.tells → IfOk r (IsTold old)) → PoolStands new later (states others)
dialled_on old new outer later more states ks others host port r s o e f alike dials told = rw (o, f) (stands_dialled old new outer more (states ks) host port r s e alike dials told)

pub dialled_ok : {A : Type 0} (old new : DialerState) (outer later : List Dial) (states : List A → List KeptState) (ks others : List A) (host name : List ℕ) (port mark : ℕ) (offered : List ℕ) (l : LinkState)
    → PoolStands old outer (states ks) → others ≡ ks → new.tells ≡ old.tells → later ≡ outer ++ record { host = name; port = port; outcome = outcome.Open mark offered } ∷ [] → mark ≡ l.link_in.mark
    → (IsTrue old.tells → new.dials ≡ old.dials ++ dialed host port (Ok l)) → (IsTrue old.tells → IsTold old l) → PoolStands new later (states others)
dialled_ok old new outer later states ks others host name port mark offered l s o e f m dials told =
    dialled_on old new outer later (record { host = name; port = port; outcome = outcome.Open mark offered } ∷ []) states ks others host port (Ok l) s o e f (λ n. ap (λ x. tally (x == n) + 0) m) dials told

pub dialled_err : {A : Type 0} (old new : DialerState) (outer later : List Dial) (states : List A → List KeptState) (ks others : List A) (host name : List ℕ) (port : ℕ) (fault : DialFault)
    → PoolStands old outer (states ks) → others ≡ ks → new.tells ≡ old.tells → later ≡ outer ++ dialed name port (Err fault)
    → (IsTrue old.tells → new.dials ≡ old.dials ++ dialed host port (Err fault)) → PoolStands new later (states others)
dialled_err old new outer later states ks others host name port fault s o e f dials =
    dialled_on old new outer later (dialed name port (Err fault)) states ks others host port (Err fault) s o e f (λ n. opens-err n host name port fault) dials (λ _. tt)

pub with_oldest : {I O : Type 0} (ins : I → SourceState) (outs : O → SinkState) (inner : DialerState) (outer : List Dial) (ks rest : List (KeptLink I O)) (k : KeptLink I O) → PoolStands inner outer (kept_states ins outs ks) → k ∷ rest ≡ ks → PoolStands inner outer (kept_states ins outs (k ∷ rest))
with_oldest ins outs inner outer ks rest k s e = rw (← e) at s

pub last_open : (m : ℕ) (ds : List Dial) (d : Dial) → is_open_at m d.outcome ≡ true → is_open m (ds ++ d ∷ []) ≡ true
last_open m ds d e = some_open m (ds ++ d ∷ []) (let one : tally (is_open_at m d.outcome) ≡ 1 = rw e refl in omega (arith, opens-append m ds (d ∷ []), one))

-- a link that was just dialled is open
pub dialled_open : (m : ℕ) (ds new : List Dial) (host : List ℕ) (port mark : ℕ) (offered : List ℕ) → new ≡ ds ++ record { host = host; port = port; outcome = outcome.Open mark offered } ∷ [] → m ≡ mark → is_open m new ≡ true
dialled_open m ds new host port mark offered e f = rw e (last_open m ds (record { host = host; port = port; outcome = outcome.Open mark offered }) (eq-eqb mark m (sym f)))

-- ---- a look at the kept links

-- where the inner dialer doesn't tell, all that counts is that the kept links are ready
pub stands_told : (inner : DialerState) (outer : List Dial) (kept : List KeptState) → IsTrue (are_ready kept) → (IsTrue inner.tells → PoolStands inner outer kept) → PoolStands inner outer kept
stands_told inner outer kept r h = record { backed = λ t. (h t).backed t; once = λ t. (h t).once t; told = λ t. (h t).told t; ready = r }

-- a look leaves a dialer that tells as it is
pub stands_seen : (old new : DialerState) (outer : List Dial) (kept : List KeptState) → new.tells ≡ old.tells → (IsTrue old.tells → new ≡ old) → PoolStands old outer kept → IsTrue new.tells → PoolStands new outer kept
stands_seen old new outer kept e same s t = rw (same (sym e ∙ t)) s

-- a source at which was looked is as whole as before
pub ready_seen : (host : List ℕ) (port : ℕ) (i j : SourceState) (o : SinkState) → SourceGoesOn i j → IsTrue (is_ready (record { host = host; port = port; link_in = i; link_out = o })) → IsTrue (is_ready (record { host = host; port = port; link_in = j; link_out = o }))
ready_seen host port i j o on r =
    let p = ready_parts (record { host = host; port = port; link_in = i; link_out = o }) r in
    ready_whole (record { host = host; port = port; link_in = j; link_out = o }) p.0 (on.whole_kept p.1)

-- those that are left are ready too
pub still_ready : {I O : Type 0} (ins : I → SourceState) (outs : O → SinkState) (p : KeptLink I O → Bool) (ks : List (KeptLink I O)) → IsTrue (are_ready (kept_states ins outs ks)) → IsTrue (are_ready (kept_states ins outs (without_first p ks)))
still_ready ins outs p [] h = h
still_ready ins outs p (k ∷ ks) h =
    let q = and_parts (is_ready (kept_state ins outs k)) (are_ready (kept_states ins outs ks)) h in
    elim (p k) as (λ b. p k ≡ b → IsTrue (are_ready (kept_states ins outs (without_first p (k ∷ ks))))) [
      | true ↦ λ e. rw e q.1
      | false ↦ λ e. rw e (both (is_ready (kept_state ins outs k)) (are_ready (kept_states ins outs (without_first p ks))) q.0 (still_ready ins outs p ks q.1))
    ] refl

-- what lasts over two calls lasts over both
pub dialer_goes_on : (a b c : DialerState) → DialerGoesOn a b → DialerGoesOn b c → DialerGoesOn a c
dialer_goes_on a b c h k = record {
  tells_same = k.tells_same ∙ h.tells_same;
  tells_coming_same = k.tells_coming_same ∙ h.tells_coming_same;
  through_servers_same = k.through_servers_same ∙ h.through_servers_same;
  mark_same = k.mark_same ∙ h.mark_same;
  names_later = omega arith;
  reach_later = omega arith;
  link_reads_later = omega arith;
  link_writes_later = omega arith;
  opened_later = omega arith;
  hung_up_later = omega arith;
}
