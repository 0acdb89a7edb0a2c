-- A link that is handed back: it is kept, or hung up at the inner dialer.
use Rattle.std.proofs.Common.{◌≡◌, ℕ, suc, ◌<◌, ◌≤◌, Bool, true, false, not, IsTrue, ◌&&◌, ◌||◌, List, [], ◌∷◌, ◌++◌, length, Option, Some, None, Result, find, sym, ap, refl, ◌∙◌, arith, length-append}
use Rattle.std.proofs.lemmas.Grind.{common_steps}
use Rattle.std.specs.Prelude.{MatchBool}
use Rattle.px_base.specs.Causes.{IsOneMore}
use Rattle.px_base.specs.declared.dials.Dial.{Dial}
use Rattle.px_base.specs.Sources.{SourceState, given}
use Rattle.px_base.specs.Sinks.{SinkState}
use Rattle.px_base.specs.Dials.{DialerState, Traffic, is_open, finish, traffic, dialed, linked}
use Rattle.px_base.specs.declared.faults.DialFault.{DialFault}
use Rattle.px_pool_ends.specs.Incomings.{Hearing, inner_source, IsLaterSource}
use Rattle.px_pool_ends.specs.Names.{Passed}
use Rattle.px_pool_ends.specs.Outgoings.{Sending, inner_sink}
use Rattle.px_link_pool.specs.declared.histories.History.{History}
use Rattle.px_link_pool.specs.declared.shelves.KeptLink.{KeptLink}
use Rattle.px_link_pool.specs.declared.shelves.Shelf.{Shelf}
use Rattle.px_link_pool.specs.Histories.{Views, gone_from, has_place, at_most_four, back_on, kept_links, inner_of, are_due, with_closed, counted_up, HistoryTells}
use Rattle.px_link_pool.specs.Shelves.{items, in_front, is_at, without_first, IsShort}
use Rattle.px_link_pool.specs.Standing.{KeptState, kept_state, kept_states, is_told, PoolStands}
use Rattle.px_link_pool.proofs.MarkLemmas.{IsLent}
use Rattle.px_link_pool.proofs.StandingLemmas.{kept_on, hung_up_on, inner_open, oldest_open, oldest_told, told_whole, stands_without_oldest, kept_states-append}

-- what became of the link and of the list
pub record Shelved {I O : Type 0} (shelf slot : Shelf (KeptLink I O)) (closing : Option (KeptLink I O)) (k : KeptLink I O) (keeps : Bool) : Type 0 where
  pub kept : IsTrue keeps → in_front closing (items slot) ≡ items shelf ++ k ∷ []
  pub room : IsTrue keeps → IsShort closing (items shelf)
  pub given : keeps ≡ false → (closing ≡ Some k) × (slot ≡ shelf)

pub shelved_by : {I O : Type 0} (shelf was rest slot : Shelf (KeptLink I O)) (closing : Option (KeptLink I O)) (k : KeptLink I O) (keeps : Bool) → was ≡ shelf → slot ≡ rest
    → (IsTrue keeps → in_front closing (items rest) ≡ items was ++ k ∷ []) → (IsTrue keeps → IsShort closing (items was)) → (keeps ≡ false → (closing ≡ Some k) × (rest ≡ was)) → Shelved shelf slot closing k keeps
shelved_by shelf was rest slot closing k keeps e f kept room given = rw (← e, f) (record { kept = kept; room = room; given = given })

-- what is known of the link
pub record IsHanded {I O : Type 0} (ins : I → SourceState) (outs : O → SinkState) (inner : DialerState) (outer later : List Dial) (k : KeptLink I O) (t : Traffic) : Type 0 where
  pub later_is : later ≡ finish (ins k.source).mark t outer
  pub here : IsTrue inner.tells → is_open (ins k.source).mark outer ≡ true
  pub in_tells : IsTrue inner.tells → IsTrue (ins k.source).tells
  pub out_tells : IsTrue inner.tells → IsTrue (outs k.sink).tells
  pub one_mark : IsTrue inner.tells → (outs k.sink).mark ≡ (ins k.source).mark
  pub whole : IsTrue (ins k.source).tells → (ins k.source).offered ≡ given (ins k.source) ++ (ins k.source).left

some_of_none : {A : Type 0} (a : A) (o : Option A) → o ≡ None → o ≡ Some a → ⊥
some_of_none a o e f = cc

same_link : {A : Type 0} (a b : A) (o : Option A) → o ≡ Some a → o ≡ Some b → a ≡ b
same_link a b o e f = cc

-- it is kept, and none is hung up
pub none_stands : {I O : Type 0} (ins : I → SourceState) (outs : O → SinkState) (inner : DialerState) (outer later : List Dial) (shelf slot : Shelf (KeptLink I O)) (closing : Option (KeptLink I O)) (k : KeptLink I O) (keeps : Bool) (t : Traffic)
    → PoolStands inner outer (kept_states ins outs (items shelf)) → Shelved shelf slot closing k keeps → closing ≡ None → IsHanded ins outs inner outer later k t → (keeps ≡ true → (outs k.sink).finished ≡ false)
    → PoolStands inner later (kept_states ins outs (items slot))
none_stands ins outs inner outer later shelf slot closing k true t s h none handed unfinished =
    let f : items slot ≡ items shelf ++ k ∷ [] = rw none at (h.kept refl) in
    kept_on ins outs inner outer later (items shelf) (items slot) k t s handed.later_is f handed.here handed.in_tells handed.out_tells handed.one_mark handed.whole (unfinished refl)
none_stands ins outs inner outer later shelf slot closing k false t s h none handed unfinished = absurd (some_of_none k closing none (h.given refl).0)

-- with the one that is hung up
full_stands : {I O : Type 0} (ins : I → SourceState) (outs : O → SinkState) (inner : DialerState) (outer later : List Dial) (shelf slot : Shelf (KeptLink I O)) (closing : Option (KeptLink I O)) (k c : KeptLink I O) (t : Traffic)
    → PoolStands inner outer (kept_states ins outs (items shelf)) → Shelved shelf slot closing k true → closing ≡ Some c → IsHanded ins outs inner outer later k t → (outs k.sink).finished ≡ false
    → PoolStands inner later (kept_states ins outs (c ∷ items slot))
full_stands ins outs inner outer later shelf slot closing k c t s h some handed unfinished =
    let f : c ∷ items slot ≡ items shelf ++ k ∷ [] = rw some at (h.kept refl) in
    kept_on ins outs inner outer later (items shelf) (c ∷ items slot) k t s handed.later_is f handed.here handed.in_tells handed.out_tells handed.one_mark handed.whole unfinished

-- the link that is hung up at the inner dialer is open there, and tells
pub some_told : {I O : Type 0} (ins : I → SourceState) (outs : O → SinkState) (inner : DialerState) (outer later : List Dial) (shelf slot : Shelf (KeptLink I O)) (closing : Option (KeptLink I O)) (k c : KeptLink I O) (keeps : Bool) (t : Traffic)
    → PoolStands inner outer (kept_states ins outs (items shelf)) → Shelved shelf slot closing k keeps → closing ≡ Some c → IsHanded ins outs inner outer later k t → (keeps ≡ true → (outs k.sink).finished ≡ false)
    → IsTrue inner.tells → (is_open (ins c.source).mark inner.dials ≡ true) × IsTrue (is_told (kept_state ins outs c))
some_told ins outs inner outer later shelf slot closing k c true t s h some handed unfinished tells =
    let full = full_stands ins outs inner outer later shelf slot closing k c t s h some handed (unfinished refl) in
    (oldest_open inner later (kept_states ins outs (items slot)) (kept_state ins outs c) full tells, oldest_told inner later (kept_states ins outs (items slot)) (kept_state ins outs c) full tells)
some_told ins outs inner outer later shelf slot closing k c false t s h some handed unfinished tells =
    let same : c ≡ k = same_link c k closing some (h.given refl).0 in
    rw same (inner_open inner outer (kept_states ins outs (items shelf)) (ins k.source).mark s tells (handed.here tells), told_whole (kept_state ins outs k) (handed.in_tells tells) (handed.out_tells tells) (handed.one_mark tells))

pub some_stands : {I O : Type 0} (ins : I → SourceState) (outs : O → SinkState) (inner new : DialerState) (outer later : List Dial) (shelf slot : Shelf (KeptLink I O)) (closing : Option (KeptLink I O)) (k c : KeptLink I O) (keeps : Bool) (t u : Traffic)
    → PoolStands inner outer (kept_states ins outs (items shelf)) → Shelved shelf slot closing k keeps → closing ≡ Some c → IsHanded ins outs inner outer later k t → (keeps ≡ true → (outs k.sink).finished ≡ false)
    → new.tells ≡ inner.tells → (IsTrue inner.tells → new.dials ≡ finish (ins c.source).mark u inner.dials) → PoolStands new later (kept_states ins outs (items slot))
some_stands ins outs inner new outer later shelf slot closing k c true t u s h some handed unfinished e dials =
    stands_without_oldest inner new later (kept_states ins outs (items slot)) (kept_state ins outs c) u (full_stands ins outs inner outer later shelf slot closing k c t s h some handed (unfinished refl)) e dials
some_stands ins outs inner new outer later shelf slot closing k c false t u s h some handed unfinished e dials =
    let same : c ≡ k = same_link c k closing some (h.given refl).0 in
    rw (h.given refl).1 (hung_up_on inner new outer later (kept_states ins outs (items shelf)) (ins k.source).mark u t s e handed.later_is handed.here (λ told. rw same at (dials told)))

-- ---- the kept links as a history tells them

pub length-states : {I O : Type 0} (ins : I → SourceState) (outs : O → SinkState) (ks : List (KeptLink I O)) → length (kept_states ins outs ks) ≡ length ks
length-states ins outs [] = refl
length-states ins outs (k ∷ ks) = ap suc (length-states ins outs ks)

pub some_is_none : {A : Type 0} (a : A) → None ≡ Some a → ⊥
some_is_none a e = cc

pub same_one : {A : Type 0} (a b : A) → Some a ≡ Some b → a ≡ b
same_one a b e = cc

-- what a look for a place finds says whether it is on the list
states_none : {I O : Type 0} (ins : I → SourceState) (outs : O → SinkState) (host : List ℕ) (port : ℕ) (ks : List (KeptLink I O)) → None ≡ find (is_at host port) ks → has_place host port (kept_states ins outs ks) ≡ false
states_none ins outs host port [] h = refl
states_none ins outs host port (k ∷ ks) h =
    elim (is_at host port k) as (λ b. is_at host port k ≡ b → (b || has_place host port (kept_states ins outs ks)) ≡ false) [
      | true ↦ λ e. absurd (some_is_none k (rw e at h))
      | false ↦ λ e. states_none ins outs host port ks (rw e at h)
    ] refl

states_some : {I O : Type 0} (ins : I → SourceState) (outs : O → SinkState) (host : List ℕ) (port : ℕ) (ks : List (KeptLink I O)) (k : KeptLink I O) → Some k ≡ find (is_at host port) ks → has_place host port (kept_states ins outs ks) ≡ true
states_some ins outs host port [] k h = absurd (some_is_none k (sym h))
states_some ins outs host port (j ∷ ks) k h =
    elim (is_at host port j) as (λ b. is_at host port j ≡ b → (b || has_place host port (kept_states ins outs ks)) ≡ true) [
      | true ↦ λ e. refl
      | false ↦ λ e. states_some ins outs host port ks k (rw e at h)
    ] refl

states_gone : {I O : Type 0} (ins : I → SourceState) (outs : O → SinkState) (host : List ℕ) (port : ℕ) (ks : List (KeptLink I O)) → kept_states ins outs (without_first (is_at host port) ks) ≡ gone_from host port (kept_states ins outs ks)
states_gone ins outs host port [] = refl
states_gone ins outs host port (k ∷ ks) =
    elim (is_at host port k) as (λ b. is_at host port k ≡ b → kept_states ins outs (without_first (is_at host port) (k ∷ ks)) ≡ gone_from host port (kept_states ins outs (k ∷ ks))) [
      | true ↦ λ e. rw e refl
      | false ↦ λ e. rw e (ap (λ ps. kept_state ins outs k ∷ ps) (states_gone ins outs host port ks))
    ] refl

pub gone_by : {I O : Type 0} (ins : I → SourceState) (outs : O → SinkState) (host : List ℕ) (port : ℕ) (shelf was rest slot : Shelf (KeptLink I O)) → was ≡ shelf → items rest ≡ without_first (is_at host port) (items was) → slot ≡ rest
    → kept_states ins outs (items slot) ≡ gone_from host port (kept_states ins outs (items shelf))
gone_by ins outs host port shelf was rest slot e o s = rw (s, o, e) (states_gone ins outs host port (items shelf))

pub found_by : {I O : Type 0} (ins : I → SourceState) (outs : O → SinkState) (host : List ℕ) (port : ℕ) (shelf was : Shelf (KeptLink I O)) (found : Option (KeptLink I O)) (k : KeptLink I O) → was ≡ shelf → found ≡ find (is_at host port) (items was) → found ≡ Some k
    → has_place host port (kept_states ins outs (items shelf)) ≡ true
found_by ins outs host port shelf was found k e f is = states_some ins outs host port (items shelf) k (sym is ∙ f ∙ ap (λ x. find (is_at host port) (items x)) e)

pub none_found_by : {I O : Type 0} (ins : I → SourceState) (outs : O → SinkState) (host : List ℕ) (port : ℕ) (shelf was : Shelf (KeptLink I O)) (found : Option (KeptLink I O)) → was ≡ shelf → found ≡ find (is_at host port) (items was) → found ≡ None
    → has_place host port (kept_states ins outs (items shelf)) ≡ false
none_found_by ins outs host port shelf was found e f is = states_none ins outs host port (items shelf) (sym is ∙ f ∙ ap (λ x. find (is_at host port) (items x)) e)

few : (ps : List KeptState) → length ps ≤ 4 → at_most_four ps ≡ ps
few ps h = grind (arith, common_steps)

many : (p : KeptState) (ps : List KeptState) → length (p ∷ ps) ≡ 5 → at_most_four (p ∷ ps) ≡ ps
many p ps h = grind (arith, common_steps)

-- the list behind a link that was handed back
pub shelved_states : {I O : Type 0} (ins : I → SourceState) (outs : O → SinkState) (shelf slot : Shelf (KeptLink I O)) (closing : Option (KeptLink I O)) (k : KeptLink I O) (keeps : Bool) → Shelved shelf slot closing k keeps
    → kept_states ins outs (items slot) ≡ back_on keeps (kept_state ins outs k) (kept_states ins outs (items shelf))
shelved_states ins outs shelf slot None k true h =
    let f : kept_states ins outs (items slot) ≡ kept_states ins outs (items shelf) ++ kept_state ins outs k ∷ [] = ap (kept_states ins outs) (h.kept refl) ∙ kept_states-append ins outs (items shelf) (k ∷ []) in
    let short : length (items shelf) < 4 = h.room refl in
    f ∙ sym (few (kept_states ins outs (items shelf) ++ kept_state ins outs k ∷ []) (omega (arith, length-append (kept_states ins outs (items shelf)) (kept_state ins outs k ∷ []), length-states ins outs (items shelf))))
shelved_states ins outs shelf slot (Some c) k true h =
    let f : kept_state ins outs c ∷ kept_states ins outs (items slot) ≡ kept_states ins outs (items shelf) ++ kept_state ins outs k ∷ [] = ap (kept_states ins outs) (h.kept refl) ∙ kept_states-append ins outs (items shelf) (k ∷ []) in
    let full : length (items shelf) ≡ 4 = h.room refl in
    let five : length (kept_state ins outs c ∷ kept_states ins outs (items slot)) ≡ 5 = ap length f ∙ omega (arith, length-append (kept_states ins outs (items shelf)) (kept_state ins outs k ∷ []), length-states ins outs (items shelf)) in
    sym (many (kept_state ins outs c) (kept_states ins outs (items slot)) five) ∙ ap at_most_four f
shelved_states ins outs shelf slot closing k false h = ap (λ x. kept_states ins outs (items x)) (h.given refl).1

due_by : (b d r : Bool) → r ≡ (b && d) → b ≡ true → d ≡ true → r ≡ true
due_by b d r e f g = rw (e, f, g) refl

due_not : (b d r : Bool) → r ≡ (not b && d) → b ≡ false → d ≡ true → r ≡ true
due_not b d r e f g = rw (e, f, g) refl

-- ---- what the history tells, step by step

pub again_tells : {S T : Type 0} (v : Views S T) (base inner : List Dial) (kept others : List KeptState) (before after : History Hearing Sending S T) (host name : List ℕ) (port : ℕ)
    → HistoryTells v base inner kept before → name ≡ host → inner_of base v.ins v.outs after ≡ inner_of base v.ins v.outs before
    → kept_links v after ≡ gone_from name port (kept_links v before) → are_due v after ≡ (has_place name port (kept_links v before) && are_due v before)
    → others ≡ gone_from host port kept → has_place host port kept ≡ true → HistoryTells v base inner others after
again_tells v base inner kept others before after host name port was same i p d gone has = record {
  inner_is = was.inner_is ∙ sym i;
  kept_is = gone ∙ ap (gone_from host port) was.kept_is ∙ ap (λ h. gone_from h port (kept_links v before)) (sym same) ∙ sym p;
  due = due_by _ _ _ d (ap (λ h. has_place h port (kept_links v before)) same ∙ ap (has_place host port) (sym was.kept_is) ∙ has) was.due;
}

pub dialled_tells : {S T : Type 0} (v : Views S T) (base inner new : List Dial) (kept others : List KeptState) (before after : History Hearing Sending S T) (host name : List ℕ) (port : ℕ) (r asked : Result (S × T) DialFault)
    → HistoryTells v base inner kept before → name ≡ host → asked ≡ r → new ≡ inner ++ dialed host port (linked v.ins v.outs r)
    → inner_of base v.ins v.outs after ≡ inner_of base v.ins v.outs before ++ dialed name port (linked v.ins v.outs asked)
    → kept_links v after ≡ gone_from name port (kept_links v before) → are_due v after ≡ (not (has_place name port (kept_links v before)) && are_due v before)
    → others ≡ gone_from host port kept → has_place host port kept ≡ false → HistoryTells v base new others after
dialled_tells v base inner new kept others before after host name port r asked was same e grown i p d gone has = record {
  inner_is = grown ∙ ap (λ ds. ds ++ dialed host port (linked v.ins v.outs r)) was.inner_is ∙ ap (λ h. inner_of base v.ins v.outs before ++ dialed h port (linked v.ins v.outs r)) (sym same)
      ∙ ap (λ a. inner_of base v.ins v.outs before ++ dialed name port (linked v.ins v.outs a)) (sym e) ∙ sym i;
  kept_is = gone ∙ ap (gone_from host port) was.kept_is ∙ ap (λ h. gone_from h port (kept_links v before)) (sym same) ∙ sym p;
  due = due_not _ _ _ d (ap (λ h. has_place h port (kept_links v before)) same ∙ ap (has_place host port) (sym was.kept_is) ∙ has) was.due;
}

pub handed_tells : {S T : Type 0} (v : Views S T) (base inner new : List Dial) (kept others : List KeptState) (before after : History Hearing Sending S T) (k noted : KeptState) (closing : Option (KeptLink S T)) (keeps may : Bool)
    → HistoryTells v base inner kept before → noted ≡ k → new ≡ with_closed v.ins v.outs closing inner
    → inner_of base v.ins v.outs after ≡ with_closed v.ins v.outs closing (inner_of base v.ins v.outs before)
    → kept_links v after ≡ back_on may noted (kept_links v before) → are_due v after ≡ are_due v before
    → others ≡ back_on keeps k kept → keeps ≡ may → HistoryTells v base new others after
handed_tells v base inner new kept others before after k noted closing keeps may was same closed i p d back alike = record {
  inner_is = closed ∙ ap (with_closed v.ins v.outs closing) was.inner_is ∙ sym i;
  kept_is = back ∙ ap (back_on keeps k) was.kept_is ∙ ap (λ h. back_on keeps h (kept_links v before)) (sym same) ∙ ap (λ b. back_on b noted (kept_links v before)) alike ∙ sym p;
  due = d ∙ was.due;
}

pub closes_some : {S T : Type 0} (ins : S → SourceState) (outs : T → SinkState) (closing : Option (KeptLink S T)) (c : KeptLink S T) (old new : List Dial) → closing ≡ Some c → new ≡ finish (ins c.source).mark (traffic (ins c.source) (outs c.sink)) old → new ≡ with_closed ins outs closing old
closes_some ins outs closing c old new e f = rw e f

pub closes_none : {S T : Type 0} (ins : S → SourceState) (outs : T → SinkState) (closing : Option (KeptLink S T)) (old : List Dial) → closing ≡ None → old ≡ with_closed ins outs closing old
closes_none ins outs closing old e = rw e refl

-- what a call of hang_up knows of its link
pub handed_by : {S T : Type 0} (ins : S → SourceState) (outs : T → SinkState) (inner : DialerState) (w : ℕ → Passed) (outer later : List Dial) (k : KeptLink S T) (h noted_in : Hearing) (s noted_out : Sending)
    → later ≡ finish (inner_source noted_in).mark (traffic (inner_source noted_in) (inner_sink noted_out)) outer → noted_in ≡ h → noted_out ≡ s → ins k.source ≡ h.source → outs k.sink ≡ s.sink
    → (IsTrue inner.tells → IsLent w outer h s) → (IsTrue h.source.tells → IsLaterSource h.begun h.source)
    → IsHanded ins outs inner outer later k (traffic h.source s.sink)
handed_by ins outs inner w outer later k h noted_in s noted_out e i o a b lent went = record {
  later_is = e ∙ rw (i, o, a) refl;
  here = λ t. rw a (lent t).here;
  in_tells = λ t. rw a (lent t).in_tells;
  out_tells = λ t. rw b (lent t).out_tells;
  one_mark = λ t. rw (a, b) (lent t).one_mark;
  whole = rw a (λ t. (went t).whole);
}

pub same_kept : (a b : List ℕ) (p : ℕ) (i j : SourceState) (o q : SinkState) → a ≡ b → i ≡ j → o ≡ q → ◌≡◌ {A = KeptState} (record { host = a; port = p; link_in = i; link_out = o }) (record { host = b; port = p; link_in = j; link_out = q })
same_kept a b p i j o q e f g = cc

pub counted_by : (b : Bool) (n m : ℕ) → MatchBool b (IsOneMore n m) (m ≡ n) → m ≡ counted_up b n
counted_by true n m h = h
counted_by false n m h = h
