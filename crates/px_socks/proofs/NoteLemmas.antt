-- The outer dials behind a dial more, and behind a link that is hung up.
use Rattle.std.proofs.Common.{◌≡◌, ℕ, Bool, true, false, List, [], ◌∷◌, ◌++◌, length, drop, cond, sym, ap, subst, ◌∙◌, refl, ◌⊎◌, inl, inr}
use Rattle.std.specs.Prelude.{◌||◌}
use Rattle.std.proofs.lemmas.Bool.{or_cases, eqb-true, eq-eqb, false_from_ne_true}
use Rattle.px_base.specs.Dials.{Traffic, is_open_at, is_open, finish, closed, closed_dial}
use Rattle.px_base.specs.declared.dials.Dial.{Dial}
use Rattle.px_base.specs.declared.dials.DialOutcome.{DialOutcome}
use Rattle.px_base.specs.declared.dials.DialOutcome.TheVariants as outcome
use Rattle.px_socks.specs.declared.ends.HandshakePassage.{HandshakePassage}
use Rattle.px_socks.specs.declared.notes.DialNote.{DialNote}
use Rattle.px_socks.specs.declared.notes.DialNote.TheVariants as note
use Rattle.px_socks.specs.Marks.{mark_behind}
use Rattle.px_socks.specs.Messages.{messages}
use Rattle.px_base.specs.DialNames.{is_dial_name, target_of}
use Rattle.px_socks.specs.Notes.{no_handshake, passage_of, outcome_behind, traffic_behind, dial_behind, refused_dial, outer_dials, IsAcceptedBy, IsRefusedBy, IsLostBy, IsServedDial, AreTied, AreDistinct}
use Rattle.px_socks.proofs.MarkLemmas.{mark_injective}

-- the outer dials of both parts, one behind the other
pub outer-append : (ns ms : List DialNote) (ds es : List Dial) → AreTied ns ds → outer_dials (ns ++ ms) (ds ++ es) ≡ outer_dials ns ds ++ outer_dials ms es
outer-append [] ms [] es h = refl
outer-append [] ms (d ∷ ds) es h = absurd h
outer-append (note.Plain ∷ ns) ms [] es h = absurd h
outer-append (note.Plain ∷ ns) ms (d ∷ ds) es h = ap (λ (os : List Dial). dial_behind d.host d.port no_handshake d ∷ os) (outer-append ns ms ds es h.1)
outer-append (note.Accepted name port heard ∷ ns) ms [] es h = absurd h
outer-append (note.Accepted name port heard ∷ ns) ms (d ∷ ds) es h = ap (λ (os : List Dial). dial_behind name port (passage_of name port heard) d ∷ os) (outer-append ns ms ds es h.1)
outer-append (note.Refused name port ∷ ns) ms [] es h = absurd h
outer-append (note.Refused name port ∷ ns) ms (d ∷ ds) es h = ap (λ (os : List Dial). refused_dial name port ∷ os) (outer-append ns ms ds es h.1)
outer-append (note.TooLong name port ∷ ns) ms ds es h = ap (λ (os : List Dial). refused_dial name port ∷ os) (outer-append ns ms ds es h.1)
outer-append (note.Lost name port ∷ ns) ms [] es h = absurd h
outer-append (note.Lost name port ∷ ns) ms (d ∷ ds) es h = outer-append ns ms ds es h.1

pub tied-append : (ns ms : List DialNote) (ds es : List Dial) → AreTied ns ds → AreTied ms es → AreTied (ns ++ ms) (ds ++ es)
tied-append [] ms [] es h k = k
tied-append [] ms (d ∷ ds) es h k = absurd h
tied-append (note.Plain ∷ ns) ms [] es h k = absurd h
tied-append (note.Plain ∷ ns) ms (d ∷ ds) es h k = (h.0, tied-append ns ms ds es h.1 k)
tied-append (note.Accepted name port heard ∷ ns) ms [] es h k = absurd h
tied-append (note.Accepted name port heard ∷ ns) ms (d ∷ ds) es h k = (h.0, tied-append ns ms ds es h.1 k)
tied-append (note.Refused name port ∷ ns) ms [] es h k = absurd h
tied-append (note.Refused name port ∷ ns) ms (d ∷ ds) es h k = (h.0, tied-append ns ms ds es h.1 k)
tied-append (note.TooLong name port ∷ ns) ms ds es h k = (h.0, tied-append ns ms ds es h.1 k)
tied-append (note.Lost name port ∷ ns) ms [] es h k = absurd h
tied-append (note.Lost name port ∷ ns) ms (d ∷ ds) es h k = (h.0, tied-append ns ms ds es h.1 k)

-- an open outer link is an open inner one that tells
pub record OpenBelow (mark : ℕ) (ds : List Dial) : Type 0 where
  pub passage : HandshakePassage
  pub inner : ℕ
  pub same : mark ≡ mark_behind true passage inner
  pub open_there : is_open inner ds ≡ true

or_true_right : (a b : Bool) → b ≡ true → (a || b) ≡ true
or_true_right true b e = refl
or_true_right false b e = e

or_true_left : (a b : Bool) → a ≡ true → (a || b) ≡ true
or_true_left true b e = refl
or_true_left false b e = absurd (cc)

open_one : (mark : ℕ) (p : HandshakePassage) (o : DialOutcome) → is_open_at mark (outcome_behind p o) ≡ true → (inner : ℕ) × (mark ≡ mark_behind true p inner) × (is_open_at inner o ≡ true)
open_one mark p outcome.NoName h = absurd (cc)
open_one mark p outcome.NotReached h = absurd (cc)
open_one mark p (outcome.Open m offered) h = (m, sym (eqb-true (mark_behind true p m) mark h), eq-eqb m m refl)
open_one mark p (outcome.Link l) h = absurd (cc)

open_first : (mark : ℕ) (p : HandshakePassage) (d : Dial) (ds : List Dial) → is_open_at mark (outcome_behind p d.outcome) ≡ true → OpenBelow mark (d ∷ ds)
open_first mark p d ds h = let o = open_one mark p d.outcome h in record { passage = p; inner = o.0; same = o.1; open_there = or_true_left (is_open_at o.0 d.outcome) (is_open o.0 ds) o.2 }

open_later : (mark : ℕ) (d : Dial) (ds : List Dial) → OpenBelow mark ds → OpenBelow mark (d ∷ ds)
open_later mark d ds o = record { passage = o.passage; inner = o.inner; same = o.same; open_there = or_true_right (is_open_at o.inner d.outcome) (is_open o.inner ds) o.open_there }

pub open_below : (mark : ℕ) (ns : List DialNote) (ds : List Dial) → is_open mark (outer_dials ns ds) ≡ true → OpenBelow mark ds
open_below mark [] ds h = absurd (cc)
open_below mark (note.Plain ∷ ns) [] h = absurd (cc)
open_below mark (note.Plain ∷ ns) (d ∷ ds) h = elim (or_cases (is_open_at mark (outcome_behind no_handshake d.outcome)) (is_open mark (outer_dials ns ds)) h) [
  | inl here ↦ open_first mark no_handshake d ds here
  | inr there ↦ open_later mark d ds (open_below mark ns ds there)
]
open_below mark (note.Accepted name port heard ∷ ns) [] h = absurd (cc)
open_below mark (note.Accepted name port heard ∷ ns) (d ∷ ds) h = elim (or_cases (is_open_at mark (outcome_behind (passage_of name port heard) d.outcome)) (is_open mark (outer_dials ns ds)) h) [
  | inl here ↦ open_first mark (passage_of name port heard) d ds here
  | inr there ↦ open_later mark d ds (open_below mark ns ds there)
]
open_below mark (note.Refused name port ∷ ns) [] h = absurd (cc)
open_below mark (note.Refused name port ∷ ns) (d ∷ ds) h = open_later mark d ds (open_below mark ns ds h)
open_below mark (note.TooLong name port ∷ ns) ds h = open_below mark ns ds h
open_below mark (note.Lost name port ∷ ns) [] h = absurd (cc)
open_below mark (note.Lost name port ∷ ns) (d ∷ ds) h = open_later mark d ds (open_below mark ns ds h)

-- the first dial is that link, or is another and the link is among those behind
abbrev IsHere : ℕ → ℕ → HandshakePassage → HandshakePassage → DialOutcome → Type 0
IsHere mark inner p q o = (is_open_at inner o ≡ true) × (is_open_at mark (outcome_behind q o) ≡ true) × (p ≡ q)

abbrev IsBehind : ℕ → ℕ → HandshakePassage → DialOutcome → List Dial → Type 0
IsBehind mark inner q o os = (is_open_at inner o ≡ false) × (is_open_at mark (outcome_behind q o) ≡ false) × (is_open mark os ≡ true)

inner_open : (inner : ℕ) (p q : HandshakePassage) (o : DialOutcome) → is_open_at (mark_behind true p inner) (outcome_behind q o) ≡ true → (is_open_at inner o ≡ true) × (p ≡ q)
inner_open inner p q o h =
    let e = open_one (mark_behind true p inner) q o h in
    let same = mark_injective true p q inner e.0 e.1 in
    let P = λ (n : ℕ). is_open_at n o ≡ true in
    (subst P (sym same.mark) e.2, same.passage)

below_is : (inner : ℕ) (p : HandshakePassage) (ds : List Dial) → OpenBelow (mark_behind true p inner) ds → is_open inner ds ≡ true
below_is inner p ds o =
    let same = mark_injective true p o.passage inner o.inner o.same in
    let P = λ (n : ℕ). is_open n ds ≡ true in
    subst P (sym same.mark) o.open_there

two : (b : Bool) → (b ≡ true) ⊎ (b ≡ false)
two true = inl refl
two false = inr refl

here_or_behind : (inner : ℕ) (p q : HandshakePassage) (o : DialOutcome) (ds os : List Dial)
    → (is_open_at (mark_behind true p inner) (outcome_behind q o) || is_open (mark_behind true p inner) os) ≡ true
    → ((mark : ℕ) → is_open_at mark o ≡ true → is_open mark ds ≡ false)
    → (is_open (mark_behind true p inner) os ≡ true → is_open inner ds ≡ true)
    → IsHere (mark_behind true p inner) inner p q o ⊎ IsBehind (mark_behind true p inner) inner q o os
here_or_behind inner p q o ds os h distinct below =
    elim (two (is_open_at (mark_behind true p inner) (outcome_behind q o))) [
      | inl here ↦ let e = inner_open inner p q o here in inl (e.0, here, e.1)
      | inr other ↦
          let later : is_open (mark_behind true p inner) os ≡ true = rw other at h in
          inr (false_from_ne_true (is_open_at inner o) (λ k. let no = distinct inner k in let yes = below later in absurd (cc)), other, later)
    ]

closed_same : (p q : HandshakePassage) (t : Traffic) (o : DialOutcome) → p ≡ q → outcome_behind q (closed t o) ≡ closed (traffic_behind p t) (outcome_behind q o)
closed_same p q t outcome.NoName e = refl
closed_same p q t outcome.NotReached e = refl
closed_same p q t (outcome.Open m offered) e = rw e refl
closed_same p q t (outcome.Link l) e = refl

-- a link that is hung up, or another, at the front
link_finish : (inner : ℕ) (p q : HandshakePassage) (t : Traffic) (host : List ℕ) (port : ℕ) (o : DialOutcome) (os os' : List Dial)
    → IsHere (mark_behind true p inner) inner p q o ⊎ IsBehind (mark_behind true p inner) inner q o os
    → (is_open (mark_behind true p inner) os ≡ true → os' ≡ finish (mark_behind true p inner) (traffic_behind p t) os)
    → cond (is_open_at inner o) (record { host = host; port = port; outcome = outcome_behind q (closed t o) } ∷ os) (record { host = host; port = port; outcome = outcome_behind q o } ∷ os')
    ≡ finish (mark_behind true p inner) (traffic_behind p t) (record { host = host; port = port; outcome = outcome_behind q o } ∷ os)
link_finish inner p q t host port o os os' (inl here) rest =
    rw (here.0, here.1) (ap (λ (x : DialOutcome). record { host = host; port = port; outcome = x } ∷ os) (closed_same p q t o here.2))
link_finish inner p q t host port o os os' (inr behind) rest =
    rw (behind.0, behind.1) (ap (λ (xs : List Dial). record { host = host; port = port; outcome = outcome_behind q o } ∷ xs) (rest behind.2))

plain_of : (ns : List DialNote) (t : Traffic) (d : Dial) (ds ds' : List Dial) (b : Bool)
    → outer_dials (note.Plain ∷ ns) (cond b (closed_dial t d ∷ ds) (d ∷ ds'))
    ≡ cond b (record { host = d.host; port = d.port; outcome = outcome_behind no_handshake (closed t d.outcome) } ∷ outer_dials ns ds) (record { host = d.host; port = d.port; outcome = outcome_behind no_handshake d.outcome } ∷ outer_dials ns ds')
plain_of ns t d ds ds' true = refl
plain_of ns t d ds ds' false = refl

accepted_of : (name : List ℕ) (port heard : ℕ) (ns : List DialNote) (t : Traffic) (d : Dial) (ds ds' : List Dial) (b : Bool)
    → outer_dials (note.Accepted name port heard ∷ ns) (cond b (closed_dial t d ∷ ds) (d ∷ ds'))
    ≡ cond b (record { host = name; port = port; outcome = outcome_behind (passage_of name port heard) (closed t d.outcome) } ∷ outer_dials ns ds)
    (record { host = name; port = port; outcome = outcome_behind (passage_of name port heard) d.outcome } ∷ outer_dials ns ds')
accepted_of name port heard ns t d ds ds' true = refl
accepted_of name port heard ns t d ds ds' false = refl

-- neither is open
pub refused_not_open : (inner : ℕ) (bytes : List ℕ) (o : DialOutcome) → IsRefusedBy bytes o → is_open_at inner o ≡ false
refused_not_open inner bytes outcome.NoName h = refl
refused_not_open inner bytes outcome.NotReached h = refl
refused_not_open inner bytes (outcome.Open m offered) h = absurd h
refused_not_open inner bytes (outcome.Link l) h = refl

pub lost_not_open : (inner : ℕ) (bytes : List ℕ) (o : DialOutcome) → IsLostBy bytes o → is_open_at inner o ≡ false
lost_not_open inner bytes outcome.NoName h = absurd h
lost_not_open inner bytes outcome.NotReached h = absurd h
lost_not_open inner bytes (outcome.Open m offered) h = absurd h
lost_not_open inner bytes (outcome.Link l) h = refl

-- the outer link is hung up where the inner one is
pub outer_finish : (inner : ℕ) (p : HandshakePassage) (t : Traffic) (ns : List DialNote) (ds : List Dial) → AreTied ns ds → AreDistinct ds → is_open (mark_behind true p inner) (outer_dials ns ds) ≡ true
    → outer_dials ns (finish inner t ds) ≡ finish (mark_behind true p inner) (traffic_behind p t) (outer_dials ns ds)
outer_finish inner p t [] ds h k open_there = absurd (cc)
outer_finish inner p t (note.Plain ∷ ns) [] h k open_there = absurd h
outer_finish inner p t (note.Plain ∷ ns) (d ∷ ds) h k open_there =
    plain_of ns t d ds (finish inner t ds) (is_open_at inner d.outcome)
    ∙ link_finish inner p no_handshake t d.host d.port d.outcome (outer_dials ns ds) (outer_dials ns (finish inner t ds))
    (here_or_behind inner p no_handshake d.outcome ds (outer_dials ns ds) open_there k.0 (λ o. below_is inner p ds (open_below (mark_behind true p inner) ns ds o)))
    (λ o. outer_finish inner p t ns ds h.1 k.1 o)
outer_finish inner p t (note.Accepted name port heard ∷ ns) [] h k open_there = absurd h
outer_finish inner p t (note.Accepted name port heard ∷ ns) (d ∷ ds) h k open_there =
    accepted_of name port heard ns t d ds (finish inner t ds) (is_open_at inner d.outcome)
    ∙ link_finish inner p (passage_of name port heard) t name port d.outcome (outer_dials ns ds) (outer_dials ns (finish inner t ds))
    (here_or_behind inner p (passage_of name port heard) d.outcome ds (outer_dials ns ds) open_there k.0 (λ o. below_is inner p ds (open_below (mark_behind true p inner) ns ds o)))
    (λ o. outer_finish inner p t ns ds h.1 k.1 o)
outer_finish inner p t (note.Refused name port ∷ ns) [] h k open_there = absurd h
outer_finish inner p t (note.Refused name port ∷ ns) (d ∷ ds) h k open_there =
    rw (refused_not_open inner (messages (target_of name) port) d.outcome h.0.outcome) (ap (λ (os : List Dial). refused_dial name port ∷ os) (outer_finish inner p t ns ds h.1 k.1 open_there))
outer_finish inner p t (note.TooLong name port ∷ ns) ds h k open_there = ap (λ (os : List Dial). refused_dial name port ∷ os) (outer_finish inner p t ns ds h.1 k open_there)
outer_finish inner p t (note.Lost name port ∷ ns) [] h k open_there = absurd h
outer_finish inner p t (note.Lost name port ∷ ns) (d ∷ ds) h k open_there = rw (lost_not_open inner (messages (target_of name) port) d.outcome h.0.outcome) (outer_finish inner p t ns ds h.1 k.1 open_there)

-- what went over the link that is hung up begins as its passage says
accepted_finish : (name : List ℕ) (inner : ℕ) (p q : HandshakePassage) (t : Traffic) (d : Dial) (os : List Dial) (ns : List DialNote) (ds ds' : List Dial)
    → IsHere (mark_behind true p inner) inner p q d.outcome ⊎ IsBehind (mark_behind true p inner) inner q d.outcome os
    → t.sent ≡ p.messages ++ drop (length p.messages) t.sent
    → IsServedDial name (IsAcceptedBy q) d → AreTied ns ds → (is_open (mark_behind true p inner) os ≡ true → AreTied ns ds')
    → (x : Dial) × (xs : List Dial) × (cond (is_open_at inner d.outcome) (closed_dial t d ∷ ds) (d ∷ ds') ≡ x ∷ xs) × IsServedDial name (IsAcceptedBy q) x × AreTied ns xs
accepted_finish name inner p q t d os ns ds ds' (inl here) first by h rest = (closed_dial t d, ds, rw here.0 refl, record { named = by.named; short = by.short; server = by.server; outcome = closed_by d.outcome here.0 by.outcome }, h)
  where
    closed_by : (o : DialOutcome) → is_open_at inner o ≡ true → IsAcceptedBy q o → IsAcceptedBy q (closed t o)
    closed_by outcome.NoName e k = absurd (cc)
    closed_by outcome.NotReached e k = absurd (cc)
    closed_by (outcome.Open m offered) e k = (k, let P = λ (r : HandshakePassage). t.sent ≡ r.messages ++ drop (length r.messages) t.sent in subst P here.2 first)
    closed_by (outcome.Link l) e k = absurd (cc)
accepted_finish name inner p q t d os ns ds ds' (inr behind) first by h rest = (d, ds', rw behind.0 refl, by, rest behind.2)

tied_of_accepted : (name : List ℕ) (port heard : ℕ) (ns : List DialNote) (all : List Dial)
    → (x : Dial) × (xs : List Dial) × (all ≡ x ∷ xs) × IsServedDial name (IsAcceptedBy (passage_of name port heard)) x × AreTied ns xs
    → AreTied (note.Accepted name port heard ∷ ns) all
tied_of_accepted name port heard ns all r = let P = λ (l : List Dial). AreTied (note.Accepted name port heard ∷ ns) l in subst P (sym r.2) (r.3, r.4)

tied_of_plain : (ns : List DialNote) (d e : Dial) (ds ds' : List Dial) (b : Bool) → is_dial_name d.host ≡ false → is_dial_name e.host ≡ false → AreTied ns ds → (b ≡ false → AreTied ns ds') → AreTied (note.Plain ∷ ns) (cond b (e ∷ ds) (d ∷ ds'))
tied_of_plain ns d e ds ds' true no_name no_name' h k = (no_name', h)
tied_of_plain ns d e ds ds' false no_name no_name' h k = (no_name, k refl)

pub tied_finish : (inner : ℕ) (p : HandshakePassage) (t : Traffic) (ns : List DialNote) (ds : List Dial) → AreTied ns ds → AreDistinct ds → is_open (mark_behind true p inner) (outer_dials ns ds) ≡ true
    → t.sent ≡ p.messages ++ drop (length p.messages) t.sent → AreTied ns (finish inner t ds)
tied_finish inner p t [] ds h k open_there first = absurd (cc)
tied_finish inner p t (note.Plain ∷ ns) [] h k open_there first = absurd h
tied_finish inner p t (note.Plain ∷ ns) (d ∷ ds) h k open_there first =
    tied_of_plain ns d (closed_dial t d) ds (finish inner t ds) (is_open_at inner d.outcome) h.0 h.0 h.1 (λ no.
    elim (here_or_behind inner p no_handshake d.outcome ds (outer_dials ns ds) open_there k.0 (λ o. below_is inner p ds (open_below (mark_behind true p inner) ns ds o))) [
      | inl here ↦ absurd (let yes = here.0 in cc)
      | inr behind ↦ tied_finish inner p t ns ds h.1 k.1 behind.2 first
    ])
tied_finish inner p t (note.Accepted name port heard ∷ ns) [] h k open_there first = absurd h
tied_finish inner p t (note.Accepted name port heard ∷ ns) (d ∷ ds) h k open_there first =
    tied_of_accepted name port heard ns (finish inner t (d ∷ ds))
    (accepted_finish name inner p (passage_of name port heard) t d (outer_dials ns ds) ns ds (finish inner t ds)
    (here_or_behind inner p (passage_of name port heard) d.outcome ds (outer_dials ns ds) open_there k.0 (λ o. below_is inner p ds (open_below (mark_behind true p inner) ns ds o)))
    first h.0 h.1 (λ o. tied_finish inner p t ns ds h.1 k.1 o first))
tied_finish inner p t (note.Refused name port ∷ ns) [] h k open_there first = absurd h
tied_finish inner p t (note.Refused name port ∷ ns) (d ∷ ds) h k open_there first =
    rw (refused_not_open inner (messages (target_of name) port) d.outcome h.0.outcome) (h.0, tied_finish inner p t ns ds h.1 k.1 open_there first)
tied_finish inner p t (note.TooLong name port ∷ ns) ds h k open_there first = (h.0, tied_finish inner p t ns ds h.1 k open_there first)
tied_finish inner p t (note.Lost name port ∷ ns) [] h k open_there first = absurd h
tied_finish inner p t (note.Lost name port ∷ ns) (d ∷ ds) h k open_there first =
    rw (lost_not_open inner (messages (target_of name) port) d.outcome h.0.outcome) (h.0, tied_finish inner p t ns ds h.1 k.1 open_there first)

-- open marks stay distinct
closed_open : (mark : ℕ) (t : Traffic) (o : DialOutcome) → is_open_at mark (closed t o) ≡ true → is_open_at mark o ≡ true
closed_open mark t outcome.NoName h = h
closed_open mark t outcome.NotReached h = h
closed_open mark t (outcome.Open m offered) h = absurd (cc)
closed_open mark t (outcome.Link l) h = h

cond_open : (mark : ℕ) (t : Traffic) (d : Dial) (ds ds' : List Dial) (b : Bool) → (is_open mark ds' ≡ true → is_open mark ds ≡ true)
    → is_open mark (cond b (closed_dial t d ∷ ds) (d ∷ ds')) ≡ true → is_open mark (d ∷ ds) ≡ true
cond_open mark t d ds ds' true k h = elim (or_cases (is_open_at mark (closed t d.outcome)) (is_open mark ds) h) [
  | inl here ↦ or_true_left (is_open_at mark d.outcome) (is_open mark ds) (closed_open mark t d.outcome here)
  | inr there ↦ or_true_right (is_open_at mark d.outcome) (is_open mark ds) there
]
cond_open mark t d ds ds' false k h = elim (or_cases (is_open_at mark d.outcome) (is_open mark ds') h) [
  | inl here ↦ or_true_left (is_open_at mark d.outcome) (is_open mark ds) here
  | inr there ↦ or_true_right (is_open_at mark d.outcome) (is_open mark ds) (k there)
]

finish_open : (mark inner : ℕ) (t : Traffic) (ds : List Dial) → is_open mark (finish inner t ds) ≡ true → is_open mark ds ≡ true
finish_open mark inner t [] h = h
finish_open mark inner t (d ∷ ds) h = cond_open mark t d ds (finish inner t ds) (is_open_at inner d.outcome) (finish_open mark inner t ds) h

distinct_cond : (t : Traffic) (d : Dial) (ds ds' : List Dial) (b : Bool) → AreDistinct (d ∷ ds) → ((mark : ℕ) → is_open mark ds' ≡ true → is_open mark ds ≡ true) → AreDistinct ds'
    → AreDistinct (cond b (closed_dial t d ∷ ds) (d ∷ ds'))
distinct_cond t d ds ds' true h k r = (λ mark o. h.0 mark (closed_open mark t d.outcome o), h.1)
distinct_cond t d ds ds' false h k r = (λ mark o. false_from_ne_true (is_open mark ds') (λ e. let yes = k mark e in let no = h.0 mark o in absurd (cc)), r)

pub distinct_finish : (inner : ℕ) (t : Traffic) (ds : List Dial) → AreDistinct ds → AreDistinct (finish inner t ds)
distinct_finish inner t [] h = h
distinct_finish inner t (d ∷ ds) h = distinct_cond t d ds (finish inner t ds) (is_open_at inner d.outcome) h (λ mark e. finish_open mark inner t ds e) (distinct_finish inner t ds h.1)

open_same : (a b : ℕ) (o : DialOutcome) → is_open_at a o ≡ true → is_open_at b o ≡ true → a ≡ b
open_same a b outcome.NoName h k = absurd (cc)
open_same a b outcome.NotReached h k = absurd (cc)
open_same a b (outcome.Open m offered) h k = sym (eqb-true m a h) ∙ eqb-true m b k
open_same a b (outcome.Link l) h k = absurd (cc)

-- open in both parts, one behind the other
open_append : (mark : ℕ) (ds es : List Dial) → is_open mark (ds ++ es) ≡ true → (is_open mark ds ≡ true) ⊎ (is_open mark es ≡ true)
open_append mark [] es h = inr h
open_append mark (d ∷ ds) es h = elim (or_cases (is_open_at mark d.outcome) (is_open mark (ds ++ es)) h) [
  | inl here ↦ inl (or_true_left (is_open_at mark d.outcome) (is_open mark ds) here)
  | inr there ↦ elim (open_append mark ds es there) [ inl a ↦ inl (or_true_right (is_open_at mark d.outcome) (is_open mark ds) a) | inr b ↦ inr b ]
]

-- an outcome with a mark that none of the open links has
abbrev pub IsNew : Dial → List Dial → Type 0
IsNew d ds = (mark : ℕ) → is_open_at mark d.outcome ≡ true → is_open mark ds ≡ false

pub distinct-append : (ds : List Dial) (d : Dial) → AreDistinct ds → IsNew d ds → AreDistinct (ds ++ d ∷ [])
distinct-append [] d h new = (λ mark o. refl, tt)
distinct-append (x ∷ xs) d h new = (
  λ mark o. false_from_ne_true (is_open mark (xs ++ d ∷ [])) (λ e.
      elim (open_append mark xs (d ∷ []) e) as (λ _. ⊥) [
        | inl a ↦ let no = h.0 mark o in absurd (cc)
        | inr b ↦ elim (or_cases (is_open_at mark d.outcome) false b) as (λ _. ⊥) [
          | inl c ↦ let no = new mark c in let yes = or_true_left (is_open_at mark x.outcome) (is_open mark xs) o in absurd (cc)
          | inr f ↦ absurd (cc)
        ]
      ]),
  distinct-append xs d h.1 (λ mark o. false_from_ne_true (is_open mark xs) (λ e. let no = new mark o in let yes = or_true_right (is_open_at mark x.outcome) (is_open mark xs) e in absurd (cc))),
)
