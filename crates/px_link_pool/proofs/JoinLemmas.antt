-- What went over the inner links, step by step.
use Rattle.std.proofs.Common.{find, ◌≡◌, ℕ, ◌+◌, ◌-◌, ◌≤◌, Bool, true, false, IsTrue, ◌==◌, ◌&&◌, List, [], ◌∷◌, ◌++◌, length, take, drop, length-append, Result, Ok, Err, Option, Some, None, sym, ap, refl, ◌∙◌, arith}
use Rattle.std.specs.Str.{bytes_eq}
use Rattle.std.proofs.lemmas.Slice.Eq.{bytes_eq-Decides}
use Rattle.std.proofs.lemmas.List.{take_at}
use Rattle.std.proofs.Math.Seq.{drop-append_seam}
use Rattle.std.proofs.lemmas.Bool.{eqb-true, eq-eqb}
use Rattle.px_base.specs.declared.dials.Dial.{Dial}
use Rattle.px_base.specs.declared.faults.DialFault.{DialFault}
use Rattle.px_base.specs.declared.faults.DialFault.TheVariants as fault
use Rattle.px_base.specs.declared.dials.DialOutcome.TheVariants as outcome
use Rattle.px_base.specs.Sources.{SourceState, given}
use Rattle.px_base.specs.Sinks.{SinkState}
use Rattle.px_base.specs.Dials.{dial_to, DialerState, LinkState, Traffic, IsTold, is_open, finish, traffic, dialed, linked}
use Rattle.px_pool_ends.specs.Incomings.{Hearing, outer_source, inner_source, heard, IsLaterSource}
use Rattle.px_pool_ends.specs.Outgoings.{Sending, outer_sink, inner_sink, sent, IsSent}
use Rattle.px_link_pool.specs.declared.histories.History.{History}
use Rattle.px_link_pool.specs.declared.shelves.KeptLink.{KeptLink}
use Rattle.px_link_pool.specs.declared.shelves.Shelf.{Shelf}
use Rattle.px_link_pool.specs.Histories.{Views, dials_of, kept_links, is_there, from_there, with_closed, all_closed, inner_of, are_due, HistoryTells}
use Rattle.px_pool_ends.specs.Names.{passed_so_far}
use Rattle.px_link_pool.specs.Joins.{again_over, is_home, are_home, fresh_over, dials_over, anew, joined_with, over, traffic_by, with_joined, inner_by, all_joined, inner_at_end, is_joined, are_joined, open_marks, names, Joins}
use Rattle.px_pool_ends.specs.Names.{Passed, lent_mark}
use Rattle.px_link_pool.specs.Shelves.{items, in_front, is_place, is_at}
use Rattle.px_link_pool.specs.Standing.{KeptState, kept_state, kept_states, tally, open_count, held_count, is_told, PoolStands}
use Rattle.px_link_pool.proofs.MarkLemmas.{IsLent}
use Rattle.px_link_pool.proofs.StandingLemmas.{open_some, open_none, none_open, opens-finish, same_mark, kept_states-append}
use Rattle.px_link_pool.proofs.HandingLemmas.{Shelved, some_is_none, same_one}
use Rattle.px_link_pool.proofs.MarkLemmas.{has, without, open_marks-append, open_has, finish_marks, no_name, names-without, names-append, turned, Others, names-same}

-- what stands before a rest is as long as the whole without it
front_of : (all front rest : List ℕ) → all ≡ front ++ rest → take (length all - length rest) all ≡ front
front_of all front rest e = rw e (take_at front rest (length (front ++ rest) - length rest) (omega (arith, length-append front rest)))

-- ---- kept links that are joined

same_bytes : (xs ys : List ℕ) → bytes_eq xs ys ≡ true → xs ≡ ys
same_bytes xs ys h = (bytes_eq-Decides xs ys).0 h

bytes_same : (xs ys : List ℕ) → xs ≡ ys → bytes_eq xs ys ≡ true
bytes_same xs ys h = (bytes_eq-Decides xs ys).1 h

and_parts : (a b : Bool) → IsTrue (a && b) → IsTrue a × IsTrue b
and_parts true b h = (refl, h)
and_parts false b h = (cc)

both : (a b : Bool) → IsTrue a → IsTrue b → IsTrue (a && b)
both true b h k = k
both false b h k = (cc)

same_passed : (x y : List ℕ) (p q : ℕ) (a b c d e f : List ℕ) → x ≡ y → p ≡ q → a ≡ b → c ≡ d → e ≡ f → ◌≡◌ {A = Passed} (record { host = x; port = p; offered = a; heard = c; sent = e }) (record { host = y; port = q; offered = b; heard = d; sent = f })
same_passed x y p q a b c d e f j k g h i = cc

place_parts : (host : List ℕ) (port : ℕ) (h : List ℕ) (p : ℕ) → IsTrue (is_place host port h p) → (h ≡ host) × (p ≡ port)
place_parts host port h p e =
    let q = and_parts (bytes_eq h host) (p == port) e in
    (same_bytes h host q.0, eqb-true p port q.1)

place_whole : (host : List ℕ) (port : ℕ) (h : List ℕ) (p : ℕ) → h ≡ host → p ≡ port → IsTrue (is_place host port h p)
place_whole host port h p e f = both (bytes_eq h host) (p == port) (bytes_same h host e) (eq-eqb p port f)

pub joined_parts : (w : ℕ → Passed) (k : KeptState) → IsTrue (is_joined w k) → passed_so_far k.host k.port k.link_in k.link_out ≡ w k.link_in.mark
joined_parts w k h =
    let o = and_parts (is_place (w k.link_in.mark).host (w k.link_in.mark).port k.host k.port) (bytes_eq k.link_in.offered (w k.link_in.mark).offered && (bytes_eq (given k.link_in) (w k.link_in.mark).heard && bytes_eq k.link_out.taken (w k.link_in.mark).sent)) h in
    let place = place_parts (w k.link_in.mark).host (w k.link_in.mark).port k.host k.port o.0 in
    let p = and_parts (bytes_eq k.link_in.offered (w k.link_in.mark).offered) (bytes_eq (given k.link_in) (w k.link_in.mark).heard && bytes_eq k.link_out.taken (w k.link_in.mark).sent) o.1 in
    let q = and_parts (bytes_eq (given k.link_in) (w k.link_in.mark).heard) (bytes_eq k.link_out.taken (w k.link_in.mark).sent) p.1 in
    same_passed _ _ _ _ _ _ _ _ _ _ place.0 place.1 (same_bytes _ _ p.0) (same_bytes _ _ q.0) (same_bytes _ _ q.1)

pub joined_whole : (w : ℕ → Passed) (k : KeptState) → passed_so_far k.host k.port k.link_in k.link_out ≡ w k.link_in.mark → IsTrue (is_joined w k)
joined_whole w k e =
    both (is_place (w k.link_in.mark).host (w k.link_in.mark).port k.host k.port) (bytes_eq k.link_in.offered (w k.link_in.mark).offered && (bytes_eq (given k.link_in) (w k.link_in.mark).heard && bytes_eq k.link_out.taken (w k.link_in.mark).sent))
    (place_whole (w k.link_in.mark).host (w k.link_in.mark).port k.host k.port (ap (λ x. x.host) e) (ap (λ x. x.port) e))
    (both (bytes_eq k.link_in.offered (w k.link_in.mark).offered) (bytes_eq (given k.link_in) (w k.link_in.mark).heard && bytes_eq k.link_out.taken (w k.link_in.mark).sent) (bytes_same _ _ (ap (λ x. x.offered) e))
    (both (bytes_eq (given k.link_in) (w k.link_in.mark).heard) (bytes_eq k.link_out.taken (w k.link_in.mark).sent) (bytes_same _ _ (ap (λ x. x.heard) e)) (bytes_same _ _ (ap (λ x. x.sent) e))))

joined_still : (w u : ℕ → Passed) (k : KeptState) → u k.link_in.mark ≡ w k.link_in.mark → IsTrue (is_joined w k) → IsTrue (is_joined u k)
joined_still w u k e h = joined_whole u k (joined_parts w k h ∙ sym e)

none_tallied : (b : Bool) (n : ℕ) → tally b + n ≡ 0 → (b ≡ false) × (n ≡ 0)
none_tallied true n h = absurd (omega (arith, h))
none_tallied false n h = (refl, omega (arith, h))

pub joined_same : (m : ℕ) (w u : ℕ → Passed) (ks : List KeptState) → Others m w u → held_count m ks ≡ 0 → IsTrue (are_joined w ks) → IsTrue (are_joined u ks)
joined_same m w u [] others h j = refl
joined_same m w u (k ∷ ks) others h j =
    let p = none_tallied (k.link_in.mark == m) (held_count m ks) h in
    let q = and_parts (is_joined w k) (are_joined w ks) j in
    both (is_joined u k) (are_joined u ks) (joined_still w u k (others k.link_in.mark (turned k.link_in.mark m p.0)) q.0) (joined_same m w u ks others p.1 q.1)

joined-append : (w : ℕ → Passed) (ks : List KeptState) (k : KeptState) → IsTrue (are_joined w ks) → IsTrue (is_joined w k) → IsTrue (are_joined w (ks ++ k ∷ []))
joined-append w [] k h j = both (is_joined w k) true j refl
joined-append w (l ∷ ks) k h j =
    let p = and_parts (is_joined w l) (are_joined w ks) h in
    both (is_joined w l) (are_joined w (ks ++ k ∷ [])) p.0 (joined-append w ks k p.1 j)

-- ---- the marks of what is lent

-- a link more is lent
pub named_more : (w u : ℕ → Passed) (coded coded_now plain plain_now : List Dial) (host : List ℕ) (port : ℕ) (l p : LinkState) → open_marks coded ≡ names w (open_marks plain)
    → coded_now ≡ coded ++ dialed host port (Ok l) → plain_now ≡ plain ++ dialed host port (Ok p) → names u (open_marks plain) ≡ names w (open_marks plain)
    → l.link_in.mark ≡ lent_mark true p.link_in.mark (u p.link_in.mark) → open_marks coded_now ≡ names u (open_marks plain_now)
named_more w u coded coded_now plain plain_now host port l p named e f same is =
    ap open_marks e ∙ open_marks-append coded (dialed host port (Ok l)) ∙ ap (λ ms. ms ++ l.link_in.mark ∷ []) (named ∙ sym same) ∙ ap (λ m. names u (open_marks plain) ++ m ∷ []) is
    ∙ sym (names-append u (open_marks plain) (p.link_in.mark ∷ [])) ∙ ap (names u) (sym (ap open_marks f ∙ open_marks-append plain (dialed host port (Ok p))))

none_marked : (host : List ℕ) (port : ℕ) (f : DialFault) → open_marks (dialed host port (Err f)) ≡ []
none_marked host port fault.NoName = refl
none_marked host port fault.NotReached = refl
none_marked host port fault.Mem = refl

append-none : (xs : List ℕ) → xs ++ [] ≡ xs
append-none [] = refl
append-none (x ∷ xs) = ap (λ (ys : List ℕ). x ∷ ys) (append-none xs)

-- none more is lent
none_more : (host : List ℕ) (port : ℕ) (f : DialFault) (ds now : List Dial) → now ≡ ds ++ dialed host port (Err f) → open_marks now ≡ open_marks ds
none_more host port f ds now e = ap open_marks e ∙ open_marks-append ds (dialed host port (Err f)) ∙ ap (λ ms. open_marks ds ++ ms) (none_marked host port f) ∙ append-none (open_marks ds)

-- a mark that isn't open at the inner dialer is none of a lent or of a kept link
pub unknown : (inner : DialerState) (plain : List Dial) (kept : List KeptState) (m : ℕ) → PoolStands inner plain kept → IsTrue inner.tells → is_open m inner.dials ≡ false → (is_open m plain ≡ false) × (held_count m kept ≡ 0)
unknown inner plain kept m s tells new =
    let none : open_count m inner.dials ≡ 0 = none_open m inner.dials new in
    (open_none m plain (omega (arith, s.backed tells m, none)), omega (arith, s.backed tells m, none))

-- a link that isn't open under its inner mark has a new mark
pub told_by : (old : DialerState) (w : ℕ → Passed) (plain : List Dial) (l : LinkState) (t s : Bool) (m n : ℕ) (x : Passed) → open_marks old.dials ≡ names w (open_marks plain) → is_open m plain ≡ false
    → IsTrue t → IsTrue s → n ≡ m → l.link_in.tells ≡ t → l.link_out.tells ≡ s → l.link_in.mark ≡ lent_mark t m x → l.link_out.mark ≡ lent_mark s n x → IsTold old l
told_by old w plain l t s m n x named new i o one a b c d = record {
  in_tells = a ∙ i;
  out_tells = b ∙ o;
  one_mark = d ∙ ap (λ b. lent_mark b n x) o ∙ ap (λ k. lent_mark true k x) one ∙ ap (λ b. lent_mark b m x) (sym i) ∙ sym c;
  new_mark = open_has l.link_in.mark old.dials ∙ ap (has l.link_in.mark) named ∙ ap (λ k. has k (names w (open_marks plain))) (c ∙ ap (λ b. lent_mark b m x) i)
      ∙ no_name w (open_marks plain) m x (sym (open_has m plain) ∙ new);
}

-- ---- a kept link is lent again

-- a kept link that was found is the first of that place
there : {S T : Type 0} (ins : S → SourceState) (outs : T → SinkState) (host : List ℕ) (port : ℕ) (ks : List (KeptLink S T)) (k : KeptLink S T) → Some k ≡ find (is_at host port) ks
    → (rest : List KeptState) × (from_there host port (kept_states ins outs ks) ≡ kept_state ins outs k ∷ rest)
there ins outs host port [] k h = absurd (some_is_none k (sym h))
there ins outs host port (j ∷ ks) k h =
    elim (is_at host port j) as (λ b. is_at host port j ≡ b → (rest : List KeptState) × (from_there host port (kept_states ins outs (j ∷ ks)) ≡ kept_state ins outs k ∷ rest)) [
      | true ↦ λ e. (kept_states ins outs ks, rw e (let same : k ≡ j = same_one k j (rw e at h) in rw same refl))
      | false ↦ λ e. let r = there ins outs host port ks k (rw e at h) in (r.0, rw e r.1)
    ] refl

pub there_by : {S T : Type 0} (ins : S → SourceState) (outs : T → SinkState) (host : List ℕ) (port : ℕ) (shelf was : Shelf (KeptLink S T)) (found : Option (KeptLink S T)) (k : KeptLink S T) → was ≡ shelf → found ≡ find (is_at host port) (items was) → found ≡ Some k
    → (rest : List KeptState) × (from_there host port (kept_states ins outs (items shelf)) ≡ kept_state ins outs k ∷ rest)
there_by ins outs host port shelf was found k e f is = there ins outs host port (items shelf) k (sym is ∙ f ∙ ap (λ x. find (is_at host port) (items x)) e)

-- it offers what is left
again_offers : (host : List ℕ) (port : ℕ) (w : ℕ → Passed) (k : KeptState) (rest : List KeptState) (l : LinkState) → passed_so_far k.host k.port k.link_in k.link_out ≡ w k.link_in.mark → k.link_in.offered ≡ given k.link_in ++ k.link_in.left
    → l.link_in.mark ≡ lent_mark true k.link_in.mark (w k.link_in.mark) → l.link_in.offered ≡ k.link_in.left → dialed host port (Ok l) ≡ again_over host port w (k ∷ rest)
again_offers host port w k rest l passed whole mark left =
    let after : l.link_in.offered ≡ drop (length (w k.link_in.mark).heard) (w k.link_in.mark).offered =
    left ∙ sym (drop-append_seam (given k.link_in) k.link_in.left) ∙ ap (drop (length (given k.link_in))) (sym whole) ∙ ap (λ x. drop (length x.heard) x.offered) passed in
    ap (λ m. dial_to host port (Some (outcome.Open m l.link_in.offered))) mark ∙ ap (λ xs. dial_to host port (Some (outcome.Open (lent_mark true k.link_in.mark (w k.link_in.mark)) xs))) after

first_same : (j k : KeptState) (ks rest : List KeptState) → j ∷ ks ≡ k ∷ rest → j ≡ k
first_same j k ks rest e = cc

-- the first of those of a place is of that place
first_there : (host : List ℕ) (port : ℕ) (ks : List KeptState) (k : KeptState) (rest : List KeptState) → from_there host port ks ≡ k ∷ rest → IsTrue (is_there host port k)
first_there host port [] k rest e = (cc)
first_there host port (j ∷ ks) k rest e =
    elim (is_there host port j) as (λ b. is_there host port j ≡ b → IsTrue (is_there host port k)) [
      | true ↦ λ t. let same : j ∷ ks ≡ k ∷ rest = rw t at e in ap (is_there host port) (sym (first_same j k ks rest same)) ∙ t
      | false ↦ λ f. first_there host port ks k rest (rw f at e)
    ] refl

-- it was dialled to the place of the dial
home_by : (host : List ℕ) (port : ℕ) (w : ℕ → Passed) (ks : List KeptState) (k : KeptState) (rest : List KeptState) → from_there host port ks ≡ k ∷ rest → passed_so_far k.host k.port k.link_in k.link_out ≡ w k.link_in.mark
    → IsTrue (is_home host port w (from_there host port ks))
home_by host port w ks k rest e passed =
    let place = place_parts host port k.host k.port (first_there host port ks k rest e) in
    rw e (place_whole host port (w k.link_in.mark).host (w k.link_in.mark).port (sym (ap (λ x. x.host) passed) ∙ place.0) (sym (ap (λ x. x.port) passed) ∙ place.1))

-- its mark is that of the kept link's place, where the label is the same
pub same_label : (label host : List ℕ) (place port : ℕ) (i : SourceState) (o : SinkState) → label ≡ host → place ≡ port → lent_mark i.tells i.mark (passed_so_far label place i o) ≡ lent_mark i.tells i.mark (passed_so_far host port i o)
same_label label host place port i o e f = ap (λ x. lent_mark i.tells i.mark (passed_so_far x place i o)) e ∙ ap (λ x. lent_mark i.tells i.mark (passed_so_far host x i o)) f

pub joins_again : {S T : Type 0} (v : Views S T) (base inner : List Dial) (kept others : List KeptState) (before after : History Hearing Sending S T) (host name : List ℕ) (port : ℕ) (k : KeptState) (rest : List KeptState) (l p : LinkState)
    → Joins v base inner kept before → kept ≡ kept_links v before → name ≡ host → over v after ≡ over v before → inner_by base v after ≡ inner_by base v before
    → are_home v after ≡ (is_home name port (over v before) (from_there name port (kept_links v before)) && are_home v before)
    → dials_over v after ≡ dials_over v before ++ again_over name port (over v before) (from_there name port (kept_links v before)) → from_there host port kept ≡ k ∷ rest
    → dials_of outer_source outer_sink after ≡ dials_of outer_source outer_sink before ++ dialed name port (Ok l) → dials_of inner_source inner_sink after ≡ dials_of inner_source inner_sink before ++ dialed name port (Ok p)
    → l.link_in.mark ≡ lent_mark k.link_in.tells k.link_in.mark (passed_so_far k.host k.port k.link_in k.link_out) → l.link_in.offered ≡ k.link_in.left → p.link_in.mark ≡ k.link_in.mark → IsTrue (is_told k)
    → (IsTrue k.link_in.tells → k.link_in.offered ≡ given k.link_in ++ k.link_in.left)
    → ((w : ℕ → Passed) → IsTrue (are_joined w kept) → IsTrue (is_joined w k) × IsTrue (are_joined w others)) → Joins v base inner others after
joins_again v base inner kept others before after host name port k rest l p was kept_is same_host same by homes lent first coded plain mark left is told whole off =
    let w : ℕ → Passed = over v before in
    let j = off w was.kept_joined in
    let passed : passed_so_far k.host k.port k.link_in k.link_out ≡ w k.link_in.mark = joined_parts w k j.0 in
    let tells : IsTrue k.link_in.tells = (and_parts k.link_in.tells (k.link_out.tells && (k.link_out.mark == k.link_in.mark)) told).0 in
    let named : l.link_in.mark ≡ lent_mark true k.link_in.mark (w k.link_in.mark) = mark ∙ ap (λ t. lent_mark t k.link_in.mark (passed_so_far k.host k.port k.link_in k.link_out)) tells ∙ ap (λ x. lent_mark true k.link_in.mark x) passed in
    let here : from_there name port (kept_links v before) ≡ k ∷ rest = ap (λ h. from_there h port (kept_links v before)) same_host ∙ ap (from_there host port) (sym kept_is) ∙ first in
    record {
      inner_is = was.inner_is ∙ sym by;
      kept_joined = rw same j.1;
      home = rw homes (both (is_home name port w (from_there name port (kept_links v before))) (are_home v before) (home_by name port w (kept_links v before) k rest here passed) was.home);
      dials_is = coded ∙ ap (λ ds. ds ++ dialed name port (Ok l)) was.dials_is ∙ ap (λ ds. dials_over v before ++ ds) (again_offers name port w k rest l passed (whole tells) named left ∙ ap (again_over name port w) (sym here)) ∙ sym lent;
      named = rw same (named_more w w (dials_of outer_source outer_sink before) (dials_of outer_source outer_sink after) (dials_of inner_source inner_sink before) (dials_of inner_source inner_sink after) name port l p was.named coded plain refl
          (named ∙ ap (λ m. lent_mark true m (w m)) (sym is)));
    }

-- ---- a link is dialled

anew_others : (host : List ℕ) (port : ℕ) (w : ℕ → Passed) (l : LinkState) → Others l.link_in.mark w (λ n. anew host port n (Ok l) (w n))
anew_others host port w l n h = rw h refl

anew_here : (host : List ℕ) (port : ℕ) (w : ℕ → Passed) (l : LinkState) → anew host port l.link_in.mark (Ok l) (w l.link_in.mark) ≡ record { host = host; port = port; offered = l.link_in.offered; heard = []; sent = [] }
anew_here host port w l = rw (eq-eqb l.link_in.mark l.link_in.mark refl) refl

pub joins_dialled : {S T : Type 0} (v : Views S T) (base inner new : List Dial) (kept others : List KeptState) (before after : History Hearing Sending S T) (host name label : List ℕ) (port place : ℕ) (r asked : Result (S × T) DialFault) (i l p : LinkState)
    → Joins v base inner kept before → name ≡ host → asked ≡ r → linked v.ins v.outs r ≡ Ok i → new ≡ inner ++ dialed host port (linked v.ins v.outs r)
    → over v after ≡ (λ n. anew name port n (linked v.ins v.outs asked) (over v before n)) → are_home v after ≡ are_home v before
    → inner_by base v after ≡ inner_by base v before ++ dialed name port (linked v.ins v.outs asked) → dials_over v after ≡ dials_over v before ++ fresh_over name port (linked v.ins v.outs asked)
    → dials_of outer_source outer_sink after ≡ dials_of outer_source outer_sink before ++ dialed name port (Ok l) → dials_of inner_source inner_sink after ≡ dials_of inner_source inner_sink before ++ dialed name port (Ok p)
    → l.link_in.mark ≡ lent_mark i.link_in.tells i.link_in.mark (passed_so_far label place i.link_in i.link_out) → label ≡ name → place ≡ port → l.link_in.offered ≡ i.link_in.offered → p.link_in.mark ≡ i.link_in.mark
    → IsTrue i.link_in.tells → given i.link_in ≡ [] → i.link_out.taken ≡ [] → is_open i.link_in.mark (dials_of inner_source inner_sink before) ≡ false → held_count i.link_in.mark kept ≡ 0 → others ≡ kept
    → Joins v base new others after
joins_dialled v base inner new kept others before after host name label port place r asked i l p was same e ok grown went homes by lent coded plain labelled labels places left is tells heard sent fresh unheld alike =
    let w : ℕ → Passed = over v before in
    let u : ℕ → Passed = λ n. anew name port n (Ok i) (w n) in
    let mark : l.link_in.mark ≡ lent_mark i.link_in.tells i.link_in.mark (passed_so_far name port i.link_in i.link_out) = labelled ∙ ap (λ x. lent_mark i.link_in.tells i.link_in.mark (passed_so_far x place i.link_in i.link_out)) labels ∙ ap (λ x. lent_mark i.link_in.tells i.link_in.mark (passed_so_far name x i.link_in i.link_out)) places in
    let now : over v after ≡ u = went ∙ ap (λ a. λ n. anew name port n (linked v.ins v.outs a) (w n)) e ∙ ap (λ a. λ n. anew name port n a (w n)) ok in
    let same_names : names u (open_marks (dials_of inner_source inner_sink before)) ≡ names w (open_marks (dials_of inner_source inner_sink before)) = names-same i.link_in.mark w u _ (anew_others name port w i) (sym (open_has i.link_in.mark (dials_of inner_source inner_sink before)) ∙ fresh) in
    let begun : Passed = record { host = name; port = port; offered = i.link_in.offered; heard = []; sent = [] } in
    let named_first : l.link_in.mark ≡ lent_mark true i.link_in.mark begun =
    mark ∙ ap (λ t. lent_mark t i.link_in.mark (passed_so_far name port i.link_in i.link_out)) tells ∙ ap (λ x. lent_mark true i.link_in.mark x) (same_passed name name port port i.link_in.offered i.link_in.offered (given i.link_in) [] i.link_out.taken [] refl refl refl heard sent) in
    let first : dialed name port (Ok l) ≡ fresh_over name port (Ok i) =
    ap (λ m. dial_to name port (Some (outcome.Open m l.link_in.offered))) named_first ∙ ap (λ xs. dial_to name port (Some (outcome.Open (lent_mark true i.link_in.mark begun) xs))) left in
    let none : passed_so_far name port i.link_in i.link_out ≡ u i.link_in.mark = same_passed name name port port i.link_in.offered i.link_in.offered (given i.link_in) [] i.link_out.taken [] refl refl refl heard sent ∙ sym (anew_here name port w i) in
    record {
      inner_is = grown ∙ ap (λ ds. ds ++ dialed host port (linked v.ins v.outs r)) was.inner_is ∙ ap (λ h. inner_by base v before ++ dialed h port (linked v.ins v.outs r)) (sym same)
          ∙ ap (λ a. inner_by base v before ++ dialed name port (linked v.ins v.outs a)) (sym e) ∙ sym by;
      kept_joined = rw (now, alike) (joined_same i.link_in.mark w u kept (anew_others name port w i) unheld was.kept_joined);
      home = rw homes was.home;
      dials_is = coded ∙ ap (λ ds. ds ++ dialed name port (Ok l)) was.dials_is ∙ ap (λ ds. dials_over v before ++ ds) first
          ∙ ap (λ a. dials_over v before ++ fresh_over name port a) (sym (ap (λ a. linked v.ins v.outs a) e ∙ ok)) ∙ sym lent;
      named = rw now (named_more w u (dials_of outer_source outer_sink before) (dials_of outer_source outer_sink after) (dials_of inner_source inner_sink before) (dials_of inner_source inner_sink after) name port l p was.named coded plain same_names
          (mark ∙ ap (λ t. lent_mark t i.link_in.mark (passed_so_far name port i.link_in i.link_out)) tells ∙ ap (λ x. lent_mark true i.link_in.mark x) none ∙ ap (λ m. lent_mark true m (u m)) (sym is)));
    }

pub joins_refused : {S T : Type 0} (v : Views S T) (base inner new : List Dial) (kept others : List KeptState) (before after : History Hearing Sending S T) (host name : List ℕ) (port : ℕ) (r asked : Result (S × T) DialFault) (f : DialFault)
    → Joins v base inner kept before → name ≡ host → asked ≡ r → linked v.ins v.outs r ≡ Err f → new ≡ inner ++ dialed host port (linked v.ins v.outs r)
    → over v after ≡ (λ n. anew name port n (linked v.ins v.outs asked) (over v before n)) → are_home v after ≡ are_home v before
    → inner_by base v after ≡ inner_by base v before ++ dialed name port (linked v.ins v.outs asked) → dials_over v after ≡ dials_over v before ++ fresh_over name port (linked v.ins v.outs asked)
    → dials_of outer_source outer_sink after ≡ dials_of outer_source outer_sink before ++ dialed name port (Err f) → dials_of inner_source inner_sink after ≡ dials_of inner_source inner_sink before ++ dialed name port (Err f)
    → others ≡ kept → Joins v base new others after
joins_refused v base inner new kept others before after host name port r asked f was same e err grown went homes by lent coded plain alike =
    let w : ℕ → Passed = over v before in
    let now : over v after ≡ w = went ∙ ap (λ a. λ n. anew name port n (linked v.ins v.outs a) (w n)) e ∙ ap (λ a. λ n. anew name port n a (w n)) err in
    record {
      inner_is = grown ∙ ap (λ ds. ds ++ dialed host port (linked v.ins v.outs r)) was.inner_is ∙ ap (λ h. inner_by base v before ++ dialed h port (linked v.ins v.outs r)) (sym same)
          ∙ ap (λ a. inner_by base v before ++ dialed name port (linked v.ins v.outs a)) (sym e) ∙ sym by;
      kept_joined = rw (now, alike) was.kept_joined;
      home = rw homes was.home;
      dials_is = coded ∙ ap (λ ds. ds ++ dialed name port (Err f)) was.dials_is ∙ ap (λ a. dials_over v before ++ fresh_over name port a) (sym (ap (λ a. linked v.ins v.outs a) e ∙ err)) ∙ sym lent;
      named = rw now (none_more name port f (dials_of outer_source outer_sink before) _ coded ∙ was.named ∙ ap (names w) (sym (none_more name port f (dials_of inner_source inner_sink before) _ plain)));
    }

-- ---- a link is handed back

with_others : (w : ℕ → Passed) (m : ℕ) (h : Hearing) (s : Sending) → Others m w (λ n. joined_with (m == n) h s (w n))
with_others w m h s n e = rw e refl

with_here : (w : ℕ → Passed) (m : ℕ) (h : Hearing) (s : Sending) → joined_with (m == m) h s (w m) ≡ record { host = (w m).host; port = (w m).port; offered = (w m).offered; heard = (w m).heard ++ heard h; sent = (w m).sent ++ sent s }
with_here w m h s = rw (eq-eqb m m refl) refl

-- those that were kept, with the one that is hung up
front_joined : {S T : Type 0} (ins : S → SourceState) (outs : T → SinkState) (w : ℕ → Passed) (shelf slot : Shelf (KeptLink S T)) (closing : Option (KeptLink S T)) (k : KeptLink S T) (keeps : Bool) → Shelved shelf slot closing k keeps
    → IsTrue (are_joined w (kept_states ins outs (items shelf))) → IsTrue (is_joined w (kept_state ins outs k)) → IsTrue (are_joined w (kept_states ins outs (in_front closing (items slot))))
front_joined ins outs w shelf slot closing k true h all one =
    rw (h.kept refl, kept_states-append ins outs (items shelf) (k ∷ [])) (joined-append w (kept_states ins outs (items shelf)) (kept_state ins outs k) all one)
front_joined ins outs w shelf slot closing k false h all one =
    let g = h.given refl in
    rw (g.0, g.1) (both (is_joined w (kept_state ins outs k)) (are_joined w (kept_states ins outs (items shelf))) one all)

same_traffic : (w : Passed) (i : SourceState) (o : SinkState) → given i ≡ w.heard → o.taken ≡ w.sent → traffic i o ≡ traffic_by w i o
same_traffic w i o e f = cc

-- the one that is hung up is told by what went over it
closed_joined : {S T : Type 0} (ins : S → SourceState) (outs : T → SinkState) (w : ℕ → Passed) (closing : Option (KeptLink S T)) (rest : List (KeptLink S T)) (ds : List Dial) → IsTrue (are_joined w (kept_states ins outs (in_front closing rest)))
    → (with_closed ins outs closing ds ≡ with_joined ins outs w closing ds) × IsTrue (are_joined w (kept_states ins outs rest))
closed_joined ins outs w None rest ds h = (refl, h)
closed_joined ins outs w (Some c) rest ds h =
    let p = and_parts (is_joined w (kept_state ins outs c)) (are_joined w (kept_states ins outs rest)) h in
    let q = joined_parts w (kept_state ins outs c) p.0 in
    (ap (λ t. finish (ins c.source).mark t ds) (same_traffic (w (ins c.source).mark) (ins c.source) (outs c.sink) (ap (λ x. x.heard) q) (ap (λ x. x.sent) q)), p.1)

-- the marks of those that stay lent
named_less : (w u : ℕ → Passed) (coded coded_now plain plain_now : List Dial) (m mark : ℕ) (s t : Traffic) → open_marks coded ≡ names w (open_marks plain) → coded_now ≡ finish mark s coded → plain_now ≡ finish m t plain
    → mark ≡ lent_mark true m (w m) → is_open m plain ≡ true → open_count m plain ≤ 1 → Others m w u → open_marks coded_now ≡ names u (open_marks plain_now)
named_less w u coded coded_now plain plain_now m mark s t named e f is here once others =
    let gone : open_count m (finish m t plain) ≡ 0 = omega (arith, opens-finish m m t plain here, same_mark m m refl, once) in
    let shut : has m (open_marks plain_now) ≡ false = ap (λ ds. has m (open_marks ds)) f ∙ sym (open_has m (finish m t plain)) ∙ open_none m (finish m t plain) gone in
    ap open_marks e ∙ finish_marks mark s coded ∙ ap (without mark) named ∙ ap (λ x. without x (names w (open_marks plain))) is ∙ names-without w (open_marks plain) m
    ∙ ap (names w) (sym (ap open_marks f ∙ finish_marks m t plain)) ∙ sym (names-same m w u (open_marks plain_now) others shut)

joins_handed : {S T : Type 0} (v : Views S T) (base inner new : List Dial) (state : DialerState) (shelf slot : Shelf (KeptLink S T)) (closing : Option (KeptLink S T)) (k : KeptLink S T) (keeps : Bool) (before after : History Hearing Sending S T) (mark : ℕ) (h : Hearing) (s : Sending) (t p : Traffic)
    → Joins v base inner (kept_states v.ins v.outs (items shelf)) before → Shelved shelf slot closing k keeps
    → PoolStands state (dials_of inner_source inner_sink before) (kept_states v.ins v.outs (items shelf)) → IsTrue state.tells → is_open (v.ins k.source).mark (dials_of inner_source inner_sink before) ≡ true
    → over v after ≡ (λ n. joined_with ((v.ins k.source).mark == n) h s (over v before n)) → are_home v after ≡ are_home v before → inner_by base v after ≡ with_joined v.ins v.outs (over v after) closing (inner_by base v before)
    → new ≡ with_closed v.ins v.outs closing inner
    → dials_of outer_source outer_sink after ≡ finish mark t (dials_of outer_source outer_sink before) → dials_of inner_source inner_sink after ≡ finish (v.ins k.source).mark p (dials_of inner_source inner_sink before)
    → dials_over v after ≡ finish mark t (dials_over v before) → mark ≡ lent_mark true (v.ins k.source).mark (over v before (v.ins k.source).mark)
    → k.host ≡ (over v before (v.ins k.source).mark).host → k.port ≡ (over v before (v.ins k.source).mark).port → (v.ins k.source).offered ≡ (over v before (v.ins k.source).mark).offered
    → given (v.ins k.source) ≡ (over v before (v.ins k.source).mark).heard ++ heard h → (v.outs k.sink).taken ≡ (over v before (v.ins k.source).mark).sent ++ sent s
    → Joins v base new (kept_states v.ins v.outs (items slot)) after
joins_handed v base inner new state shelf slot closing k keeps before after mark h s t p was shelved stands tells here went homes by closed coded plain lent is host port offered heard sent =
    let m : ℕ = (v.ins k.source).mark in
    let w : ℕ → Passed = over v before in
    let u : ℕ → Passed = λ n. joined_with (m == n) h s (w n) in
    let ds : List Dial = dials_of inner_source inner_sink before in
    let once : open_count m ds + held_count m (kept_states v.ins v.outs (items shelf)) ≤ 1 = stands.once tells m in
    let some : 1 ≤ open_count m ds = open_some m ds here in
    let one : IsTrue (is_joined u (kept_state v.ins v.outs k)) = joined_whole u (kept_state v.ins v.outs k) (same_passed _ _ _ _ _ _ _ _ _ _ host port offered heard sent ∙ sym (with_here w m h s)) in
    let all : IsTrue (are_joined u (kept_states v.ins v.outs (items shelf))) = joined_same m w u (kept_states v.ins v.outs (items shelf)) (with_others w m h s) (omega (arith, once, some)) was.kept_joined in
    let front = front_joined v.ins v.outs u shelf slot closing k keeps shelved all one in
    let parts = closed_joined v.ins v.outs u closing (items slot) inner front in
    record {
      inner_is = closed ∙ parts.0 ∙ ap (with_joined v.ins v.outs u closing) was.inner_is ∙ ap (λ x. with_joined v.ins v.outs x closing (inner_by base v before)) (sym went) ∙ sym by;
      kept_joined = rw went parts.1;
      home = rw homes was.home;
      dials_is = coded ∙ ap (finish mark t) was.dials_is ∙ sym lent;
      named = rw went (named_less w u (dials_of outer_source outer_sink before) (dials_of outer_source outer_sink after) ds (dials_of inner_source inner_sink after) m mark t p was.named coded plain is here (omega (arith, once)) (with_others w m h s));
    }

-- the same, by what both ends say of the inner link
pub joins_back : {S T : Type 0} (v : Views S T) (base inner new : List Dial) (state : DialerState) (shelf slot : Shelf (KeptLink S T)) (closing : Option (KeptLink S T)) (k : KeptLink S T) (keeps : Bool) (before after : History Hearing Sending S T) (h : Hearing) (s : Sending) (t p : Traffic)
    → Joins v base inner (kept_states v.ins v.outs (items shelf)) before → Shelved shelf slot closing k keeps
    → PoolStands state (dials_of inner_source inner_sink before) (kept_states v.ins v.outs (items shelf)) → IsTrue state.tells
    → v.ins k.source ≡ h.source → v.outs k.sink ≡ s.sink → k.host ≡ h.host → k.port ≡ h.port → IsLent (over v before) (dials_of inner_source inner_sink before) h s → IsLaterSource h.begun h.source → IsSent s
    → over v after ≡ (λ n. joined_with (h.source.mark == n) h s (over v before n)) → are_home v after ≡ are_home v before → inner_by base v after ≡ with_joined v.ins v.outs (over v after) closing (inner_by base v before)
    → new ≡ with_closed v.ins v.outs closing inner
    → dials_of outer_source outer_sink after ≡ finish (outer_source h).mark t (dials_of outer_source outer_sink before) → dials_of inner_source inner_sink after ≡ finish h.source.mark p (dials_of inner_source inner_sink before)
    → dials_over v after ≡ finish (outer_source h).mark t (dials_over v before) → Joins v base new (kept_states v.ins v.outs (items slot)) after
joins_back v base inner new state shelf slot closing k keeps before after h s t p was shelved stands tells i o host port lent later is went homes by closed coded plain named =
    joins_handed v base inner new state shelf slot closing k keeps before after (outer_source h).mark h s t p was shelved stands tells (rw i lent.here) (rw i went) homes by closed coded (rw i plain) named (rw i lent.name)
    (rw i (host ∙ lent.host)) (rw i (port ∙ lent.port)) (rw i (later.offered_same ∙ lent.offered)) (rw i (later.given_joined ∙ ap (λ (x : List ℕ). x ++ heard h) lent.heard)) (rw (i, o) (is.joined ∙ ap (λ (x : List ℕ). x ++ sent s) lent.sent))

-- ---- the kept links are hung up

pub all_closed_joined : (w : ℕ → Passed) (ks : List KeptState) (ds : List Dial) → IsTrue (are_joined w ks) → all_closed ks ds ≡ all_joined w ks ds
all_closed_joined w [] ds h = refl
all_closed_joined w (k ∷ ks) ds h =
    let p = and_parts (is_joined w k) (are_joined w ks) h in
    let q = joined_parts w k p.0 in
    ap (λ t. all_closed ks (finish k.link_in.mark t ds)) (same_traffic (w k.link_in.mark) k.link_in k.link_out (ap (λ x. x.heard) q) (ap (λ x. x.sent) q)) ∙ all_closed_joined w ks (finish k.link_in.mark (traffic_by (w k.link_in.mark) k.link_in k.link_out) ds) p.1

-- a link that is fresh has given nothing
pub fresh_given : (i : SourceState) → i.left ≡ i.offered → given i ≡ []
fresh_given i e = front_of i.offered [] i.left (sym e)

pub nothing_left : {S T : Type 0} (ins : S → SourceState) (outs : T → SinkState) (ks : List (KeptLink S T)) (ds : List Dial) → length ks ≡ 0 → ds ≡ all_closed (kept_states ins outs ks) ds
nothing_left ins outs [] ds h = refl
nothing_left ins outs (k ∷ ks) ds h = absurd (omega (arith, h))

pub ended : {S T : Type 0} (v : Views S T) (base inner : List Dial) (kept : List KeptState) (history : History Hearing Sending S T) → HistoryTells v base inner kept history → Joins v base inner kept history
    → all_closed kept inner ≡ inner_at_end base v history
ended v base inner kept history tells joins =
    all_closed_joined (over v history) kept inner joins.kept_joined ∙ ap (all_joined (over v history) kept) joins.inner_is ∙ ap (λ ks. all_joined (over v history) ks (inner_by base v history)) tells.kept_is

-- ---- a look leaves a dialer that tells as it is

pub tells_seen : {S T : Type 0} (v : Views S T) (base : List Dial) (old new : DialerState) (kept : List KeptState) (history : History Hearing Sending S T) → new ≡ old → HistoryTells v base old.dials kept history → HistoryTells v base new.dials kept history
tells_seen v base old new kept history e h = rw e h

pub joins_seen : {S T : Type 0} (v : Views S T) (base : List Dial) (old new : DialerState) (kept : List KeptState) (history : History Hearing Sending S T) → new ≡ old → Joins v base old.dials kept history → Joins v base new.dials kept history
joins_seen v base old new kept history e h = rw e h

-- ---- the pool keeps none

pub none_stand : {S T : Type 0} (ins : S → SourceState) (outs : T → SinkState) (inner : DialerState) (outer : List Dial) (ks : List (KeptLink S T)) → length ks ≡ 0 → PoolStands inner outer (kept_states ins outs ks) → PoolStands inner outer []
none_stand ins outs inner outer [] h s = s
none_stand ins outs inner outer (k ∷ ks) h s = absurd (omega (arith, h))

pub rested_tells : {S T : Type 0} (v : Views S T) (base inner new : List Dial) (kept : List KeptState) (before after : History Hearing Sending S T) → HistoryTells v base inner kept before → new ≡ all_closed kept inner
    → inner_of base v.ins v.outs after ≡ all_closed kept (inner_of base v.ins v.outs before) → kept_links v after ≡ [] → are_due v after ≡ are_due v before → HistoryTells v base new [] after
rested_tells v base inner new kept before after was closed i k d = record { inner_is = closed ∙ ap (all_closed kept) was.inner_is ∙ sym i; kept_is = sym k; due = d ∙ was.due }

pub rested_joins : {S T : Type 0} (v : Views S T) (base inner new : List Dial) (kept : List KeptState) (before after : History Hearing Sending S T) → Joins v base inner kept before → new ≡ inner_at_end base v before
    → inner_by base v after ≡ inner_at_end base v before → over v after ≡ over v before → are_home v after ≡ are_home v before → dials_over v after ≡ dials_over v before
    → dials_of outer_source outer_sink after ≡ dials_of outer_source outer_sink before → dials_of inner_source inner_sink after ≡ dials_of inner_source inner_sink before → Joins v base new [] after
rested_joins v base inner new kept before after was closed by went homes lent coded plain = record {
  inner_is = closed ∙ sym by;
  kept_joined = refl;
  home = homes ∙ was.home;
  dials_is = coded ∙ was.dials_is ∙ sym lent;
  named = rw (coded, plain, went) was.named;
}
