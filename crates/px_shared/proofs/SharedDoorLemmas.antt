-- Doors with pools over their connections, by what the doors below do.
use Rattle.std.proofs.Common.{◌≡◌, ℕ, zero, suc, ◌<◌, IsTrue, List, [], ◌∷◌, ◌++◌, length, length-append, drop, map, slice_get, Some, refl, sym, ap, ◌∙◌, arith}
use mathlib.Core.Logic.{∥∥₁_map}
use Rattle.px_link_pool.specs.Histories.{Views}
use Rattle.px_link_pool.specs.Pools.{counts_on}
use Rattle.px_ends.specs.Ends.{EndsState}
use Rattle.px_doors.specs.Doors.{DoorsState, DoorsGoesOn, Stays, ConnComes, DoorsEnd}
use Rattle.px_doors.specs.Parted.{PartedState}
use Rattle.px_shared.specs.Sharing.{pooled_ends}
use Rattle.px_shared.specs.SharedDoors.{ComesOf, EachComesOf, with_pools}

-- ---- lists

drop_map : (n : ℕ) (cs : List EndsState) → drop n (map pooled_ends cs) ≡ map pooled_ends (drop n cs)
drop_map zero cs = refl
drop_map (suc n) [] = refl
drop_map (suc n) (c ∷ cs) = drop_map n cs

get_map : (n : ℕ) (cs : List EndsState) (c : EndsState) → slice_get cs n ≡ Some c → slice_get (map pooled_ends cs) n ≡ Some (pooled_ends c)
get_map n [] c e = grind arith
get_map zero (x ∷ xs) c e = let same : x ≡ c = cc in ap (λ y. Some (pooled_ends y)) same
get_map (suc n) (x ∷ xs) c e = get_map n xs c e

each_more : {S T : Type 0} (v : Views S T) (ps qs : List PartedState) (p q : PartedState) → ComesOf v p q → EachComesOf v ps qs → EachComesOf v (ps ++ p ∷ []) (qs ++ q ∷ [])
each_more v [] [] p q c h = (c, tt)
each_more v (x ∷ xs) (y ∷ ys) p q c h = (h.0, each_more v xs ys p q c h.1)
each_more v [] (y ∷ ys) p q c h = absurd h
each_more v (x ∷ xs) [] p q c h = absurd h

-- ---- calls

pub stays_over : (old new : DoorsState) (ps : List PartedState) → Stays old new → Stays (with_pools old ps) (with_pools new ps)
stays_over old new ps s = record { accepted_same = s.accepted_same; parted_same = λ t. refl }

pub comes_over : (old new : DoorsState) (ps : List PartedState) (c : EndsState) → DoorsGoesOn old new → ConnComes old new c → ConnComes (with_pools old ps) (with_pools new ps) (pooled_ends c)
comes_over old new ps c on h = record {
  one_more = h.one_more;
  first = λ t. drop_map old.accepted old.conns ∙ ap (map pooled_ends) (h.first t) ∙ ap (λ cs. pooled_ends c ∷ cs) (sym (drop_map new.accepted new.conns));
  nth = λ t. get_map old.accepted old.conns c (h.nth t);
  parted_same = λ t. refl;
  fresh = record {
    ends = h.fresh.ends;
    none_ahead = h.fresh.none_ahead;
    none_dialled = refl;
    no_name_failed = h.fresh.no_name_failed;
    no_reach_failed = h.fresh.no_reach_failed;
    no_link_read_failed = refl;
    no_link_write_failed = refl;
    none_opened = ap (λ (n : ℕ). counts_on n 0) h.fresh.none_opened;
    none_hung_up = ap (λ (n : ℕ). counts_on n 0) h.fresh.none_hung_up;
    clock = h.fresh.clock;
  };
  mark = record { source = h.mark.source; sink = h.mark.sink; dialer = h.mark.dialer };
}

pub ends_over : (old new : DoorsState) (ps : List PartedState) → DoorsEnd old new → DoorsEnd (with_pools old ps) (with_pools new ps)
ends_over old new ps h = record { stays = stays_over old new ps h.stays; told = h.told; none_left = drop_map old.accepted old.conns ∙ ap (map pooled_ends) h.none_left }

pub goes_on_over : (old new : DoorsState) (ps qs : List PartedState) → DoorsGoesOn old new → DoorsGoesOn (with_pools old ps) (with_pools new qs)
goes_on_over old new ps qs h = record {
  tells_same = h.tells_same;
  conns_same = ap (map pooled_ends) h.conns_same;
  accepted_later = h.accepted_later;
  faults_later = h.faults_later;
  steady_kept = h.steady_kept;
}

pub doors_on : (a b c : DoorsState) → DoorsGoesOn a b → DoorsGoesOn b c → DoorsGoesOn a c
doors_on a b c h k = record {
  tells_same = k.tells_same ∙ h.tells_same;
  conns_same = k.conns_same ∙ h.conns_same;
  accepted_later = omega (arith, h.accepted_later, k.accepted_later);
  faults_later = omega (arith, h.faults_later, k.faults_later);
  steady_kept = λ s. let m = h.steady_kept s in let n = k.steady_kept m.0 in (n.0, n.1 ∙ m.1);
}

-- ---- what was parted

-- no more was parted
pub same_parted : {S T : Type 0} (v : Views S T) (old new : DoorsState) (ps : List PartedState) → new.tells ≡ old.tells → (IsTrue old.tells → new.parted ≡ old.parted)
    → (IsTrue old.tells → ∥ EachComesOf v ps old.parted ∥₁) → IsTrue new.tells → ∥ EachComesOf v ps new.parted ∥₁
same_parted v old new ps tells same h t = let u : IsTrue old.tells = sym tells ∙ t in rw (same u) (h u)

-- one more was parted
pub more_parted : {S T : Type 0} (v : Views S T) (old new : DoorsState) (ps ps' : List PartedState) (p q : PartedState) → new.tells ≡ old.tells → ps' ≡ ps ++ p ∷ [] → (IsTrue old.tells → new.parted ≡ old.parted ++ q ∷ [])
    → ComesOf v p q → (IsTrue old.tells → ∥ EachComesOf v ps old.parted ∥₁) → IsTrue new.tells → ∥ EachComesOf v ps' new.parted ∥₁
more_parted v old new ps ps' p q tells more added c h t = let u : IsTrue old.tells = sym tells ∙ t in rw (more, added u) (∥∥₁_map (h u) (each_more v ps old.parted p q c))

pub same_count : (old new : DoorsState) (ps : List PartedState) → new.tells ≡ old.tells → (IsTrue old.tells → new.parted ≡ old.parted)
    → (IsTrue old.tells → length ps ≡ length old.parted) → IsTrue new.tells → length ps ≡ length new.parted
same_count old new ps tells same h t = let u : IsTrue old.tells = sym tells ∙ t in rw (same u) (h u)

pub more_count : (old new : DoorsState) (ps ps' : List PartedState) (p q : PartedState) → new.tells ≡ old.tells → ps' ≡ ps ++ p ∷ [] → (IsTrue old.tells → new.parted ≡ old.parted ++ q ∷ [])
    → (IsTrue old.tells → length ps ≡ length old.parted) → IsTrue new.tells → length ps' ≡ length new.parted
more_count old new ps ps' p q tells more added h t = let u : IsTrue old.tells = sym tells ∙ t in rw (more, added u) (omega (arith, h u, length-append ps (p ∷ []), length-append old.parted (q ∷ [])))

-- there is room to part one
pub room_below : (d : DoorsState) (ps : List PartedState) → (IsTrue d.tells → length ps ≡ length d.parted) → (IsTrue d.tells → length ps < d.accepted) → IsTrue d.tells → length d.parted < d.accepted
room_below d ps same less t = omega (arith, same t, less t)
