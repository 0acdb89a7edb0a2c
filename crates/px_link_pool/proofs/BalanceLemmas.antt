-- How many links are open at the inner dialer, step by step.
use Rattle.std.proofs.Common.{◌≡◌, ℕ, suc, ◌+◌, ◌-◌, ◌^◌, ◌<◌, ◌≤◌, Bool, true, false, List, [], ◌∷◌, length, length-append, Option, Some, None, find, sym, ap, refl, ◌∙◌, arith}
use Rattle.px_base.specs.Causes.{IsOneMore}
use Rattle.px_base.specs.Dials.{DialerState}
use Rattle.px_link_pool.specs.declared.shelves.KeptLink.{KeptLink}
use Rattle.px_link_pool.specs.declared.shelves.Shelf.{Shelf}
use Rattle.px_link_pool.specs.Shelves.{items, in_front, without_first}
use Rattle.px_link_pool.specs.Balances.{HangsUpOthers, IsBalanced}
use Rattle.px_link_pool.specs.Pools.{counts_on}
use Rattle.px_link_pool.proofs.HandingLemmas.{Shelved}

one_more : (n m : ℕ) → IsOneMore n m → m < 2 ^ 64 - 1 → m ≡ n + 1
one_more n m h k = omega (arith, h, k)

-- ---- the list

front_length : {K : Type 0} (o : Option K) (k : K) (ks : List K) → length (in_front o (k ∷ ks)) ≡ suc (length (in_front o ks))
front_length None k ks = refl
front_length (Some j) k ks = refl

found_length : {K : Type 0} (p : K → Bool) (ks : List K) → length (in_front (find p ks) (without_first p ks)) ≡ length ks
found_length p [] = refl
found_length p (k ∷ ks) =
    elim (p k) as (λ b. p k ≡ b → length (in_front (find p (k ∷ ks)) (without_first p (k ∷ ks))) ≡ length (k ∷ ks)) [
      | true ↦ λ e. rw e refl
      | false ↦ λ e. rw e (front_length (find p ks) k (without_first p ks) ∙ ap suc (found_length p ks))
    ] refl

pub taken_length : {K : Type 0} (p : K → Bool) (shelf rest : Shelf K) (found : Option K) → found ≡ find p (items shelf) → items rest ≡ without_first p (items shelf) → length (in_front found (items rest)) ≡ length (items shelf)
taken_length p shelf rest found e o = rw (e, o) (found_length p (items shelf))

pub found_one : {K : Type 0} (p : K → Bool) (shelf rest : Shelf K) (found : Option K) (k : K) → found ≡ find p (items shelf) → items rest ≡ without_first p (items shelf) → found ≡ Some k → suc (length (items rest)) ≡ length (items shelf)
found_one p shelf rest found k e o is = ap (λ f. length (in_front f (items rest))) (sym is) ∙ taken_length p shelf rest found e o

pub none_when : {K : Type 0} (o : Option K) → ((k : K) → o ≡ Some k → ⊥) → o ≡ None
none_when None h = refl
none_when (Some k) h = absurd (h k refl)

pub found_none : {K : Type 0} (p : K → Bool) (shelf rest : Shelf K) (found : Option K) → found ≡ find p (items shelf) → items rest ≡ without_first p (items shelf) → ((k : K) → found ≡ Some k → ⊥) → length (items rest) ≡ length (items shelf)
found_none p shelf rest found e o h = ap (λ f. length (in_front f (items rest))) (sym (none_when found h)) ∙ taken_length p shelf rest found e o

-- a link that was handed back is one more, with the one that is hung up
pub shelved_length : {I O : Type 0} (shelf slot : Shelf (KeptLink I O)) (closing : Option (KeptLink I O)) (k : KeptLink I O) (keeps : Bool) → Shelved shelf slot closing k keeps → length (in_front closing (items slot)) ≡ length (items shelf) + 1
shelved_length shelf slot closing k true h = ap length (h.kept refl) ∙ length-append (items shelf) (k ∷ [])
shelved_length shelf slot closing k false h = let g = h.given refl in rw (g.0, g.1) (omega arith)

pub kept_one : {I O : Type 0} (shelf slot : Shelf (KeptLink I O)) (closing : Option (KeptLink I O)) (k : KeptLink I O) (keeps : Bool) → Shelved shelf slot closing k keeps → closing ≡ None → length (items slot) ≡ length (items shelf) + 1
kept_one shelf slot closing k keeps h e = ap (λ x. length (in_front x (items slot))) (sym e) ∙ shelved_length shelf slot closing k keeps h

pub kept_same : {I O : Type 0} (shelf slot : Shelf (KeptLink I O)) (closing : Option (KeptLink I O)) (k c : KeptLink I O) (keeps : Bool) → Shelved shelf slot closing k keeps → closing ≡ Some c → suc (length (items slot)) ≡ length (items shelf) + 1
kept_same shelf slot closing k c keeps h e = ap (λ x. length (in_front x (items slot))) (sym e) ∙ shelved_length shelf slot closing k keeps h

-- ---- what is hung up at the inner dialer

pub hangs_none : (d : DialerState) (n m : ℕ) → n ≡ m → HangsUpOthers d d n m
hangs_none d n m e = record { opened_same = refl; hung_up = λ l. ap (λ x. d.hung_up + x) (sym e) }

pub hangs_one : (old new : DialerState) (n m : ℕ) → new.opened ≡ old.opened → IsOneMore old.hung_up new.hung_up → suc m ≡ n → HangsUpOthers old new n m
hangs_one old new n m o h e = record { opened_same = o; hung_up = λ l. let one = one_more old.hung_up new.hung_up h l in omega (arith, one, e) }

pub hangs_on : (a b c : DialerState) (m n i j k : ℕ) → HangsUpOthers a b m n → HangsUpOthers b c i j → n + j ≡ k + i → b.hung_up ≤ c.hung_up → HangsUpOthers a c m k
hangs_on a b c m n i j k h g e later = record {
  opened_same = g.opened_same ∙ h.opened_same;
  hung_up = λ l. let before : b.hung_up < 2 ^ 64 - 1 = omega (arith, l, later) in omega (arith, g.hung_up l, h.hung_up before, e);
}

-- ---- the balance

-- a count that goes on from another is one more where its own is
pub counts_on_more : (first own more : ℕ) → IsOneMore own more → IsOneMore (counts_on first own) (counts_on first more)
counts_on_more first own more h = omega (arith, h)

-- a pool that was just made keeps none, and counts on from the dialer
pub balanced_first : (d first : DialerState) → first ≡ d → IsBalanced d (counts_on first.opened 0) (counts_on first.hung_up 0) 0
balanced_first d first e = rw e (λ a b c f. omega arith)

-- some of the kept links were hung up
pub balanced_others : (old new : DialerState) (opened hung_up n m : ℕ) → IsBalanced old opened hung_up n → HangsUpOthers old new n m → old.hung_up ≤ new.hung_up → IsBalanced new opened hung_up m
balanced_others old new opened hung_up n m was h later = λ a b c d.
    let before : old.opened < 2 ^ 64 - 1 = omega (arith, a, h.opened_same) in
    let fewer : old.hung_up < 2 ^ 64 - 1 = omega (arith, b, later) in
    omega (arith, was before fewer c d, h.hung_up b, h.opened_same)

-- a kept link is lent again
pub balanced_again : (d : DialerState) (opened more hung_up n : ℕ) → IsBalanced d opened hung_up (suc n) → IsOneMore opened more → IsBalanced d more hung_up n
balanced_again d opened more hung_up n was one = λ a b c e.
    let up = one_more opened more one c in
    let before : opened < 2 ^ 64 - 1 = omega (arith, up, c) in
    omega (arith, was a b before e, up)

-- a new link is lent
pub balanced_dialled : (old new : DialerState) (opened more hung_up n : ℕ) → IsBalanced old opened hung_up n → IsOneMore old.opened new.opened → new.hung_up ≡ old.hung_up → IsOneMore opened more → IsBalanced new more hung_up n
balanced_dialled old new opened more hung_up n was inner same one = λ a b c e.
    let up = one_more opened more one c in
    let up_inner = one_more old.opened new.opened inner a in
    let before : opened < 2 ^ 64 - 1 = omega (arith, up, c) in
    let before_inner : old.opened < 2 ^ 64 - 1 = omega (arith, up_inner, a) in
    let fewer : old.hung_up < 2 ^ 64 - 1 = omega (arith, same, b) in
    omega (arith, was before_inner fewer before e, up, up_inner, same)

pub balanced_refused : (old new : DialerState) (opened hung_up n : ℕ) → IsBalanced old opened hung_up n → new.opened ≡ old.opened → new.hung_up ≡ old.hung_up → IsBalanced new opened hung_up n
balanced_refused old new opened hung_up n was o h = rw (o, h) was

-- a link is handed back and kept
pub balanced_kept : (d : DialerState) (opened hung_up more n m : ℕ) → IsBalanced d opened hung_up n → IsOneMore hung_up more → m ≡ n + 1 → IsBalanced d opened more m
balanced_kept d opened hung_up more n m was one e = λ a b c f.
    let up = one_more hung_up more one f in
    let before : hung_up < 2 ^ 64 - 1 = omega (arith, up, f) in
    omega (arith, was a b c before, up, e)

-- one is handed back, and it or another is hung up
pub balanced_closed : (old new : DialerState) (opened hung_up more n m : ℕ) → IsBalanced old opened hung_up n → IsOneMore hung_up more → IsOneMore old.hung_up new.hung_up → new.opened ≡ old.opened → suc m ≡ n + 1 → IsBalanced new opened more m
balanced_closed old new opened hung_up more n m was one inner same e = λ a b c f.
    let up = one_more hung_up more one f in
    let up_inner = one_more old.hung_up new.hung_up inner b in
    let before : hung_up < 2 ^ 64 - 1 = omega (arith, up, f) in
    let fewer : old.hung_up < 2 ^ 64 - 1 = omega (arith, up_inner, b) in
    let opens : old.opened < 2 ^ 64 - 1 = omega (arith, same, a) in
    omega (arith, was opens fewer c before, up, up_inner, same, e)
