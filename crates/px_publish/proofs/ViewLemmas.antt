-- Views that go on, and the entries of a list that is taken in turn.
use Rattle.std.proofs.Common.{◌≡◌, ℕ, zero, suc, ◌+◌, ◌≤◌, ◌<◌, min, List, [], ◌∷◌, ◌++◌, length, take, drop, map, slice_get, get_or, Some, Result, Ok, Err, Bool, true, false, not, All, IfOk, IsTrue, refl, ap, sym, ◌∙◌, arith, append-nil, length-append, length-take, length-drop, add-one, add-zero, zero-add, subst}
use Rattle.std.proofs.lemmas.List.{length-map}
use Rattle.std.proofs.lemmas.List.Elements.{All-append}
use mathlib.Core.List.{IsPrefix}
use Rattle.px_base.specs.Repeating as repeating
use Rattle.px_publish.specs.Views.{Entry, EndsIn, IsLast, LookGives, GoesOn, config_behind, numbered}

module _ {A : Type 0} where
  pub get_append : (xs more : List A) (k : ℕ) (x : A) → slice_get xs k ≡ Some x → slice_get (xs ++ more) k ≡ Some x
  get_append [] more k x e = absurd (cc)
  get_append (y ∷ xs) more zero x e = e
  get_append (y ∷ xs) more (suc k) x e = get_append xs more k x e

  no_more : (xs more : List A) → length (xs ++ more) ≡ length xs → xs ++ more ≡ xs
  no_more xs [] e = append-nil xs
  no_more xs (m ∷ more) e = absurd (omega (arith, length-append xs (m ∷ more)))

  goes_on_by : (xs ys more : List A) → xs ++ more ≡ ys → GoesOn xs ys
  goes_on_by xs ys more e = subst (λ zs. GoesOn xs zs) e (record {
    prefix = (more, refl);
    longer = omega (arith, length-append xs more);
    stands = get_append xs more;
    same = no_more xs more;
  })

  -- a list goes on where it begins a list
  pub prefix_goes_on : (xs ys : List A) → IsPrefix xs ys → GoesOn xs ys
  prefix_goes_on xs ys p = goes_on_by xs ys p.0 p.1

  take_prefix : (i j : ℕ) (xs : List A) → i ≤ j → IsPrefix (take i xs) (take j xs)
  take_prefix zero j xs le = (take j xs, refl)
  take_prefix (suc i) zero xs le = absurd (omega arith)
  take_prefix (suc i) (suc j) [] le = ([], refl)
  take_prefix (suc i) (suc j) (x ∷ xs) le =
      let rest = take_prefix i j xs (omega arith) in (rest.0, ap (λ ys. x ∷ ys) rest.1)

  -- more of a list was taken
  pub takes_on : (first : A) (rest : List A) (i j : ℕ) → i ≤ j → GoesOn (first ∷ take i rest) (first ∷ take j rest)
  takes_on first rest i j le =
      let p = take_prefix i j rest le in prefix_goes_on (first ∷ take i rest) (first ∷ take j rest) (p.0, ap (λ ys. first ∷ ys) p.1)

  stands_last : (first : A) (rest : List A) (k n : ℕ) → n ≡ min k (length rest) → slice_get (first ∷ take k rest) n ≡ Some (config_behind first rest k)
  stands_last first [] zero zero e = refl
  stands_last first [] zero (suc n) e = absurd (omega arith)
  stands_last first [] (suc k) zero e = refl
  stands_last first [] (suc k) (suc n) e = absurd (omega arith)
  stands_last first (next ∷ rest) zero zero e = refl
  stands_last first (next ∷ rest) zero (suc n) e = absurd (omega arith)
  stands_last first (next ∷ rest) (suc k) zero e = absurd (omega arith)
  stands_last first (next ∷ rest) (suc k) (suc n) e = stands_last next rest k n (omega arith)

  -- what was taken ends in the entry so far behind the first
  ends_in : (first : A) (rest : List A) (k : ℕ) → k ≤ length rest → EndsIn (first ∷ take k rest) (record { number = k; config = config_behind first rest k })
  ends_in first rest k le = record { number = omega (arith, length-take k rest); config = stands_last first rest k k (omega arith) }

  behind_none : (first : A) (rest : List A) → config_behind first rest 0 ≡ first
  behind_none first [] = refl
  behind_none first (next ∷ rest) = refl

  pub behind_first : (first : A) (rest : List A) (n : ℕ) → n ≡ 0 → first ≡ config_behind first rest n
  behind_first first rest n e = rw e (sym (behind_none first rest))

  module _ {B : Type 0} (f : B → A) where
    behind_next : (first : A) (rest : List B) (k : ℕ) (x : B) → k < length rest → x ≡ get_or rest k x → f x ≡ config_behind first (map f rest) (suc k)
    behind_next first [] k x lt e = absurd (omega arith)
    behind_next first (y ∷ rest) zero x lt e = ap f e ∙ sym (behind_none (f y) (map f rest))
    behind_next first (y ∷ rest) (suc k) x lt e = behind_next (f y) rest k x (omega arith) e

    -- one behind the first
    pub behind_at : (first : A) (rest : List B) (n k : ℕ) (x : B) → n ≡ suc k → k < length rest → x ≡ get_or rest k x → f x ≡ config_behind first (map f rest) n
    behind_at first rest n k x e lt is = rw e (behind_next first rest k x lt is)

    -- the entry that is held
    pub current_behind : (first : A) (rest : List B) (n : ℕ) (x : A) → n ≤ length rest → x ≡ config_behind first (map f rest) n → slice_get (first ∷ take n (map f rest)) n ≡ Some x
    current_behind first rest n x le e =
        rw e (stands_last first (map f rest) n n (omega (arith, length-map rest f)))

    pub owner_behind : (first : A) (rest : List B) (n : ℕ) (x y : A) → n ≤ length rest → x ≡ config_behind first (map f rest) n → y ≡ x → IsLast (first ∷ take n (map f rest)) y
    owner_behind first rest n x y le e is number len =
        let same : number ≡ n = omega (arith, length-take n (map f rest), length-map rest f) in
        rw (same, is) (current_behind first rest n x le e)

    -- the first and the others are all
    pub first_and_rest : (all rest : List B) (first : B) → 0 < length all → first ≡ get_or all 0 first → rest ≡ take 0 all ++ drop 1 all
        → numbered 0 (f first ∷ map f rest) ≡ numbered 0 (map f all)
    first_and_rest [] rest first some e d = absurd (omega arith)
    first_and_rest (x ∷ all) rest first some e d = rw (e, d) refl

  numbered_at : (n : ℕ) (first : A) (rest : List A) (k : ℕ) → k ≤ length rest
      → drop k (numbered n (first ∷ rest)) ≡ record { number = n + k; config = config_behind first rest k } ∷ drop (suc k) (numbered n (first ∷ rest))
  numbered_at n first [] zero le = rw add-zero refl
  numbered_at n first (next ∷ rest) zero le = rw add-zero refl
  numbered_at n first [] (suc k) le = absurd (omega arith)
  numbered_at n first (next ∷ rest) (suc k) le =
      let number : n + 1 + k ≡ n + suc k = omega arith in
      numbered_at (n + 1) next rest k (omega arith) ∙ ap (λ (m : ℕ). record { number = m; config = config_behind next rest k } ∷ drop (suc k) (numbered (n + 1) (next ∷ rest))) number

  numbered_length : (n : ℕ) (xs : List A) → length (numbered n xs) ≡ length xs
  numbered_length n [] = refl
  numbered_length n (x ∷ xs) = ap suc (numbered_length (n + 1) xs)

  -- a look gives the entry with the number of the first that is left
  pub look_gives : (first : A) (rest : List A) (k : ℕ) → k ≤ length rest → LookGives (drop k (numbered 0 (first ∷ rest))) (first ∷ take k rest)
  look_gives first rest k le = rw (numbered_at 0 first rest k le, zero-add) (ends_in first rest k le)

  behind_some : (e : Entry A) (es : List (Entry A)) → 0 < length es → repeating.behind_first (e ∷ es) ≡ es
  behind_some e [] some = absurd (omega arith)
  behind_some e (x ∷ es) some = refl

  behind_last : (e : Entry A) (es : List (Entry A)) → length es ≡ 0 → repeating.behind_first (e ∷ es) ≡ e ∷ es
  behind_last e [] none = refl
  behind_last e (x ∷ es) none = absurd (omega arith)

  -- what is left behind it, where others follow
  pub next_looks : (first : A) (rest : List A) (k : ℕ) → k < length rest → drop (k + 1) (numbered 0 (first ∷ rest)) ≡ repeating.behind_first (drop k (numbered 0 (first ∷ rest)))
  next_looks first rest k lt =
      let some : 0 < length (drop (suc k) (numbered 0 (first ∷ rest))) = omega (arith, length-drop (suc k) (numbered 0 (first ∷ rest)), numbered_length 0 (first ∷ rest)) in
      rw add-one (sym (ap repeating.behind_first (numbered_at 0 first rest k (omega arith)) ∙ behind_some _ _ some))

  -- and where it was the last
  pub last_look : (first : A) (rest : List A) (k : ℕ) → k ≡ length rest → drop k (numbered 0 (first ∷ rest)) ≡ repeating.behind_first (drop k (numbered 0 (first ∷ rest)))
  last_look first rest k e =
      let none : length (drop (suc k) (numbered 0 (first ∷ rest))) ≡ 0 = omega (arith, length-drop (suc k) (numbered 0 (first ∷ rest)), numbered_length 0 (first ∷ rest)) in
      numbered_at 0 first rest k (omega arith) ∙ sym (ap repeating.behind_first (numbered_at 0 first rest k (omega arith)) ∙ behind_last _ _ none)

  last_is : (xs : List A) (x : A) → slice_get (xs ++ x ∷ []) (length xs) ≡ Some x
  last_is [] x = refl
  last_is (y ∷ xs) x = last_is xs x

  -- the entry that was added is the last
  pub last_added : (xs log : List A) (x y : A) (n : ℕ) → log ≡ xs ++ x ∷ [] → length log ≡ n + 1 → y ≡ x → slice_get log n ≡ Some y
  last_added xs log x y n e len same =
      let n' : n ≡ length xs = omega (arith, ap length e, length-append xs (x ∷ [])) in
      rw (e, n', same) (last_is xs x)

  -- one more owner of the entry that is held
  pub owner_is : {E B : Type 0} (f : B → A) (r : Result B E) (view : List A) (x : A) → IfOk r (λ o. f o ≡ x) → ((y : A) → y ≡ x → IsLast view y) → IfOk r (λ o. IsLast view (f o))
  owner_is f (Ok o) view x e last = last (f o) e
  owner_is f (Err e') view x e last = tt

pub not_false : (b : Bool) → IsTrue (not b) → b ≡ false
not_false true so = absurd (cc)
not_false false so = refl

module _ {B : Type 0} where
  pub all_weaker : (P Q : B → Type 0) (xs : List B) → ((x : B) → P x → Q x) → All P xs → All Q xs
  all_weaker P Q xs f all k d lt = f _ (all k d lt)

  all_one : (P : B → Type 0) (x : B) → P x → All P (x ∷ [])
  all_one P x p zero d lt = p
  all_one P x p (suc k) d lt = absurd (omega arith)

  pub all_snoc : (P : B → Type 0) (xs : List B) (x : B) → All P xs → P x → All P (xs ++ x ∷ [])
  all_snoc P xs x all p = All-append P xs (x ∷ []) all (all_one P x p)
