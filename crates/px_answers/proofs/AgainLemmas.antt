-- The raw bytes of a body are read to themselves and to the same data.
use Rattle.std.proofs.Common.{◌≡◌, ◌≢◌, ◌⊎◌, inl, inr, ℕ, ◌==◌, cond, Bool, true, false, ◌+◌, ◌-◌, ◌<◌, ◌≤◌, List, [], ◌∷◌, ◌++◌, length, take, drop, sym, ap, subst, ◌∙◌, refl, arith, append_assoc, length-append}
use Rattle.std.proofs.lemmas.List.{append-nil, take-append-le, take-append-drop, take-take, length-take}
use Rattle.std.proofs.Math.Seq.{take-length}
use Rattle.std.proofs.Math.Nat.{eq-or-lt_of_le}
use Rattle.px_framing.specs.Body.{Body, Part, IsBody, CanGoOn, NoBody, StateSays, KeepsLimit, IsChunked, AreElements, first_bytes, body_limit}
use Rattle.px_framing.specs.Reading.{goes_on, reads_on, first}
use Rattle.px_framing.specs.declared.rules.BodyRule.{BodyRule}
use Rattle.px_framing.specs.declared.rules.BodyRule.TheVariants as rule
use Rattle.px_framing.specs.declared.stages.Stage.TheVariants as stage
use Rattle.px_framing.specs.declared.places.State.{State}
use Rattle.px_framing.specs.declared.places.State.TheVariants as state
use Rattle.px_answers.specs.Forms.{body_of}
use Rattle.px_answers.specs.Passages.{ReadsAgain, AreOwn}

-- what may go on, and a front of it
can_front : (a b : List ℕ) → CanGoOn (a ++ b) → CanGoOn a
can_front a b x = (b ++ x.0, rw (append_assoc a b x.0) at x.1)

take_all : (n : ℕ) (xs : List ℕ) → n ≡ length xs → take n xs ≡ xs
take_all n xs e = rw e (take-length xs)

-- a front of a front that can go on
can_take : (n m : ℕ) (xs : List ℕ) → n ≤ m → CanGoOn (take m xs) → CanGoOn (take n xs)
can_take n m xs le x =
    let e : take m xs ≡ take n xs ++ drop n (take m xs) = sym (ap (λ (ys : List ℕ). ys ++ drop n (take m xs)) (sym (take-take n m xs le)) ∙ take-append-drop n (take m xs)) in
    can_front (take n xs) (drop n (take m xs)) (rw e at x)

-- a body that isn't whole: no front of it is a body, and it can go on up to its last byte
record Open (rest : List ℕ) (p : Part) : Type 0 where
  pub no_body : NoBody (take p.used rest)
  pub before_last : (n : ℕ) → n < p.used → CanGoOn (take n rest)
  pub limit : p.used ≤ body_limit

is_open : (rest : List ℕ) (p : Part) (s : State) → p.state ≡ s → s ≢ state.Whole → IsChunked rest p → Open rest p
is_open rest p state.Whole e n x = absurd (n refl)
is_open rest p state.More e n x =
    let says : StateSays state.More rest p.used = rw e at x.says in
    let limit : KeepsLimit state.More p.used = rw e at x.limit in
    let full : take p.used rest ≡ rest = take_all p.used rest says.0 in
    record {
      no_body = rw full says.2;
      before_last = λ m lt. can_take m p.used rest (omega arith) (rw full says.1);
      limit = omega arith;
    }
is_open rest p state.Cut e n x =
    let says : StateSays state.Cut rest p.used = rw e at x.says in
    let limit : KeepsLimit state.Cut p.used = rw e at x.limit in
    record { no_body = says.1; before_last = λ m lt. can_take m p.used rest (omega arith) says.0; limit = omega arith }
is_open rest p state.Misframed e n x =
    let says : StateSays state.Misframed rest p.used = rw e at x.says in
    let limit : KeepsLimit state.Misframed p.used = rw e at x.limit in
    record { no_body = says.3; before_last = λ m lt. can_take m (p.used - 1) rest (omega arith) says.1; limit = limit }

-- its raw bytes are a front of it
record Front (rest : List ℕ) (p : Part) : Type 0 where
  pub fits : length p.raw ≤ p.used
  pub same : (n : ℕ) → n ≤ length p.raw → take n p.raw ≡ take n rest

is_front : (rest : List ℕ) (p : Part) → IsChunked rest p → Front rest p
is_front rest p x =
    let lens : length (take p.used rest) ≡ length p.raw + length x.held = ap length x.front ∙ length-append p.raw x.held in
    let fits : length p.raw ≤ p.used = omega (arith, length-take p.used rest, lens) in
    record {
      fits = fits;
      same = λ n le. sym (take-append-le n p.raw x.held le) ∙ ap (take n) (sym x.front) ∙ take-take n p.used rest (omega arith);
    }

-- so all of them are used where they are read again
all_used : (rest : List ℕ) (p q : Part) (s : State) → q.state ≡ s → Open rest p → Front rest p → IsChunked p.raw q → q.used ≡ length p.raw
all_used rest p q state.More e o f y = let says : StateSays state.More p.raw q.used = rw e at y.says in says.0
all_used rest p q state.Whole e o f y =
    let says : StateSays state.Whole p.raw q.used = rw e at y.says in
    let same : take q.used p.raw ≡ take q.used (take p.used rest) = f.same q.used y.within ∙ sym (take-take q.used p.used rest (omega (arith, y.within, f.fits))) in
    let body : IsBody (take q.used (take p.used rest)) = subst (λ (w : List ℕ). IsBody w) same says in
    absurd (o.no_body q.used body)
all_used rest p q state.Cut e o f y =
    let limit : KeepsLimit state.Cut q.used = rw e at y.limit in
    omega (arith, y.within, f.fits, o.limit, limit)
all_used rest p q state.Misframed e o f y =
    let says : StateSays state.Misframed p.raw q.used = rw e at y.says in
    by (eq-or-lt_of_le y.within) says
  where
    by : (q.used ≡ length p.raw) ⊎ (q.used < length p.raw) → StateSays state.Misframed p.raw q.used → q.used ≡ length p.raw
    by (inl same) says = same
    by (inr less) says = absurd (says.2 (subst (λ (w : List ℕ). CanGoOn w) (sym (f.same q.used y.within)) (o.before_last q.used (omega (arith, less, f.fits)))))

none_held : (raw held : List ℕ) → length (raw ++ held) ≤ length raw → held ≡ []
none_held raw [] h = refl
none_held raw (x ∷ held) h = absurd (omega (arith, length-append raw (x ∷ held)))

-- chunks whose raw bytes are all used have no other raw bytes, and the same data
one_data : (rest : List ℕ) (p q : Part) → ((a b : Part) → IsChunked p.raw a → IsChunked p.raw b → a ≡ b) → IsChunked rest p → IsChunked p.raw q
    → q.used ≡ length p.raw → (q.raw ≡ p.raw) × (q.plain ≡ p.plain)
one_data rest p q one x y all =
    let taken : take q.used p.raw ≡ p.raw = take_all q.used p.raw all in
    let most : length p.raw ≤ length q.raw = y.longest p.raw p.plain [] x.next x.elements (taken ∙ sym (append-nil p.raw)) in
    let parts : p.raw ≡ q.raw ++ y.held = sym taken ∙ y.front in
    let none : y.held ≡ [] = none_held q.raw y.held (rw parts at most) in
    let raws : q.raw ≡ p.raw = sym (append-nil q.raw) ∙ sym (ap (λ (w : List ℕ). q.raw ++ w) none) ∙ sym parts in
    let z : IsChunked p.raw (record q { plain = p.plain }) = record {
      within = y.within;
      held = y.held;
      next = x.next;
      front = y.front;
      elements = subst (λ (w : List ℕ). AreElements w p.plain x.next) (sym raws) x.elements;
      longest = y.longest;
      says = y.says;
      limit = y.limit;
    } in
    (raws, ap (λ (part : Part). part.plain) (one q (record q { plain = p.plain }) y z))

-- laws of bodies: each is read to one part, and the raw bytes of a whole one are one
pub record Laws : Type 0 where
  pub reads : (r : BodyRule) (bytes : List ℕ) → Body r bytes (goes_on (first r) bytes)
  pub one : (r : BodyRule) (bytes : List ℕ) (p q : Part) → Body r bytes p → Body r bytes q → p ≡ q
  pub whole : (bytes : List ℕ) (p : Part) → Body rule.Chunked bytes p → p.state ≡ state.Whole → Body rule.Chunked p.raw (record p { used = length p.raw })

-- so many bytes of a body that takes that many are read to themselves
first_again : (n : ℕ) (s : State) (rest : List ℕ) (q : Part) → q ≡ first_bytes n s (take n rest)
    → (q.raw ≡ take n rest) × (q.used ≡ length (take n rest)) × (q.plain ≡ take n rest)
first_again n s rest q e =
    let same : take n (take n rest) ≡ take n rest = take-take n n rest (omega arith) in
    (ap (λ (p : Part). p.raw) e ∙ same, ap (λ (p : Part). p.used) e ∙ omega (arith, length-take n rest), ap (λ (p : Part). p.plain) e ∙ same)

-- chunks that aren't whole
open_again : (laws : Laws) (rest : List ℕ) (p : Part) (s : State) → s ≢ state.Whole → Open rest p → IsChunked rest p → ReadsAgain rule.Chunked p.raw p.plain s
open_again laws rest p s n o x =
    let q = body_of rule.Chunked p.raw in
    let y : IsChunked p.raw q = laws.reads rule.Chunked p.raw in
    let all : q.used ≡ length p.raw = all_used rest p q q.state refl o (is_front rest p x) y in
    let d : (q.raw ≡ p.raw) × (q.plain ≡ p.plain) = one_data rest p q (laws.one rule.Chunked p.raw) x y all in
    record { own = record { all = d.0; used = all }; same = d.1; whole = λ h. absurd (n h) }

-- chunks, by how they stand
chunks_again : (laws : Laws) (rest : List ℕ) (p : Part) (s : State) → p.state ≡ s → IsChunked rest p → ReadsAgain rule.Chunked p.raw p.plain s
chunks_again laws rest p state.Whole e x =
    let q : body_of rule.Chunked p.raw ≡ record p { used = length p.raw } = laws.one rule.Chunked p.raw _ _ (laws.reads rule.Chunked p.raw) (laws.whole rest p x e) in
    record {
      own = record { all = ap (λ (p : Part). p.raw) q; used = ap (λ (p : Part). p.used) q };
      same = ap (λ (p : Part). p.plain) q;
      whole = λ h is. ap (λ (p : Part). p.state) q ∙ e;
    }
chunks_again laws rest p state.More e x = open_again laws rest p state.More (λ h. cc) (is_open rest p state.More e (λ h. cc) x) x
chunks_again laws rest p state.Cut e x = open_again laws rest p state.Cut (λ h. cc) (is_open rest p state.Cut e (λ h. cc) x) x
chunks_again laws rest p state.Misframed e x = open_again laws rest p state.Misframed (λ h. cc) (is_open rest p state.Misframed e (λ h. cc) x) x

absent_again : ReadsAgain rule.Absent [] [] state.Whole
unfolding goes_on
absent_again = record { own = record { all = refl; used = refl }; same = refl; whole = λ h is. absurd (cc) }

-- the raw bytes of a body are read to themselves and to the same data
pub again : (laws : Laws) (r : BodyRule) (rest : List ℕ) (p : Part) → Body r rest p → ReadsAgain r p.raw p.plain p.state
again laws rule.Absent rest p x = rw x absent_again
again laws (rule.Length n) rest p x =
    let q = first_again n state.Whole rest (body_of (rule.Length n) (take n rest)) (laws.reads (rule.Length n) (take n rest)) in
    rw x (record { own = record { all = q.0; used = q.1 }; same = q.2; whole = λ h is. absurd (cc) })
again laws rule.Chunked rest p x = chunks_again laws rest p p.state refl x
again laws rule.ToClose rest p x =
    let q = first_again body_limit state.Cut rest (body_of rule.ToClose (take body_limit rest)) (laws.reads rule.ToClose (take body_limit rest)) in
    rw x (record { own = record { all = q.0; used = q.1 }; same = q.2; whole = λ h is. absurd (cc) })

-- all bytes of a body that isn't in chunks are its data
plain_is_raw : (r : BodyRule) (xs : List ℕ) → r ≢ rule.Chunked → (body_of r xs).plain ≡ (body_of r xs).raw
unfolding goes_on
plain_is_raw rule.Absent xs n = refl
plain_is_raw (rule.Length m) xs n = by (m == 0)
  where
    by : (none : Bool) → (reads_on (cond none (stage.Ended state.Whole) (stage.Bytes m)) [] xs).plain ≡ (reads_on (cond none (stage.Ended state.Whole) (stage.Bytes m)) [] xs).raw
    by true = refl
    by false = refl
plain_is_raw rule.Chunked xs n = absurd (n refl)
plain_is_raw rule.ToClose xs n = refl

pub own_data : (r : BodyRule) (raw : List ℕ) → r ≢ rule.Chunked → AreOwn r raw → raw ≡ (body_of r raw).plain
own_data r raw n own = sym (plain_is_raw r raw n ∙ own.all)
