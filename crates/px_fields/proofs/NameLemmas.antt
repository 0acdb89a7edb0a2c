-- Names that are the same without case have one length.
use Rattle.std.proofs.Common.{◌≡◌, ℕ, suc, Bool, true, false, List, [], ◌∷◌, length, refl, ap, sym, ◌∙◌, inl, inr}
use Rattle.std.proofs.lemmas.Bool.{and_cases, and_left, cases_Bool, eqb-false, eqb-true, false_from_ne_true, or_from, or_parts}
use Rattle.std.proofs.Math.Bool.{or-false}
use Rattle.std.specs.Prelude.{◌==◌, ◌&&◌, ◌||◌, ◌≢◌, filter, slice_index}
use Rattle.std.specs.Char.{eq_ignore_ascii_case, to_ascii_lowercase}
use Rattle.std.specs.List.{list_any}
use Rattle.std.specs.Str.{str_eq_ignore_ascii_case}
use Rattle.px_fields.specs.Names.{begins_with_letter, connection_names, is_among_names, is_held_back_of_request, is_held_back_of_response, request_names}

and-false : (b : Bool) → (b && false) ≡ false
and-false true = refl
and-false false = refl

pub other-length : (a b : List ℕ) → length a ≢ length b → str_eq_ignore_ascii_case a b ≡ false
other-length [] [] other = absurd (other refl)
other-length [] (y ∷ b) other = refl
other-length (x ∷ a) [] other = refl
other-length (x ∷ a) (y ∷ b) other = ap (λ r. eq_ignore_ascii_case x y && r) (other-length a b (λ same. other (ap suc same))) ∙ and-false _

-- only those of the name's length count
pub of-length : (names : List (List ℕ)) (name : List ℕ) (n : ℕ) → length name ≡ n → is_among_names names name ≡ is_among_names (filter (λ one. length one == n) names) name
of-length [] name n is = refl
of-length (one ∷ names) name n is =
    elim (cases_Bool (length one == n)) [
      | inl same ↦ rw same (ap (λ r. str_eq_ignore_ascii_case one name || r) (of-length names name n is))
      | inr other ↦ rw other (ap (λ b. b || is_among_names names name) (other-length one name (λ same. eqb-false (length one) n other (same ∙ is))) ∙ of-length names name n is)
    ]

-- each name has another length
abbrev pub Others : List (List ℕ) → ℕ → Type 0
Others [] n = Unit {0}
Others (one ∷ names) n = (length one ≢ n) × Others names n

-- none of another length counts
pub of-none : (names : List (List ℕ)) (name : List ℕ) → Others names (length name) → is_among_names names name ≡ false
of-none [] name others = refl
of-none (one ∷ names) name others = ap (λ b. b || is_among_names names name) (other-length one name others.0) ∙ of-none names name others.1

-- the one of its length
pub alone : (r a all : Bool) → r ≡ a → all ≡ (a || false) → r ≡ all
alone r a all is found = is ∙ (sym (or-false a) ∙ sym found)

-- the second of its length
pub second : (r first a all : Bool) → false ≡ first → r ≡ a → all ≡ (first || (a || false)) → r ≡ all
second r first a all other is found = alone r a all is (found ∙ ap (λ b. b || (a || false)) (sym other))

-- ---- names by their length and first letter

flipped : (a b : ℕ) → (a == b) ≡ false → (b == a) ≡ false
flipped a b other = false_from_ne_true (b == a) (λ same. eqb-false a b other (sym (eqb-true b a same)))

other-first : (one name : List ℕ) → begins_with_letter name (to_ascii_lowercase (slice_index one 0)) ≡ false → str_eq_ignore_ascii_case one name ≡ false
other-first [] [] other = absurd (eqb-false (to_ascii_lowercase (slice_index [] 0)) (to_ascii_lowercase (slice_index [] 0)) other refl)
other-first [] (y ∷ name) other = refl
other-first (x ∷ one) [] other = refl
other-first (x ∷ one) (y ∷ name) other = and_left _ _ (flipped (to_ascii_lowercase y) (to_ascii_lowercase x) other)

-- one of the names has that length and the first letter of this one
abbrev pub some_begins : List (List ℕ) → ℕ → List ℕ → Bool
some_begins names n name = list_any (λ one. length one == n && begins_with_letter name (to_ascii_lowercase (slice_index one 0))) names

other-begin : (one name : List ℕ) (n : ℕ) → length name ≡ n → (length one == n && begins_with_letter name (to_ascii_lowercase (slice_index one 0))) ≡ false → str_eq_ignore_ascii_case one name ≡ false
other-begin one name n is other =
    elim (and_cases (length one == n) _ other) [
      | inl long ↦ other-length one name (λ same. eqb-false (length one) n long (same ∙ is))
      | inr letter ↦ other-first one name letter
    ]

none-begins : (names : List (List ℕ)) (name : List ℕ) (n : ℕ) → length name ≡ n → some_begins names n name ≡ false → is_among_names names name ≡ false
none-begins [] name n is other = refl
none-begins (one ∷ names) name n is other =
    let both = or_parts (length one == n && begins_with_letter name (to_ascii_lowercase (slice_index one 0))) _ other in
    or_from _ _ (other-begin one name n is both.0) (none-begins names name n is both.1)

-- a name is passed on where no name that is held back has its length and its first letter
pub passed-by : (name : List ℕ) (n : ℕ) → length name ≡ n → some_begins connection_names n name ≡ false → some_begins request_names n name ≡ false → is_held_back_of_request name ≡ false
unfolding is_held_back_of_request
passed-by name n is connection request = or_from _ _ (none-begins connection_names name n is connection) (none-begins request_names name n is request)

-- so is one where none has its length
pub passed-whole : (name : List ℕ) → Others connection_names (length name) → Others request_names (length name) → is_held_back_of_request name ≡ false
unfolding is_held_back_of_request
passed-whole name connection request = or_from _ _ (of-none connection_names name connection) (of-none request_names name request)

-- what isn't held back of a request isn't of a response
pub passed-too : (name : List ℕ) → is_held_back_of_request name ≡ false → is_held_back_of_response name ≡ false
unfolding is_held_back_of_request is_held_back_of_response
passed-too name is = (or_parts (is_among_names connection_names name) (is_among_names request_names name) is).0
