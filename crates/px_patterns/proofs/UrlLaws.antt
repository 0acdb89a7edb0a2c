-- What a URL that was read is like, and that such a URL, printed and read, is the same again.
use Rattle.std.proofs.Common.{map, true≢false, ◌≡◌, ◌≢◌, ℕ, zero, suc, ◌+◌, ◌<◌, ◌≤◌, ◌⊎◌, Bool, true, false, not, ◌||◌, ◌&&◌, List, [], ◌∷◌, ◌++◌, length, take, drop, refl, ap, sym, ◌∙◌, subst, arith, inl, inr, Option, None, Some, Result, Ok, Err, append_assoc}
use Rattle.std.specs.Prelude.{◌==◌, codes, decimal, nat_le, slice_index, if◌then◌else◌, option_and_then}
use Rattle.std.specs.Char.{to_ascii_lowercase}
use Rattle.std.specs.Int.{is_in_range}
use Rattle.std.specs.List.{after_first, before_first, list_all, list_any, position_or_len}
use Rattle.std.specs.Str.{IsAscii, IsCharBoundary, is_utf8}
use Rattle.std.proofs.lemmas.Bool.{and_from, and_parts, cases_Bool, cases_lt, eqb-false, eqb-true, le-leb, le-ltb, leb-true, ne_eqb, not-true, or_cases, or_from, or_parts, or_right}
use Rattle.std.proofs.lemmas.Fmt.{decimal_nonempty, digits_decimal, digits_value-decimal, length-decimal-le}
use Rattle.std.proofs.lemmas.List.{get_or-take, get_or_append_left, length-map, length-take, take-append-drop}
use Rattle.std.proofs.Math.Seq.{drop-append-add, drop-append_seam, take-append_seam}
use Rattle.std.proofs.lemmas.List.Folds.{list_any-append, list_any_none}
use Rattle.std.proofs.lemmas.List.Sums.{fails_before_first, passes_at_first}
use Rattle.std.proofs.lemmas.Str.{IsCharBoundary-before_ascii, IsCharBoundary-end, IsCharBoundary-from_take, IsUtf8-append, IsUtf8-drop, IsUtf8-from_ascii, IsUtf8-from_is_utf8, IsUtf8-take, is_utf8-from_IsUtf8}
use Rattle.std.proofs.lemmas.Slice.Eq.{bytes_eq-Decides}
use Rattle.std.proofs.lemmas.Str.Ascii.{IsAscii-cons, IsAscii-nil, lowercase_is}
use Rattle.std.proofs.lemmas.Str.Parse.{IsNumeralModel, IsDigitsTest, numerals_by_fold}
use Rattle.px_base.specs.Numbers.{all_digits, is_digit, with_digits}
use Rattle.px_base.specs.Numbers.{decimal as decimal_of}
use Rattle.px_base.specs.Ports.{port}
use Rattle.px_patterns.specs.declared.TheConstants.{AT, BRACKET_BEGIN, BRACKET_END, COLON, DEFAULT_PORT, DOT, HASH, QUESTION_MARK, SLASH}
use Rattle.px_patterns.specs.declared.faults.UrlFault.{UrlFault}
use Rattle.px_patterns.specs.declared.faults.UrlFault.TheVariants.{BadByte, BadPort, HasUser, NotHttp}
use Rattle.px_patterns.specs.declared.urls.Url.{Url}
use Rattle.px_patterns.specs.Urls.{IsHost, IsName, IsUrl, authority_of, begins_without_case, behind_host_part, bracketed_host, ends_host, has_bad_byte, host_of, host_part, is_address, is_address_byte, is_bad, lacks_port, named_host, path_of, port_of, shown_host, shown_port, shown_url, url_of, url_of_part, with_host, with_nothing_behind, with_port}
use Rattle.px_patterns.proofs.PlaceLemmas.{length-before_first, position-within}
use Rattle.px_patterns.proofs.UrlLemmas.{host_bracketed, host_named, named_some, url_whole}

-- ---- tests on parts of a list

any_cut : (test : ℕ → Bool) (xs : List ℕ) (n : ℕ) → list_any test xs ≡ false → (list_any test (take n xs) ≡ false) × (list_any test (drop n xs) ≡ false)
any_cut test xs n none =
    or_parts (list_any test (take n xs)) (list_any test (drop n xs)) (sym (list_any-append test (take n xs) (drop n xs)) ∙ (ap (list_any test) (take-append-drop n xs) ∙ none))

any_join : (test : ℕ → Bool) (xs ys : List ℕ) → list_any test xs ≡ false → list_any test ys ≡ false → list_any test (xs ++ ys) ≡ false
any_join test xs ys front back = list_any-append test xs ys ∙ or_from (list_any test xs) (list_any test ys) front back

none_before : (test : ℕ → Bool) (xs : List ℕ) → list_any test (before_first test xs) ≡ false
none_before test xs = list_any_none test (before_first test xs)
    (λ k d low.
    let short : k < position_or_len test xs = omega (arith, low, length-before_first test xs) in
    ap test (get_or-take (position_or_len test xs) xs k d short) ∙ fails_before_first test xs k d short)

position_behind : (test : ℕ → Bool) (xs ys : List ℕ) → list_any test xs ≡ false → position_or_len test ys ≡ 0 → position_or_len test (xs ++ ys) ≡ length xs
position_behind test [] ys none here = here
position_behind test (x ∷ xs) ys none here =
    let parts = or_parts (test x) (list_any test xs) none in
    rw parts.0 (omega (arith, position_behind test xs ys parts.1 here))

before_seam : (test : ℕ → Bool) (xs ys : List ℕ) → list_any test xs ≡ false → position_or_len test ys ≡ 0 → before_first test (xs ++ ys) ≡ xs
before_seam test xs ys none here = ap (λ n. take n (xs ++ ys)) (position_behind test xs ys none here) ∙ take-append_seam xs ys

after_seam : (test : ℕ → Bool) (xs : List ℕ) (y : ℕ) (ys : List ℕ) → list_any test xs ≡ false → position_or_len test (y ∷ ys) ≡ 0 → after_first test (xs ++ y ∷ ys) ≡ ys
after_seam test xs y ys none here = ap (λ n. drop (n + 1) (xs ++ y ∷ ys)) (position_behind test xs (y ∷ ys) none here) ∙ drop-append-add xs (y ∷ ys) 1

-- ---- bytes that no URL holds

clean_parts : (text : List ℕ) → has_bad_byte text ≡ false → (is_utf8 text ≡ true) × (list_any is_bad text ≡ false)
clean_parts text clean = by (is_utf8 text) (list_any is_bad text) clean
  where
    by : (a b : Bool) → (not a || b) ≡ false → (a ≡ true) × (b ≡ false)
    by true b e = (refl, e)
    by false b e = absurd (cc e)

clean_from : (text : List ℕ) → is_utf8 text ≡ true → list_any is_bad text ≡ false → has_bad_byte text ≡ false
clean_from text utf8 none = or_from (not (is_utf8 text)) (list_any is_bad text) (ap not utf8) none

clean_ascii : (text : List ℕ) → IsAscii text → list_any is_bad text ≡ false → has_bad_byte text ≡ false
clean_ascii text ascii none = clean_from text (is_utf8-from_IsUtf8 text (IsUtf8-from_ascii text ascii)) none

clean_join : (xs ys : List ℕ) → has_bad_byte xs ≡ false → has_bad_byte ys ≡ false → has_bad_byte (xs ++ ys) ≡ false
clean_join xs ys front back =
    let p = clean_parts xs front in
    let q = clean_parts ys back in
    clean_from (xs ++ ys) (is_utf8-from_IsUtf8 (xs ++ ys) (IsUtf8-append xs ys (IsUtf8-from_is_utf8 xs p.0) (IsUtf8-from_is_utf8 ys q.0))) (any_join is_bad xs ys p.1 q.1)

clean_cut : (xs : List ℕ) (n : ℕ) → IsCharBoundary xs n → has_bad_byte xs ≡ false → (has_bad_byte (take n xs) ≡ false) × (has_bad_byte (drop n xs) ≡ false)
clean_cut xs n at clean =
    let p = clean_parts xs clean in
    let cut = any_cut is_bad xs n p.1 in
    let text = IsUtf8-from_is_utf8 xs p.0 in
    (clean_from (take n xs) (is_utf8-from_IsUtf8 (take n xs) (IsUtf8-take xs n text at)) cut.0, clean_from (drop n xs) (is_utf8-from_IsUtf8 (drop n xs) (IsUtf8-drop xs n text at)) cut.1)

-- a text is cut before a byte of ASCII, or at its end
at_first : (test : ℕ → Bool) (xs : List ℕ) → ((b : ℕ) → test b ≡ true → b < 128) → IsCharBoundary xs (position_or_len test xs)
at_first test xs ascii =
    elim (cases_lt (position_or_len test xs) (length xs)) [
      | inl below ↦ IsCharBoundary-before_ascii xs (position_or_len test xs) below (ascii (slice_index xs (position_or_len test xs)) (passes_at_first test xs 0 below))
      | inr above ↦ subst (λ n. IsCharBoundary xs n) (omega (arith, above, position-within test xs)) (IsCharBoundary-end xs)
    ]

clean_before : (test : ℕ → Bool) (xs : List ℕ) → ((b : ℕ) → test b ≡ true → b < 128) → has_bad_byte xs ≡ false → has_bad_byte (before_first test xs) ≡ false
clean_before test xs ascii clean = (clean_cut xs (position_or_len test xs) (at_first test xs ascii) clean).0

clean_behind : (test : ℕ → Bool) (xs : List ℕ) → ((b : ℕ) → test b ≡ true → b < 128) → has_bad_byte xs ≡ false → has_bad_byte (drop (length (before_first test xs)) xs) ≡ false
clean_behind test xs ascii clean =
    ap (λ n. has_bad_byte (drop n xs)) (length-before_first test xs) ∙ (clean_cut xs (position_or_len test xs) (at_first test xs ascii) clean).1

ends_host_ascii : (b : ℕ) → ends_host b ≡ true → b < 128
ends_host_ascii b ends =
    elim (or_cases (b == SLASH || b == QUESTION_MARK) (b == HASH) ends) [
      | inl first ↦ elim (or_cases (b == SLASH) (b == QUESTION_MARK) first) [ inl is ↦ omega (arith, eqb-true b SLASH is) | inr is ↦ omega (arith, eqb-true b QUESTION_MARK is) ]
      | inr is ↦ omega (arith, eqb-true b HASH is)
    ]

-- ---- bytes of an address

-- an address's byte is none of those that end a host or stand round it
record InAddress (b : ℕ) : Type 0 where
  low : 46 ≤ b
  high : b < 103
  slash : b ≢ 47
  question : b ≢ 63
  at : b ≢ 64
  open_bracket : b ≢ 91
  closed_bracket : b ≢ 93

range_parts : (low high b : ℕ) → is_in_range low high b ≡ true → (low ≤ b) × (b ≤ high)
range_parts low high b is = let p = and_parts (nat_le low b) (nat_le b high) is in (leb-true low b p.0, leb-true b high p.1)

in_range_address : (low high b : ℕ) → low ≤ b → b ≤ high → ((48 ≤ low) × (high ≤ 58)) ⊎ ((65 ≤ low) × (high ≤ 70)) ⊎ ((97 ≤ low) × (high ≤ 102)) ⊎ ((46 ≤ low) × (high ≤ 46)) → InAddress b
in_range_address low high b above below which =
    record { low = omega arith; high = omega arith; slash = λ e. omega arith; question = λ e. omega arith; at = λ e. omega arith; open_bracket = λ e. omega arith; closed_bracket = λ e. omega arith }

address_byte : (b : ℕ) → is_address_byte b ≡ true → InAddress b
address_byte b is = elim (or_cases _ (b == DOT) is) [
  | inl first ↦ elim (or_cases _ (b == COLON) first) [
    | inl hex ↦ elim (or_cases _ (is_in_range 97 102 b) hex) [
      | inl upper ↦ elim (or_cases (is_in_range 48 57 b) (is_in_range 65 70 b) upper) [
        | inl digit ↦ let r = range_parts 48 57 b digit in in_range_address 48 57 b r.0 r.1 (inl (omega arith, omega arith))
        | inr letter ↦ let r = range_parts 65 70 b letter in in_range_address 65 70 b r.0 r.1 (inr (inl (omega arith, omega arith)))
      ]
      | inr lower ↦ let r = range_parts 97 102 b lower in in_range_address 97 102 b r.0 r.1 (inr (inr (inl (omega arith, omega arith))))
    ]
    | inr colon ↦ let e = eqb-true b COLON colon in in_range_address 58 58 b (omega (arith, e)) (omega (arith, e)) (inl (omega arith, omega arith))
  ]
  | inr dot ↦ let e = eqb-true b DOT dot in in_range_address 46 46 b (omega (arith, e)) (omega (arith, e)) (inr (inr (inr (omega arith, omega arith))))
]

address_none : (test : ℕ → Bool) → ((b : ℕ) → InAddress b → test b ≡ false) → (xs : List ℕ) → list_all is_address_byte xs ≡ true → list_any test xs ≡ false
address_none test fails [] all = refl
address_none test fails (x ∷ xs) all =
    let parts = and_parts (is_address_byte x) (list_all is_address_byte xs) all in
    or_from (test x) (list_any test xs) (fails x (address_byte x parts.0)) (address_none test fails xs parts.1)

address_ascii : (xs : List ℕ) → list_all is_address_byte xs ≡ true → IsAscii xs
address_ascii [] all i = omega arith
address_ascii (x ∷ xs) all zero = let parts = and_parts (is_address_byte x) (list_all is_address_byte xs) all in omega (arith, (address_byte x parts.0).high)
address_ascii (x ∷ xs) all (suc i) = let parts = and_parts (is_address_byte x) (list_all is_address_byte xs) all in address_ascii xs parts.1 i

-- ---- hosts

address_parts : (host : List ℕ) → is_address host ≡ true → (0 < length host) × (list_all is_address_byte host ≡ true)
address_parts host is =
    let p = and_parts (not (length host == 0)) (list_all is_address_byte host) is in
    (omega (arith, eqb-false (length host) 0 (not-true (length host == 0) p.0)), p.1)

host_some : (host : List ℕ) → IsHost host → 0 < length host
host_some host (inl name) = name.some
host_some host (inr address) = (address_parts host address).0

-- a host has no byte of a kind of which neither a name nor an address has one
host_none : (test : ℕ → Bool) (host : List ℕ) → IsHost host → (IsName host → list_any test host ≡ false) → ((b : ℕ) → InAddress b → test b ≡ false) → list_any test host ≡ false
host_none test host (inl name) named fails = named name
host_none test host (inr address) named fails = address_none test fails host (address_parts host address).1

host_clean : (host : List ℕ) → IsHost host → has_bad_byte host ≡ false
host_clean host (inl name) = name.clean
host_clean host (inr address) =
    let all = (address_parts host address).1 in
    clean_ascii host (address_ascii host all) (address_none is_bad (λ b in_address. fine b in_address.low in_address.high) host all)
  where
    fine : (b : ℕ) → 46 ≤ b → b < 103 → is_bad b ≡ false
    fine b low high = or_from _ (b == 127) (le-ltb b 33 (omega arith)) (ne_eqb b 127 (λ e. omega arith))

host_first : (host : List ℕ) → IsHost host → (slice_index host 0 == BRACKET_BEGIN) ≡ false
host_first host (inl name) = name.plain
host_first [] (inr address) = absurd (cc address)
host_first (b ∷ host) (inr address) = ne_eqb b BRACKET_BEGIN (address_byte b (and_parts (is_address_byte b) (list_all is_address_byte host) (address_parts (b ∷ host) address).1).0).open_bracket

host_no_end : (host : List ℕ) → IsHost host → list_any ends_host host ≡ false
host_no_end host is = host_none ends_host host is (λ name. name.no_end)
    (λ b inside. or_from _ (b == HASH) (or_from (b == SLASH) (b == QUESTION_MARK) (ne_eqb b SLASH inside.slash) (ne_eqb b QUESTION_MARK inside.question)) (ne_eqb b HASH (λ e. omega (arith, inside.low))))

host_no_user : (host : List ℕ) → IsHost host → list_any (λ b. b == AT) host ≡ false
host_no_user host is = host_none (λ b. b == AT) host is (λ name. name.no_user) (λ b inside. ne_eqb b AT inside.at)

-- ---- ports

abbrev AreDigits : List ℕ → Type 0
AreDigits ds = all_digits ds ≡ true

are_digits : IsDigitsTest AreDigits
are_digits = record {
  empty = refl;
  parts = λ c cs all. let p = and_parts (is_digit c) (all_digits cs) all in let q = and_parts (nat_le 48 c) (nat_le c 57) p.0 in ((leb-true 48 c q.0, leb-true c 57 q.1), p.1);
  more = λ c cs k all. and_from (is_digit c) (all_digits cs) (and_from (nat_le 48 c) (nat_le c 57) (le-leb 48 c k.0) (le-leb c 57 k.1)) all;
}

numerals : IsNumeralModel AreDigits (with_digits 0)
numerals = numerals_by_fold AreDigits are_digits with_digits record { empty = λ n. refl; more = λ n c cs k. ap (λ m. with_digits m cs) (omega arith) }

digits_none : (test : ℕ → Bool) → ((b : ℕ) → 48 ≤ b → b ≤ 57 → test b ≡ false) → (ds : List ℕ) → AreDigits ds → list_any test ds ≡ false
digits_none test fails [] all = refl
digits_none test fails (d ∷ ds) all = let p = are_digits.parts d ds all in or_from (test d) (list_any test ds) (fails d p.0.0 p.0.1) (digits_none test fails ds p.1)

digits_ascii : (ds : List ℕ) → AreDigits ds → IsAscii ds
digits_ascii [] all i = omega arith
digits_ascii (d ∷ ds) all zero = omega (arith, (are_digits.parts d ds all).0)
digits_ascii (d ∷ ds) all (suc i) = digits_ascii ds (are_digits.parts d ds all).1 i

-- a port's digits stand for the port
port_back : (n : ℕ) → 0 < n → n ≤ 65535 → port (decimal n) ≡ Some n
unfolding port decimal_of
port_back n some within =
    let all : all_digits (decimal n) ≡ true = digits_decimal numerals n (omega arith) in
    let value : with_digits 0 (decimal n) ≡ n = digits_value-decimal numerals n (omega arith) in
    let filled : (length (decimal n) == 0) ≡ false = ne_eqb (length (decimal n)) 0 (λ e. omega (arith, decimal_nonempty n (omega arith))) in
    let fits : nat_le n 65535 ≡ true = le-leb n 65535 within in
    let nonzero : (n == 0) ≡ false = ne_eqb n 0 (λ e. omega arith) in
    rw (value, filled, all, fits, nonzero) refl

port_within : (bs : List ℕ) (n : ℕ) → port bs ≡ Some n → (0 < n) × (n ≤ 65535)
unfolding port decimal_of
port_within bs n is = by (not (length bs == 0) && (all_digits bs && nat_le (with_digits 0 bs) 65535)) refl is
  where
    within : nat_le (with_digits 0 bs) 65535 ≡ true → (b : Bool) → (with_digits 0 bs == 0) ≡ b → (if b then None else Some (with_digits 0 bs)) ≡ Some n → (0 < n) × (n ≤ 65535)
    within fits true none is = absurd (cc is)
    within fits false some is =
        let e : with_digits 0 bs ≡ n = cc is in
        let most = leb-true (with_digits 0 bs) 65535 fits in
        (omega (arith, e, eqb-false (with_digits 0 bs) 0 some), omega (arith, e, most))

    by : (b : Bool) → (not (length bs == 0) && (all_digits bs && nat_le (with_digits 0 bs) 65535)) ≡ b →
        option_and_then (λ m. if m == 0 then None else Some m) (if b then Some (with_digits 0 bs) else None) ≡ Some n → (0 < n) × (n ≤ 65535)
    by false read is = absurd (cc is)
    by true read is = within (and_parts (all_digits bs) _ (and_parts (not (length bs == 0)) _ read).1).1 (with_digits 0 bs == 0) refl is

shown_port-other : (n : ℕ) → (n == DEFAULT_PORT) ≡ false → shown_port n ≡ COLON ∷ decimal n
shown_port-other n other = rw other refl

shown_port-default : (n : ℕ) → (n == DEFAULT_PORT) ≡ true → shown_port n ≡ []
shown_port-default n default = rw default refl

-- a shown port has no byte of a kind that neither a colon nor a digit is
port_none : (test : ℕ → Bool) (n : ℕ) → n ≤ 65535 → test COLON ≡ false → ((b : ℕ) → 48 ≤ b → b ≤ 57 → test b ≡ false) → list_any test (shown_port n) ≡ false
port_none test n within colon fails =
    elim (cases_Bool (n == DEFAULT_PORT)) [
      | inl default ↦ ap (list_any test) (shown_port-default n default)
      | inr other ↦ ap (list_any test) (shown_port-other n other) ∙ or_from (test COLON) (list_any test (decimal n)) colon (digits_none test fails (decimal n) (digits_decimal numerals n (omega arith)))
    ]

port_clean : (n : ℕ) → n ≤ 65535 → has_bad_byte (shown_port n) ≡ false
port_clean n within =
    elim (cases_Bool (n == DEFAULT_PORT)) [
      | inl default ↦ ap has_bad_byte (shown_port-default n default) ∙ clean_ascii [] IsAscii-nil refl
      | inr other ↦ clean_ascii (shown_port n)
          (subst IsAscii (sym (shown_port-other n other)) (IsAscii-cons COLON (decimal n) (omega arith) (digits_ascii (decimal n) (digits_decimal numerals n (omega arith)))))
          (port_none is_bad n within refl (λ b low high. or_from _ (b == 127) (le-ltb b 33 (omega arith)) (ne_eqb b 127 (λ e. omega arith))))
    ]

port_begins : (n : ℕ) → position_or_len (λ b. b == COLON) (shown_port n) ≡ 0
port_begins n =
    elim (cases_Bool (n == DEFAULT_PORT)) [
      | inl default ↦ ap (position_or_len (λ b. b == COLON)) (shown_port-default n default)
      | inr other ↦ ap (position_or_len (λ b. b == COLON)) (shown_port-other n other)
    ]

port_of-shown : (n : ℕ) → 0 < n → n ≤ 65535 → port_of false (shown_port n) ≡ Some n
unfolding port_of
port_of-shown n some within =
    elim (cases_Bool (n == DEFAULT_PORT)) [
      | inl default ↦ ap (port_of false) (shown_port-default n default) ∙ ap (λ m. Some m) (sym (eqb-true n DEFAULT_PORT default))
      | inr other ↦
          let filled = decimal_nonempty n (omega arith) in
          let any : (length (COLON ∷ decimal n) == 0) ≡ false = ne_eqb (length (COLON ∷ decimal n)) 0 (λ e. omega (arith, e)) in
          let long : (length (COLON ∷ decimal n) == 1) ≡ false = ne_eqb (length (COLON ∷ decimal n)) 1 (λ e. omega (arith, filled)) in
          let fits : nat_le (length (COLON ∷ decimal n)) 6 ≡ true = le-leb (length (COLON ∷ decimal n)) 6 (omega (arith, length-decimal-le 5 n (omega arith) (omega arith) (omega arith))) in
          ap (port_of false) (shown_port-other n other) ∙ rw (any, long, fits) (port_back n some within)
    ]

port_of-within : (needed : Bool) (behind : List ℕ) (n : ℕ) → port_of needed behind ≡ Some n → (0 < n) × (n ≤ 65535)
unfolding port_of
port_of-within needed behind n is = by (lacks_port behind) needed (slice_index behind 0 == COLON && nat_le (length behind) 6) is
  where
    by : (a b c : Bool) → (if a then (if b then None else Some DEFAULT_PORT) else (if c then port (drop 1 behind) else None)) ≡ Some n → (0 < n) × (n ≤ 65535)
    by true true c is = absurd (cc is)
    by true false c is = let e : DEFAULT_PORT ≡ n = cc is in (omega (arith, e), omega (arith, e))
    by false b true is = port_within (drop 1 behind) n is
    by false b false is = absurd (cc is)

-- ---- a printed URL

shown_host-address : (host : List ℕ) → list_any (λ b. b == COLON) host ≡ true → shown_host host ≡ BRACKET_BEGIN ∷ host ++ BRACKET_END ∷ []
shown_host-address host colon = rw colon refl

shown_host-name : (host : List ℕ) → list_any (λ b. b == COLON) host ≡ false → shown_host host ≡ host
shown_host-name host none = rw none refl

shown_host_none : (test : ℕ → Bool) (host : List ℕ) → list_any test host ≡ false → test BRACKET_BEGIN ≡ false → test BRACKET_END ≡ false → list_any test (shown_host host) ≡ false
shown_host_none test host none first last =
    elim (cases_Bool (list_any (λ b. b == COLON) host)) [
      | inl colon ↦ ap (list_any test) (shown_host-address host colon)
          ∙ or_from (test BRACKET_BEGIN) (list_any test (host ++ BRACKET_END ∷ [])) first (any_join test host (BRACKET_END ∷ []) none (or_from (test BRACKET_END) false last refl))
      | inr plain ↦ ap (list_any test) (shown_host-name host plain) ∙ none
    ]

clean_byte : (b : ℕ) → b < 127 → 33 ≤ b → has_bad_byte (b ∷ []) ≡ false
clean_byte b high low =
    clean_ascii (b ∷ []) (IsAscii-cons b [] (omega arith) IsAscii-nil) (or_from (is_bad b) false (or_from _ (b == 127) (le-ltb b 33 low) (ne_eqb b 127 (λ e. omega arith))) refl)

shown_host_clean : (host : List ℕ) → has_bad_byte host ≡ false → has_bad_byte (shown_host host) ≡ false
shown_host_clean host clean =
    elim (cases_Bool (list_any (λ b. b == COLON) host)) [
      | inl colon ↦ ap has_bad_byte (shown_host-address host colon)
          ∙ clean_join (BRACKET_BEGIN ∷ []) (host ++ BRACKET_END ∷ []) (clean_byte BRACKET_BEGIN (omega arith) (omega arith)) (clean_join host (BRACKET_END ∷ []) clean (clean_byte BRACKET_END (omega arith) (omega arith)))
      | inr plain ↦ ap has_bad_byte (shown_host-name host plain) ∙ clean
    ]

in_brackets : (host behind : List ℕ) → is_address host ≡ true → bracketed_host (host ++ BRACKET_END ∷ behind) ≡ Some (host, behind)
in_brackets host behind address =
    let none : list_any (λ b. b == BRACKET_END) host ≡ false = address_none (λ b. b == BRACKET_END) (λ b inside. ne_eqb b BRACKET_END inside.closed_bracket) host (address_parts host address).1 in
    let before : before_first (λ b. b == BRACKET_END) (host ++ BRACKET_END ∷ behind) ≡ host = before_seam (λ b. b == BRACKET_END) host (BRACKET_END ∷ behind) none refl in
    let after : after_first (λ b. b == BRACKET_END) (host ++ BRACKET_END ∷ behind) ≡ behind = after_seam (λ b. b == BRACKET_END) host BRACKET_END behind none refl in
    let some : list_any (λ b. b == BRACKET_END) (host ++ BRACKET_END ∷ behind) ≡ true = list_any-append (λ b. b == BRACKET_END) host (BRACKET_END ∷ behind) ∙ or_right (list_any (λ b. b == BRACKET_END) host) true refl in
    let good : is_address (before_first (λ b. b == BRACKET_END) (host ++ BRACKET_END ∷ behind)) ≡ true = ap is_address before ∙ address in
    rw (some, good) (ap (λ l. Some (l, after_first (λ b. b == BRACKET_END) (host ++ BRACKET_END ∷ behind))) before ∙ ap (λ l. Some (host, l)) after)

bare : (host behind : List ℕ) → IsHost host → list_any (λ b. b == COLON) host ≡ false → position_or_len (λ b. b == COLON) behind ≡ 0 → host_of (host ++ behind) ≡ Some (host, behind)
bare host behind is none begins =
    let some = host_some host is in
    host_named (host ++ behind) (ap (λ b. b == BRACKET_BEGIN) (get_or_append_left host behind 0 0 some) ∙ host_first host is)
    ∙ named_some (host ++ behind) host behind (length host) (sym (ap length (before_seam (λ b. b == COLON) host behind none begins))) (λ e. omega (arith, e, some)) (sym (take-append_seam host behind))
    (sym (drop-append_seam host behind))

-- a host with a colon is an address
address_of : (host : List ℕ) → IsHost host → list_any (λ b. b == COLON) host ≡ true → is_address host ≡ true
address_of host (inl name) colon = absurd (true≢false (sym colon ∙ name.no_colon))
address_of host (inr address) colon = address

host_of-shown : (host behind : List ℕ) → IsHost host → position_or_len (λ b. b == COLON) behind ≡ 0 → host_of (shown_host host ++ behind) ≡ Some (host, behind)
host_of-shown host behind is begins =
    elim (cases_Bool (list_any (λ b. b == COLON) host)) [
      | inl colon ↦ ap (λ l. host_of (l ++ behind)) (shown_host-address host colon)
          ∙ host_bracketed (BRACKET_BEGIN ∷ (host ++ BRACKET_END ∷ []) ++ behind) refl
          ∙ ap bracketed_host (append_assoc host (BRACKET_END ∷ []) behind)
          ∙ in_brackets host behind (address_of host is colon)
      | inr none ↦ ap (λ l. host_of (l ++ behind)) (shown_host-name host none) ∙ bare host behind is none begins
    ]

part_of-shown : (url : Url) → IsUrl url → url_of_part false (shown_host url.host ++ shown_port url.port) url.path ≡ Ok url
part_of-shown url is =
    let no_user : list_any (λ b. b == AT) (shown_host url.host ++ shown_port url.port) ≡ false =
    any_join (λ b. b == AT) (shown_host url.host) (shown_port url.port) (shown_host_none (λ b. b == AT) url.host (host_no_user url.host is.host) refl refl)
    (port_none (λ b. b == AT) url.port is.port_within refl (λ b low high. ne_eqb b AT (λ e. omega arith))) in
    ap (λ t. if t then Err HasUser else with_host false (host_of (shown_host url.host ++ shown_port url.port)) url.path) no_user
    ∙ ap (λ o. with_host false o url.path) (host_of-shown url.host (shown_port url.port) is.host (port_begins url.port))
    ∙ ap (λ o. with_port url.host o url.path) (port_of-shown url.port is.port_some is.port_within)

http_ascii : IsAscii (codes "http://")
http_ascii = IsAscii-cons 104 (116 ∷ 116 ∷ 112 ∷ 58 ∷ 47 ∷ 47 ∷ []) (omega arith) (IsAscii-cons 116 (116 ∷ 112 ∷ 58 ∷ 47 ∷ 47 ∷ []) (omega arith) (IsAscii-cons 116 (112 ∷ 58 ∷ 47 ∷ 47 ∷ []) (omega arith) (IsAscii-cons 112 (58 ∷ 47 ∷ 47 ∷ []) (omega arith) (IsAscii-cons 58 (47 ∷ 47 ∷ []) (omega arith) (IsAscii-cons 47 (47 ∷ []) (omega arith) (IsAscii-cons 47 [] (omega arith) IsAscii-nil))))))

http_clean : has_bad_byte (codes "http://") ≡ false
http_clean = clean_ascii (codes "http://") http_ascii refl

rooted_first : (path : List ℕ) → (slice_index path 0 == SLASH) ≡ true → position_or_len ends_host path ≡ 0
rooted_first [] rooted = refl
rooted_first (b ∷ path) rooted = subst (λ x. position_or_len ends_host (x ∷ path) ≡ 0) (sym (eqb-true b SLASH rooted)) refl

path_of-rooted : (path : List ℕ) → (slice_index path 0 == SLASH) ≡ true → path_of path ≡ path
path_of-rooted path rooted = rw rooted refl

pub read_back : (url : Url) → IsUrl url → url_of (shown_url url) ≡ Ok url
unfolding shown_url
read_back url is =
    let part : List ℕ = shown_host url.host ++ shown_port url.port in
    let text_is : shown_url url ≡ codes "http://" ++ (part ++ url.path) = ap (λ l. l ++ url.path) (append_assoc (codes "http://") (shown_host url.host) (shown_port url.port)) ∙ append_assoc (codes "http://") part url.path in
    let none : list_any ends_host part ≡ false =
    any_join ends_host (shown_host url.host) (shown_port url.port) (shown_host_none ends_host url.host (host_no_end url.host is.host) refl refl)
    (port_none ends_host url.port is.port_within refl
    (λ b low high. or_from _ (b == HASH) (or_from (b == SLASH) (b == QUESTION_MARK) (ne_eqb b SLASH (λ e. omega arith)) (ne_eqb b QUESTION_MARK (λ e. omega arith))) (ne_eqb b HASH (λ e. omega arith)))) in
    let clean : has_bad_byte (codes "http://" ++ (part ++ url.path)) ≡ false =
    clean_join (codes "http://") (part ++ url.path) http_clean
    (clean_join part url.path (clean_join (shown_host url.host) (shown_port url.port) (shown_host_clean url.host (host_clean url.host is.host)) (port_clean url.port is.port_within)) is.clean) in
    ap url_of text_is
    ∙ sym (url_whole (codes "http://" ++ (part ++ url.path)) (part ++ url.path) part url.path (length part) clean refl refl (sym (ap length (before_seam ends_host part url.path none (rooted_first url.path is.rooted))))
    (sym (take-append_seam part url.path)) (sym (drop-append_seam part url.path)))
    ∙ ap (url_of_part false part) (path_of-rooted url.path is.rooted)
    ∙ part_of-shown url is

-- ---- a URL that was read

abbrev read_as : Url → Result Url UrlFault
read_as url = Ok url

ok_same : (read url : Url) → read_as read ≡ read_as url → read ≡ url
ok_same read url e = ap read_or e
  where
    read_or : Result Url UrlFault → Url
    read_or (Ok u) = u
    read_or (Err fault) = read

abbrev cut_into : List ℕ → List ℕ → Option (List ℕ × List ℕ)
cut_into front back = Some (front, back)

same_front : (a b c d : List ℕ) → cut_into a b ≡ cut_into c d → a ≡ c
same_front a b c d e = ap front_of e
  where
    front_of : Option (List ℕ × List ℕ) → List ℕ
    front_of None = a
    front_of (Some p) = p.0

bracket_is : (text host behind : List ℕ) → bracketed_host text ≡ Some (host, behind) → is_address host ≡ true
bracket_is text host behind is = by (list_any (λ b. b == BRACKET_END) text && is_address (before_first (λ b. b == BRACKET_END) text)) refl is
  where
    by : (b : Bool) → (list_any (λ b. b == BRACKET_END) text && is_address (before_first (λ b. b == BRACKET_END) text)) ≡ b →
        (if b then cut_into (before_first (λ b. b == BRACKET_END) text) (after_first (λ b. b == BRACKET_END) text) else None) ≡ Some (host, behind) → is_address host ≡ true
    by true found is = subst (λ l. is_address l ≡ true) (same_front _ _ host behind is) (and_parts (list_any (λ b. b == BRACKET_END) text) _ found).1
    by false found is = absurd (cc is)

name_is : (part host behind : List ℕ) → has_bad_byte part ≡ false → list_any (λ b. b == AT) part ≡ false → list_any ends_host part ≡ false → (slice_index part 0 == BRACKET_BEGIN) ≡ false → named_host part ≡ Some (host, behind) →
    IsName host
name_is part host behind clean no_user no_end plain is = by (length (before_first (λ b. b == COLON) part) == 0) refl is
  where
    by : (b : Bool) → (length (before_first (λ b. b == COLON) part) == 0) ≡ b →
        (if b then None else cut_into (before_first (λ b. b == COLON) part) (drop (length (before_first (λ b. b == COLON) part)) part)) ≡ Some (host, behind) → IsName host
    by true empty is = absurd (cc is)
    by false filled is =
        let some : 0 < length (before_first (λ b. b == COLON) part) = omega (arith, eqb-false (length (before_first (λ b. b == COLON) part)) 0 filled) in
        let at : 0 < position_or_len (λ b. b == COLON) part = omega (arith, some, length-before_first (λ b. b == COLON) part) in
        subst IsName (same_front _ _ host behind is)
        record {
          some = some;
          plain = ap (λ b. b == BRACKET_BEGIN) (get_or-take (position_or_len (λ b. b == COLON) part) part 0 0 at) ∙ plain;
          no_colon = none_before (λ b. b == COLON) part;
          no_user = (any_cut (λ b. b == AT) part (position_or_len (λ b. b == COLON) part) no_user).0;
          no_end = (any_cut ends_host part (position_or_len (λ b. b == COLON) part) no_end).0;
          clean = clean_before (λ b. b == COLON) part (λ b is. omega (arith, eqb-true b COLON is)) clean;
        }

host_is : (part host behind : List ℕ) → has_bad_byte part ≡ false → list_any (λ b. b == AT) part ≡ false → list_any ends_host part ≡ false → host_of part ≡ Some (host, behind) → IsHost host
unfolding host_of
host_is part host behind clean no_user no_end is = by (slice_index part 0 == BRACKET_BEGIN) refl is
  where
    by : (b : Bool) → (slice_index part 0 == BRACKET_BEGIN) ≡ b → (if b then bracketed_host (drop 1 part) else named_host part) ≡ Some (host, behind) → IsHost host
    by true bracket is = inr (bracket_is (drop 1 part) host behind is)
    by false plain is = inl (name_is part host behind clean no_user no_end plain is)

url_of_part-is : (needed : Bool) (part path : List ℕ) (url : Url) → has_bad_byte part ≡ false → list_any ends_host part ≡ false → has_bad_byte path ≡ false → (slice_index path 0 == SLASH) ≡ true → url_of_part needed part path ≡ Ok url → IsUrl url
url_of_part-is needed part path url clean no_end clean_path rooted is = by_user (list_any (λ b. b == AT) part) refl is
  where
    by_port : (host : List ℕ) → IsHost host → (p : Option ℕ) → ((n : ℕ) → p ≡ Some n → (0 < n) × (n ≤ 65535)) → with_port host p path ≡ Ok url → IsUrl url
    by_port host is_host None within is = absurd (cc is)
    by_port host is_host (Some n) within is =
        subst IsUrl (ok_same _ url is) record { host = is_host; port_some = (within n refl).0; port_within = (within n refl).1; rooted = rooted; clean = clean_path }

    by_host : (o : Option (List ℕ × List ℕ)) → ((host behind : List ℕ) → o ≡ Some (host, behind) → IsHost host) → with_host needed o path ≡ Ok url → IsUrl url
    by_host None hosts is = absurd (cc is)
    by_host (Some (host, behind)) hosts is = by_port host (hosts host behind refl) (port_of needed behind) (port_of-within needed behind) is

    by_user : (b : Bool) → list_any (λ b. b == AT) part ≡ b → (if b then Err HasUser else with_host needed (host_of part) path) ≡ Ok url → IsUrl url
    by_user true user is = absurd (cc is)
    by_user false no_user is = by_host (host_of part) (λ host behind. host_is part host behind clean no_user no_end) is

path_clean : (rest : List ℕ) → has_bad_byte rest ≡ false → has_bad_byte (path_of rest) ≡ false
path_clean rest clean =
    elim (cases_Bool (slice_index rest 0 == SLASH)) [
      | inl rooted ↦ rw rooted clean
      | inr other ↦ rw other (clean_join (SLASH ∷ []) rest (clean_byte SLASH (omega arith) (omega arith)) clean)
    ]

path_rooted : (rest : List ℕ) → (slice_index (path_of rest) 0 == SLASH) ≡ true
path_rooted rest = elim (cases_Bool (slice_index rest 0 == SLASH)) [ inl rooted ↦ rw rooted rooted | inr other ↦ rw other refl ]

-- a text that is ASCII without its capitals is ASCII
ascii_lower : (xs : List ℕ) → IsAscii (map to_ascii_lowercase xs) → IsAscii xs
ascii_lower [] ascii i = omega arith
ascii_lower (x ∷ xs) ascii zero = elim (cases_lt x 128) [ inl low ↦ low | inr high ↦ omega (arith, (lowercase_is x).2 (omega arith), ascii 0) ]
ascii_lower (x ∷ xs) ascii (suc i) = ascii_lower xs (λ k. ascii (suc k)) i

behind_http : (text : List ℕ) → has_bad_byte text ≡ false → begins_without_case text (codes "http://") ≡ true → has_bad_byte (drop 7 text) ≡ false
behind_http text clean begins =
    let same : map to_ascii_lowercase (take 7 text) ≡ codes "http://" = (bytes_eq-Decides (map to_ascii_lowercase (take 7 text)) (codes "http://")).0 begins in
    let ascii : IsAscii (take 7 text) = ascii_lower (take 7 text) (subst IsAscii (sym same) http_ascii) in
    let seven : length (take 7 text) ≡ 7 = sym (length-map (take 7 text) to_ascii_lowercase) ∙ ap length same in
    let long : 7 ≤ length text = omega (arith, seven, length-take 7 text) in
    (clean_cut text 7 (IsCharBoundary-from_take text 7 (IsUtf8-from_is_utf8 text (clean_parts text clean).0) long (IsUtf8-from_ascii (take 7 text) ascii)) clean).1

pub url_of-is : (text : List ℕ) (url : Url) → url_of text ≡ Ok url → IsUrl url
unfolding url_of
url_of-is text url is = by_bad (has_bad_byte text) refl is
  where
    by_front : has_bad_byte text ≡ false → (b : Bool) → begins_without_case text (codes "http://") ≡ b →
        (if not b then Err NotHttp else url_of_part false (host_part (drop 7 text)) (path_of (behind_host_part (drop 7 text)))) ≡ Ok url → IsUrl url
    by_front clean false other is = absurd (cc is)
    by_front clean true begins is =
        let rest = behind_http text clean begins in
        url_of_part-is false (host_part (drop 7 text)) (path_of (behind_host_part (drop 7 text))) url (clean_before ends_host (drop 7 text) ends_host_ascii rest) (none_before ends_host (drop 7 text))
        (path_clean (behind_host_part (drop 7 text)) (clean_behind ends_host (drop 7 text) ends_host_ascii rest)) (path_rooted (behind_host_part (drop 7 text))) is

    by_bad : (b : Bool) → has_bad_byte text ≡ b →
        (if b then Err BadByte else if not (begins_without_case text (codes "http://")) then Err NotHttp else url_of_part false (host_part (drop 7 text)) (path_of (behind_host_part (drop 7 text)))) ≡ Ok url → IsUrl url
    by_bad true bad is = absurd (cc is)
    by_bad false clean is = by_front clean (begins_without_case text (codes "http://")) refl is

nothing_behind : (behind : List ℕ) (url : Url) (meaning : Result Url UrlFault) → with_nothing_behind behind meaning ≡ Ok url → meaning ≡ Ok url
nothing_behind behind url (Err fault) is = absurd (cc is)
nothing_behind behind url (Ok read) is = by (length behind == 0) is
  where
    by : (b : Bool) → (if b then read_as read else Err BadPort) ≡ Ok url → read_as read ≡ Ok url
    by true is = is
    by false is = absurd (cc is)

pub authority_of-is : (text : List ℕ) (url : Url) → authority_of text ≡ Ok url → IsUrl url
unfolding authority_of
authority_of-is text url is = by (has_bad_byte text) refl is
  where
    by : (b : Bool) → has_bad_byte text ≡ b → (if b then Err BadByte else with_nothing_behind (behind_host_part text) (url_of_part true (host_part text) (codes "/"))) ≡ Ok url → IsUrl url
    by true bad is = absurd (cc is)
    by false clean is =
        url_of_part-is true (host_part text) (codes "/") url (clean_before ends_host text ends_host_ascii clean) (none_before ends_host text) (clean_byte 47 (omega arith) (omega arith)) refl
        (nothing_behind (behind_host_part text) url (url_of_part true (host_part text) (codes "/")) is)
