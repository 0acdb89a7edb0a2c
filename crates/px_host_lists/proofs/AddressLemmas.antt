-- An address is no host.
use Rattle.std.proofs.Common.{◌≡◌, ℕ, Bool, true, false, cond, List, [], ◌∷◌, length, refl, ap, sym, ◌∙◌, arith, true≢false}
use Rattle.std.specs.Prelude.{◌==◌, ◌&&◌, ◌||◌, not, nat_le, nat_lt, count_by, is_some, Some, None}
use Rattle.std.specs.Char.{is_ascii_digit}
use Rattle.std.specs.List.{list_all, list_any, onto_first, slice_split}
use Rattle.std.proofs.lemmas.Bool.{eqb-true, ltb-false}
use Rattle.std.proofs.lemmas.List.Splits.{slice_split-cons_no, slice_split-cons_yes}
use Rattle.std.proofs.lemmas.List.Sums.{sum_by-cons}
use Rattle.px_base.specs.Numbers.{all_digits, decimal, is_digit, with_digits}
use Rattle.px_host_lists.specs.Addresses.{is_colon_hex, is_colon_hex_byte, is_dotted, is_ip_address, is_octet}
use Rattle.px_host_lists.specs.Names.{is_host, is_host_label, is_label_byte, is_numeric}
use Rattle.px_host_lists.specs.declared.TheConstants.{COLON, DOT, HOST_LENGTH, LABEL_LENGTH}

and-left : (a b : Bool) → (a && b) ≡ true → a ≡ true
and-left true b e = refl
and-left false b e = e

and-right : (a b : Bool) → (a && b) ≡ true → b ≡ true
and-right true b e = e
and-right false b e = absurd (true≢false (sym e))

both : (a b : Bool) → a ≡ true → b ≡ true → (a && b) ≡ true
both true b one other = other
both false b one other = one

or-left : (a b : Bool) → a ≡ true → (a || b) ≡ true
or-left true b e = refl
or-left false b e = absurd (true≢false (sym e))

or-right : (a b : Bool) → b ≡ true → (a || b) ≡ true
or-right true b e = refl
or-right false b e = e

-- each part of a list passes a test
abbrev pub parts_pass : (ℕ → Bool) → List (List ℕ) → Bool
parts_pass q parts = list_all (λ part. list_all q part) parts

onto : (q : ℕ → Bool) (b : ℕ) (parts : List (List ℕ)) → parts_pass q (onto_first b parts) ≡ true → (q b ≡ true) × (parts_pass q parts ≡ true)
onto q b [] e = (and-left (q b) true (and-left (q b && true) true e), refl)
onto q b (part ∷ more) e =
    let first : (q b && list_all q part) ≡ true = and-left (q b && list_all q part) (parts_pass q more) e in (
      and-left (q b) (list_all q part) first,
      both (list_all q part) (parts_pass q more) (and-right (q b) (list_all q part) first) (and-right (q b && list_all q part) (parts_pass q more) e),
    )

passes_by : (p q : ℕ → Bool) (b : ℕ) (bytes : List ℕ) (s : Bool) → p b ≡ s → (parts_pass q (slice_split p bytes) ≡ true → list_all (λ x. q x || p x) bytes ≡ true) →
    parts_pass q (slice_split p (b ∷ bytes)) ≡ true → list_all (λ x. q x || p x) (b ∷ bytes) ≡ true
passes_by p q b bytes true is below e =
    both (q b || p b) (list_all (λ x. q x || p x) bytes) (or-right (q b) (p b) is) (below (ap (parts_pass q) (sym (slice_split-cons_yes p b bytes is)) ∙ e))
passes_by p q b bytes false is below e =
    let found : (q b ≡ true) × (parts_pass q (slice_split p bytes) ≡ true) = onto q b (slice_split p bytes) (ap (parts_pass q) (sym (slice_split-cons_no p b bytes is)) ∙ e) in
    both (q b || p b) (list_all (λ x. q x || p x) bytes) (or-left (q b) (p b) found.0) (below found.1)

-- where all parts between separators pass a test, each byte passes it or is a separator
pub passes : (p q : ℕ → Bool) (bytes : List ℕ) → parts_pass q (slice_split p bytes) ≡ true → list_all (λ x. q x || p x) bytes ≡ true
passes p q [] e = refl
passes p q (b ∷ bytes) e = passes_by p q b bytes (p b) refl (passes p q bytes) e

pub weaker : (test q : List ℕ → Bool) → ((part : List ℕ) → test part ≡ true → q part ≡ true) → (parts : List (List ℕ)) → list_all test parts ≡ true → list_all q parts ≡ true
weaker test q stronger [] e = refl
weaker test q stronger (part ∷ parts) e =
    both (q part) (list_all q parts) (stronger part (and-left (test part) (list_all test parts) e)) (weaker test q stronger parts (and-right (test part) (list_all test parts) e))

-- ---- version 4

digits : (part : List ℕ) → all_digits part ≡ true → list_all is_ascii_digit part ≡ true
digits [] e = refl
digits (b ∷ part) e = both (is_ascii_digit b) (list_all is_ascii_digit part) (and-left (is_digit b) (all_digits part) e) (digits part (and-right (is_digit b) (all_digits part) e))

octet_by : (part : List ℕ) (a b c : Bool) → is_some (cond (a && (b && c)) (Some (with_digits 0 part)) None) ≡ true → b ≡ true
octet_by part true true c e = refl
octet_by part true false c e = absurd (true≢false (sym e))
octet_by part false b c e = absurd (true≢false (sym e))

octet-digits : (part : List ℕ) → is_octet part ≡ true → list_all is_ascii_digit part ≡ true
unfolding decimal
octet-digits part e = digits part (octet_by part (not (length part == 0)) (all_digits part) (nat_le (with_digits 0 part) 255) e)

dotted-numeric : (text : List ℕ) → is_dotted text ≡ true → is_numeric text ≡ true
dotted-numeric text e =
    passes (λ b. b == DOT) is_ascii_digit text
    (weaker is_octet (λ part. list_all is_ascii_digit part) octet-digits (slice_split (λ b. b == DOT) text) (and-right (count_by (λ b. b == DOT) text == 3) (list_all is_octet (slice_split (λ b. b == DOT) text)) e))

-- ---- version 6

label_by : (label : List ℕ) (b : Bool) → cond b false (list_all is_label_byte label) ≡ true → list_all is_label_byte label ≡ true
label_by label true e = absurd (true≢false (sym e))
label_by label false e = e

pub label-bytes : (label : List ℕ) → is_host_label label ≡ true → list_all is_label_byte label ≡ true
label-bytes label e = label_by label (length label == 0 || nat_lt LABEL_LENGTH (length label)) e

no_colon_by : (b : ℕ) (s : Bool) → (b == COLON) ≡ s → (is_label_byte b || b == DOT) ≡ true → cond {A = ℕ} s 1 0 ≡ 0
no_colon_by b true is e = absurd (true≢false (sym (ap (λ x. is_label_byte x || x == DOT) (sym (eqb-true b COLON is)) ∙ e)))
no_colon_by b false is e = refl

no-colons : (bytes : List ℕ) → list_all (λ x. is_label_byte x || x == DOT) bytes ≡ true → count_by (λ b. b == COLON) bytes ≡ 0
no-colons [] e = refl
no-colons (b ∷ bytes) e =
    let here : cond {A = ℕ} (b == COLON) 1 0 ≡ 0 = no_colon_by b (b == COLON) refl (and-left (is_label_byte b || b == DOT) (list_all (λ x. is_label_byte x || x == DOT) bytes) e) in
    let behind : count_by (λ b. b == COLON) bytes ≡ 0 = no-colons bytes (and-right (is_label_byte b || b == DOT) (list_all (λ x. is_label_byte x || x == DOT) bytes) e) in
    omega (arith, sum_by-cons (λ x. cond {A = ℕ} (x == COLON) 1 0) b bytes, here, behind)

few_by : (text : List ℕ) (n : ℕ) (b : Bool) → nat_lt n 2 ≡ b → cond b false (list_all is_colon_hex_byte text) ≡ true → n ≡ 0 → ⊥
few_by text n true is e none = true≢false (sym e)
few_by text n false is e none = omega (arith, ltb-false n 2 is, none)

colons-no_labels_by : (text : List ℕ) (b : Bool) → list_all is_host_label (slice_split (λ x. x == DOT) text) ≡ b → is_colon_hex text ≡ true → b ≡ false
colons-no_labels_by text true is e =
    absurd (few_by text (count_by (λ b. b == COLON) text) (nat_lt (count_by (λ b. b == COLON) text) 2) refl e
    (no-colons text (passes (λ x. x == DOT) is_label_byte text (weaker is_host_label (λ part. list_all is_label_byte part) label-bytes (slice_split (λ x. x == DOT) text) is))))
colons-no_labels_by text false is e = refl

-- ---- both

numeric_none : (a b c : Bool) → b ≡ true → cond a false (cond b false c) ≡ false
numeric_none true b c e = refl
numeric_none false true c e = refl
numeric_none false false c e = absurd (true≢false (sym e))

labels_none : (a b c d : Bool) → d ≡ false → cond a false (cond b false (c && d)) ≡ false
labels_none true b c d e = refl
labels_none false true c d e = refl
labels_none false false true d e = e
labels_none false false false d e = refl

address_by : (text : List ℕ) (b : Bool) → is_dotted text ≡ b → (b || is_colon_hex text) ≡ true → is_host text ≡ false
unfolding is_host
address_by text true is e =
    numeric_none (nat_lt HOST_LENGTH (length text)) (is_numeric text) (list_any (λ x. x == DOT) text && list_all is_host_label (slice_split (λ x. x == DOT) text)) (dotted-numeric text is)
address_by text false is e =
    labels_none (nat_lt HOST_LENGTH (length text)) (is_numeric text) (list_any (λ x. x == DOT) text) (list_all is_host_label (slice_split (λ x. x == DOT) text))
    (colons-no_labels_by text (list_all is_host_label (slice_split (λ x. x == DOT) text)) refl e)

pub address-no_host : (text : List ℕ) → is_ip_address text ≡ true → is_host text ≡ false
unfolding is_ip_address
address-no_host text e = address_by text (is_dotted text) refl e
