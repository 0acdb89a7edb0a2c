-- The dial name of a server that a word names is read back.
use Rattle.std.proofs.Common.{◌≡◌, ℕ, ◌<◌, ◌≤◌, Bool, true, false, not, ◌&&◌, List, [], ◌∷◌, length, drop, refl, ap, sym, ◌∙◌, subst, arith, inl, inr, Option, None, Some}
use Rattle.std.specs.Prelude.{◌==◌, codes, decimal, nat_le, nat_lt, if◌then◌else◌, option_and_then, option_map}
use Rattle.std.specs.List.{after_first, before_first, list_all, position_or_len}
use Rattle.std.specs.Str.{byte, bytes_eq}
use Rattle.std.proofs.lemmas.Bool.{and_from, and_parts, cases_Bool, eqb-false, eqb-true, le-leb, leb-true, ne_eqb}
use Rattle.std.proofs.lemmas.Fmt.{decimal_nonempty, digits_decimal, digits_value-decimal}
use Rattle.std.proofs.lemmas.Slice.Eq.{bytes_eq-Decides}
use Rattle.std.proofs.lemmas.Str.Parse.{IsNumeralModel, IsDigitsTest, numerals_by_fold}
use Rattle.px_base.specs.Numbers.{all_digits, is_digit, with_digits}
use Rattle.px_base.specs.Numbers.{decimal as decimal_of}
use Rattle.px_base.specs.Ports.{port}
use Rattle.px_actions.specs.Hops.{NextHop, direct, parent, hop_by_name, bracketed_hop, host_and_port, is_hop_address_byte, is_closing_bracket, is_colon, is_host_byte, is_made_of, next_hop, parent_hop, hop_port}
use Rattle.px_base.specs.DialNames.{Server, begins_with_byte, is_slash}
use Rattle.px_dial_names.specs.Printed.{HasNone, IsPrintable, IsDialNameOf, printed}
use Rattle.px_decide.specs.Servers.{dial_name, word_lacks_port, named_server, server_by}

-- ---- ports

abbrev AreDigits : List ℕ → Type 0
AreDigits ds = all_digits ds ≡ true

are_digits : IsDigitsTest AreDigits
are_digits = record {
  empty = refl;
  parts = λ c cs all. let p = and_parts (is_digit c) (all_digits cs) all in let q = and_parts (nat_le 48 c) (nat_le c 57) p.0 in ((leb-true 48 c q.0, leb-true c 57 q.1), p.1);
  more = λ c cs k all. and_from (is_digit c) (all_digits cs) (and_from (nat_le 48 c) (nat_le c 57) (le-leb 48 c k.0) (le-leb c 57 k.1)) all;
}

numerals : IsNumeralModel AreDigits (with_digits 0)
numerals = numerals_by_fold AreDigits are_digits with_digits record { empty = λ n. refl; more = λ n c cs k. ap (λ m. with_digits m cs) (omega arith) }

abbrev IsPort : ℕ → Type 0
IsPort n = (0 < n) × (n ≤ 65535)

port_within : (bs : List ℕ) (n : ℕ) → port bs ≡ Some n → IsPort n
unfolding port decimal_of
port_within bs n is = by (not (length bs == 0) && (all_digits bs && nat_le (with_digits 0 bs) 65535)) refl is
  where
    within : nat_le (with_digits 0 bs) 65535 ≡ true → (b : Bool) → (with_digits 0 bs == 0) ≡ b → (if b then None else Some (with_digits 0 bs)) ≡ Some n → IsPort n
    within fits true none is = absurd (cc is)
    within fits false some is =
        let e : with_digits 0 bs ≡ n = cc is in
        let most = leb-true (with_digits 0 bs) 65535 fits in
        (omega (arith, e, eqb-false (with_digits 0 bs) 0 some), omega (arith, e, most))

    by : (b : Bool) → (not (length bs == 0) && (all_digits bs && nat_le (with_digits 0 bs) 65535)) ≡ b →
        option_and_then (λ m. if m == 0 then None else Some m) (if b then Some (with_digits 0 bs) else None) ≡ Some n → IsPort n
    by false read is = absurd (cc is)
    by true read is = within (and_parts (all_digits bs) _ (and_parts (not (length bs == 0)) _ read).1).1 (with_digits 0 bs == 0) refl is

-- a port's digits stand for the port
port_back : (n : ℕ) → IsPort n → port (decimal n) ≡ Some n
unfolding port decimal_of
port_back n is =
    let some = is.0 in
    let within = is.1 in
    let all : all_digits (decimal n) ≡ true = digits_decimal numerals n (omega arith) in
    let value : with_digits 0 (decimal n) ≡ n = digits_value-decimal numerals n (omega arith) in
    let filled : (length (decimal n) == 0) ≡ false = ne_eqb (length (decimal n)) 0 (λ e. omega (arith, decimal_nonempty n (omega arith))) in
    let fits : nat_le n 65535 ≡ true = le-leb n 65535 within in
    let nonzero : (n == 0) ≡ false = ne_eqb n 0 (λ e. omega arith) in
    rw (value, filled, all, fits, nonzero) refl

port_behind-within : (behind : List ℕ) (p : ℕ) → hop_port behind ≡ Some p → IsPort p
port_behind-within [] p is = let e : 8000 ≡ p = cc is in (omega (arith, e), omega (arith, e))
port_behind-within (b ∷ rest) p is = by (b == byte ":") is
  where
    by : (c : Bool) → (if c then port rest else None) ≡ Some p → IsPort p
    by true is = port_within rest p is
    by false is = absurd (cc is)

-- ---- bytes of hosts

not_byte : (p : ℕ → Bool) (c : ℕ) → p c ≡ false → (b : ℕ) → p b ≡ true → (b == c) ≡ false
not_byte p c lacks b is =
    elim (cases_Bool (b == c)) [
      | inl e ↦ absurd (cc (sym is ∙ ap p (eqb-true b c e) ∙ lacks))
      | inr e ↦ e
    ]

none_of : (p : ℕ → Bool) (c : ℕ) → p c ≡ false → (bs : List ℕ) → list_all p bs ≡ true → HasNone (λ b. b == c) bs
none_of p c lacks [] all = tt
none_of p c lacks (b ∷ bs) all = let q = and_parts (p b) (list_all p bs) all in (not_byte p c lacks b q.0, none_of p c lacks bs q.1)

digits_none : (ds : List ℕ) → all_digits ds ≡ true → HasNone is_slash ds
digits_none [] all = tt
digits_none (d ∷ ds) all = let q = and_parts (is_digit d) (all_digits ds) all in (not_byte is_digit (byte "/") refl d q.0, digits_none ds q.1)

unopened : (host : List ℕ) → HasNone (λ b. b == byte "[") host → begins_with_byte (byte "[") host ≡ false
unopened [] none = refl
unopened (b ∷ bs) none = none.0

-- what a host is like that stands in a dial name
record IsClean (host : List ℕ) : Type 0 where
  no_slash : HasNone is_slash host
  no_bracket : HasNone (λ b. b == byte "]") host
  not_opened : begins_with_byte (byte "[") host ≡ false

clean : (p : ℕ → Bool) (host : List ℕ) → p (byte "/") ≡ false → p (byte "]") ≡ false → p (byte "[") ≡ false → list_all p host ≡ true → IsClean host
clean p host slash bracket opening all = record {
  no_slash = none_of p (byte "/") slash host all;
  no_bracket = none_of p (byte "]") bracket host all;
  not_opened = unopened host (none_of p (byte "[") opening host all);
}

named_clean : (host : List ℕ) → list_all is_host_byte host ≡ true → IsClean host
unfolding is_host_byte
named_clean host all = clean is_host_byte host refl refl refl all

address_clean : (host : List ℕ) → list_all is_hop_address_byte host ≡ true → IsClean host
unfolding is_hop_address_byte
address_clean host all = clean is_hop_address_byte host refl refl refl all

-- ---- words

-- what is known of a next hop that a word names
abbrev IsGood : List ℕ → NextHop → Type 0
IsGood word direct = word ≡ codes "."
IsGood word (parent host p) = IsClean host × IsPort p

parent_good : (word : List ℕ) (p : ℕ → Bool) (host behind : List ℕ) (hop : NextHop) → ((bs : List ℕ) → list_all p bs ≡ true → IsClean bs) →
    parent_hop p host behind ≡ Some hop → IsGood word hop
parent_good word p host behind hop cleans is = by (is_made_of p host) refl (hop_port behind) refl is
  where
    by : (b : Bool) → is_made_of p host ≡ b → (o : Option ℕ) → hop_port behind ≡ o → (if b then option_map (λ q. parent host q) o else None) ≡ Some hop → IsGood word hop
    by false made o behind_is is = absurd (cc is)
    by true made None behind_is is = absurd (cc is)
    by true made (Some q) behind_is is =
        let e : parent host q ≡ hop = cc is in
        subst (IsGood word) e (cleans host (and_parts (not (length host == 0)) (list_all p host) made).1, port_behind-within behind q behind_is)

bracketed_good : (word text : List ℕ) (hop : NextHop) → bracketed_hop text ≡ Some hop → IsGood word hop
bracketed_good word text hop is = by (nat_lt (position_or_len is_closing_bracket text) (length text)) is
  where
    by : (b : Bool) → (if b then parent_hop is_hop_address_byte (before_first is_closing_bracket text) (after_first is_closing_bracket text) else None) ≡ Some hop → IsGood word hop
    by false is = absurd (cc is)
    by true is = parent_good word is_hop_address_byte (before_first is_closing_bracket text) (after_first is_closing_bracket text) hop address_clean is

authority_good : (word text : List ℕ) (hop : NextHop) → host_and_port text ≡ Some hop → IsGood word hop
authority_good word [] hop is = absurd (cc is)
authority_good word (b ∷ rest) hop is = by (b == byte "[") is
  where
    by : (c : Bool) → (if c then bracketed_hop rest else hop_by_name (b ∷ rest)) ≡ Some hop → IsGood word hop
    by true is = bracketed_good word rest hop is
    by false is = parent_good word is_host_byte (before_first is_colon (b ∷ rest)) (drop (position_or_len is_colon (b ∷ rest)) (b ∷ rest)) hop named_clean is

hop_good : (word : List ℕ) (hop : NextHop) → next_hop word ≡ Some hop → IsGood word hop
unfolding next_hop
hop_good word hop is = by (bytes_eq word (codes ".")) refl is
  where
    by : (b : Bool) → bytes_eq word (codes ".") ≡ b → (if b then Some direct else host_and_port word) ≡ Some hop → IsGood word hop
    by true dot is = let e : direct ≡ hop = cc is in subst (IsGood word) e ((bytes_eq-Decides word (codes ".")).0 dot)
    by false dot is = authority_good word word hop is

-- ---- servers

record IsGoodServer (s : Server) : Type 0 where
  host : IsClean s.host
  port : IsPort s.port

dot_clean : (word : List ℕ) → word ≡ codes "." → IsClean word
dot_clean word is = subst IsClean (sym is) record { no_slash = (refl, tt); no_bracket = (refl, tt); not_opened = refl }

server_good : (word : List ℕ) (hop : NextHop) → IsGood word hop → IsGoodServer (server_by word hop)
server_good word direct is = record { host = dot_clean word is; port = (omega arith, omega arith) }
server_good word (parent host p) is = record { host = is.0; port = by (word_lacks_port word host) }
  where
    by : (b : Bool) → IsPort (if b then 1080 else p)
    by true = (omega arith, omega arith)
    by false = is.1

named_good : (word : List ℕ) (s : Server) → named_server word ≡ Some s → IsGoodServer s
unfolding named_server
named_good word s is = by (next_hop word) refl is
  where
    by : (o : Option NextHop) → next_hop word ≡ o → option_map (server_by word) o ≡ Some s → IsGoodServer s
    by None hop_is is = absurd (cc is)
    by (Some hop) hop_is is = let e : server_by word hop ≡ s = cc is in subst IsGoodServer e (server_good word hop (hop_good word hop hop_is))

pub is_read : ((host digits target : List ℕ) (p : ℕ) → IsPrintable host digits → port digits ≡ Some p → IsDialNameOf (printed host digits target) host p target) →
    (word target : List ℕ) (s : Server) → named_server word ≡ Some s → IsDialNameOf (dial_name s target) s.host s.port target
is_read law word target s is =
    let good = named_good word s is in
    let fits = good.port.1 in
    law s.host (decimal s.port) target s.port
    record {
      no_slash = good.host.no_slash;
      no_bracket = good.host.no_bracket;
      not_opened = good.host.not_opened;
      digits_no_slash = digits_none (decimal s.port) (digits_decimal numerals s.port (omega arith));
    }
    (port_back s.port good.port)
