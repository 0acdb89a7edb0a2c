-- A head of the grammar is a block.
use Rattle.std.proofs.Common.{◌≡◌, ℕ, zero, suc, ◌≤◌, Bool, true, false, ◌==◌, not, List, [], ◌∷◌, ◌++◌, map, refl, sym, ap, ◌∙◌, arith, append_assoc, eqb-true, IsTrue, All, Option, Some, None, flat_map}
use Rattle.std.specs.List.{concat}
use Rattle.std.proofs.lemmas.List.Elements.{All-head, All-tail, All-cons, All-map}
use Rattle.std.specs.Char.{is_ascii_digit}
use Rattle.httparse.specs.Grammar.{is_token_byte, is_uri_byte, is_value_byte, AllPass, IsToken, LineEnd, crlf, lf, print_end, print_version, Field, IsField, print_field, RequestHead, IsRequestHead, print_request, ResponseHead, IsResponseHead, print_response, print_reason, reason_phrase}
use Rattle.httparse.proofs.GrammarLemmas.{cons-append}
use Rattle.px_head.specs.Blocks.{is_empty_line, NoFeed, IsLine, IsEmptyLine, IsFullLine, IsHeadBlock}
use Rattle.px_head.proofs.LineLemmas.{feed-join}

-- a byte that passes the test isn't one that doesn't
pub differs : (test : ℕ → Bool) (a b : ℕ) → test a ≡ false → test b ≡ true → (b == a) ≡ false
differs test a b miss hit = at (b == a) refl
  where
    at : (c : Bool) → (b == a) ≡ c → (b == a) ≡ false
    at true is =
        let both : false ≡ true = sym miss ∙ ap test (sym (eqb-true b a is)) ∙ hit in
        absurd (cc)
    at false is = is

feed-none : (test : ℕ → Bool) → test 10 ≡ false → (xs : List ℕ) → AllPass test xs → NoFeed xs
feed-none test miss [] all = refl
feed-none test miss (b ∷ xs) all =
    let here : (b == 10) ≡ false = differs test 10 b miss (All-head (λ x. IsTrue (test x)) b xs all) in
    rw here (feed-none test miss xs (All-tail (λ x. IsTrue (test x)) b xs all))

token-feed : is_token_byte 10 ≡ false
unfolding is_token_byte
token-feed = refl

token-return : is_token_byte 13 ≡ false
unfolding is_token_byte
token-return = refl

-- a text without LF and a line end are a line
ends-line : (text : List ℕ) (e : LineEnd) → NoFeed text → IsLine (text ++ print_end e)
ends-line text crlf t = record { text = text ++ 13 ∷ []; is = sym (append_assoc text (13 ∷ []) (10 ∷ [])); no_feed = feed-join text (13 ∷ []) t refl }
ends-line text lf t = record { text = text; is = refl; no_feed = t }

empty-line : (e : LineEnd) → IsEmptyLine (print_end e)
empty-line crlf = (ends-line [] crlf refl, refl)
empty-line lf = (ends-line [] lf refl, refl)

full-first : (b : ℕ) (xs : List ℕ) → (b == 10) ≡ false → (b == 13) ≡ false → is_empty_line (b ∷ xs) ≡ false
full-first b [] feed return = feed
full-first b (c ∷ []) feed return = rw return refl
full-first b (c ∷ d ∷ xs) feed return = refl

token-first : (word xs : List ℕ) → IsToken word → is_empty_line (word ++ xs) ≡ false
token-first [] xs token = absurd (omega (arith, token.0))
token-first (b ∷ word) xs token =
    let hit : is_token_byte b ≡ true = All-head (λ x. IsTrue (is_token_byte x)) b word token.1 in
    full-first b (word ++ xs) (differs is_token_byte 10 b token-feed hit) (differs is_token_byte 13 b token-return hit)

is-full : (l : List ℕ) → IsLine l → is_empty_line l ≡ false → IsFullLine l
is-full l line e = (line, ap not e)

field-line : (f : Field) → IsField f → IsFullLine (print_field f)
field-line f is =
    let text = f.name ++ 58 ∷ f.raw in
    let t : NoFeed text = feed-join f.name (58 ∷ f.raw) (feed-none is_token_byte token-feed f.name is.name.1) (feed-none is_value_byte refl f.raw is.raw) in
    let first : is_empty_line (text ++ print_end f.end) ≡ false = rw append_assoc (token-first f.name (58 ∷ f.raw ++ print_end f.end) is.name) in
    is-full (text ++ print_end f.end) (ends-line text f.end t) first

version-feed : (minor : ℕ) → minor ≤ 1 → NoFeed (print_version minor)
version-feed zero m = refl
version-feed (suc zero) m = refl
version-feed (suc (suc minor)) m = absurd (omega arith)

-- the lines of a head
request-line : (h : RequestHead) → IsRequestHead h → IsFullLine (h.method ++ 32 ∷ h.target ++ 32 ∷ print_version h.minor ++ print_end h.line_end)
request-line h is =
    let text = h.method ++ 32 ∷ h.target ++ 32 ∷ print_version h.minor in
    let start = feed-join h.method (32 ∷ h.target) (feed-none is_token_byte token-feed h.method is.method.1) (feed-none is_uri_byte refl h.target is.target.1) in
    let t : NoFeed text = feed-join (h.method ++ 32 ∷ h.target) (32 ∷ print_version h.minor) start (version-feed h.minor is.minor) in
    let first : is_empty_line (text ++ print_end h.line_end) ≡ false =
    rw (append_assoc (h.method ++ 32 ∷ h.target) (32 ∷ print_version h.minor) (print_end h.line_end), append_assoc h.method (32 ∷ h.target) (32 ∷ print_version h.minor ++ print_end h.line_end))
    (token-first h.method (32 ∷ h.target ++ (32 ∷ print_version h.minor ++ print_end h.line_end)) is.method) in
    is-full (text ++ print_end h.line_end) (ends-line text h.line_end t) first

reason-feed : (reason : Option (List ℕ)) → AllPass is_value_byte (reason_phrase reason) → NoFeed (print_reason reason)
reason-feed None all = refl
reason-feed (Some phrase) all = feed-none is_value_byte refl phrase all

status-line : (h : ResponseHead) → IsResponseHead h → IsFullLine (print_version h.minor ++ 32 ∷ h.digits ++ print_reason h.reason ++ print_end h.line_end)
status-line h is =
    let text = print_version h.minor ++ 32 ∷ h.digits ++ print_reason h.reason in
    let start = feed-join (print_version h.minor) (32 ∷ h.digits) (version-feed h.minor is.minor) (feed-none is_ascii_digit refl h.digits is.digits.1) in
    let t : NoFeed text = feed-join (print_version h.minor ++ 32 ∷ h.digits) (print_reason h.reason) start (reason-feed h.reason is.reason) in
    is-full (text ++ print_end h.line_end) (ends-line text h.line_end t) refl

flat-concat : {X : Type 0} (f : X → List ℕ) (xs : List X) → flat_map f xs ≡ concat (map f xs)
flat-concat f [] = refl
flat-concat f (x ∷ xs) = ap (λ (ys : List ℕ). f x ++ ys) (flat-concat f xs)

-- the block of a start line
block-of : (blank : List LineEnd) (start : List ℕ) (fields : List Field) (last : LineEnd) (bytes : List ℕ) → IsFullLine start → All IsField fields
    → bytes ≡ flat_map print_end blank ++ (start ++ (flat_map print_field fields ++ print_end last)) → IsHeadBlock bytes
block-of blank start fields last bytes full all is =
    record {
      front = map print_end blank;
      lines = start ∷ map print_field fields;
      last = print_end last;
      bytes_are = is ∙ rw (← flat-concat print_end blank, ← flat-concat print_field fields) (simp append_assoc);
      front_empty = All-map IsEmptyLine print_end blank (λ k d l. empty-line _);
      lines_full = All-cons IsFullLine start (map print_field fields) full (All-map IsFullLine print_field fields (λ k d l. field-line _ (all k d l)));
      some_line = omega arith;
      last_empty = empty-line last;
    }

pub request-block : (h : RequestHead) → IsRequestHead h → IsHeadBlock (print_request h)
unfolding print_request
request-block h is =
    block-of h.blank (h.method ++ 32 ∷ h.target ++ 32 ∷ print_version h.minor ++ print_end h.line_end) h.fields h.last (print_request h) (request-line h is) is.fields (simp (append_assoc, cons-append))

pub response-block : (h : ResponseHead) → IsResponseHead h → IsHeadBlock (print_response h)
unfolding print_response
response-block h is =
    block-of h.blank (print_version h.minor ++ 32 ∷ h.digits ++ print_reason h.reason ++ print_end h.line_end) h.fields h.last (print_response h) (status-line h is) is.fields (simp (append_assoc, cons-append))
