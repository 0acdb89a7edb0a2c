-- The lines of fields read back as the fields.
use Rattle.std.proofs.Common.{◌≡◌, ℕ, ◌+◌, ◌<◌, Bool, true, false, ◌==◌, ◌&&◌, cond, nat_lt, List, [], ◌∷◌, ◌++◌, length, map, take, drop, get_or, reverse, codes, Option, Some, None, option_and_then, position, All, IfSome, refl, sym, ap, ◌∙◌, subst, arith, append_assoc, length-append}
use Rattle.std.specs.List.{list_all, position_or_len}
use Rattle.std.proofs.lemmas.Bool.{and_parts, ltb-true, lt-ltb}
use Rattle.std.proofs.lemmas.Option.{option_and_then_some}
use Rattle.std.proofs.lemmas.List.{reverse-append, reverse-reverse, get_or_append_left}
use Rattle.std.proofs.lemmas.List.Elements.{All-map}
use Rattle.std.proofs.lemmas.List.Sums.{AllPass-from_list_all, list_all-from_AllPass, position_or_len_is}
use Rattle.std.proofs.Math.Seq.{get_or-append_seam, take-append_seam, drop-append-add}
use Rattle.httparse.specs.Grammar as grammar
use Rattle.httparse.specs.Grammar.{is_token_byte, AllPass, IsToken, is_token, IsField, skip_ows, trim_ows}
use Rattle.httparse.proofs.PieceLemmas.{colon_ends_token}
use Rattle.httparse.proofs.TrimLemmas.{AllPass-trim_ows}
use Rattle.px_base.specs.Blanks.{is_blank, all_blank, trim_front, trim_end, trimmed}
use Rattle.px_base.proofs.BlankLemmas.{trim_end-blank, trim_end-other}
use Rattle.px_fields.specs.FieldLines.{is_value_byte, field_from, read_field, field_line}
use Rattle.px_head.specs.Fields.{field_of}
use Rattle.px_head.specs.Heads.{IsRequest, IsResponse}
use Rattle.px_head.specs.ReadBack.{ReadsBack}
use Rattle.px_fields.specs.declared.fields.Field.{Field}
use Rattle.px_head.specs.declared.requests.RequestHead.{RequestHead}
use Rattle.px_head.specs.declared.responses.ResponseHead.{ResponseHead}
use Rattle.px_head.proofs.GrammarBlocks.{differs}

-- ---- white space

-- the grammar drops the same white space at the front
skip-front : (xs : List ℕ) → skip_ows xs ≡ trim_front xs
skip-front [] = refl
skip-front (b ∷ xs) = ap (λ (ys : List ℕ). cond (is_blank b) ys (b ∷ xs)) (skip-front xs)

-- and at the end
skip-end : (xs : List ℕ) → reverse (skip_ows xs) ≡ trim_end (reverse xs)
skip-end [] = refl
skip-end (b ∷ xs) = at (is_blank b) refl (skip-end xs)
  where
    turned : reverse (b ∷ xs) ≡ reverse xs ++ b ∷ []
    turned = reverse-append (b ∷ []) xs

    at : (t : Bool) → is_blank b ≡ t → reverse (skip_ows xs) ≡ trim_end (reverse xs) → reverse (skip_ows (b ∷ xs)) ≡ trim_end (reverse (b ∷ xs))
    at true is later = rw is (later ∙ sym (ap trim_end turned ∙ trim_end-blank (reverse xs) b is))
    at false is later = rw is (turned ∙ sym (ap trim_end turned ∙ trim_end-other (reverse xs) b is))

trim-same : (xs : List ℕ) → trim_ows xs ≡ trimmed xs
unfolding trim_ows trimmed
trim-same xs = skip-end (reverse (skip_ows xs)) ∙ ap trim_end (reverse-reverse (skip_ows xs) ∙ skip-front xs)

blank-end : (xs : List ℕ) → all_blank (trim_end xs) ≡ all_blank xs
blank-end [] = refl
blank-end (b ∷ xs) = at (all_blank (b ∷ xs)) refl (blank-end xs)
  where
    at : (t : Bool) → all_blank (b ∷ xs) ≡ t → all_blank (trim_end xs) ≡ all_blank xs → all_blank (trim_end (b ∷ xs)) ≡ all_blank (b ∷ xs)
    at true is later = ap (λ (c : Bool). all_blank (cond c [] (b ∷ trim_end xs))) is ∙ sym is
    at false is later = ap (λ (c : Bool). all_blank (cond c [] (b ∷ trim_end xs))) is ∙ ap (λ (c : Bool). is_blank b && c) later

end-again : (xs : List ℕ) → trim_end (trim_end xs) ≡ trim_end xs
end-again [] = refl
end-again (b ∷ xs) = at (all_blank (b ∷ xs)) refl (end-again xs)
  where
    at : (t : Bool) → all_blank (b ∷ xs) ≡ t → trim_end (trim_end xs) ≡ trim_end xs → trim_end (trim_end (b ∷ xs)) ≡ trim_end (b ∷ xs)
    at true is later =
        let none : trim_end (b ∷ xs) ≡ [] = ap (λ (c : Bool). cond c [] (b ∷ trim_end xs)) is in
        ap trim_end none ∙ sym none
    at false is later =
        let some : trim_end (b ∷ xs) ≡ b ∷ trim_end xs = ap (λ (c : Bool). cond c [] (b ∷ trim_end xs)) is in
        let again : all_blank (b ∷ trim_end xs) ≡ false = ap (λ (c : Bool). is_blank b && c) (blank-end xs) ∙ is in
        ap trim_end some ∙ ap (λ (c : Bool). cond c [] (b ∷ trim_end (trim_end xs))) again ∙ ap (λ (ys : List ℕ). b ∷ ys) later ∙ sym some

front-again : (xs : List ℕ) → trim_front (trim_end (trim_front xs)) ≡ trim_end (trim_front xs)
front-again [] = refl
front-again (b ∷ xs) = at (is_blank b) refl (front-again xs)
  where
    at : (t : Bool) → is_blank b ≡ t → trim_front (trim_end (trim_front xs)) ≡ trim_end (trim_front xs)
        → trim_front (trim_end (trim_front (b ∷ xs))) ≡ trim_end (trim_front (b ∷ xs))
    at true is later = ap (λ (c : Bool). trim_front (trim_end (cond c (trim_front xs) (b ∷ xs)))) is ∙ later ∙ sym (ap (λ (c : Bool). trim_end (cond c (trim_front xs) (b ∷ xs))) is)
    at false is later =
        let whole : trim_front (b ∷ xs) ≡ b ∷ xs = ap (λ (c : Bool). cond c (trim_front xs) (b ∷ xs)) is in
        let some : trim_end (b ∷ xs) ≡ b ∷ trim_end xs = ap (λ (c : Bool). cond (c && all_blank xs) [] (b ∷ trim_end xs)) is in
        ap (λ (ys : List ℕ). trim_front (trim_end ys)) whole ∙ ap trim_front some ∙ ap (λ (c : Bool). cond c (trim_front (trim_end xs)) (b ∷ trim_end xs)) is ∙ sym (ap trim_end whole ∙ some)

-- what was trimmed stays as it is
trimmed-again : (xs : List ℕ) → trimmed (trimmed xs) ≡ trimmed xs
unfolding trimmed
trimmed-again xs = ap trim_end (front-again xs) ∙ end-again (trim_front xs)

trimmed-space : (xs : List ℕ) → trimmed (32 ∷ xs) ≡ trimmed xs
unfolding trimmed
trimmed-space xs = refl

-- what holds of each byte holds of each that is kept
trimmed-pass : (test : ℕ → Bool) (xs : List ℕ) → list_all test xs ≡ true → list_all test (trimmed xs) ≡ true
trimmed-pass test xs all =
    list_all-from_AllPass test (trimmed xs) (subst (AllPass test) (trim-same xs) (AllPass-trim_ows test xs (AllPass-from_list_all test xs all)))

-- ---- names

-- the first colon stands behind the name
colon-behind : (name rest : List ℕ) → AllPass is_token_byte name → position (λ b. b == 58) (name ++ 58 ∷ rest) ≡ Some (length name)
colon-behind name rest token =
    let text = name ++ 58 ∷ rest in
    let within : length name < length text = omega (arith, length-append name (58 ∷ rest)) in
    let before : (k : ℕ) → k < length name → (get_or text k 0 == 58) ≡ false =
    λ k l. ap (λ b. b == 58) (get_or_append_left name (58 ∷ rest) 0 k l) ∙ differs is_token_byte 58 (get_or name k 0) colon_ends_token (token k 0 l) in
    let here : (get_or text (length name) 0 == 58) ≡ true = ap (λ b. b == 58) (get_or-append_seam name 58 rest 0) in
    let place : position_or_len (λ b. b == 58) text ≡ length name = position_or_len_is (λ b. b == 58) text (length name) 0 (omega arith) before (λ l. here) in
    rw place (rw (lt-ltb (length name) (length text) within) refl)

token-test : (name : List ℕ) → IsToken name → is_token name ≡ true
token-test name token =
    ap (λ (c : Bool). c && list_all is_token_byte name) (lt-ltb 0 (length name) token.0) ∙ list_all-from_AllPass is_token_byte name token.1

-- ---- values

value-byte : (b : ℕ) → grammar.is_value_byte b ≡ true → is_value_byte b ≡ true
value-byte b hit =
    let nul : (b == 0) ≡ false = differs grammar.is_value_byte 0 b refl hit in
    let feed : (b == 10) ≡ false = differs grammar.is_value_byte 10 b refl hit in
    let return : (b == 13) ≡ false = differs grammar.is_value_byte 13 b refl hit in
    rw (nul, feed, return) refl

value-bytes : (xs : List ℕ) → AllPass grammar.is_value_byte xs → list_all is_value_byte xs ≡ true
value-bytes xs all = list_all-from_AllPass is_value_byte xs (λ k d l. value-byte (get_or xs k d) (all k d l))

-- ---- fields

-- a field whose name is a token and whose value is trimmed reads back
field-back : (f : Field) → IsToken f.name → list_all is_value_byte f.value ≡ true → trimmed f.value ≡ f.value → ReadsBack f
unfolding read_field
field-back f token bytes trim =
    let rest = 58 ∷ 32 ∷ f.value in
    let text = f.name ++ rest in
    let line : field_line f ≡ text = append_assoc f.name (codes ": ") f.value in
    let found : read_field text ≡ field_from (take (length f.name) text) (drop (length f.name + 1) text) =
    ap (option_and_then (λ at. field_from (take at text) (drop (at + 1) text))) (colon-behind f.name (32 ∷ f.value) token.1) in
    let name : take (length f.name) text ≡ f.name = take-append_seam f.name rest in
    let value : drop (length f.name + 1) text ≡ 32 ∷ f.value = drop-append-add f.name rest 1 in
    let parts : field_from (take (length f.name) text) (drop (length f.name + 1) text) ≡ field_from f.name (32 ∷ f.value) = λ i. field_from (name i) (value i) in
    let test : (is_token f.name && list_all is_value_byte f.value) ≡ true = ap (λ (c : Bool). c && list_all is_value_byte f.value) (token-test f.name token) ∙ bytes in
    let passes : field_from f.name (32 ∷ f.value) ≡ Some (record { name = f.name; value = trimmed (32 ∷ f.value) }) =
    ap (λ (c : Bool). cond c (Some (record { name = f.name; value = trimmed (32 ∷ f.value) })) None) test in
    ap read_field line ∙ found ∙ parts ∙ passes ∙ ap (λ (v : List ℕ). Some (record { name = f.name; value = v })) (trimmed-space f.value ∙ trim)

-- a field of the grammar
grammar-back : (f : grammar.Field) → IsField f → ReadsBack (field_of f)
grammar-back f is =
    field-back (field_of f) is.name (value-bytes (trim_ows f.raw) (AllPass-trim_ows grammar.is_value_byte f.raw is.raw))
    (ap trimmed (trim-same f.raw) ∙ trimmed-again f.raw ∙ sym (trim-same f.raw))

fields-back : (fields : List grammar.Field) → All IsField fields → All ReadsBack (map field_of fields)
fields-back fields all = All-map ReadsBack field_of fields (λ k d l. grammar-back _ (all k d l))

pub request-back : (block : List ℕ) (head : RequestHead) → IsRequest block head → All ReadsBack head.fields
request-back block head is =
    subst (λ (h : RequestHead). All ReadsBack h.fields) (sym is.parts) (fields-back is.tree.fields is.reads.0.fields)

pub response-back : (block : List ℕ) (head : ResponseHead) → IsResponse block head → All ReadsBack head.fields
response-back block head is =
    subst (λ (h : ResponseHead). All ReadsBack h.fields) (sym is.parts) (fields-back is.tree.fields is.reads.0.fields)

is-token : (name : List ℕ) → is_token name ≡ true → IsToken name
is-token name test =
    let parts = and_parts (nat_lt 0 (length name)) (list_all is_token_byte name) test in
    (ltb-true 0 (length name) parts.0, AllPass-from_list_all is_token_byte name parts.1)

-- a field that a line gave
from-back : (name value : List ℕ) (f : Field) → field_from name value ≡ Some f → ReadsBack f
from-back name value f gave = at (is_token name) (list_all is_value_byte value) refl refl gave
  where
    whole : is_token name ≡ true → list_all is_value_byte value ≡ true → ReadsBack (record { name = name; value = trimmed value })
    whole token bytes = field-back (record { name = name; value = trimmed value }) (is-token name token) (trimmed-pass is_value_byte value bytes) (trimmed-again value)

    at : (t v : Bool) → is_token name ≡ t → list_all is_value_byte value ≡ v → cond (t && v) (Some (record { name = name; value = trimmed value })) None ≡ Some f → ReadsBack f
    at true true token bytes gives = subst (λ (o : Option Field). IfSome o ReadsBack) gives (whole token bytes)
    at true false token bytes gives = absurd (cc)
    at false v token bytes gives = absurd (cc)

pub line-back : (text : List ℕ) (f : Field) → read_field text ≡ Some f → ReadsBack f
unfolding read_field
line-back text f gave = option_and_then_some (λ at. field_from (take at text) (drop (at + 1) text)) (position (λ b. b == 58) text) f gave
    (λ at is gives. from-back (take at text) (drop (at + 1) text) f gives)
