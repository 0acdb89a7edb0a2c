-- The words of Connection fields are what those fields list.
use Rattle.std.proofs.Common.{◌≡◌, ℕ, ◌+◌, Bool, true, false, List, [], ◌∷◌, ◌++◌, Option, Some, None, ◌≤◌, length, take, drop, refl, ap, sym, cond, true≢false, ◌∙◌}
use Rattle.std.proofs.lemmas.List.{append-nil, drop_all, take_all}
use Rattle.std.proofs.lemmas.List.Concat.{flat_map-cons}
use Rattle.std.specs.Prelude.{◌==◌, ◌||◌, ◌&&◌, not, filter, map, codes}
use Rattle.std.specs.List.{flat_map, list_any, slice_split}
use Rattle.std.specs.Str.{str_eq_ignore_ascii_case, str_to_ascii_lowercase}
use Rattle.std.proofs.lemmas.Slice.Eq.{bytes_eq-Decides}
use Rattle.px_base.specs.Blanks.{trimmed}
use Rattle.px_fields.specs.declared.fields.Field.{Field}
use Rattle.px_fields.specs.Names.{has_name, connection_names, is_among_names, is_connection_word, is_held_back_of_request, is_held_back_of_response, lists_word, request_names}
use Rattle.px_headers.specs.declared.held_back.MessageKind.{MessageKind}
use Rattle.px_headers.specs.declared.held_back.MessageKind.TheVariants.{Request, Response}
use Rattle.px_headers.specs.declared.held_back.HeldBack.{HeldBack}
use Rattle.px_headers.specs.HeldBack.{connection_words, is_fixed, is_held, is_held_back, names_more, passed_on, words_in, IsHeldBackOf}
use Rattle.px_headers.specs.Rows.{without_those}

any-more : (a b c : Bool) → (a || (b || c)) ≡ ((a || b) || c)
any-more true b c = refl
any-more false b c = refl

any-append : (q : List ℕ → Bool) (xs ys : List (List ℕ)) → list_any q (xs ++ ys) ≡ (list_any q xs || list_any q ys)
any-append q [] ys = refl
any-append q (x ∷ xs) ys = ap (λ r. q x || r) (any-append q xs ys) ∙ any-more (q x) (list_any q xs) (list_any q ys)

any-mapped : (q : List ℕ → Bool) (v : List ℕ → List ℕ) (xs : List (List ℕ)) → list_any q (map v xs) ≡ list_any (λ x. q (v x)) xs
any-mapped q v [] = refl
any-mapped q v (x ∷ xs) = ap (λ r. q (v x) || r) (any-mapped q v xs)

any-step : {X : Type 0} (v : X → List (List ℕ)) (q : List ℕ → Bool) (b : Bool) (x : X) (xs : List X) (rest : Bool) → list_any q (flat_map v xs) ≡ rest →
    list_any q (flat_map v (cond b (x ∷ xs) xs)) ≡ ((b && list_any q (v x)) || rest)
any-step v q true x xs rest is = ap (list_any q) (flat_map-cons v x xs) ∙ (any-append q (v x) (flat_map v xs) ∙ ap (λ r. list_any q (v x) || r) is)
any-step v q false x xs rest is = is

any-filtered : {X : Type 0} (p : X → Bool) (v : X → List (List ℕ)) (q : List ℕ → Bool) (xs : List X) →
    list_any q (flat_map v (filter p xs)) ≡ list_any (λ x. p x && list_any q (v x)) xs
any-filtered p v q [] = refl
any-filtered p v q (x ∷ xs) = any-step v q (p x) x (filter p xs) _ (any-filtered p v q xs)

-- ---- Keep-Alive

-- texts that are the same as a third without case are the same without case
same-as : (a b c : List ℕ) → str_eq_ignore_ascii_case a b ≡ true → str_eq_ignore_ascii_case a c ≡ true → str_eq_ignore_ascii_case b c ≡ true
same-as a b c ab ac =
    (bytes_eq-Decides (str_to_ascii_lowercase b) (str_to_ascii_lowercase c)).1
    (sym ((bytes_eq-Decides (str_to_ascii_lowercase a) (str_to_ascii_lowercase b)).0 ab) ∙ (bytes_eq-Decides (str_to_ascii_lowercase a) (str_to_ascii_lowercase c)).0 ac)

turned : (a b : List ℕ) → str_eq_ignore_ascii_case a b ≡ true → str_eq_ignore_ascii_case b a ≡ true
turned a b ab = same-as a b a ab ((bytes_eq-Decides (str_to_ascii_lowercase a) (str_to_ascii_lowercase a)).1 refl)

or-true : (b : Bool) → (b || true) ≡ true
or-true true = refl
or-true false = refl

front-true : (a b : Bool) → a ≡ true → (a || b) ≡ true
front-true a b is = ap (λ t. t || b) is

back-true : (a b : Bool) → b ≡ true → (a || b) ≡ true
back-true a b is = ap (λ t. a || t) is ∙ or-true a

-- it is one of the fixed names
keep-alive-listed : (name : List ℕ) → str_eq_ignore_ascii_case name (codes "Keep-Alive") ≡ true → is_among_names connection_names name ≡ true
keep-alive-listed name is =
    back-true (str_eq_ignore_ascii_case (codes "Connection") name) _
    (back-true (str_eq_ignore_ascii_case (codes "Proxy-Connection") name) _
    (front-true (str_eq_ignore_ascii_case (codes "Keep-Alive") name) _ (turned name (codes "Keep-Alive") is)))

keep-alive-fixed : (message : MessageKind) (name : List ℕ) → str_eq_ignore_ascii_case name (codes "Keep-Alive") ≡ true → is_fixed message name ≡ true
unfolding is_held_back_of_request is_held_back_of_response
keep-alive-fixed Request name is = front-true (is_among_names connection_names name) (is_among_names request_names name) (keep-alive-listed name is)
keep-alive-fixed Response name is = keep-alive-listed name is

-- the other words tell of every other name
more-same : (name word : List ℕ) (words : List (List ℕ)) (b rest : Bool) → str_eq_ignore_ascii_case name (codes "Keep-Alive") ≡ false
    → str_eq_ignore_ascii_case word (codes "Keep-Alive") ≡ b → is_among_names words name ≡ rest
    → is_among_names (cond (not b) (word ∷ words) words) name ≡ (str_eq_ignore_ascii_case word name || rest)
more-same name word words false rest other is later = ap (λ r. str_eq_ignore_ascii_case word name || r) later
more-same name word words true rest other is later = at (str_eq_ignore_ascii_case word name) refl
  where
    at : (t : Bool) → str_eq_ignore_ascii_case word name ≡ t → is_among_names words name ≡ (t || rest)
    at true same = absurd (true≢false (sym (same-as word name (codes "Keep-Alive") same is) ∙ other))
    at false same = later

among-more : (name : List ℕ) (words : List (List ℕ)) → str_eq_ignore_ascii_case name (codes "Keep-Alive") ≡ false → is_among_names (filter names_more words) name ≡ is_among_names words name
among-more name [] other = refl
among-more name (word ∷ words) other = more-same name word (filter names_more words) (str_eq_ignore_ascii_case word (codes "Keep-Alive")) _ other refl (among-more name words other)

-- another name than Keep-Alive is among those words of a value where the value lists it
among-words : (name value : List ℕ) → str_eq_ignore_ascii_case name (codes "Keep-Alive") ≡ false → is_among_names (words_in value) name ≡ lists_word name value
unfolding lists_word
among-words name value other =
    among-more name (map (λ part. trimmed part) (slice_split (λ b. b == 44) value)) other
    ∙ any-mapped (λ word. str_eq_ignore_ascii_case word name) (λ part. trimmed part) (slice_split (λ b. b == 44) value)

any-same : {X : Type 0} (p q : X → Bool) (xs : List X) → ((x : X) → p x ≡ q x) → list_any p xs ≡ list_any q xs
any-same p q [] same = refl
any-same p q (x ∷ xs) same = ap (λ b. b || list_any p xs) (same x) ∙ ap (λ r. q x || r) (any-same p q xs same)

listed : (name : List ℕ) (fields : List Field) → str_eq_ignore_ascii_case name (codes "Keep-Alive") ≡ false → is_among_names (connection_words fields) name ≡ is_connection_word name fields
listed name fields other =
    any-filtered (has_name (codes "Connection")) (λ (f : Field). words_in f.value) (λ word. str_eq_ignore_ascii_case word name) fields
    ∙ any-same _ _ fields (λ f. ap (λ b. has_name (codes "Connection") f && b) (among-words name f.value other))

-- a name is a fixed one or among those words where it is a fixed one or a Connection field names it
known : (message : MessageKind) (name : List ℕ) (fields : List Field) (b : Bool) → str_eq_ignore_ascii_case name (codes "Keep-Alive") ≡ b →
    (is_fixed message name || is_among_names (connection_words fields) name) ≡ (is_fixed message name || is_connection_word name fields)
known message name fields true is =
    let fixed = keep-alive-fixed message name is in
    front-true (is_fixed message name) (is_among_names (connection_words fields) name) fixed ∙ sym (front-true (is_fixed message name) (is_connection_word name fields) fixed)
known message name fields false is = ap (λ r. is_fixed message name || r) (listed name fields is)

-- what is kept of a message tells which names are held back of it
pub held-is : (message : MessageKind) (fields : List Field) (held : HeldBack) (name : List ℕ) → IsHeldBackOf message fields held → is_held held name ≡ is_held_back message fields name
unfolding is_held_back
held-is message fields held name is =
    ap (λ m. is_fixed m name || is_among_names held.words name) is.message_is
    ∙ (ap (λ words. is_fixed message name || is_among_names words name) is.words_are ∙ known message name fields (str_eq_ignore_ascii_case name (codes "Keep-Alive")) refl)

pub same-filtered : {X : Type 0} (p q : X → Bool) (xs : List X) → ((x : X) → p x ≡ q x) → filter p xs ≡ filter q xs
same-filtered p q [] same = refl
same-filtered p q (x ∷ xs) same = ap (λ b. cond b (x ∷ filter p xs) (filter p xs)) (same x) ∙ ap (λ ys. cond (q x) (x ∷ ys) ys) (same-filtered p q xs same)

pub passed-is : (message : MessageKind) (fields : List Field) (held : HeldBack) → IsHeldBackOf message fields held →
    without_those (λ f. is_held held f.name) fields ≡ passed_on message fields
unfolding passed_on
passed-is message fields held is = same-filtered (λ (f : Field). not (is_held held f.name)) _ fields (λ f. ap not (held-is message fields held f.name is))

-- once every field was looked at, those that are left are the ones that stay
pub all-seen : (p : Field → Bool) (fields kept : List Field) (at : ℕ) → length kept ≤ at → without_those p fields ≡ take at kept ++ without_those p (drop at kept) → kept ≡ without_those p fields
all-seen p fields kept at end same =
    sym (same ∙ (ap (λ (rest : List Field). take at kept ++ without_those p rest) (drop_all at kept end) ∙ (append-nil (take at kept) ∙ take_all at kept end)))

-- what is left of a list that is cut word by word
abbrev pub left : Option (List ℕ) → ℕ
left None = 0
left (Some bytes) = length bytes + 1
