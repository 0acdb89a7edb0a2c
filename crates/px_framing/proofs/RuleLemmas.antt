-- Codings and lengths that are read one by one.
use Rattle.std.proofs.Common.{◌≡◌, ℕ, ◌+◌, ◌<◌, ◌≤◌, Bool, true, false, ◌==◌, not, ◌&&◌, ◌||◌, cond, List, [], ◌∷◌, ◌++◌, length, drop, get_or, Option, Some, None, Result, Ok, Err, refl, sym, ◌∙◌, ap, subst, drop-cons, add-one, flat_map}
use Rattle.std.specs.Prelude.{option_map}
use Rattle.std.specs.List.{list_all, slice_split}
use Rattle.std.proofs.lemmas.List.{drop_all}
use Rattle.px_base.specs.Blanks.{trimmed}
use Rattle.px_base.specs.Cuts.{parts_of}
use Rattle.px_base.specs.Numbers.{decimal}
use Rattle.px_fields.specs.Names.{has_name}
use Rattle.px_fields.specs.declared.fields.Field.{Field}
use Rattle.px_framing.specs.Body.{body_limit}
use Rattle.px_framing.specs.declared.rules.CodingsSeen.{CodingsSeen}
use Rattle.px_framing.specs.declared.rules.Lengths.{Lengths}
use Rattle.px_framing.specs.declared.rules.BodyRule.{BodyRule}
use Rattle.px_framing.specs.declared.rules.BodyRule.TheVariants.{Length}
use Rattle.px_framing.specs.declared.rules.BodyFault.{BodyFault}
use Rattle.px_framing.specs.declared.rules.BodyFault.TheVariants.{TwoLengths, BadLength}
use Rattle.px_framing.specs.Rules.{field_values, some_items, items_of, codings_name, lengths_name, are_chunked, end_chunked, with_length, lengths, length_rule}
use Rattle.px_framing.specs.Seen.{seen_one, seen_all, field_seen, length_at, length_seen, with_length_field, by_lengths}

-- the items of what is left of a list
abbrev pub items_left : Option (List ℕ) → List (List ℕ)
items_left rest = some_items (parts_of 44 rest)

abbrev pub left : Option (List ℕ) → ℕ
left None = 0
left (Some bs) = length bs + 1

-- ---- fields one by one

pub next-field : (name : List ℕ) (fields : List Field) (i : ℕ) (f : Field) → i < length fields → f ≡ get_or fields i f
    → field_values name (drop i fields) ≡ cond (has_name name f) (f.value ∷ field_values name (drop (i + 1) fields)) (field_values name (drop (i + 1) fields))
next-field name fields i f within is = rw (drop-cons fields i f, ← is, add-one) refl

pub no-fields : (name : List ℕ) (fields : List Field) (i : ℕ) → length fields ≤ i → field_values name (drop i fields) ≡ []
no-fields name fields i past = ap (field_values name) (drop_all i fields past)

-- ---- codings

seen-append : (cs ds : List (List ℕ)) (s : CodingsSeen) → seen_all s (cs ++ ds) ≡ seen_all (seen_all s cs) ds
seen-append [] ds s = refl
seen-append (c ∷ cs) ds s = seen-append cs ds (seen_one s c)

-- one more field of codings
seen-at : (c : Bool) (s : CodingsSeen) (v : List ℕ) (us : List (List ℕ)) → seen_all s (flat_map items_of (cond c (v ∷ us) us)) ≡ seen_all (cond c (seen_all s (items_of v)) s) (flat_map items_of us)
seen-at true s v us = seen-append (items_of v) (flat_map items_of us) s
seen-at false s v us = refl

pub seen-next : (s t : CodingsSeen) (fields : List Field) (i : ℕ) (f : Field) → i < length fields → f ≡ get_or fields i f → t ≡ field_seen s f
    → seen_all s (flat_map items_of (field_values codings_name (drop i fields))) ≡ seen_all t (flat_map items_of (field_values codings_name (drop (i + 1) fields)))
seen-next s t fields i f within is e =
    ap (λ vs. seen_all s (flat_map items_of vs)) (next-field codings_name fields i f within is) ∙ seen-at (has_name codings_name f) s f.value (field_values codings_name (drop (i + 1) fields))
    ∙ ap (λ (u : CodingsSeen). seen_all u (flat_map items_of (field_values codings_name (drop (i + 1) fields)))) (sym e)

not-alone : (cs : List (List ℕ)) (c : List ℕ) (s : CodingsSeen) → s.any ≡ true → (seen_all s (c ∷ cs)).alone ≡ false
not-alone [] c s any = rw any refl
not-alone (d ∷ cs) c s any = not-alone cs d (seen_one s c) refl

pub seen-alone : (cs : List (List ℕ)) → (seen_all (record { any = false; alone = false; last = false }) cs).alone ≡ are_chunked cs
seen-alone [] = refl
seen-alone (c ∷ []) = refl
seen-alone (c ∷ d ∷ cs) = not-alone cs d (seen_one (record { any = false; alone = false; last = false }) c) refl

last-some : (cs : List (List ℕ)) (c : List ℕ) (s : CodingsSeen) → (seen_all s (c ∷ cs)).last ≡ end_chunked (c ∷ cs)
last-some [] c s = refl
last-some (d ∷ cs) c s = last-some cs d (seen_one s c)

pub seen-last : (cs : List (List ℕ)) → (seen_all (record { any = false; alone = false; last = false }) cs).last ≡ end_chunked cs
seen-last [] = refl
seen-last (c ∷ cs) = last-some cs c (record { any = false; alone = false; last = false })

-- one more item of a list
pub item-none : (s : CodingsSeen) (bytes first : List ℕ) (more : Option (List ℕ)) → slice_split (λ b. b == 44) bytes ≡ first ∷ parts_of 44 more → (length (trimmed first) == 0) ≡ true
    → seen_all s (items_left (Some bytes)) ≡ seen_all s (items_left more)
item-none s bytes first more e none = rw (e, none) refl

pub item-some : (s : CodingsSeen) (bytes first : List ℕ) (more : Option (List ℕ)) → slice_split (λ b. b == 44) bytes ≡ first ∷ parts_of 44 more → (length (trimmed first) == 0) ≡ false
    → seen_all s (items_left (Some bytes)) ≡ seen_all (seen_one s (trimmed first)) (items_left more)
item-some s bytes first more e some = rw (e, some) refl

-- ---- lengths

-- the rule of the lengths seen and of those that are left
abbrev pub finish : BodyRule → Option ℕ → Bool → Option (List ℕ) → Result BodyRule BodyFault
finish other None differ rest = length_rule other rest
finish other (Some n) differ None = Err BadLength
finish other (Some n) differ (Some ns) = cond (differ || not (list_all (λ m. m == n) ns)) (Err TwoLengths) (Ok (Length n))

first-at : (c : Bool) (n : ℕ) → cond c (Ok (Length n)) (Err TwoLengths) ≡ cond (false || not c) (Err TwoLengths) (Ok (Length n))
first-at true n = refl
first-at false n = refl

next-at : (d e c : Bool) (n : ℕ) (r : Result BodyRule BodyFault) → cond (d || not (e && c)) (Err TwoLengths) r ≡ cond ((d || not e) || not c) (Err TwoLengths) r
next-at true e c n r = refl
next-at false true c n r = refl
next-at false false c n r = refl

-- one more length
pub length-more : (other : BodyRule) (first : Option ℕ) (differ : Bool) (m : ℕ) (rest : Option (List ℕ)) → (first ≡ None → differ ≡ false)
    → finish other first differ (with_length (Some m) rest) ≡ finish other (length_at first differ m).first (length_at first differ m).differ rest
length-more other None differ m None h = refl
length-more other None differ m (Some ns) h = first-at (list_all (λ k. k == m) ns) m ∙ ap (λ d. cond (d || not (list_all (λ k. k == m) ns)) (Err TwoLengths) (Ok (Length m))) (sym (h refl))
length-more other (Some n) differ m None h = refl
length-more other (Some n) differ m (Some ns) h = next-at differ (m == n) (list_all (λ k. k == n) ns) n (Ok (Length n))

-- a value that is no length
pub length-bad : (other : BodyRule) (first : Option ℕ) (differ : Bool) (rest : Option (List ℕ)) → finish other first differ (with_length None rest) ≡ Err BadLength
length-bad other None differ rest = refl
length-bad other (Some n) differ rest = refl

-- all were seen
pub length-end : (other : BodyRule) (first : Option ℕ) (differ : Bool) → finish other first differ (Some []) ≡ by_lengths other first differ
length-end other None differ = refl
length-end other (Some n) true = refl
length-end other (Some n) false = refl

-- one more field of lengths
abbrev pub Goes : BodyRule → Lengths → Option (List ℕ) → Option (List ℕ) → Option Lengths → Type 0
Goes other s rest more None = finish other s.first s.differ rest ≡ Err BadLength
Goes other s rest more (Some t) = (finish other s.first s.differ rest ≡ finish other t.first t.differ more) × (t.first ≡ None → t.differ ≡ false)

some-first : (o : Option ℕ) (d : Bool) (m : ℕ) → (length_at o d m).first ≡ None → ⊥
some-first None d m e = cc
some-first (Some n) d m e = cc

goes-at : (c : Bool) (o : Option ℕ) (other : BodyRule) (s : Lengths) (v : List ℕ) (us : List (List ℕ)) → decimal body_limit v ≡ o → (s.first ≡ None → s.differ ≡ false)
    → Goes other s (lengths (cond c (v ∷ us) us)) (lengths us) (cond c (option_map (length_seen s) o) (Some s))
goes-at false o other s v us e none = (refl, none)
goes-at true None other s v us e none = ap (λ x. finish other s.first s.differ (with_length x (lengths us))) e ∙ length-bad other s.first s.differ (lengths us)
goes-at true (Some m) other s v us e none =
    (ap (λ x. finish other s.first s.differ (with_length x (lengths us))) e ∙ length-more other s.first s.differ m (lengths us) none, λ g. absurd (some-first s.first s.differ m g))

goes-to : (other : BodyRule) (s : Lengths) (fields : List Field) (i : ℕ) (f : Field) → i < length fields → f ≡ get_or fields i f → (s.first ≡ None → s.differ ≡ false)
    → Goes other s (lengths (field_values lengths_name (drop i fields))) (lengths (field_values lengths_name (drop (i + 1) fields))) (with_length_field s f)
goes-to other s fields i f within is none =
    subst (λ vs. Goes other s (lengths vs) (lengths (field_values lengths_name (drop (i + 1) fields))) (with_length_field s f)) (sym (next-field lengths_name fields i f within is))
    (goes-at (has_name lengths_name f) (decimal body_limit f.value) other s f.value (field_values lengths_name (drop (i + 1) fields)) refl none)

pub length-next : (other : BodyRule) (s : Lengths) (fields : List Field) (i : ℕ) (f : Field) (o : Option Lengths) → i < length fields → f ≡ get_or fields i f → (s.first ≡ None → s.differ ≡ false) → o ≡ with_length_field s f
    → Goes other s (lengths (field_values lengths_name (drop i fields))) (lengths (field_values lengths_name (drop (i + 1) fields))) o
length-next other s fields i f o within is none e =
    subst (Goes other s (lengths (field_values lengths_name (drop i fields))) (lengths (field_values lengths_name (drop (i + 1) fields)))) (sym e) (goes-to other s fields i f within is none)

-- ---- the codings as a list

-- the items of what is left, with the first one and without it
pub items-next : (bytes first : List ℕ) (more : Option (List ℕ)) → slice_split (λ b. b == 44) bytes ≡ first ∷ parts_of 44 more
    → items_left (Some bytes) ≡ cond (length (trimmed first) == 0) (items_left more) (trimmed first ∷ items_left more)
items-next bytes first more is = ap some_items is

-- one more field
pub codings-next : (fields : List Field) (i : ℕ) (f : Field) → i < length fields → f ≡ get_or fields i f
    → flat_map items_of (field_values codings_name (drop i fields)) ≡ cond (has_name codings_name f) (items_of f.value) [] ++ flat_map items_of (field_values codings_name (drop (i + 1) fields))
codings-next fields i f within is = ap (flat_map items_of) (next-field codings_name fields i f within is) ∙ by (has_name codings_name f) f.value (field_values codings_name (drop (i + 1) fields))
  where
    by : (c : Bool) (v : List ℕ) (us : List (List ℕ)) → flat_map items_of (cond c (v ∷ us) us) ≡ cond c (items_of v) [] ++ flat_map items_of us
    by true v us = refl
    by false v us = refl
