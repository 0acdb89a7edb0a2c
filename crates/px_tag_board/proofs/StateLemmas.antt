-- What addresses wear after one entry more.
use Rattle.std.proofs.Common.{◌≡◌, ℕ, Bool, true, false, cond, List, [], ◌∷◌, ◌++◌, fold, map, refl, ap, sym, ◌∙◌, arith, bytes_eq}
use Rattle.std.proofs.lemmas.List.Sums.{fold-append}
use Rattle.std.specs.Cmp.Lexicographic.{bytes_decides}
use Rattle.px_tag_board.specs.declared.changes.TagChange.{TagChange}
use Rattle.px_tag_board.specs.declared.entries.BoardEntry.{BoardEntry}
use Rattle.px_tag_board.specs.Tags.{Tags, tags_after, are_distinct_tags}
use Rattle.px_tag_board.proofs.TagLemmas.{distinct_after}
use Rattle.px_tag_board.specs.States.{BoardState, changes_of, worn_by}

changes_added : (address : List ℕ) (state : BoardState) (e : BoardEntry) → changes_of address (state ++ e ∷ []) ≡ changes_of address state ++ changes_of address (e ∷ [])
changes_added address [] e = refl
changes_added address (d ∷ state) e = grind (arith, changes_added address state e)

one : (b : Bool) (tags : Tags) (e : BoardEntry) → fold tags_after tags (map (λ (d : BoardEntry). d.change) (cond b (e ∷ []) [])) ≡ cond b (tags_after tags e.change) tags
one true tags e = refl
one false tags e = refl

pub worn_added : (address : List ℕ) (state : BoardState) (e : BoardEntry) → worn_by address (state ++ e ∷ []) ≡ cond (bytes_eq e.address address) (tags_after (worn_by address state) e.change) (worn_by address state)
worn_added address state e =
    ap (fold tags_after []) (changes_added address state e)
    ∙ (fold-append tags_after [] (changes_of address state) (changes_of address (e ∷ []))
    ∙ one (bytes_eq e.address address) (worn_by address state) e)

worn_same : (b : Bool) (state : BoardState) (address other : List ℕ) (change : TagChange) → (b ≡ true → address ≡ other)
    → cond b (tags_after (worn_by other state) change) (worn_by other state) ≡ cond b (tags_after (worn_by address state) change) (worn_by other state)
worn_same true state address other change same = ap (λ a. tags_after (worn_by a state) change) (sym (same refl))
worn_same false state address other change same = refl

-- the address of the entry wears what its change leaves, and the others what they wore
pub wearing_added : (state : BoardState) (e : BoardEntry) (tags : Tags) → tags ≡ tags_after (worn_by e.address state) e.change
    → (other : List ℕ) → worn_by other (state ++ e ∷ []) ≡ cond (bytes_eq e.address other) tags (worn_by other state)
wearing_added state e tags is other =
    worn_added other state e
    ∙ (worn_same (bytes_eq e.address other) state e.address other e.change (bytes_decides e.address other).0
    ∙ ap (λ t. cond (bytes_eq e.address other) t (worn_by other state)) (sym is))

-- the same of a tag_map: before, with room for the address, and with its tags put there
pub wearing_put : (before reserved put : List ℕ → Tags) (state newest : BoardState) (e : BoardEntry) (address : List ℕ) (tags : Tags)
    → ((a : List ℕ) → before a ≡ worn_by a state) → ((a : List ℕ) → reserved a ≡ before a)
    → ((a : List ℕ) → put a ≡ cond (bytes_eq address a) tags (reserved a))
    → e.address ≡ address → tags ≡ tags_after (worn_by address state) e.change → newest ≡ state ++ e ∷ []
    → (a : List ℕ) → put a ≡ worn_by a newest
wearing_put before reserved put state newest e address tags was room puts at is more a =
    puts a
    ∙ (ap (λ w. cond (bytes_eq address a) tags w) (room a ∙ was a)
    ∙ (ap (λ b. cond (bytes_eq b a) tags (worn_by a state)) (sym at)
    ∙ (sym (wearing_added state e tags (is ∙ ap (λ b. tags_after (worn_by b state) e.change) (sym at)) a)
    ∙ ap (worn_by a) (sym more))))

distinct_folded : (tags : Tags) (changes : List TagChange) → are_distinct_tags tags ≡ true → are_distinct_tags (fold tags_after tags changes) ≡ true
distinct_folded tags [] h = h
distinct_folded tags (change ∷ changes) h = distinct_folded (tags_after tags change) changes (distinct_after tags change h)

-- nobody wears a tag twice
pub worn_distinct : (address : List ℕ) (state : BoardState) → are_distinct_tags (worn_by address state) ≡ true
worn_distinct address state = distinct_folded [] (changes_of address state) refl
