-- What header actions do to the fields of a head. Names are compared without case (RFC 9110, section 5.1).
use Rattle.std.specs.Prelude.{ℕ, Bool, not, List, [], ◌∷◌, ◌++◌, filter, map, is_some, if◌then◌else◌}
use Rattle.memchr.specs.Find.{first_of, matches}
use Rattle.px_fields.specs.declared.fields.Field.{Field}
use Rattle.px_fields.specs.Names.{has_name}
use Rattle.px_fields.specs.FieldLines.{field_line}

-- one step behind another
infixl 10 ◌▷◌
abbrev pub ◌▷◌ : {A B : Type 0} → A → (A → B) → B
x ▷ f = f x

-- without those fields
abbrev pub without_those : (Field → Bool) → List Field → List Field
without_those p fields = filter (λ f. not (p f)) fields

-- without the fields of that name
unfoldable pub without_field : List ℕ → List Field → List Field
without_field name fields = without_those (has_name name) fields

-- the field with a value made of its own
abbrev pub changed_field : (List ℕ → List ℕ) → Field → Field
changed_field change f = record { name = f.name; value = change f.value }

-- those fields with values made of their own; none is added
abbrev pub with_values : (Field → Bool) → (List ℕ → List ℕ) → List Field → List Field
with_values p change fields = map (λ f. if p f then changed_field change f else f) fields

-- the fields of that name with this value
unfoldable pub with_value : List ℕ → List ℕ → List Field → List Field
with_value name value fields = with_values (has_name name) (λ _. value) fields

-- the word stands in the text, with case
abbrev pub holds_word : List ℕ → List ℕ → Bool
holds_word word text = is_some (first_of (matches text word 0))

-- without the fields whose printed line holds the word
unfoldable pub without_holding : List ℕ → List Field → List Field
without_holding word fields = without_those (λ f. holds_word word (field_line f)) fields

-- the first field of that name with more behind its value, or else a new field at the end
unfoldable pub with_more : List ℕ → List ℕ → List ℕ → List Field → List Field
with_more name separator more [] = record { name = name; value = more } ∷ []
with_more name separator more (f ∷ fields) =
    if has_name name f then changed_field (λ value. value ++ separator ++ more) f ∷ fields
    else f ∷ with_more name separator more fields
