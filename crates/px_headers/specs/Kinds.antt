-- Which answers are texts.
use Rattle.std.specs.Prelude.{ℕ, Bool, false, ◌&&◌, ◌||◌, not, List, [], ◌∷◌, length, take, codes}
use Rattle.std.specs.Option.{option_map_or}
use Rattle.std.specs.Str.{str_eq_ignore_ascii_case}
use Rattle.px_fields.specs.declared.fields.Field.{Field}
use Rattle.px_fields.specs.Names.{first_field}
use Rattle.px_actions.specs.Sets.{is_on}
use Rattle.px_actions.specs.declared.kinds.Kind.TheVariants as kind
use Rattle.px_actions.specs.declared.settings.Setting.{Setting}

-- the word stands in the text, without case
unfoldable pub holds_without_case : List ℕ → List ℕ → Bool
holds_without_case word [] = false
holds_without_case word (b ∷ bs) = str_eq_ignore_ascii_case (take (length word) (b ∷ bs)) word || holds_without_case word bs

-- a content type is one of a text: `text/` and not `plain`, or `xml`, or `script`
unfoldable pub is_text_type : List ℕ → Bool
is_text_type value =
    (holds_without_case (codes "text/") value && not (holds_without_case (codes "plain") value))
    || (holds_without_case (codes "xml") value || holds_without_case (codes "script") value)

-- an answer with these fields is a text, by its first Content-Type; with force-text-mode every answer is one
unfoldable pub is_text : List Setting → List Field → Bool
is_text set fields =
    is_on set kind.ForceTextMode || option_map_or (λ (f : Field). is_text_type f.value) (first_field (codes "Content-Type") fields) false
