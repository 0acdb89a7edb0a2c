-- Host patterns: what their texts stand for, and which hosts they match.
use Rattle.std.specs.Prelude.{◌≡◌, ℕ, ◌-◌, ◌==◌, ◌&&◌, ◌||◌, not, Bool, true, false, if◌then◌else◌, IsTrue, List, [], ◌∷◌, ◌++◌, length, take, drop, slice_get, slice_index, Option, None, Some, Result, Ok, Err, option_map}
use Rattle.std.specs.Char.{eq_ignore_ascii_case}
use Rattle.std.specs.List.{list_any, slice_split}
use Rattle.std.specs.Str.{str_eq_ignore_ascii_case}
use Rattle.px_base.specs.Cuts.{parts_of}
use Rattle.px_patterns.specs.declared.TheConstants.{DOT}
use Rattle.px_patterns.specs.declared.faults.PatternFault.{PatternFault}
use Rattle.px_patterns.specs.declared.faults.PatternFault.TheVariants.{BadClass, EmptyLabel}
use Rattle.px_patterns.specs.declared.hosts.Bucket.{Bucket}
use Rattle.px_patterns.specs.declared.hosts.Bucket.TheVariants as bucket
use Rattle.px_patterns.specs.declared.hosts.HostLabels.{HostLabels}
use Rattle.px_patterns.specs.declared.hosts.HostPart.{HostPart}
use Rattle.px_patterns.specs.declared.hosts.HostPart.TheVariants as part
use Rattle.px_patterns.specs.declared.hosts.HostPattern.{HostPattern}
use Rattle.px_patterns.specs.declared.hosts.HostPattern.TheVariants.{Address, Always, Labels}
use Rattle.px_patterns.specs.declared.hosts.Rest.{Rest}
use Rattle.px_patterns.specs.declared.hosts.Rest.TheVariants as rest
use Rattle.px_patterns.specs.declared.labels.LabelPattern.{LabelPattern}
use Rattle.px_patterns.specs.declared.labels.LabelPattern.TheVariants.{Glob, Plain}
use Rattle.px_patterns.specs.Expressions.{finds}
use Rattle.px_patterns.specs.Globs.{CanBeCut, label_items, label_matches, label_of, some_tail}

-- ---- dots and labels

abbrev pub begins_with_dot : List ℕ → Bool
begins_with_dot text = slice_index text 0 == DOT

abbrev pub ends_with_dot : List ℕ → Bool
ends_with_dot text = slice_index text (length text - 1) == DOT

abbrev pub without_first_dot : List ℕ → List ℕ
without_first_dot text = if begins_with_dot text then drop 1 text else text

abbrev pub without_last_dot : List ℕ → List ℕ
without_last_dot text = if ends_with_dot text then take (length text - 1) text else text

abbrev pub labels_in : List ℕ → List (List ℕ)
labels_in text = slice_split (λ b. b == DOT) text

-- ---- what a text stands for

-- a label before the labels that follow, where both are read
abbrev pub with_label : Option LabelPattern → Option (List LabelPattern) → Option (List LabelPattern)
with_label None rest = None
with_label (Some label) rest = option_map (λ labels. label ∷ labels) rest

-- the labels of texts, where each text stands for one
abbrev pub labels_of : List (List ℕ) → Option (List LabelPattern)
labels_of [] = Some []
labels_of (text ∷ texts) = with_label (label_of text) (labels_of texts)

-- the pattern of labels, open at the front and at the end where a dot stood there
abbrev pub with_labels : Bool → Bool → Option (List LabelPattern) → Result HostPattern PatternFault
with_labels front end None = Err BadClass
with_labels front end (Some labels) = Ok (Labels record { open_front = front; open_end = end; labels = labels })

abbrev pub labels_pattern : Bool → Bool → List (List ℕ) → Result HostPattern PatternFault
labels_pattern front end texts = if list_any (λ text. length text == 0) texts then Err EmptyLabel else with_labels front end (labels_of texts)

-- an empty text and a dot alone stand for every host
abbrev pub is_every_host : List ℕ → Bool
is_every_host text = length text == 0 || (length text == 1 && begins_with_dot text)

-- the host pattern that a text stands for
unfoldable pub host_pattern : List ℕ → Result HostPattern PatternFault
host_pattern text =
    if is_every_host text then Ok Always
    else labels_pattern (begins_with_dot text) (ends_with_dot text) (labels_in (without_last_dot (without_first_dot text)))

-- ---- which hosts it matches

-- the labels of a URL's host
abbrev pub host_labels : List ℕ → List (List ℕ)
host_labels host = labels_in (without_last_dot host)

-- the labels match one by one
abbrev pub EachFits : List LabelPattern → List (List ℕ) → Type 0
EachFits [] [] = Unit {0}
EachFits [] (label ∷ labels) = ⊥
EachFits (pattern ∷ patterns) [] = ⊥
EachFits (pattern ∷ patterns) (label ∷ labels) = CanBeCut (label_items pattern) label × EachFits patterns labels

-- the labels match all labels of the host, or those at its end, at its front or between where they are open there
pub record LabelsFit (pattern : HostLabels) (labels : List (List ℕ)) : Type 0 where
  pub before : List (List ℕ)
  pub fitting : List (List ℕ)
  pub behind : List (List ℕ)
  pub whole : labels ≡ before ++ fitting ++ behind
  pub front : pattern.open_front ≡ false → before ≡ []
  pub end : pattern.open_end ≡ false → behind ≡ []
  pub each : EachFits pattern.labels fitting

-- a host pattern matches a host
abbrev pub HostFits : HostPattern → List ℕ → Type 0
HostFits Always host = Unit {0}
HostFits (Address text) host = IsTrue (str_eq_ignore_ascii_case text host)
HostFits (Labels pattern) host = LabelsFit pattern (host_labels host)

-- ---- the same as a test

-- whether the labels match one by one, and nothing follows unless it may
unfoldable pub labels_match : Bool → List LabelPattern → List (List ℕ) → Bool
labels_match open_end [] [] = true
labels_match open_end [] (label ∷ labels) = open_end
labels_match open_end (pattern ∷ patterns) [] = false
labels_match open_end (pattern ∷ patterns) (label ∷ labels) = label_matches pattern label && labels_match open_end patterns labels

abbrev pub fitting_labels : HostLabels → List (List ℕ) → Bool
fitting_labels pattern labels =
    if pattern.open_front then some_tail (labels_match pattern.open_end pattern.labels) labels
    else labels_match pattern.open_end pattern.labels labels

unfoldable pub host_matches : HostPattern → List ℕ → Bool
host_matches Always host = true
host_matches (Address text) host = str_eq_ignore_ascii_case text host
host_matches (Labels pattern) host = fitting_labels pattern (host_labels host)

-- the expression that is searched in hosts, if the host part has one
abbrev pub host_expression_in : HostPart → Option (List ℕ)
host_expression_in (part.Pattern pattern) = None
host_expression_in (part.Expression expression) = expression

abbrev pub IsHostExpression : HostPart → Type 0
IsHostExpression (part.Pattern pattern) = ⊥
IsHostExpression (part.Expression expression) = Unit {0}

-- an empty host expression matches every host; another one is searched in the host without one dot at its end
abbrev pub expression_matches : Option (List ℕ) → List ℕ → Bool
expression_matches None host = true
expression_matches (Some text) host = finds text (without_last_dot host)

abbrev pub host_part_matches : HostPart → List ℕ → Bool
host_part_matches (part.Pattern pattern) host = host_matches pattern host
host_part_matches (part.Expression expression) host = expression_matches expression host

-- ---- the first and the last label of a host

-- the bytes of the labels beside one, if there are any
abbrev pub rest_bytes : Rest → Option (List ℕ)
rest_bytes (rest.Labels bytes) = Some bytes.now
rest_bytes rest.Nothing = None

-- the pattern matches the first label, and this stands behind its dot
pub record HasFirstLabel (pattern : LabelPattern) (bytes : List ℕ) (behind : Option (List ℕ)) : Type 0 where
  pub label : List ℕ
  pub cut : labels_in bytes ≡ label ∷ parts_of DOT behind
  pub fits : label_matches pattern label ≡ true

-- it doesn't match the first label
pub record LacksFirst (pattern : LabelPattern) (bytes : List ℕ) : Type 0 where
  pub label : List ℕ
  pub behind : Option (List ℕ)
  pub cut : labels_in bytes ≡ label ∷ parts_of DOT behind
  pub fails : label_matches pattern label ≡ false

-- the pattern matches the last label, and this stands before its dot
pub record HasLast (pattern : LabelPattern) (bytes : List ℕ) (front : Option (List ℕ)) : Type 0 where
  pub label : List ℕ
  pub cut : labels_in bytes ≡ parts_of DOT front ++ label ∷ []
  pub fits : label_matches pattern label ≡ true

-- it doesn't match the last label
pub record LacksLast (pattern : LabelPattern) (bytes : List ℕ) : Type 0 where
  pub front : Option (List ℕ)
  pub label : List ℕ
  pub cut : labels_in bytes ≡ parts_of DOT front ++ label ∷ []
  pub fails : label_matches pattern label ≡ false

-- whether a byte is another, without case, and no dot
abbrev pub is_in_label : ℕ → ℕ → Bool
is_in_label own byte = not (byte == DOT) && eq_ignore_ascii_case own byte

-- whether bytes are a text, without case, and hold no dot
unfoldable pub is_label : List ℕ → List ℕ → Bool
is_label [] [] = true
is_label [] (b ∷ bytes) = false
is_label (a ∷ text) [] = false
is_label (a ∷ text) (b ∷ bytes) = is_in_label a b && is_label text bytes

-- ---- under what an index keeps a pattern

-- a host has a label, without case
abbrev pub has_label : List ℕ → List ℕ → Bool
has_label host text = list_any (str_eq_ignore_ascii_case text) (host_labels host)

-- the labels of a pattern
abbrev pub labels_within : HostPattern → List LabelPattern
labels_within Always = []
labels_within (Address text) = []
labels_within (Labels pattern) = pattern.labels

-- each host that the pattern matches has each of the labels that is a plain text
abbrev pub HasEachPlain : HostPattern → List LabelPattern → Type 0
HasEachPlain pattern labels =
    (at : ℕ) (text host : List ℕ) → slice_get labels at ≡ Some (Plain text) → host_matches pattern host ≡ true → has_label host text ≡ true

-- the text of a label without `*`, `?` and `[`
abbrev pub plain_text : LabelPattern → Option (List ℕ)
plain_text (Plain text) = Some text
plain_text (Glob items) = None

-- the text of the last label without `*`, `?` and `[`
abbrev pub later_or : Option (List ℕ) → LabelPattern → Option (List ℕ)
later_or (Some text) pattern = Some text
later_or None (Plain text) = Some text
later_or None (Glob items) = None

abbrev pub last_plain : List LabelPattern → Option (List ℕ)
last_plain [] = None
last_plain (pattern ∷ patterns) = later_or (last_plain patterns) pattern

-- the bucket of a pattern
abbrev pub IsBucket : HostPattern → Bucket → Type 0
IsBucket Always bucket.Always = Unit {0}
IsBucket (Address text) (bucket.Address shown) = shown.now ≡ text
IsBucket (Labels pattern) bucket.Always = last_plain pattern.labels ≡ None
IsBucket (Labels pattern) (bucket.Label shown) = last_plain pattern.labels ≡ Some shown.now
IsBucket pattern other = ⊥

-- whether a host has a bucket's label, or is its address
abbrev pub is_in_bucket : Bucket → List ℕ → Bool
is_in_bucket bucket.Always host = true
is_in_bucket (bucket.Label shown) host = has_label host shown.now
is_in_bucket (bucket.Address shown) host = str_eq_ignore_ascii_case shown.now host

-- each host that the pattern matches is in the bucket
abbrev pub KeepsTo : HostPattern → Bucket → Type 0
KeepsTo pattern shown = (host : List ℕ) → host_matches pattern host ≡ true → is_in_bucket shown host ≡ true

-- whether a host has the last plain label of the pattern, or is its address; every host may match where there is neither
abbrev pub has_last_plain : Option (List ℕ) → List ℕ → Bool
has_last_plain None host = true
has_last_plain (Some text) host = has_label host text

abbrev pub is_candidate : HostPattern → List ℕ → Bool
is_candidate Always host = true
is_candidate (Address text) host = str_eq_ignore_ascii_case text host
is_candidate (Labels pattern) host = has_last_plain (last_plain pattern.labels) host
