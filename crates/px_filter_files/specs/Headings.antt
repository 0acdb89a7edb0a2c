-- The lines of a filter file that begin a part, and their names.
use Rattle.std.specs.Prelude.{ℕ, Bool, ◌&&◌, not, ◌==◌, nat_eq, List, [], ◌∷◌, length, drop, find, take_while, Option, Some, None, option_map, is_none, codes}
use Rattle.std.specs.List.{starts_with, prefix_len}
use Rattle.std.specs.Option.{option_and_then}
use Rattle.std.specs.Str.{bytes_eq}
use Rattle.px_base.specs.Blanks.{is_blank}
use Rattle.px_text.specs.declared.lines.Line.{Line}
use Rattle.px_filter_files.specs.declared.kinds.FilterKind.{FilterKind}
use Rattle.px_filter_files.specs.declared.kinds.FilterKind.TheVariants.{Content, ClientHeader, ServerHeader, ClientTagger, ServerTagger}
use Rattle.px_filter_files.specs.declared.kinds.Keyword.{Keyword}
use Rattle.px_filter_files.specs.declared.kinds.Keyword.TheVariants as keyword

-- the word with which a part begins
abbrev pub keyword_text : Keyword → List ℕ
keyword_text keyword.Filter = codes "FILTER:"
keyword_text keyword.ClientHeaderFilter = codes "CLIENT-HEADER-FILTER:"
keyword_text keyword.ServerHeaderFilter = codes "SERVER-HEADER-FILTER:"
keyword_text keyword.ClientHeaderTagger = codes "CLIENT-HEADER-TAGGER:"
keyword_text keyword.ServerHeaderTagger = codes "SERVER-HEADER-TAGGER:"
keyword_text keyword.ExternalFilter = codes "EXTERNAL-FILTER:"
keyword_text keyword.ClientBodyFilter = codes "CLIENT-BODY-FILTER:"
keyword_text keyword.ClientBodyTagger = codes "CLIENT-BODY-TAGGER:"

abbrev pub keywords : List Keyword
keywords =
    keyword.Filter ∷ keyword.ClientHeaderFilter ∷ keyword.ServerHeaderFilter ∷ keyword.ClientHeaderTagger ∷ keyword.ServerHeaderTagger
    ∷ keyword.ExternalFilter ∷ keyword.ClientBodyFilter ∷ keyword.ClientBodyTagger ∷ []

-- the kind of filter that a keyword begins, or None for a part whose lines aren't read
abbrev pub kind_of : Keyword → Option FilterKind
kind_of keyword.Filter = Some Content
kind_of keyword.ClientHeaderFilter = Some ClientHeader
kind_of keyword.ServerHeaderFilter = Some ServerHeader
kind_of keyword.ClientHeaderTagger = Some ClientTagger
kind_of keyword.ServerHeaderTagger = Some ServerTagger
kind_of keyword.ExternalFilter = None
kind_of keyword.ClientBodyFilter = None
kind_of keyword.ClientBodyTagger = None

-- the keyword with which a line begins
abbrev pub keyword_at : List ℕ → Option Keyword
keyword_at text = find (λ k. starts_with nat_eq text (keyword_text k)) keywords

-- the name behind a keyword: up to white space, behind white space
abbrev pub name_behind_keyword : Keyword → List ℕ → List ℕ
name_behind_keyword k text =
    let rest = drop (length (keyword_text k)) text in
    take_while (λ b. not (is_blank b)) (drop (prefix_len is_blank rest) rest)

-- a line that begins a part: the kind of its filter, or None for a part whose lines aren't read, and a name
pub record HeadingParts : Type 0 where
  pub kind : Option FilterKind
  pub name : List ℕ

-- the heading that a line is; a line that is none is a job
abbrev pub heading_at : List ℕ → Option HeadingParts
heading_at text = option_map (λ k. record { kind = kind_of k; name = name_behind_keyword k text }) (keyword_at text)

abbrev pub is_job_line : Line → Bool
is_job_line line = is_none (heading_at line.text)

-- a filter's kind and name
pub record Key : Type 0 where
  pub kind : FilterKind
  pub name : List ℕ

-- the kind and the name of the filter that a heading begins, if it begins one
abbrev pub key_in : HeadingParts → Option Key
key_in heading = option_map (λ kind. record { kind = kind; name = heading.name }) heading.kind

abbrev pub key_at : List ℕ → Option Key
key_at text = option_and_then key_in (heading_at text)

abbrev pub rank : FilterKind → ℕ
rank Content = 0
rank ClientHeader = 1
rank ServerHeader = 2
rank ClientTagger = 3
rank ServerTagger = 4

abbrev pub same_key : Key → Key → Bool
same_key a b = rank a.kind == rank b.kind && bytes_eq a.name b.name
