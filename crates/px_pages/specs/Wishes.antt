-- What a request asks of the board of the clients' tags.
use Rattle.std.specs.Prelude.{ℕ, Bool, if◌then◌else◌, List, length, take, drop, codes, Option, None, Some}
use Rattle.std.specs.List.{list_any}
use Rattle.std.specs.Str.{bytes_eq}
use Rattle.percent_encoding.specs.Percent.{percent_decode}
use Rattle.px_patterns.specs.declared.urls.Url.{Url}
use Rattle.px_tag_board.specs.Tags.{Tags}
use Rattle.px_tag_board.specs.declared.changes.TagChange.{TagChange}
use Rattle.px_tag_board.specs.declared.changes.TagChange.TheVariants.{Wear, Shed}
use Rattle.px_config.specs.Insides.{Asked}
use Rattle.px_pages.specs.Pages.{is_own}
use Rattle.px_pages.specs.declared.wishes.BoardWish.{BoardWish}
use Rattle.px_pages.specs.declared.wishes.BoardWish.TheVariants as wish

-- whether a tag is among those that clients may have
abbrev pub is_declared : Tags → List ℕ → Bool
is_declared declared tag = list_any (λ t. bytes_eq t tag) declared

-- what stands before the name of a tag that is put on
abbrev pub wear_front : List ℕ
wear_front = codes "/client-tags/on?"

-- what stands before the name of a tag that is taken off
abbrev pub shed_front : List ℕ
shed_front = codes "/client-tags/off?"

-- a tag is put on, if clients may have it
abbrev pub wear_wish : Tags → List ℕ → BoardWish
wear_wish declared tag = if is_declared declared tag then wish.Change (Wear tag) else wish.Other

-- a tag is taken off, if clients may have it
abbrev pub shed_wish : Tags → List ℕ → BoardWish
shed_wish declared tag = if is_declared declared tag then wish.Change (Shed tag) else wish.Other

-- what a path of the proxy's own asks for, where clients may have these tags
unfoldable pub wish_at : Tags → List ℕ → BoardWish
wish_at declared path =
    if bytes_eq path (codes "/") then wish.Index
    else if bytes_eq path (codes "/client-tags") then wish.Show
    else if bytes_eq (take (length wear_front) path) wear_front then wear_wish declared (percent_decode (drop (length wear_front) path))
    else if bytes_eq (take (length shed_front) path) shed_front then shed_wish declared (percent_decode (drop (length shed_front) path))
    else wish.Other

-- what a URL asks for
abbrev pub url_wish : Tags → Url → BoardWish
url_wish declared url = if is_own url then wish_at declared url.path else wish.Other

-- what a request asks for
abbrev pub asked_wish : Asked → BoardWish
asked_wish a = if a.page_request then url_wish a.config.settings.tags a.url else wish.NoPage

-- the change in what is asked for
abbrev pub change_in : BoardWish → Option TagChange
change_in wish.Index = None
change_in wish.Show = None
change_in (wish.Change change) = Some change
change_in wish.Other = None
change_in wish.NoPage = None

-- the change that a request wants: of a declared tag, by the proxy's own URL, and by a page request
abbrev pub wanted_change : Asked → Option TagChange
wanted_change a = change_in (asked_wish a)
