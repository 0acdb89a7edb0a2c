-- The pages of a board of client tags, and which takings give them.
use Rattle.std.specs.Prelude.{◌≡◌, ◌≢◌, ℕ, ◌-◌, ◌<◌, ◌⊎◌, true, false, List, ◌++◌, length, filter, Option, None, Some, IsSome, codes, decimal, ⊤}
use Rattle.std.specs.List.{flat_map, list_all}
use Rattle.px_patterns.specs.declared.urls.Url.{Url}
use Rattle.px_tag_board.specs.Tags.{Tags, are_distinct_tags, is_worn}
use Rattle.px_tag_board.specs.States.{BoardState, worn_by}
use Rattle.px_tag_board.specs.Chains.{state_at}
use Rattle.px_tag_board.specs.Answers.{IsFull}
use Rattle.px_tag_board.specs.Seats.{SeatState}
use Rattle.px_tag_board.specs.declared.answers.TheConstants.{ENTRY_LIMIT}
use Rattle.px_tag_board.specs.declared.changes.TagChange.{TagChange}
use Rattle.px_tag_board.specs.declared.changes.TagChange.TheVariants.{Wear, Shed}
use Rattle.px_config.specs.Insides.{Asked, InsideState}
use Rattle.px_config.specs.declared.configs.Config.{Config}
use Rattle.px_config.specs.declared.insides.InsidePage.{InsidePage}
use Rattle.px_config.specs.declared.insides.Taking.{Taking}
use Rattle.px_pages.specs.Pages.{found_page, index_text, inside_page, missing_page}
use Rattle.px_pages.specs.Wishes.{asked_wish, is_declared, wanted_change}
use Rattle.px_pages.specs.declared.wishes.BoardWish.{BoardWish}
use Rattle.px_pages.specs.declared.wishes.BoardWish.TheVariants as wish

-- ---- the pages

-- the tags that clients may have, of those that one wears
abbrev pub declared_of : Tags → Tags → Tags
declared_of declared tags = filter (is_declared declared) tags

-- a line for each tag
unfoldable pub tag_lines : Tags → List ℕ
tag_lines tags = flat_map (λ tag. tag ++ codes "\n") tags

abbrev pub tags_page : Tags → InsidePage
tags_page tags = found_page (codes "tags:\n" ++ tag_lines tags)

-- which pages there are, the board's own included
abbrev pub board_index : InsidePage
board_index = found_page (index_text ++ codes "/client-tags\n")

-- the page of a board that has no room for a change
unfoldable pub full_page : InsidePage
full_page = missing_page (codes "full\n" ++ decimal ENTRY_LIMIT ++ codes " changes were made, and no more are taken until the proxy is started again\n")

-- the page of what is asked for, for a client with these tags
abbrev pub wish_page : Config → ℕ → Url → Tags → BoardWish → Option InsidePage
wish_page config number url tags wish.Index = Some board_index
wish_page config number url tags wish.Show = Some (tags_page tags)
wish_page config number url tags (wish.Change change) = Some (tags_page tags)
wish_page config number url tags wish.Other = inside_page config number url tags
wish_page config number url tags wish.NoPage = None

-- the page of a request by a client with these tags
abbrev pub board_page : Asked → Tags → Option InsidePage
board_page a tags = wish_page a.config a.number a.url tags (asked_wish a)

-- ---- takings

-- declared tags, none of them twice, and the page of just these tags; where it is another one, a change is wanted, and it says that there
-- is no room
pub record BoardLaw (a : Asked) (t : Taking) : Type 0 where
  pub declared : list_all (is_declared a.config.settings.tags) t.tags ≡ true
  pub once : are_distinct_tags t.tags ≡ true
  pub page : t.page ≢ board_page a t.tags → (t.page ≡ Some full_page) × IsSome (wanted_change a)

-- a tag that was to be put on is worn, and one that was to be taken off isn't
abbrev pub ShowsChange : Option TagChange → Tags → Type 0
ShowsChange None worn = ⊤
ShowsChange (Some (Wear tag)) worn = is_worn worn tag ≡ true
ShowsChange (Some (Shed tag)) worn = is_worn worn tag ≡ false

-- the page of a taking where the client wears these tags: what is wanted shows in them, or there is no room for it
abbrev pub PageFits : BoardState → Asked → Taking → Type 0
PageFits state a t =
    ((t.page ≡ board_page a t.tags) × ShowsChange (wanted_change a) (worn_by a.peer state))
    ⊎ ((t.page ≡ Some full_page) × IsFull state (wanted_change a) (worn_by a.peer state))

-- a taking of a state that was seen: the declared ones of the tags that the client's address wears there, and the page
pub record FitsSeen (seen : List BoardState) (a : Asked) (t : Taking) : Type 0 where
  pub within : t.place < length seen
  pub tags : t.tags ≡ declared_of a.config.settings.tags (worn_by a.peer (state_at seen t.place))
  pub page : PageFits (state_at seen t.place) a t

-- what contracts see of pages over a seat: its view, and the changes that it made
abbrev pub seat_state : SeatState → InsideState
seat_state seat = record { fits = FitsSeen seat.seen; steady = false; place = length seat.seen - 1; changes = seat.made; log = None }
