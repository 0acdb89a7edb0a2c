-- Takings of a board are lawful, and fit.
use Rattle.std.proofs.Common.{◌≡◌, ◌≢◌, ℕ, ◌+◌, ◌-◌, ◌<◌, ◌⊎◌, Bool, true, false, if◌then◌else◌, List, [], ◌∷◌, filter, length, Option, Some, None, IsSome, Result, Ok, Err, IfOk, refl, sym, ap, subst, ◌∙◌, inl, inr, arith}
use Rattle.std.specs.List.{list_all}
use Rattle.px_tag_board.specs.declared.answers.Worn.{Worn}
use Rattle.px_tag_board.specs.declared.changes.TagChange.{TagChange}
use Rattle.px_tag_board.specs.declared.changes.TagChange.TheVariants.{Wear, Shed}
use Rattle.px_tag_board.specs.Tags.{Tags, are_distinct_tags}
use Rattle.px_tag_board.specs.States.{BoardState, worn_by}
use Rattle.px_tag_board.specs.Chains.{state_at, newest_of}
use Rattle.px_tag_board.specs.Answers.{IsWorn, IsChangeSettled, IsFull, WouldAlter}
use Rattle.px_tag_board.specs.Seats.{SeatState}
use Rattle.px_tag_board.proofs.TagLemmas.{distinct_filtered, worn_where_settled, shed_where_settled}
use Rattle.px_tag_board.proofs.StateLemmas.{worn_distinct}
use Rattle.px_config.specs.Insides.{Asked, GivesTaking}
use Rattle.px_config.specs.declared.insides.Taking.{Taking}
use Rattle.px_pages.specs.Wishes.{asked_wish, change_in, is_declared, url_wish, wanted_change}
use Rattle.px_pages.specs.Boards.{BoardLaw, PageFits, ShowsChange, board_page, declared_of, full_page, seat_state, wish_page}
use Rattle.px_pages.specs.declared.wishes.BoardWish.{BoardWish}
use Rattle.px_pages.specs.declared.wishes.BoardWish.TheVariants as wish

all_kept : (p : List ℕ → Bool) (tags : Tags) → list_all p (filter p tags) ≡ true
all_kept p [] = refl
all_kept p (t ∷ tags) = grind (arith, all_kept p tags)

-- a settled change shows
settled_shows : (change : Option TagChange) (worn : Tags) → IsChangeSettled change worn → ShowsChange change worn
settled_shows None worn h = tt
settled_shows (Some (Wear tag)) worn h = worn_where_settled worn tag h
settled_shows (Some (Shed tag)) worn h = shed_where_settled worn tag h

altering_wanted : (change : Option TagChange) (tags : Tags) → WouldAlter change tags → IsSome change
altering_wanted None tags h = absurd h
altering_wanted (Some change) tags h = refl

-- who asks for no page has none, and wants no change
wish_unasked : (a : Asked) → a.page_request ≡ false → asked_wish a ≡ wish.NoPage
wish_unasked a off = ap (λ (b : Bool). if b then url_wish a.config.settings.tags a.url else wish.NoPage) off

page_unasked : (a : Asked) (tags : Tags) → a.page_request ≡ false → board_page a tags ≡ None
page_unasked a tags off = ap (wish_page a.config a.number a.url tags) (wish_unasked a off)

none_unasked : (a : Asked) → a.page_request ≡ false → wanted_change a ≡ None
none_unasked a off = ap change_in (wish_unasked a off)

-- a taking of what is worn, whatever its page
gives_worn : (seat : SeatState) (a : Asked) (worn : Worn) (t : Taking) → IsWorn seat.seen a.peer worn
    → t.place ≡ worn.place → t.tags ≡ declared_of a.config.settings.tags worn.tags
    → (t.page ≢ board_page a t.tags → (t.page ≡ Some full_page) × IsSome (wanted_change a))
    → PageFits (state_at seat.seen worn.place) a t → (a.page_request ≡ false → t.page ≡ None)
    → GivesTaking BoardLaw (seat_state seat) a t
gives_worn seat a worn t is at tags lawful fits unasked =
    let declared = a.config.settings.tags in
    let there : t.tags ≡ declared_of declared (worn_by a.peer (state_at seat.seen t.place)) =
    tags ∙ ap (declared_of declared) (is.tags ∙ ap (λ g. worn_by a.peer (state_at seat.seen g)) (sym at)) in
    let last = is.last in
    record {
      by_law = record {
        declared = ap (list_all (is_declared declared)) tags ∙ all_kept (is_declared declared) worn.tags;
        once = ap are_distinct_tags there ∙ distinct_filtered (is_declared declared) _ (worn_distinct a.peer (state_at seat.seen t.place));
        page = lawful;
      };
      fits = record {
        within = omega (arith, last, at);
        tags = there;
        page = subst (λ g. PageFits (state_at seat.seen g) a t) (sym at) fits;
      };
      place_now = omega (arith, last, at);
      unasked = unasked;
    }

-- one that shows what is worn, once the change is settled that is asked for
pub gives_settled : {E : Type 0} (r : Result Taking E) (seat : SeatState) (a : Asked) (w : BoardWish) (change : Option TagChange) (address : List ℕ) (worn : Worn)
    → w ≡ asked_wish a → change ≡ change_in w → address ≡ a.peer
    → IsWorn seat.seen address worn → IsChangeSettled change worn.tags
    → IfOk r (λ t. t.place ≡ worn.place) → IfOk r (λ t. t.tags ≡ declared_of a.config.settings.tags worn.tags)
    → IfOk r (λ t. t.page ≡ wish_page a.config a.number a.url t.tags w)
    → IfOk r (GivesTaking BoardLaw (seat_state seat) a)
gives_settled (Err e) seat a w change address worn is from named wears settled place tags page = tt
gives_settled (Ok t) seat a w change address worn is from named wears settled place tags page =
    let here = subst (λ x. IsWorn seat.seen x worn) named wears in
    let wanted = subst (λ k. IsChangeSettled k worn.tags) (from ∙ ap change_in is) settled in
    let own : t.page ≡ board_page a t.tags = page ∙ ap (wish_page a.config a.number a.url t.tags) is in
    let shows = subst (ShowsChange (wanted_change a)) here.tags (settled_shows (wanted_change a) worn.tags wanted) in
    gives_worn seat a worn t here place tags (λ other. absurd (other own)) (inl (own, shows)) (λ off. own ∙ page_unasked a t.tags off)

-- one that says that there is no room for the change that is asked for
pub gives_full : {E : Type 0} (r : Result Taking E) (seat : SeatState) (a : Asked) (w : BoardWish) (change : Option TagChange) (address : List ℕ) (worn : Worn)
    → w ≡ asked_wish a → change ≡ change_in w → address ≡ a.peer
    → IsWorn seat.seen address worn × IsFull (newest_of seat.seen) change worn.tags
    → IfOk r (λ t. t.place ≡ worn.place) → IfOk r (λ t. t.tags ≡ declared_of a.config.settings.tags worn.tags)
    → IfOk r (λ t. t.page ≡ Some full_page)
    → IfOk r (GivesTaking BoardLaw (seat_state seat) a)
gives_full (Err e) seat a w change address worn is from named full place tags page = tt
gives_full (Ok t) seat a w change address worn is from named full place tags page =
    let here = subst (λ x. IsWorn seat.seen x worn) named full.0 in
    let newest : newest_of seat.seen ≡ state_at seat.seen worn.place = let last = here.last in ap (state_at seat.seen) (omega (arith, last)) in
    let wanted = subst (λ k. IsFull (newest_of seat.seen) k worn.tags) (from ∙ ap change_in is) full.1 in
    let there = subst (λ s. IsFull s (wanted_change a) worn.tags) newest wanted in
    let fits = subst (IsFull (state_at seat.seen worn.place) (wanted_change a)) here.tags there in
    gives_worn seat a worn t here place tags
    (λ other. (page, altering_wanted (wanted_change a) worn.tags wanted.alters))
    (inr (page, fits))
    (λ off. absurd (subst (λ k. WouldAlter k worn.tags) (none_unasked a off) wanted.alters))
