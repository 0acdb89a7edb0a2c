-- What a map of tags keeps for each address.
use Rattle.std.specs.Prelude.{ℕ, List, Option}
use Rattle.px_tag_board.specs.Tags.{Tags}
use Rattle.px_tag_board.specs.Wearing.{tags_in, worn_in}
use Rattle.px_tag_board.specs.declared.tag_maps.TagMap.{TagMap}

-- the tags that are kept for an address, if any are
abbrev pub kept_tags : TagMap → List ℕ → Option Tags
kept_tags tag_map address = tags_in tag_map.worn address

-- what an address wears; where nothing is kept, nothing
abbrev pub worn : TagMap → List ℕ → Tags
worn tag_map address = worn_in tag_map.worn address
