use Rattle.px_tag_board.proofs.TagMapLemmas.{worn_put}
use Rattle.px_tag_board.proofs.tag_maps.TagMap.put.Goals as goal

pub returns-in-Some : goal.returns-in-Some
returns-in-Some c = λ other. worn_put c.args.address.now c.args.self.now.worn (c.get_mut.follows.lender c.args.tags) c.args.tags ((c.get_mut.follows.holds c.args.tags).3 c.requires) other
