use Rattle.px_head.proofs.SearchLemmas.{searched-none}
use Rattle.px_head.proofs.searches.HeadSearch.new.Goals as goal

pub returns : goal.returns
returns c limit = searched-none limit
