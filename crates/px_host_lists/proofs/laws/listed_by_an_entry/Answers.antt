use Rattle.px_host_lists.proofs.ListedLemmas.{listed-any}
use Rattle.px_host_lists.proofs.laws.listed_by_an_entry.Goals as goal

pub returns : goal.returns
returns c = listed-any
