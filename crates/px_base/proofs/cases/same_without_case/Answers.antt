use Rattle.std.proofs.Common.{rules}
use Rattle.std.proofs.lemmas.Slice.Eq.{bytes_eq-Decides}
use Rattle.px_base.proofs.cases.same_without_case.Goals as goal

pub returns : goal.returns
returns c = search (rules, bytes_eq-Decides)
