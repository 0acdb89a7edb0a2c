use Rattle.std.proofs.Common.{Some, ap, get_or, sym, ◌∙◌}
use Rattle.px_filter_files.specs.Headings.{Key}
use Rattle.px_filter_files.proofs.FindLemmas.{found_at, found_none}
use Rattle.px_filter_files.proofs.filters.Filters.find.Goals as goal

pub returns-in-Some : goal.returns-in-Some
returns-in-Some c =
    let key : Key = record { kind = c.args.kind; name = c.args.name.now } in
    let filter = c.index-as_slice-at.result in
    ap (λ fs. Some (get_or fs c.in-Some.at filter).filter) c.as_slice.ensures
    ∙ sym (found_at c.args.self.now key c.in-Some.at filter c.in-Some.ensures.place c.in-Some.ensures.within)

pub returns-in-None : goal.returns-in-None
returns-in-None c =
    let key : Key = record { kind = c.args.kind; name = c.args.name.now } in
    sym (found_none c.args.self.now key c.in-None.ensures.place)
