use Rattle.std.proofs.Common.{◌≡◌, ◌∙◌, ℕ, List, ap}
use Rattle.std.specs.Prelude.{IsTrue}
use Rattle.px_config.specs.declared.sets.FileSet.{FileSet}
use Rattle.px_config.specs.Gathering.{all_items, all_lists, set_behind}
use Rattle.px_config.specs.Sets.{Item}
use Rattle.px_config.proofs.GatherLemmas.{contents_same}
use Rattle.px_config.proofs.gathering.read_behind.Goals as goal

pub returns-clause-set : goal.returns-clause-set
returns-clause-set g c = λ tells is.
    let before = (g.F.Files.state c.args.files.now).contents in
    let main = c.args.main.now in
    let places = c.in_ok-file.file.places in
    let reads = c.in_ok-items.ensures.only_reads in
    let told : IsTrue (g.F.Files.state c.read_items.new.files).tells = reads.tells_same ∙ tells in
    let items : c.in_ok-items.items ≡ all_items before main places = c.in_ok-items.ensures.items tells is in
    let lists : c.in_ok-lists.lists ≡ all_lists before places = c.in_ok-lists.ensures.lists told ∙ ap (λ k. all_lists k places) (contents_same (reads.unchanged tells)) in
    let S : List ℕ → List Item → List Item → FileSet = λ m i l. record { main = m; items = i; lists = l } in
    ap (λ m. S m c.in_ok-items.items c.in_ok-lists.lists) c.in_ok-main.ensures
    ∙ ap (λ i. S main i c.in_ok-lists.lists) items
    ∙ ap (S main (all_items before main places)) lists
    ∙ ap (set_behind before main) c.in_ok-file.ensures.places
