use Rattle.std.proofs.Common.{◌≡◌, Ok, IfOk, IfErr, subst}
use Rattle.px_config.specs.Loading.{IsLoadFault}
use Rattle.px_config.specs.Spelling.{seen_config, spelled}
use Rattle.px_config.proofs.FaultLemmas.{load_fault}
use Rattle.px_config.proofs.GatherLemmas.{main_of_set}
use Rattle.px_config.proofs.spelling.load.Goals as goal

pub returns-clause-config : goal.returns-clause-config
returns-clause-config g c = λ tells.
    let contents = (g.F.Files.state c.args.files.now).contents in
    let main = c.args.main.now in
    let read = c.in_ok-set.field-0 in
    let same = c.in_ok-set.ensures.set tells in
    let file = main_of_set contents main read.set read.main same (c.in_ok-set.ensures.file tells) in
    subst (λ s. IfOk c.spell_with.result (λ config. spelled s ≡ Ok (seen_config config))) same (c.spell_with.ensures.config file)

pub returns-clause-refused : goal.returns-clause-refused
returns-clause-refused g c = λ tells.
    let contents = (g.F.Files.state c.args.files.now).contents in
    let main = c.args.main.now in
    let read = c.in_ok-set.field-0 in
    let same = c.in_ok-set.ensures.set tells in
    let file = main_of_set contents main read.set read.main same (c.in_ok-set.ensures.file tells) in
    subst (λ s. IfErr c.spell_with.result (IsLoadFault (spelled s))) same (load_fault c.spell_with.result (spelled read.set) (c.spell_with.ensures.refused file))
