use Rattle.std.proofs.Common.{◌≡◌, ◌∙◌, ap, rules}
use Rattle.std.specs.Prelude.{IsTrue}
use Rattle.px_config.specs.declared.sets.TheConstants.{FILE_LIMIT}
use Rattle.px_config.specs.Gathering.{with_files}
use Rattle.px_config.proofs.GatherLemmas.{files_append, files_same}
use Rattle.px_config.proofs.gathering.read_listed.Goals as goal

pub returns-clause-items : goal.returns-clause-items
returns-clause-items g c = λ tells.
    let before = (g.F.Files.state c.args.files.now).contents in
    let now = (g.F.Files.state c.read_files.new.files).contents in
    let places = c.args.places.now in
    let told : IsTrue (g.F.Files.state c.read_files.new.files).tells = c.in_ok-read_files.ensures.only_reads.tells_same ∙ tells in
    let first : c.read_files.new.items ≡ with_files FILE_LIMIT before places.confdir c.args.items.now places.action_files = search rules in
    let second : c.read_files-2.new.items ≡ with_files FILE_LIMIT now places.confdir c.read_files.new.items places.filter_files = search rules in
    second
    ∙ files_same FILE_LIMIT before now places.confdir c.read_files.new.items places.filter_files (c.in_ok-read_files.ensures.only_reads.unchanged tells)
    ∙ ap (λ i. with_files FILE_LIMIT before places.confdir i places.filter_files) first
    ∙ files_append FILE_LIMIT before places.confdir c.args.items.now places.action_files places.filter_files

pub returns-clause-fits : goal.returns-clause-fits
returns-clause-fits g c = λ all. c.in_ok-read_files-2.ensures.fits (c.in_ok-read_files.ensures.fits all)
