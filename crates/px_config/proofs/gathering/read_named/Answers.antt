use Rattle.std.proofs.Common.{◌≡◌, ◌++◌, rules}
use Rattle.px_config.specs.Gathering.{ReadsOneOf, named_items, names_behind}
use Rattle.px_config.specs.Names.{template_names}
use Rattle.px_config.specs.Sets.{all_included}
use Rattle.px_config.proofs.GatherLemmas.{reads_right}
use Rattle.px_config.proofs.gathering.read_named.Goals as goal

pub returns-clause-fits : goal.returns-clause-fits
returns-clause-fits g c = λ all. c.in_ok-read_included.ensures.fits (c.in_ok-read_templates.ensures.fits (c.in_ok-read_listed.ensures.fits all))

pub returns-in_err-read_included-clause-named : goal.returns-in_err-read_included-clause-named
unfolding named_items names_behind
returns-in_err-read_included-clause-named g c = λ tells one.
    let contents = (g.F.Files.state c.args.files.now).contents in
    let main = c.args.main.now in
    let places = c.args.places.now in
    let fault = c.in_err-read_included.field-0.0 in
    let items : c.read_templates.new.items ≡ named_items contents main places = search rules in
    let named : ReadsOneOf (all_included (named_items contents main places) places.templdir) fault = search rules in
    let behind : ReadsOneOf (names_behind contents main places) fault = reads_right (places.action_files ++ places.filter_files) _ fault (reads_right template_names _ fault named) in
    search (rules, behind)
