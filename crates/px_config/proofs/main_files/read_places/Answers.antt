use Rattle.std.proofs.Common.{◌≡◌, ◌∷◌, [], IfOk, arith, rules, subst}
use Rattle.std.proofs.lemmas.Grind.{common_steps}
use Rattle.px_config.specs.Directives.{name_in, value_in}
use Rattle.px_config.specs.MainFiles.{places_with, with_named}
use Rattle.px_config.specs.Names.{places_of}
use Rattle.px_config.proofs.MainFileLemmas.{walks_begin, walks_more, walks_places}
use Rattle.px_config.proofs.main_files.read_places.Goals as goal

pub lines-init : goal.lines-init
lines-init c = walks_begin _ _ c.begin-named.ensures

pub lines-preserved : goal.lines-preserved
lines-preserved c =
    let line = c.in-Some.line.now in
    let name = c.split_directive.result.0.now in
    let value = c.split_directive.result.1.now in
    let first : c.lines.rest.now ≡ line ∷ c.in-Some.others.now = search rules in
    let named : name ≡ name_in line.text = search rules in
    let valued : value ≡ value_in line.text = search rules in
    let after : c.add.new.self ≡ with_named name value c.lines.named = search rules in
    walks_more {line = line} c.lines.invariant first named valued after

pub returns : goal.returns
returns c =
    let ends : c.lines.rest.now ≡ [] = grind (arith, common_steps) in
    let placed : places_with c.args.file.now c.lines.named ≡ places_of c.args.file.now c.args.lines.now = walks_places c.args.file.now c.lines.invariant ends in
    subst (λ p. IfOk c.into_places.result (λ places. places ≡ p)) placed c.into_places.ensures
