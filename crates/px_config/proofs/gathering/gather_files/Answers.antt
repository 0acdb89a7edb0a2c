use Rattle.std.proofs.Common.{◌≡◌, ℕ, List, Ok, IfOk, IfErr, ◌∙◌, ap, rules, subst, sym}
use Rattle.std.specs.Prelude.{IsTrue}
use Rattle.px_base.specs.Contents.{Contents, content_of}
use Rattle.px_config.specs.declared.sets.FileSet.{FileSet}
use Rattle.px_config.specs.declared.sets.TheConstants.{FILE_LIMIT}
use Rattle.px_config.specs.Gathering.{ReadsOneOf, names_with_lists, set_behind}
use Rattle.px_config.specs.Names.{places_of}
use Rattle.px_config.specs.Parts.{content_lines}
use Rattle.px_config.proofs.GatherLemmas.{contents_same, gathered_behind, names_of_result}
use Rattle.px_config.proofs.gathering.gather_files.Goals as goal

pub returns-in-Ok-clause-set : goal.returns-in-Ok-clause-set
returns-in-Ok-clause-set g c = λ tells.
    let main = c.args.main.now in
    let content = c.in_ok-content.content in
    let lines = c.in-Ok.lines in
    let before = (g.F.Files.state c.args.files.now).contents in
    let now = (g.F.Files.state c.read_content.new.files).contents in
    let same : now ≡ before = contents_same (c.in_ok-content.ensures.only_reads.unchanged tells) in
    let told : IsTrue (g.F.Files.state c.read_content.new.files).tells = c.in_ok-content.ensures.only_reads.tells_same ∙ tells in
    let whole : content ≡ content_of FILE_LIMIT (before main) = c.in_ok-content.ensures.content tells in
    let name = c.as_bytes-in-Ok.result.now in
    let named : name ≡ main = search rules in
    let still : content ≡ content_of FILE_LIMIT (now name) =
    whole ∙ ap (λ k. content_of FILE_LIMIT (k main)) (sym same) ∙ ap (λ n. content_of FILE_LIMIT (now n)) (sym named) in
    let read : content_lines content ≡ Ok lines = c.in-Ok.ensures.lines in
    let S : Contents → List ℕ → FileSet = λ k n. set_behind k n (places_of n lines) in
    subst (λ set. IfOk c.read_behind.result (λ x. x.set ≡ set)) (ap (S now) named ∙ ap (λ k. S k main) same ∙ sym (gathered_behind before main content whole lines read)) (c.read_behind.ensures.set told still)

pub returns-in-Ok-clause-named : goal.returns-in-Ok-clause-named
returns-in-Ok-clause-named g c = λ tells.
    let main = c.args.main.now in
    let content = c.in_ok-content.content in
    let lines = c.in-Ok.lines in
    let before = (g.F.Files.state c.args.files.now).contents in
    let now = (g.F.Files.state c.read_content.new.files).contents in
    let same : now ≡ before = contents_same (c.in_ok-content.ensures.only_reads.unchanged tells) in
    let told : IsTrue (g.F.Files.state c.read_content.new.files).tells = c.in_ok-content.ensures.only_reads.tells_same ∙ tells in
    let whole : content ≡ content_of FILE_LIMIT (before main) = c.in_ok-content.ensures.content tells in
    let name = c.as_bytes-in-Ok.result.now in
    let named : name ≡ main = search rules in
    let still : content ≡ content_of FILE_LIMIT (now name) =
    whole ∙ ap (λ k. content_of FILE_LIMIT (k main)) (sym same) ∙ ap (λ n. content_of FILE_LIMIT (now n)) (sym named) in
    let read : content_lines content ≡ Ok lines = c.in-Ok.ensures.lines in
    let N : Contents → List ℕ → List (List ℕ) = λ k n. names_with_lists k n (places_of n lines) in
    let one : IfErr c.read_behind.result (ReadsOneOf (N before main)) =
    subst (λ names. IfErr c.read_behind.result (ReadsOneOf names)) (ap (N now) named ∙ ap (λ k. N k main) same) (c.read_behind.ensures.named told still) in
    names_of_result before main content whole lines c.read_behind.result read one
