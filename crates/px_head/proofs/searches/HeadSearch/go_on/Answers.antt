use Rattle.std.proofs.Common.{◌≡◌, ℕ, List, Option, length, ltb, refl, sym, ap, ◌∙◌, subst}
use Rattle.px_head.specs.Blocks.{head_end, head_block_end, block_len}
use Rattle.px_head.specs.Searches.{HasPassed, SearchedOrAnew}
use Rattle.px_head.specs.declared.blocks.HeadEnd.{HeadEnd}
use Rattle.px_head.proofs.BlockLemmas.{head-end-is, head-end-block, head-end-within, head-end-found, head-end-stable}
use Rattle.px_head.proofs.SearchLemmas.{begins-passed, searched-or-anew}
use Rattle.px_head.proofs.searches.HeadSearch.go_on.Goals as goal

pub pass_lines-requires : goal.pass_lines-requires
pass_lines-requires c =
    subst (λ (window : List ℕ). HasPassed window c.args.self.now) (sym c.front.ensures) (begins-passed c.args.limit c.args.bytes.now c.args.self.now c.requires)

-- what is computed is the definition
is : (c : goal.After-end_of) → c.end_of.result ≡ head_end c.args.limit c.args.bytes.now
is c =
    c.end_of.ensures ∙ ap (λ (o : Option ℕ). head_block_end o (ltb (length c.args.bytes.now) c.args.limit)) (c.pass_lines.ensures.value ∙ ap block_len c.front.ensures) ∙ head-end-is c.args.limit c.args.bytes.now _ refl

pub returns-clause-value : goal.returns-clause-value
returns-clause-value c = is c

pub returns-clause-within : goal.returns-clause-within
returns-clause-within c = head-end-within c.args.limit c.args.bytes.now c.end_of.result (sym (is c))

pub returns-clause-block : goal.returns-clause-block
returns-clause-block c n at = head-end-block c.args.limit c.args.bytes.now n (sym (is c) ∙ at)

pub returns-clause-found : goal.returns-clause-found
returns-clause-found c front rest bytes fits block =
    is c ∙ ap (head_end c.args.limit) bytes ∙ head-end-found c.args.limit front rest fits block

pub returns-clause-stable : goal.returns-clause-stable
returns-clause-stable c more settled =
    head-end-stable c.args.limit c.args.bytes.now more (λ not_yet. settled (is c ∙ not_yet)) ∙ sym (is c)

pub returns-clause-searched : goal.returns-clause-searched
returns-clause-searched c =
    let at = c.pass_lines.ensures in
    let window = c.front.ensures in
    subst (λ (end : HeadEnd). SearchedOrAnew c.args.limit c.args.bytes.now end c.pass_lines.new.self) (sym c.end_of.ensures)
    (searched-or-anew c.args.limit c.args.bytes.now c.pass_lines.result _ c.pass_lines.new.self (rw window at at.passed) (rw window at at.looked) at.anew)
