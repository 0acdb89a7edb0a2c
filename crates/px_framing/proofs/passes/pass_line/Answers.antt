use Rattle.std.proofs.Common.{◌≡◌, ℕ, List, ◌+◌, [], ◌++◌, take, sym, ap, subst, arith}
use Rattle.std.proofs.lemmas.List.{nil_from_length}
use Rattle.std.proofs.lemmas.Bool.Decides.{nat_tests}
use Rattle.px_framing.specs.Passing.{Goes}
use Rattle.px_framing.proofs.HeldLemmas.{held-after, goes-line}
use Rattle.px_framing.proofs.passes.pass_line.Goals as goal

pub returns-in-Some-clause-step : goal.returns-in-Some-clause-step
returns-in-Some-clause-step c =
    let none : c.args.kept.now.items ≡ [] = nil_from_length _ (grind (arith, nat_tests)) in
    let k = c.args.kept.now.items in
    let line = c.in-Some.line in
    let bytes = take (line.text_len + 2) c.args.rest.now in
    record {
      used = (omega arith, c.in-Some.ensures.within);
      held = held-after c.args.place line.next _ k c.in-Some.ensures.next_is none;
      goes = subst (λ (w : List ℕ). Goes c.args.place k bytes w line.next k) (ap (λ (w : List ℕ). w ++ bytes) (sym none))
          (goes-line c.args.place line.next k k _ bytes c.requires.line c.in-Some.ensures.stands none none c.in-Some.ensures.text_and_end c.in-Some.ensures.next_is);
      fresh = λ e. none;
      grows = λ e more. absurd (cc);
    }
