-- Forward lines that are added.
use Rattle.std.proofs.Common.{◌≡◌, ℕ, List, ◌++◌, [], ◌∷◌, Result, Ok, Err, refl, sym, ap}
use Rattle.px_action_files.specs.Faults.{IsReported, refused}
use Rattle.px_decide.specs.Forwards.{AddsLine, IsForwardRefusal, Line as ForwardLine}
use Rattle.px_decide.specs.declared.faults.ForwardFault.{ForwardFault}
use Rattle.px_decide.specs.declared.faults.ForwardFault.TheVariants as forwarding
use Rattle.px_config.specs.Mains.{seen_fault, with_forward}
use Rattle.px_config.specs.declared.mains.Main.{Main}

pub forward_added : (line : ℕ) (m : Main) (meaning : Result ForwardLine ForwardFault) (new : List ForwardLine) → AddsLine m.forwards meaning new → with_forward line m meaning ≡ Ok (record m { forwards = new })
forward_added line m (Ok forward) new is = ap (λ l. Ok (record m { forwards = l })) (sym is)
forward_added line m (Err fault) new is = absurd is

pub forward_refused : (line : ℕ) (m : Main) (meaning : Result ForwardLine ForwardFault) (f : ForwardFault) → IsForwardRefusal meaning f → IsReported (with_forward line m meaning) (seen_fault line f)
forward_refused line m meaning forwarding.Bad is = rw is refl
forward_refused line m meaning (forwarding.Pattern number) is = rw is refl
forward_refused line m meaning forwarding.Mem is = tt

pub ruleset forward_rules = (forward_added, forward_refused)
