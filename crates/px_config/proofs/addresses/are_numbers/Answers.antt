use Rattle.std.proofs.Common.{arith, sym, ◌∙◌, ap, rules}
use Rattle.px_config.proofs.AddressLemmas.{five_parts}
use Rattle.px_config.proofs.addresses.are_numbers.Goals as goal

pub returns-in_default-Some : goal.returns-in_default-Some
returns-in_default-Some c =
    let first = rw c.in-Some.is at c.cut.ensures.parts in
    let second = rw c.in-Some-behind.is at c.cut-2.ensures.parts in
    let third = rw c.in-Some-behind-2.is at c.cut-3.ensures.parts in
    let fourth = rw c.in_default-Some.is-1 at c.cut-4.ensures.parts in
    search (rules, five_parts, first, second, third, fourth)
