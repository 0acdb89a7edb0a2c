-- Forward lines as they are kept.
use Rattle.std.specs.Prelude.{Bool, is_some, option_map}
use Rattle.px_patterns.specs.declared.faults.PatternFault.{PatternFault}
use Rattle.px_patterns.specs.declared.faults.PatternFault.TheVariants as pattern
use Rattle.px_patterns.specs.Faults.{pattern_fault_number}
use Rattle.px_actions.specs.Hops.{NextHop, direct, parent}
use Rattle.px_decide.specs.declared.faults.ForwardFault.{ForwardFault}
use Rattle.px_decide.specs.declared.faults.ForwardFault.TheVariants as fault
use Rattle.px_decide.specs.declared.forwards.ForwardLine.{ForwardLine}
use Rattle.px_decide.specs.declared.forwards.ForwardNext.{ForwardNext}
use Rattle.px_decide.specs.declared.forwards.ForwardNext.TheVariants as next
use Rattle.px_decide.specs.Forwards.{Line}
use Rattle.px_decide.specs.Servers.{kept_server}

abbrev pub next_of : ForwardNext → NextHop
next_of next.Direct = direct
next_of (next.Parent host port) = parent host port

abbrev pub forward_line_of : ForwardLine → Line
forward_line_of l = record { pattern = l.pattern; server = option_map kept_server l.server; hop = next_of l.next }

-- the line has a SOCKS server
abbrev pub keeps_server : ForwardLine → Bool
keeps_server l = is_some l.server

-- the refusal of a line whose pattern is refused so
abbrev pub forward_fault_of : PatternFault → ForwardFault
forward_fault_of pattern.Mem = fault.Mem
forward_fault_of refusal = fault.Pattern (pattern_fault_number refusal)
