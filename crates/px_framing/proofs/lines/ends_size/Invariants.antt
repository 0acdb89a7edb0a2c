use Rattle.std.proofs.Common.{◌≡◌, drop}
use Rattle.px_base.specs.Blanks.{is_blank}
use Rattle.px_framing.specs.Lines.{behind_while}
use Rattle.px_framing.proofs.lines.ends_size.Given as goal

abbrev pub invariant-loop-i : goal.invariant-loop-i
invariant-loop-i l = behind_while is_blank (drop l.i l.bytes) ≡ behind_while is_blank l.bytes
