use Rattle.std.proofs.Common.{◌≡◌, List, ℕ, rules, add-one, subst, take}
use Rattle.std.proofs.lemmas.List.{take_all}
use Rattle.px_log_lines.specs.Lines.{Keeps, shown_bytes}
use Rattle.px_log_lines.proofs.LineLemmas.{escaped_more, keeps_none, keeps_then}
use Rattle.px_log_lines.proofs.escapes.push_escaped.Goals as goal

pub loop-byte-init : goal.loop-byte-init
unfolding shown_bytes
loop-byte-init c = keeps_none _

pub loop-byte-preserved : goal.loop-byte-preserved
loop-byte-preserved c =
    rw (add-one c.loop-byte.byte-index) (subst (λ (zs : List ℕ). Keeps c.args.out.now c.push_byte.new.out zs) (escaped_more c.args.bytes.now c.loop-byte.byte-index (search rules)) (keeps_then c.loop-byte.invariant c.push_byte.ensures))

pub returns : goal.returns
returns c =
    let all : take c.loop-byte.byte-index c.args.bytes.now ≡ c.args.bytes.now = take_all c.loop-byte.byte-index c.args.bytes.now (search rules) in
    rw all at c.loop-byte.invariant
