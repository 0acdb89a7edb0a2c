use Rattle.std.proofs.Common.{◌≡◌, false, drop, None}
use Rattle.px_framing.specs.Rules.{length_rule, lengths, field_values, lengths_name}
use Rattle.px_framing.proofs.RuleLemmas.{finish}
use Rattle.px_framing.proofs.rules.read_lengths.Given as goal

abbrev pub invariant-loop-field : goal.invariant-loop-field
invariant-loop-field l = record {
  rule : length_rule l.other (lengths (field_values lengths_name l.fields)) ≡ finish l.other l.seen.first l.seen.differ (lengths (field_values lengths_name (drop l.field-index l.fields)));
  none : l.seen.first ≡ None → l.seen.differ ≡ false;
}
