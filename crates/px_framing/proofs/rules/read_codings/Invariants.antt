use Rattle.std.proofs.Common.{◌≡◌, false, drop, flat_map}
use Rattle.px_framing.specs.Rules.{items_of, field_values, codings_name, codings_of}
use Rattle.px_framing.specs.Seen.{seen_all}
use Rattle.px_framing.proofs.rules.read_codings.Given as goal

abbrev pub invariant-loop-field : goal.invariant-loop-field
invariant-loop-field l =
    seen_all (record { any = false; alone = false; last = false }) (codings_of l.fields) ≡ seen_all l.seen (flat_map items_of (field_values codings_name (drop l.field-index l.fields)))
