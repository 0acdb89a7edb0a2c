use Rattle.std.proofs.Common.{◌≡◌, ◌++◌, length}
use Rattle.std.specs.Prelude.{IsTrue, filter_map}
use Rattle.std.specs.List.{list_all}
use Rattle.px_fields.specs.FieldLines.{read_field}
use Rattle.px_actions.specs.Kinds.{entry_of}
use Rattle.px_actions.specs.Rules.{keeps_rule}
use Rattle.px_actions.specs.declared.kinds.Kind.TheVariants.{AddHeader}
use Rattle.px_headers.proofs.client_rows.add_fields.Given as goal

abbrev pub invariant-values : goal.invariant-values
invariant-values l = record {
  more : l.more ++ filter_map read_field l.rest ≡ l.fn.fields ++ filter_map read_field l.values;
  kept : IsTrue (list_all (keeps_rule (entry_of AddHeader).rule) l.rest);
}

abbrev pub decreases-values : goal.decreases-values
decreases-values l = length l.rest
