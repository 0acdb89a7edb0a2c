use Rattle.std.proofs.Common.{◌≡◌, take, fold, unwrap_or}
use Rattle.px_headers.specs.Filtering.{run_header_filter}
use Rattle.px_headers.proofs.filtering.run_all.Given as goal

abbrev pub invariant-loop-name : goal.invariant-loop-name
invariant-loop-name l = record {
  value : unwrap_or l.done l.text ≡ fold (run_header_filter l.fn.warm l.kind l.vars) l.text (take l.name-index l.names);
  same : l.warm ≡ l.fn.warm;
}
