use Rattle.std.proofs.Common.{rules}
use Rattle.std.specs.Prelude.{not}
use Rattle.std.specs.Str.{bytes_eq}
use Rattle.std.proofs.lemmas.Fn.{filter_same}
use Rattle.px_kept_files.specs.declared.stores.AskedFile.{AskedFile}
use Rattle.px_kept_files.proofs.stores.forget.Goals as goal

pub returns-clause-others : goal.returns-clause-others
returns-clause-others c = filter_same _ (λ (v : AskedFile). not (bytes_eq v.name c.args.name.now)) _ (λ x r f' k. search rules) _ _ c.retain.ensures.filtered
