use Rattle.std.proofs.Common.{subst, sym}
use Rattle.px_base.specs.Contents.{FitsLimit}
use Rattle.px_base.specs.declared.files.Content.{Content}
use Rattle.px_config.specs.declared.sets.TheConstants.{FILE_LIMIT}
use Rattle.px_config.proofs.SetLemmas.{fits_in}
use Rattle.px_config.proofs.contents.file_lines.Goals as goal

pub content_lines-requires : goal.content_lines-requires
content_lines-requires c = subst (λ (x : Content). FitsLimit FILE_LIMIT x) (sym c.in-Some.ensures) (fits_in c.args.items.now c.as_bytes.result.now c.requires)
