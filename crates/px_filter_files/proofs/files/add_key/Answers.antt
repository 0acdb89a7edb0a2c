use Rattle.std.proofs.Common.{◌==◌, ◌&&◌, ◌||◌, false, ap, ◌∙◌, bytes_eq}
use Rattle.std.specs.Option.{option_map_or}
use Rattle.px_filter_files.specs.Headings.{rank, same_key}
use Rattle.px_filter_files.specs.Seen.{has_seen}
use Rattle.px_filter_files.proofs.SeenLemmas.{seen_once_added}
use Rattle.px_filter_files.proofs.files.add_key.Goals as goal

pub returns-in_ok-insert-in-Some : goal.returns-in_ok-insert-in-Some
returns-in_ok-insert-in-Some c = λ key.
    c.in_ok-insert-in-Some.ensures.updates.0 (rank key.kind, record { ref_ptr = (0, 0); now = key.name })
    ∙ seen_once_added c.rank.result (rank key.kind) c.in-Some.name.now key.name (has_seen c.args.seen.now key)
    ∙ ap (λ r. has_seen c.args.seen.now key || (rank key.kind == r && bytes_eq key.name c.in-Some.name.now)) c.rank.ensures
    ∙ ap (λ o. has_seen c.args.seen.now key || option_map_or (same_key key) o false) c.in-Some.ensures
