use Rattle.px_socks.proofs.ReplyLemmas.{prefix_free}
use Rattle.px_socks.proofs.laws.accepted_bytes_are_prefix_free.Goals as goal

pub returns : goal.returns
returns c = prefix_free
