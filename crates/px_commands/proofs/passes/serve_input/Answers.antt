use Rattle.std.proofs.Common.{refl, ap, sym, ◌∙◌, []}
use Rattle.px_base.specs.Dials.{DialerState, finished_links}
use Rattle.px_commands.specs.Sents.{sent_text}
use Rattle.px_commands.proofs.PassLemmas.{has_served, has_served_through, is_fixed}
use Rattle.px_commands.proofs.passes.serve_input.Goals as goal

pub returns-then-socks-clause-served : goal.returns-then-socks-clause-served
returns-then-socks-clause-served g c =
    let client = c.in-Ok.ensures in
    let session = c.serve_client-end.ensures in
    rw c.served_session.ensures.end (has_served_through {made = c.served_session.result.sent} c.serve_client-end.result.dialer session.serves client.tags
    (c.new-outer.ensures.made ∙ ap (λ (d : DialerState). record { inner = d; notes = []; names = 0; reach = 0; link_reads = 0; link_writes = 0; opened = 0; hung_up = 0 }) c.in-Ok-new.ensures.state) client.sharing
    (is_fixed refl client.view client.coming)
    (λ x made. (rw made at c.served_session.ensures.sent) ∙ ap (λ (d : DialerState). sent_text (finished_links d.dials)) c.into_inner-inner.ensures.inner)
    c.into_inner-inner.ensures.handshakes (sym c.has_socks-socks.ensures ∙ c.if-socks.true))

pub returns-else-socks-clause-served : goal.returns-else-socks-clause-served
returns-else-socks-clause-served g c =
    let client = c.in-Ok.ensures in
    let session = c.serve_client-end-else-socks.ensures in
    rw c.served_session-else-socks.ensures.end (has_served {made = c.served_session-else-socks.result.sent} _ session.serves client.tags c.in-Ok-new.ensures.state client.sharing (is_fixed refl client.view client.coming)
    (λ x made. rw made at c.served_session-else-socks.ensures.sent) (sym c.has_socks-socks.ensures ∙ c.if-socks.false))
