use Rattle.std.specs.List.{list_any}
use Rattle.std.specs.Str.{str_eq_ignore_ascii_case}
use Rattle.std.proofs.lemmas.Bool.{or_left, or_right}
use Rattle.px_patterns.specs.Hosts.{has_label, host_labels}
use Rattle.px_merge.proofs.labels.host_key.Goals as goal

pub returns-in-Label : goal.returns-in-Label
returns-in-Label c = λ host fits.
    let text = c.rarest.result.now in
    or_right (str_eq_ignore_ascii_case text host) (list_any (str_eq_ignore_ascii_case text) (host_labels host))
    (c.rarest.ensures (has_label host) (c.in-Label.ensures.keeps host fits) (λ at label stands. c.labels.ensures.keeps at label host stands fits))

pub returns-in-Address : goal.returns-in-Address
returns-in-Address c = λ host fits.
    let text = c.in-Address.text.now in
    or_left (str_eq_ignore_ascii_case text host) (list_any (str_eq_ignore_ascii_case text) (host_labels host)) (c.in-Address.ensures.keeps host fits)
