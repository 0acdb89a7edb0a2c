use Rattle.std.proofs.Common.{◌∙◌, sym, subst, Result}
use Rattle.std.specs.Prelude.{codes, true}
use Rattle.std.proofs.lemmas.Result.{err_from_is_err_and}
use Rattle.px_patterns.specs.declared.faults.UrlFault.{UrlFault}
use Rattle.px_patterns.specs.declared.urls.Url.{Url}
use Rattle.px_patterns.specs.Faults.{IsUrlRefusal}
use Rattle.px_patterns.specs.Urls.{url_of_part}
use Rattle.px_patterns.proofs.UrlLemmas.{authority_bad, authority_behind, authority_ok, authority_refused, authority_whole}
use Rattle.px_patterns.proofs.UrlLaws.{authority_of-is}
use Rattle.px_patterns.proofs.urls.Url.authority.Goals as goal

pub returns-then-has_bad_byte-clause-refused : goal.returns-then-has_bad_byte-clause-refused
returns-then-has_bad_byte-clause-refused c = authority_bad c.args.text.now (sym c.has_bad_byte.ensures ∙ c.if-has_bad_byte.true)

pub returns-in_err-url-clause-refused : goal.returns-in_err-url-clause-refused
returns-in_err-url-clause-refused c =
    let p = err_from_is_err_and c.from_residual.result c.from_residual.ensures.1 in
    let whole = authority_whole c.args.text.now c.split_at.result.0.now c.split_at.result.1.now c.host_end.result (sym c.has_bad_byte.ensures ∙ c.if-has_bad_byte.false) c.host_end.ensures.end c.split_at.ensures.front c.split_at.ensures.back in
    rw (p.1, p.2)
    (subst (λ (m : Result Url UrlFault). IsUrlRefusal m c.in_err-url.field-0.0) (sym whole)
    (authority_refused c.split_at.result.1.now (url_of_part true c.split_at.result.0.now (codes "/")) c.in_err-url.field-0.0 c.in_err-url.ensures.refused))

pub returns-then-not-is_empty-clause-refused : goal.returns-then-not-is_empty-clause-refused
returns-then-not-is_empty-clause-refused c =
    authority_whole c.args.text.now c.split_at.result.0.now c.split_at.result.1.now c.host_end.result (sym c.has_bad_byte.ensures ∙ c.if-has_bad_byte.false) c.host_end.ensures.end c.split_at.ensures.front c.split_at.ensures.back
    ∙ authority_behind c.split_at.result.1.now (url_of_part true c.split_at.result.0.now (codes "/")) c.in_ok-url.url c.in_ok-url.ensures.url (sym c.is_empty.ensures ∙ c.if-not-is_empty.true)

pub returns-clause-url : goal.returns-clause-url
returns-clause-url c =
    authority_whole c.args.text.now c.split_at.result.0.now c.split_at.result.1.now c.host_end.result (sym c.has_bad_byte.ensures ∙ c.if-has_bad_byte.false) c.host_end.ensures.end c.split_at.ensures.front c.split_at.ensures.back
    ∙ authority_ok c.split_at.result.1.now (url_of_part true c.split_at.result.0.now (codes "/")) c.in_ok-url.url c.in_ok-url.ensures.url (sym c.is_empty.ensures ∙ c.if-not-is_empty.false)

pub returns-clause-is_url : goal.returns-clause-is_url
returns-clause-is_url c = authority_of-is c.args.text.now c.in_ok-url.url (returns-clause-url c)
