use Rattle.std.proofs.Common.{◌∙◌, sym}
use Rattle.std.proofs.lemmas.List.{take_rest}
use Rattle.std.specs.Prelude.{◌≡◌, Ok}
use Rattle.std.proofs.lemmas.Result.{IfOk-weaker}
use Rattle.px_patterns.specs.Urls.{IsUrl, url_of}
use Rattle.px_patterns.proofs.FaultLemmas.{handed_ok, handed_url_refusal}
use Rattle.px_patterns.proofs.UrlLemmas.{url_bad, url_not_http, url_whole}
use Rattle.px_patterns.proofs.UrlLaws.{url_of-is}
use Rattle.px_patterns.proofs.urls.Url.read.Goals as goal

pub returns-then-has_bad_byte-clause-refused : goal.returns-then-has_bad_byte-clause-refused
returns-then-has_bad_byte-clause-refused c = url_bad c.args.text.now (sym c.has_bad_byte.ensures ∙ c.if-has_bad_byte.true)

pub returns-then-not-begins_with-clause-refused : goal.returns-then-not-begins_with-clause-refused
returns-then-not-begins_with-clause-refused c =
    url_not_http c.args.text.now (sym c.has_bad_byte.ensures ∙ c.if-has_bad_byte.false) (sym c.begins_with.ensures ∙ c.if-not-begins_with.true)

pub returns-clause-url : goal.returns-clause-url
returns-clause-url c =
    handed_ok c.read_part.result (url_of c.args.text.now) _
    (sym
    (url_whole c.args.text.now _ c.split_at.result.0.now c.split_at.result.1.now c.host_end.result (sym c.has_bad_byte.ensures ∙ c.if-has_bad_byte.false)
    (sym c.begins_with.ensures ∙ c.if-not-begins_with.false) (take_rest c.args.text.now 7) c.host_end.ensures.end c.split_at.ensures.front c.split_at.ensures.back))
    c.read_part.ensures.url

pub returns-clause-refused : goal.returns-clause-refused
returns-clause-refused c =
    handed_url_refusal c.read_part.result (url_of c.args.text.now) _
    (sym
    (url_whole c.args.text.now _ c.split_at.result.0.now c.split_at.result.1.now c.host_end.result (sym c.has_bad_byte.ensures ∙ c.if-has_bad_byte.false)
    (sym c.begins_with.ensures ∙ c.if-not-begins_with.false) (take_rest c.args.text.now 7) c.host_end.ensures.end c.split_at.ensures.front c.split_at.ensures.back))
    c.read_part.ensures.refused

pub returns-clause-is_url : goal.returns-clause-is_url
returns-clause-is_url c = IfOk-weaker c.read_part.result (λ url. url_of c.args.text.now ≡ Ok url) IsUrl (λ url is. url_of-is c.args.text.now url is) (returns-clause-url c)
