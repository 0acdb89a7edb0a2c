use Rattle.std.proofs.Common.{rules, ◌≡◌, ◌∙◌, ap}
use Rattle.px_patterns.specs.Urls.{shown_url, url_of}
use Rattle.px_patterns.proofs.UrlLaws.{read_back}
use Rattle.px_patterns.proofs.urls.Url.print.Goals as goal

pub returns-clause-reads : goal.returns-clause-reads
unfolding shown_url
returns-clause-reads c = λ is.
    let shown : c.push_all-2.new.self ≡ shown_url c.args.self.now = search rules in
    ap url_of shown ∙ read_back c.args.self.now is
