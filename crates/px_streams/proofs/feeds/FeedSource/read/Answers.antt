use Rattle.px_streams.proofs.FeedLemmas.{feed_goes_on}
use Rattle.px_streams.proofs.feeds.FeedSource.read.Goals as goal

pub returns-clause-goes_on : goal.returns-clause-goes_on
returns-clause-goes_on g c = rw (← c.self.view_is, c.skip.ensures) (feed_goes_on (g.S.Source.state c.self.inside.source) c.self.inside.ahead _)
