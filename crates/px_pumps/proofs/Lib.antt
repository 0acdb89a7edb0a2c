mod HeadLemmas
mod AskingLemmas
mod PassageLemmas
mod PumpLemmas
mod HeardLemmas
mod HearingLemmas
