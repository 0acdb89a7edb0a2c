pub mod HelpLemmas
