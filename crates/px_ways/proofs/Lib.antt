pub mod DirectionLemmas
