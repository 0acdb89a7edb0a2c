mod Cutting
mod NameLemmas
