-- What `pass` does with its words.
use Rattle.std.specs.Prelude.{ℕ, ◌⊎◌, List}
use Rattle.px_config.specs.declared.configs.Config.{Config}
use Rattle.px_commands.specs.declared.statuses.Status.{Status}
use Rattle.px_commands.specs.Loads.{FailsToLoad, Loads}
use Rattle.px_commands.specs.Passes.{GivesUp, Outside, RunsLoaded}

-- the files of CONFIG spell a configuration, with which it goes on
pub record PassesLoaded (config origin sent : List ℕ) (tags : List (List ℕ)) (old new : Outside) (s : Status) : Type 0 where
  pub loaded : Config
  pub loads : Loads config old.files loaded
  pub runs : RunsLoaded loaded origin sent tags old new s

-- with the words of `pass`
abbrev pub RunsPass : List ℕ → List ℕ → List ℕ → List (List ℕ) → Outside → Outside → Status → Type 0
RunsPass config origin sent tags old new s = FailsToLoad config old new s ⊎ (PassesLoaded config origin sent tags old new s ⊎ GivesUp old new s)
