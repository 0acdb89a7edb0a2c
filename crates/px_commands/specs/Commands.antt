-- What a command does, by its words.
use Rattle.std.specs.Prelude.{◌≡◌, ℕ, ◌⊎◌, List}
use Rattle.px_commands.specs.declared.statuses.Status.{Status}
use Rattle.px_commands.specs.declared.statuses.Status.TheVariants as status
use Rattle.px_commands.specs.declared.statuses.TheConstants.{USAGE}
use Rattle.px_commands.specs.Loads.{RunsCheck, RunsShow}
use Rattle.px_commands.specs.Passes.{Outside, Reports}
use Rattle.px_commands.specs.Passing.{RunsPass}
use Rattle.px_commands.specs.Statuses.{code_of}
use Rattle.px_commands.specs.Exercising.{RunsExercise}
use Rattle.px_commands.specs.Words.{IsPass, IsCheck, IsExercise, IsShow}

-- the words aren't those of `pass`
abbrev pub NamesNoPass : List (List ℕ) → Type 0
NamesNoPass words = (config origin sent : List ℕ) → (tags : List (List ℕ)) → ¬ IsPass words config origin sent tags

-- the words are those of no command
pub record RefusesWords (words : List (List ℕ)) (old new : Outside) (s : Status) : Type 0 where
  pub no_pass : NamesNoPass words
  pub no_check : (config : List ℕ) → ¬ IsCheck words config
  pub no_show : (config url : List ℕ) → (tags : List (List ℕ)) → ¬ IsShow words config url tags
  pub no_exercise : (n : ℕ) → ¬ IsExercise words n
  pub reports : Reports old new USAGE.now status.Usage s

-- the words are those of `pass`
pub record PassesBy (words : List (List ℕ)) (old new : Outside) (s : Status) : Type 0 where
  pub config : List ℕ
  pub origin : List ℕ
  pub sent : List ℕ
  pub tags : List (List ℕ)
  pub is_pass : IsPass words config origin sent tags
  pub runs : RunsPass config origin sent tags old new s

-- the words are those of `check`
pub record ChecksBy (words : List (List ℕ)) (old new : Outside) (s : Status) : Type 0 where
  pub config : List ℕ
  pub is_check : IsCheck words config
  pub runs : RunsCheck config old new s

-- the words are those of `show`
pub record ShowsUrlBy (words : List (List ℕ)) (old new : Outside) (s : Status) : Type 0 where
  pub config : List ℕ
  pub url : List ℕ
  pub tags : List (List ℕ)
  pub is_show : IsShow words config url tags
  pub runs : RunsShow config url tags old new s

-- the words are those of `exercise`
pub record ExercisesBy (words : List (List ℕ)) (old new : Outside) (s : Status) : Type 0 where
  pub number : ℕ
  pub is_exercise : IsExercise words number
  pub runs : RunsExercise number old new s

-- what a command does, by its words, and the status with which it ends
abbrev pub RunsWord : List (List ℕ) → Outside → Outside → Status → Type 0
RunsWord words old new s = RefusesWords words old new s ⊎ (PassesBy words old new s ⊎ (ChecksBy words old new s ⊎ (ShowsUrlBy words old new s ⊎ ExercisesBy words old new s)))

-- how a command ends: by one status, with what it did and why
pub record RunsTool (words : List (List ℕ)) (old new : Outside) (code : ℕ) : Type 0 where
  pub ended : Status
  pub code_is : code ≡ code_of ended
  pub runs : RunsWord words old new ended
