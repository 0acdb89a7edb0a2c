-- What reading ORIGIN gives, and why.
use Rattle.std.specs.Prelude.{◌≡◌, ℕ, List, Option}
use Rattle.px_base.specs.Causes.{Rose}
use Rattle.px_base.specs.Contents.{FilesState}
use Rattle.px_base.specs.declared.dials.Answer.{Answer}
use Rattle.px_commands.specs.declared.answers.OriginRead.{OriginRead}
use Rattle.px_commands.specs.declared.answers.OriginRead.TheVariants as origin
use Rattle.px_commands.specs.Passes.{HasAnswers}

-- what reading ORIGIN gives, by what the file holds
abbrev pub OriginReads : Option (List ℕ) → OriginRead → Type 0
OriginReads held (origin.Answers answers) = HasAnswers held answers
OriginReads held origin.Refused = (answers : List Answer) → ¬ HasAnswers held answers
OriginReads held origin.Failed = Unit {0}
OriginReads held origin.NoMemory = Unit {0}

-- no put failed, and a read failed where it is so
abbrev pub ReadsBy : FilesState → FilesState → Type 0 → Type 0
ReadsBy old new by = by × (new.put_faults ≡ old.put_faults)

abbrev pub OriginCause : FilesState → FilesState → OriginRead → Type 0
OriginCause old new (origin.Answers answers) = ReadsBy old new (new.read_faults ≡ old.read_faults)
OriginCause old new origin.Refused = ReadsBy old new (new.read_faults ≡ old.read_faults)
OriginCause old new origin.Failed = ReadsBy old new (Rose old.read_faults new.read_faults)
OriginCause old new origin.NoMemory = Unit {0}
