-- How serving ends the command.
use Rattle.std.specs.Prelude.{Option, Some, None}
use Rattle.px_desk.specs.declared.desks.ServeEnd.{ServeEnd}
use Rattle.px_desk.specs.declared.desks.ServeEnd.TheVariants as serving
use Rattle.px_commands.specs.declared.statuses.Status.{Status}
use Rattle.px_commands.specs.declared.statuses.Status.TheVariants as status

-- the status behind serving, by why no more connections came; where nobody asked for any, memory was wanting
abbrev pub status_of_serving : Option ServeEnd → Status
status_of_serving (Some serving.End) = status.Done
status_of_serving (Some serving.DoorsFailed) = status.DoorsFailed
status_of_serving (Some serving.NoMemory) = status.NoMemory
status_of_serving None = status.NoMemory
