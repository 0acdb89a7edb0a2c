-- When a file's look tells its bytes.
use Rattle.std.specs.Prelude.{ℕ, ◌-◌, Bool, nat_lt, ◌&&◌}
use Rattle.px_kept_files.specs.declared.stamps.FileStamp.{FileStamp}

-- both times are more than two seconds back
abbrev pub is_settled : FileStamp → ℕ → Bool
is_settled stamp now = nat_lt stamp.modified (now - 2) && nat_lt stamp.changed (now - 2)
