-- What the letters behind a job's last delimiter ask for.
use Rattle.std.specs.Prelude.{ℕ, Bool, List, Option, Some, None, ◌==◌, codes, if◌then◌else◌, false}
use Rattle.std.specs.List.{list_any, list_all}
use Rattle.std.specs.Str.{byte}
use Rattle.regex_syntax.specs.Verdict.{default_config, default_flags}
use Rattle.regex_syntax.specs.declared.Config.{Config}
use Rattle.px_subst.specs.declared.flags.Flags.{Flags}

-- the letter is among the letters
abbrev pub has : List ℕ → ℕ → Bool
has letters letter = list_any (λ b. b == letter) letters

abbrev pub is_flag_letter : ℕ → Bool
is_flag_letter letter = has (codes "gimsxUTDo") letter

-- a flag is set where its letter stands, once or more often
abbrev pub flags_in : List ℕ → Flags
flags_in letters = record {
  every = has letters (byte "g");
  any_case = has letters (byte "i");
  multi_line = has letters (byte "m");
  dot_all = has letters (byte "s");
  spaced = has letters (byte "x");
  ungreedy = has letters (byte "U");
  plain = has letters (byte "T");
  dynamic = has letters (byte "D");
}

-- the flags, or None where another letter stands
abbrev pub flags_of : List ℕ → Option Flags
flags_of letters = if list_all is_flag_letter letters then Some (flags_in letters) else None

-- the library's options for bytes with the job's flags
abbrev pub job_options : Flags → Config
job_options flags = record default_config {
  flags = record default_flags {
    case_insensitive = flags.any_case;
    multi_line = flags.multi_line;
    dot_matches_new_line = flags.dot_all;
    swap_greed = flags.ungreedy;
    ignore_whitespace = flags.spaced;
  };
  utf8 = false;
}
