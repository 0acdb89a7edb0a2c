-- The text of `/show-status`.
use Rattle.std.specs.Prelude.{ℕ, List, ◌++◌, length, decimal, codes, if◌then◌else◌}
use Rattle.px_merge.specs.Merged.{pattern_count}
use Rattle.px_patterns.specs.Urls.{shown_host}
use Rattle.px_config.specs.declared.configs.Config.{Config}
use Rattle.px_config.specs.declared.settings.Settings.{Settings}

-- a name and a number, as a line
unfoldable pub number_line : List ℕ → ℕ → List ℕ
number_line name number = name ++ decimal number ++ codes "\n"

-- where the configuration says to listen
unfoldable pub listen_line : Settings → List ℕ
listen_line s = codes "listen " ++ shown_host s.listen_host ++ codes ":" ++ decimal s.listen_port ++ codes "\n"

-- the same, and whether actions have effect
unfoldable pub settings_lines : Settings → List ℕ
settings_lines s = listen_line s ++ number_line (codes "toggle ") (if s.toggle then 1 else 0)

-- how many files of actions, sections and patterns
unfoldable pub section_count_lines : ℕ → ℕ → ℕ → List ℕ
section_count_lines files sections patterns =
    number_line (codes "action files ") files ++ number_line (codes "sections ") sections ++ number_line (codes "patterns ") patterns

-- how many files of filters and filters
unfoldable pub filter_count_lines : ℕ → ℕ → List ℕ
filter_count_lines files filters = number_line (codes "filter files ") files ++ number_line (codes "filters ") filters

-- a configuration of that number
unfoldable pub status_lines : Config → ℕ → List ℕ
status_lines config number =
    number_line (codes "configuration ") number ++ settings_lines config.settings
    ++ section_count_lines (length config.sections.names) (length config.sections.sections) (pattern_count config.sections.sections)
    ++ filter_count_lines config.filters.files (length config.filters.filters)
    ++ number_line (codes "notes ") (length config.notes)
