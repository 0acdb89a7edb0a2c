-- The files of the job.
use Rattle.std.specs.Prelude.{ℕ, ◌*◌, ◌==◌, if◌then◌else◌, List, [], ◌∷◌, ◌++◌, codes, decimal}
use Rattle.std.specs.List.{flat_map, range_with_len}
use Rattle.px_generated.specs.Draws.{after_draws, first_draw, second_draw, third_draw}

-- the update that a number from 0 to 4 stands for
unfoldable pub update_of : ℕ → List ℕ
update_of kind =
    if kind == 0 then codes "+block{b}"
    else if kind == 1 then codes "+filter{f}"
    else if kind == 2 then codes "-filter{f}"
    else if kind == 3 then codes "+crunch-incoming-cookies"
    else codes "-block"

-- a host and a path with numbers in them, of which patterns and requests are made
unfoldable pub host_and_path : ℕ → ℕ → List ℕ
host_and_path host path = codes "h" ++ decimal host ++ codes ".test/p" ++ decimal path

-- a section of one update and one pattern
unfoldable pub section : ℕ → ℕ → ℕ → List ℕ
section host path kind = codes "{" ++ update_of kind ++ codes "}\n." ++ host_and_path host path ++ codes "\n"

-- the section that three draws from x on make
unfoldable pub section_from : ℕ → List ℕ
section_from x = section (first_draw 100 x) (second_draw 50 x) (third_draw 5 x)

-- so many sections, each by its own three draws
unfoldable pub sections : ℕ → ℕ → List ℕ
sections count x = flat_map (λ k. section_from (after_draws (3 * k) x)) (range_with_len 0 count)

unfoldable pub main_text : List ℕ
main_text = codes "actionsfile generated.action\nfilterfile generated.filter\n"

unfoldable pub filter_text : List ℕ
filter_text = codes "FILTER: f gen\ns/a/b/g\n"

-- the three files with their names, the main file first, where the actions file has this text
unfoldable pub files_with : List ℕ → List (List ℕ × List ℕ)
files_with actions =
    (codes "config", main_text)
    ∷ (codes "generated.action", actions)
    ∷ (codes "generated.filter", filter_text)
    ∷ []

-- the files that the draws from x on make
unfoldable pub files_from : ℕ → List (List ℕ × List ℕ)
files_from x = files_with (sections 1000 x)
