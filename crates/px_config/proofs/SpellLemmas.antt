-- Sections as they are kept, as plain data.
use Rattle.std.proofs.Common.{◌≡◌, ℕ, ◌+◌, List, [], ◌∷◌, ◌++◌, map, refl, sym, ap, ◌∙◌}
use Rattle.std.proofs.lemmas.List.{map-append}
use Rattle.px_action_files.specs.Meanings.{SectionSeen, seen_section}
use Rattle.px_action_files.specs.declared.files.ActionFile.{ActionFile}
use Rattle.px_action_files.specs.declared.sections.Section.{Section}
use Rattle.px_merge.specs.Merged.{Merged, names_of, placed, sections_from, sections_of}
use Rattle.px_merge.specs.declared.host_lists.ListedHosts.{ListedHosts}
use Rattle.px_config.specs.Actions.{seen_file}
use Rattle.px_config.specs.Listings.{seen_list}
use Rattle.px_config.specs.Spelling.{PlacedSeen, placed_from, placed_seen, sections_seen, seen_placed, seen_sections}

each_placed : (number : ℕ) (sections : List Section) → map seen_placed (map (placed number) sections) ≡ map (placed_seen number) (map seen_section sections)
each_placed number [] = refl
each_placed number (s ∷ sections) = ap (λ l. placed_seen number (seen_section s) ∷ l) (each_placed number sections)

placed_same : (number : ℕ) (files : List (List ℕ × ActionFile)) → map seen_placed (sections_from number files) ≡ placed_from number (map seen_file files)
placed_same number [] = refl
placed_same number (file ∷ files) =
    map-append seen_placed (map (placed number) file.1.sections) (sections_from (number + 1) files)
    ∙ ap (λ l. l ++ map seen_placed (sections_from (number + 1) files)) (each_placed number file.1.sections)
    ∙ ap (λ l. map (placed_seen number) (map seen_section file.1.sections) ++ l) (placed_same (number + 1) files)

names_same : (files : List (List ℕ × ActionFile)) → names_of files ≡ map (λ file. file.0) (map seen_file files)
names_same [] = refl
names_same (file ∷ files) = ap (λ l. file.0 ∷ l) (names_same files)

pub same_sections : (m : Merged) (lists : List ListedHosts) (files : List (List ℕ × ActionFile)) → m.lists ≡ lists → m.names ≡ names_of files → m.sections ≡ sections_of files →
    seen_sections m ≡ sections_seen (map seen_list lists) (map seen_file files)
same_sections m lists files listed names sections =
    ap (λ l. record { lists = map seen_list l; names = m.names; sections = map seen_placed m.sections }) listed
    ∙ ap (λ n. record { lists = map seen_list lists; names = n; sections = map seen_placed m.sections }) (names ∙ names_same files)
    ∙ ap (λ s. record { lists = map seen_list lists; names = map (λ file. file.0) (map seen_file files); sections = s }) (ap (map seen_placed) sections ∙ placed_same 0 files)
