-- What the lines of the main file say of other files, read one after another.
use Rattle.std.proofs.Common.{◌≡◌, ℕ, List, [], ◌∷◌, ◌++◌, Option, None, Some, refl, sym, ap, subst, ◌∙◌, append_assoc, append-nil}
use Rattle.std.specs.List.{cons_option}
use Rattle.std.specs.Prelude.{codes, take, unwrap_or}
use Rattle.px_text.specs.declared.lines.Line.{Line}
use Rattle.px_config.specs.declared.main_files.Named.{Named}
use Rattle.px_config.specs.declared.names.TheConstants.{FILES_OF_A_KIND}
use Rattle.px_config.specs.Directives.{last_of, last_value, list_file_for, list_files_of, name_in, value_for, value_in, values_of, with_given_value}
use Rattle.px_config.specs.MainFiles.{nothing_named, places_with, with_named}
use Rattle.px_config.specs.Names.{action_names, confdir, filter_names, folder_of, joined_path, list_file_names, or_else, places_of, templdir}

-- ---- values

value_more : (values rest : List (List ℕ)) (value : Option (List ℕ)) → values ++ cons_option value rest ≡ with_given_value values value ++ rest
value_more values rest None = refl
value_more values rest (Some value) = sym (append_assoc values (value ∷ []) rest)

last_more : (before value : Option (List ℕ)) (rest : List (List ℕ)) → last_of before (cons_option value rest) ≡ last_of (or_else value before) rest
last_more before None rest = refl
last_more before (Some value) rest = refl

values_more : (word : List ℕ) (lines others : List Line) (line : Line) (values : List (List ℕ)) →
    values_of word lines ≡ values ++ values_of word (line ∷ others) → values_of word lines ≡ with_given_value values (value_for word line) ++ values_of word others
unfolding values_of
values_more word lines others line values e = e ∙ value_more values (values_of word others) (value_for word line)

list_files_more : (lines others : List Line) (line : Line) (names : List (List ℕ)) →
    list_files_of lines ≡ names ++ list_files_of (line ∷ others) → list_files_of lines ≡ with_given_value names (list_file_for line) ++ list_files_of others
unfolding list_files_of
list_files_more lines others line names e = e ∙ value_more names (list_files_of others) (list_file_for line)

last_value_more : (word : List ℕ) (lines others : List Line) (line : Line) (last : Option (List ℕ)) →
    last_value word lines ≡ last_of last (values_of word (line ∷ others)) → last_value word lines ≡ last_of (or_else (value_for word line) last) (values_of word others)
unfolding values_of
last_value_more word lines others line last e = e ∙ last_more last (value_for word line) (values_of word others)

-- ---- the lines

-- what all lines name, where some of them are still to be read
pub record Walks (lines rest : List Line) (named : Named) : Type 0 where
  pub action_files : values_of (codes "actionsfile") lines ≡ named.action_files ++ values_of (codes "actionsfile") rest
  pub filter_files : values_of (codes "filterfile") lines ≡ named.filter_files ++ values_of (codes "filterfile") rest
  pub host_lists : list_files_of lines ≡ named.host_lists ++ list_files_of rest
  pub confdir_last : last_value (codes "confdir") lines ≡ last_of named.confdir (values_of (codes "confdir") rest)
  pub templdir_last : last_value (codes "templdir") lines ≡ last_of named.templdir (values_of (codes "templdir") rest)

pub walks_begin : (lines : List Line) (named : Named) → named ≡ nothing_named → Walks lines lines named
walks_begin lines named e =
    let P : Named → Type 0 = λ n. Walks lines lines n in
    let begun : P nothing_named = record {
      action_files = refl;
      filter_files = refl;
      host_lists = refl;
      confdir_last = refl;
      templdir_last = refl;
    } in
    subst P (sym e) begun

pub walks_more : {lines rest others : List Line} {line : Line} {before after : Named} {name value : List ℕ} →
    Walks lines rest before → rest ≡ line ∷ others → name ≡ name_in line.text → value ≡ value_in line.text → after ≡ with_named name value before → Walks lines others after
walks_more {lines} {rest} {others} {line} {before} {after} {name} {value} h first named valued named_after =
    let P : Named → Type 0 = λ n. Walks lines others n in
    let A : List Line → Type 0 = λ l. Walks lines l before in
    let whole : after ≡ with_named (name_in line.text) (value_in line.text) before = named_after ∙ ap (λ n. with_named n value before) named ∙ ap (λ v. with_named (name_in line.text) v before) valued in
    let w : Walks lines (line ∷ others) before = subst A first h in
    subst P (sym whole) (record {
      action_files = values_more (codes "actionsfile") lines others line before.action_files w.action_files;
      filter_files = values_more (codes "filterfile") lines others line before.filter_files w.filter_files;
      host_lists = list_files_more lines others line before.host_lists w.host_lists;
      confdir_last = last_value_more (codes "confdir") lines others line before.confdir w.confdir_last;
      templdir_last = last_value_more (codes "templdir") lines others line before.templdir w.templdir_last;
    })

actions_end : (lines : List Line) (names : List (List ℕ)) → values_of (codes "actionsfile") lines ≡ names ++ values_of (codes "actionsfile") [] → action_names lines ≡ take FILES_OF_A_KIND names
unfolding action_names values_of
actions_end lines names e = ap (take FILES_OF_A_KIND) (e ∙ append-nil names)

filters_end : (lines : List Line) (names : List (List ℕ)) → values_of (codes "filterfile") lines ≡ names ++ values_of (codes "filterfile") [] → filter_names lines ≡ take FILES_OF_A_KIND names
unfolding filter_names values_of
filters_end lines names e = ap (take FILES_OF_A_KIND) (e ∙ append-nil names)

lists_end : (lines : List Line) (names : List (List ℕ)) → list_files_of lines ≡ names ++ list_files_of [] → list_file_names lines ≡ take FILES_OF_A_KIND names
unfolding list_file_names list_files_of
lists_end lines names e = ap (take FILES_OF_A_KIND) (e ∙ append-nil names)

confdir_end : (file : List ℕ) (lines : List Line) (last : Option (List ℕ)) → last_value (codes "confdir") lines ≡ last_of last (values_of (codes "confdir") []) → confdir file lines ≡ or_else last (folder_of file)
unfolding confdir values_of
confdir_end file lines last e = ap (λ f. or_else f (folder_of file)) e

templdir_end : (file : List ℕ) (lines : List Line) (last : Option (List ℕ)) → last_value (codes "templdir") lines ≡ last_of last (values_of (codes "templdir") []) →
    templdir file lines ≡ unwrap_or last (joined_path (confdir file lines) (codes "templates"))
unfolding templdir values_of
templdir_end file lines last e = ap (λ f. unwrap_or f (joined_path (confdir file lines) (codes "templates"))) e

pub walks_places : {lines rest : List Line} {named : Named} (file : List ℕ) → Walks lines rest named → rest ≡ [] → places_with file named ≡ places_of file lines
walks_places {lines} {rest} {named} file h ends =
    let A : List Line → Type 0 = λ l. Walks lines l named in
    let w : Walks lines [] named = subst A ends h in
    let actions = actions_end lines named.action_files w.action_files in
    let filters = filters_end lines named.filter_files w.filter_files in
    let lists = lists_end lines named.host_lists w.host_lists in
    let folder = confdir_end file lines named.confdir w.confdir_last in
    let templates = templdir_end file lines named.templdir w.templdir_last in
    rw (actions, filters, lists, templates, folder) refl
