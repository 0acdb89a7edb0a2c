-- Files that are read one after another.
use Rattle.std.proofs.Common.{◌≡◌, ℕ, Bool, true, false, ◌||◌, not, cond, List, [], ◌∷◌, ◌++◌, Option, None, Some, Result, Ok, Err, refl, sym, ap, subst, rules, ◌∙◌, arith}
use Rattle.std.specs.Cmp.Lexicographic.{bytes_decides}
use Rattle.std.specs.Prelude.{All, Contains, IfErr, IsTrue}
use Rattle.std.specs.Str.{is_utf8}
use Rattle.std.proofs.lemmas.List.Elements.{Contains-append_left, Contains-append_right, Contains-push}
use Rattle.px_base.specs.Contents.{Contents, FilesGoOn, FilesState, Unchanged, content_of}
use Rattle.px_base.specs.declared.files.Content.{Content}
use Rattle.px_text.specs.declared.lines.Line.{Line}
use Rattle.px_action_files.specs.Faults.{Refused, refused}
use Rattle.px_action_files.specs.declared.faults.FileFault.{FileFault}
use Rattle.px_action_files.specs.declared.faults.FileFault.TheVariants as at
use Rattle.px_config.specs.declared.main_files.MainFile.{MainFile}
use Rattle.px_config.specs.declared.names.Places.{Places}
use Rattle.px_config.specs.declared.sets.FileSet.{FileSet}
use Rattle.px_config.specs.declared.sets.TheConstants.{FILE_LIMIT}
use Rattle.px_config.specs.Gathering.{IsReadFault, OnlyReads, ReadsEach, ReadsOneOf, all_items, gathered, item_of, items_by, lists_by, named_items, names_by, names_read, names_with_lists, set_behind, with_files, with_item}
use Rattle.px_config.specs.MainFiles.{IsMainOf}
use Rattle.px_config.specs.Names.{full_name, is_rooted, places_of, template_names}
use Rattle.px_config.specs.Parts.{content_lines, file_lines}
use Rattle.px_config.specs.Sets.{FitsWithin, Item, all_included, content_in, is_in}
use Rattle.px_config.specs.declared.faults.LoadFault.{LoadFault}
use Rattle.px_config.specs.declared.faults.LoadFault.TheVariants as fault

pub item_same : (limit : ℕ) (a b : Contents) (items : List Item) (name : List ℕ) → Unchanged a b → with_item limit b items name ≡ with_item limit a items name
item_same limit a b items name same = rw (same name) refl

pub files_same : (limit : ℕ) (a b : Contents) (folder : Option (List ℕ)) (items : List Item) (names : List (List ℕ)) → Unchanged a b →
    with_files limit b folder items names ≡ with_files limit a folder items names
unfolding with_files
files_same limit a b folder items [] same = refl
files_same limit a b folder items (name ∷ names) same =
    files_same limit a b folder (with_item limit b items (full_name folder name)) names same
    ∙ ap (λ i. with_files limit a folder i names) (item_same limit a b items (full_name folder name) same)

pub files_append : (limit : ℕ) (contents : Contents) (folder : Option (List ℕ)) (items : List Item) (first second : List (List ℕ)) →
    with_files limit contents folder (with_files limit contents folder items first) second ≡ with_files limit contents folder items (first ++ second)
unfolding with_files
files_append limit contents folder items [] second = refl
files_append limit contents folder items (name ∷ names) second = files_append limit contents folder (with_item limit contents items (full_name folder name)) names second

-- contents that are the same at each name are the same
pub contents_same : {a b : Contents} → Unchanged a b → b ≡ a
contents_same same = λ i name. same name i

pub reads_twice : {a b c : FilesState} → OnlyReads a b → OnlyReads b c → OnlyReads a c
reads_twice h k = record {
  tells_same = k.tells_same ∙ h.tells_same;
  tells_later_same = k.tells_later_same ∙ h.tells_later_same;
  unchanged = λ t name. k.unchanged (h.tells_same ∙ t) name ∙ h.unchanged t name;
  later_same = λ t. k.later_same (h.tells_later_same ∙ t) ∙ h.later_same t;
  put_faults_same = k.put_faults_same ∙ h.put_faults_same;
  puts_same = k.puts_same ∙ h.puts_same;
  turns_same = k.turns_same ∙ h.turns_same;
}

pub go_on : {a b c : FilesState} → FilesGoOn a b → FilesGoOn b c → FilesGoOn a c
go_on h k = search rules

-- ---- whose file couldn't be read

pub reads_left : (xs ys : List (List ℕ)) (f : LoadFault) → ReadsOneOf xs f → ReadsOneOf (xs ++ ys) f
reads_left xs ys (fault.Spelled file line number) is = tt
reads_left xs ys (fault.Read file) is = Contains-append_left xs ys file is
reads_left xs ys fault.Mem is = tt

pub reads_right : (xs ys : List (List ℕ)) (f : LoadFault) → ReadsOneOf ys f → ReadsOneOf (xs ++ ys) f
reads_right xs ys (fault.Spelled file line number) is = tt
reads_right xs ys (fault.Read file) is = Contains-append_right xs ys file is
reads_right xs ys fault.Mem is = tt

pub reads_first : (name : List ℕ) (names : List (List ℕ)) (f : LoadFault) → IsReadFault name f → ReadsOneOf (name ∷ names) f
reads_first name names (fault.Spelled file line number) is = tt
reads_first name names (fault.Read file) is = subst (Contains (name ∷ names)) (sym is) (Contains-append_left (name ∷ []) names name (Contains-push [] name))
reads_first name names fault.Mem is = tt

pub reads_later : (name : List ℕ) (names : List (List ℕ)) (f : LoadFault) → ReadsOneOf names f → ReadsOneOf (name ∷ names) f
reads_later name names f is = reads_right (name ∷ []) names f is

pub ruleset reads_rules = (reads_left, reads_right, reads_first, reads_later)

-- what can be read of the rest is one of the names
abbrev pub Among : List (List ℕ) → List (List ℕ) → Type 0
Among rest names = (f : LoadFault) → ReadsOneOf rest f → ReadsOneOf names f

-- some of the names are still to be read
pub record Gathers (limit : ℕ) (old new : FilesState) (folder : Option (List ℕ)) (before items : List Item) (names rest : List (List ℕ)) : Type 0 where
  pub reads : OnlyReads old new
  pub goes_on : FilesGoOn old new
  pub faults_same : new.read_faults ≡ old.read_faults
  pub once : ReadsEach old new before items
  pub items_are : IsTrue old.tells → with_files limit old.contents folder before names ≡ with_files limit old.contents folder items rest
  pub fits : All (FitsWithin limit) before → All (FitsWithin limit) items
  pub among : Among rest names

pub gathers_more : {limit : ℕ} {old mid new : FilesState} {folder : Option (List ℕ)} {before items after : List Item} {names rest others : List (List ℕ)} {name full : List ℕ}
    → Gathers limit old mid folder before items names rest → rest ≡ name ∷ others → full ≡ full_name folder name
    → OnlyReads mid new → FilesGoOn mid new → new.read_faults ≡ mid.read_faults → (IsTrue mid.tells → after ≡ with_item limit mid.contents items full) → (All (FitsWithin limit) items → All (FitsWithin limit) after) → ReadsEach mid new items after
    → Gathers limit old new folder before after names others
unfolding with_files
gathers_more {limit} {old} {mid} {new} {folder} {before} {items} {after} {names} {rest} {others} {name} {full} h first whole reads goes_on same added fits once = record {
  goes_on = go_on h.goes_on goes_on;
  reads = reads_twice h.reads reads;
  faults_same = same ∙ h.faults_same;
  once = omega (arith, h.once, once);
  items_are = λ t.
      h.items_are t ∙ ap (with_files limit old.contents folder items) first
      ∙ ap (λ i. with_files limit old.contents folder i others)
      (sym (added (h.reads.tells_same ∙ t) ∙ item_same limit old.contents mid.contents items full (h.reads.unchanged t) ∙ ap (with_item limit old.contents items) whole));
  fits = λ f. fits (h.fits f);
  among = λ f is. h.among f (subst (λ r. ReadsOneOf r f) (sym first) (reads_later name others f is));
}

-- ---- the main file

item_kept : (contents : Contents) (first : Item) (items : List Item) (name : List ℕ) → (more : List Item) × (with_item FILE_LIMIT contents (first ∷ items) name ≡ first ∷ more)
item_kept contents first items name = by (is_in (first ∷ items) name || not (is_utf8 name))
  where
    by : (b : Bool) → (more : List Item) × (cond b (first ∷ items) ((first ∷ items) ++ item_of FILE_LIMIT contents name ∷ []) ≡ first ∷ more)
    by true = (items, refl)
    by false = (items ++ item_of FILE_LIMIT contents name ∷ [], refl)

-- the first item stays the first
first_kept : (contents : Contents) (folder : Option (List ℕ)) (first : Item) (items : List Item) (names : List (List ℕ)) → (more : List Item) × (with_files FILE_LIMIT contents folder (first ∷ items) names ≡ first ∷ more)
unfolding with_files
first_kept contents folder first items [] = (items, refl)
first_kept contents folder first items (name ∷ names) =
    let added = item_kept contents first items (full_name folder name) in
    let rest = first_kept contents folder first added.0 names in
    (rest.0, ap (λ l. with_files FILE_LIMIT contents folder l names) added.1 ∙ rest.1)

all_kept : (contents : Contents) (main : List ℕ) (places : Places) → (more : List Item) × (all_items contents main places ≡ item_of FILE_LIMIT contents main ∷ more)
unfolding all_items named_items
all_kept contents main places =
    let first = item_of FILE_LIMIT contents main in
    let listed = first_kept contents places.confdir first [] (places.action_files ++ places.filter_files) in
    let named = first_kept contents (Some places.templdir) first listed.0 template_names in
    let included = λ (items : List Item). all_included items places.templdir in
    let behind : named_items contents main places ≡ first ∷ named.0 = ap (λ l. with_files FILE_LIMIT contents (Some places.templdir) l template_names) listed.1 ∙ named.1 in
    let rest = first_kept contents (Some places.templdir) first named.0 (included (first ∷ named.0)) in
    (rest.0, ap (λ l. with_files FILE_LIMIT contents (Some places.templdir) l (included l)) behind ∙ rest.1)

items_kept : (contents : Contents) (main : List ℕ) (lines : Result (List Line) Refused) → (more : List Item) × (items_by contents main lines ≡ item_of FILE_LIMIT contents main ∷ more)
items_kept contents main (Ok lines) = all_kept contents main (places_of main lines)
items_kept contents main (Err refusal) = ([], refl)

found_first : (main : List ℕ) (content : Content) (more : List Item) → content_in ((main, content) ∷ more) main ≡ content
found_first main content more = ap (λ b. cond b content (content_in more main)) ((bytes_decides main main).1 refl)

by_itself : (name : List ℕ) → full_name None name ≡ name
by_itself name = by (is_rooted name)
  where
    by : (b : Bool) → cond b name name ≡ name
    by true = refl
    by false = refl

-- the set that is gathered has the main file's lines
main_lines : (contents : Contents) (main : List ℕ) → file_lines (gathered contents main).items None main ≡ content_lines (content_of FILE_LIMIT (contents main))
unfolding gathered
main_lines contents main =
    let content = content_of FILE_LIMIT (contents main) in
    let kept = items_kept contents main (content_lines content) in
    ap (λ name. content_lines (content_in (gathered contents main).items name)) (by_itself main)
    ∙ ap (λ items. content_lines (content_in items main)) kept.1
    ∙ ap content_lines (found_first main content kept.0)

-- what was read of the main file is that of the set
pub main_of_set : (contents : Contents) (main : List ℕ) (set : FileSet) (read : Result MainFile FileFault) → set ≡ gathered contents main →
    IsMainOf main (content_lines (content_of FILE_LIMIT (contents main))) read → IsMainOf set.main (file_lines set.items None set.main) read
unfolding gathered
main_of_set contents main set read same is =
    let P : FileSet → Type 0 = λ s. IsMainOf s.main (file_lines s.items None s.main) read in
    subst P (sym same) (subst (λ l. IsMainOf main l read) (sym (main_lines contents main)) is)

module _ (contents : Contents) (main : List ℕ) (content : Content) (whole : content ≡ content_of FILE_LIMIT (contents main)) where
  pub gathered_behind : (lines : List Line) → content_lines content ≡ Ok lines → gathered contents main ≡ set_behind contents main (places_of main lines)
  unfolding gathered
  gathered_behind lines e =
      let S : Result (List Line) Refused → FileSet = λ l. record { main = main; items = items_by contents main l; lists = lists_by contents main l } in
      ap S (ap content_lines (sym whole) ∙ e)

  pub gathered_only : (line number : ℕ) → content_lines content ≡ refused line number → gathered contents main ≡ record { main = main; items = (main, content) ∷ []; lists = [] }
  unfolding gathered
  gathered_only line number e =
      let S : Result (List Line) Refused → FileSet = λ l. record { main = main; items = items_by contents main l; lists = lists_by contents main l } in
      let O : Content → FileSet = λ c. record { main = main; items = (main, c) ∷ []; lists = [] } in
      ap S (ap content_lines (sym whole) ∙ e) ∙ ap O (sym whole)

  pub main_behind : (lines : List Line) (read : Result MainFile FileFault) → content_lines content ≡ Ok lines → IsMainOf main (Ok lines) read → IsMainOf main (content_lines (content_of FILE_LIMIT (contents main))) read
  main_behind lines read e is = subst (λ l. IsMainOf main l read) (sym (ap content_lines (sym whole) ∙ e)) is

  pub main_refused : (line number : ℕ) (read : Result MainFile FileFault) → content_lines content ≡ refused line number → read ≡ Err (at.At line number) → IsMainOf main (content_lines (content_of FILE_LIMIT (contents main))) read
  main_refused line number read e is =
      subst (λ r. IsMainOf main (content_lines (content_of FILE_LIMIT (contents main))) r) (sym is) (ap content_lines (sym whole) ∙ e)

  pub names_gathered : (lines : List Line) (f : LoadFault) → content_lines content ≡ Ok lines → ReadsOneOf (names_with_lists contents main (places_of main lines)) f → ReadsOneOf (names_read contents main) f
  unfolding names_read
  names_gathered lines f e is =
      reads_later main _ f (subst (λ l. ReadsOneOf (names_by contents main l) f) (sym (ap content_lines (sym whole) ∙ e)) is)

  pub names_of_result : {T : Type 0} (lines : List Line) (result : Result T LoadFault) → content_lines content ≡ Ok lines →
      IfErr result (ReadsOneOf (names_with_lists contents main (places_of main lines))) → IfErr result (ReadsOneOf (names_read contents main))
  names_of_result lines (Ok x) e is = tt
  names_of_result lines (Err f) e is = names_gathered lines f e is
