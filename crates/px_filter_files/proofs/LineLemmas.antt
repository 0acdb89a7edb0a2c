-- One line further in a filter file.
use Rattle.std.proofs.Common.{◌≡◌, ℕ, ◌+◌, ◌-◌, ◌<◌, ◌≤◌, Bool, true, false, not, ◌||◌, cond, List, [], ◌∷◌, ◌++◌, take, drop, length, get_or, filter_map, Option, Some, None, is_some, is_none, option_to_list, Result, Ok, Err, refl, sym, ap, ap₂, ◌∙◌, arith, length-drop, append_assoc}
use Rattle.std.specs.List.{cons_option, list_any}
use Rattle.std.specs.Option.{option_map_or}
use Rattle.std.proofs.lemmas.List.{append-nil, drop_all, drop_more, take_all, take_more}
use Rattle.std.proofs.lemmas.List.Elements.{filter_map-append}
use Rattle.std.proofs.lemmas.List.Folds.{list_any-append}
use Rattle.std.proofs.lemmas.Option.{none-some}
use Rattle.px_text.specs.declared.lines.Line.{Line}
use Rattle.px_filter_files.specs.declared.faults.FilterFault.{FilterFault}
use Rattle.px_filter_files.specs.declared.faults.FilterFault.TheVariants.{At}
use Rattle.px_filter_files.specs.declared.files.NamedFilter.{NamedFilter}
use Rattle.px_filter_files.specs.declared.files.FilterFile.{FilterFile}
use Rattle.px_filter_files.specs.Headings.{HeadingParts, Key, heading_at, is_job_line, key_at, same_key}
use Rattle.px_filter_files.specs.Seen.{begins_filter}
use Rattle.px_filter_files.specs.FilterFiles.{all_skipped, begins_part, file_of, filter_at, filters_in, first_filter_fault, heading_refusal, is_among_keys, keys_in, own_lines, refusal_at, skipped_in}

-- `&xs[i..]`
pub slice_to_end : {X : Type 0} (i : ℕ) (xs : List X) → take (length xs - i) (drop i xs) ≡ drop i xs
slice_to_end i xs = take_all _ _ (omega (arith, length-drop i xs))

-- a line that isn't refused leaves a part begun
part_is_begun : (taken : Key → Bool) (heading : Option HeadingParts) (begun : Bool) →
    option_map_or (heading_refusal taken) heading (cond begun None (Some 25)) ≡ None → (begun || not (is_none heading)) ≡ true
part_is_begun taken heading true e = refl
part_is_begun taken (Some heading) false e = refl
part_is_begun taken None false e = absurd (none-some 25 (sym e))

one_key : (o : Option Key) (line : Line) → key_at line.text ≡ o → filter_map (λ (l : Line). key_at l.text) (line ∷ []) ≡ option_to_list o
one_key None line is = ap (λ o. cons_option o []) is
one_key (Some key) line is = ap (λ o. cons_option o []) is

or_false : (b : Bool) → (b || false) ≡ b
or_false true = refl
or_false false = refl

-- the key of one line
any_of_one : (p : Key → Bool) (o : Option Key) → list_any p (option_to_list o) ≡ option_map_or p o false
any_of_one p None = refl
any_of_one p (Some key) = or_false (p key)

module _ (lines : List Line) (i : ℕ) (line : Line) (inside : i < length lines) (is : line ≡ get_or lines i line) where
  drop_is : drop i lines ≡ line ∷ drop (i + 1) lines
  drop_is = drop_more lines i line inside ∙ ap (λ l. l ∷ drop (i + 1) lines) (sym is)

  take_is : take (i + 1) lines ≡ take i lines ++ line ∷ []
  take_is = take_more lines i line inside ∙ ap (λ l. take i lines ++ l ∷ []) (sym is)

  pub fault_here : (number : ℕ) → refusal_at (take i lines) line ≡ Some number → first_filter_fault (take i lines) (drop i lines) ≡ Some (At line.number number)
  unfolding first_filter_fault
  fault_here number refused =
      ap (first_filter_fault (take i lines)) drop_is
      ∙ ap (λ o. option_map_or (λ n. Some (At line.number n)) o (first_filter_fault (take i lines ++ line ∷ []) (drop (i + 1) lines))) refused

  pub fault_later : refusal_at (take i lines) line ≡ None → first_filter_fault (take i lines) (drop i lines) ≡ first_filter_fault (take (i + 1) lines) (drop (i + 1) lines)
  unfolding first_filter_fault
  fault_later fine =
      ap (first_filter_fault (take i lines)) drop_is
      ∙ ap (λ o. option_map_or (λ n. Some (At line.number n)) o (first_filter_fault (take i lines ++ line ∷ []) (drop (i + 1) lines))) fine
      ∙ ap (λ before. first_filter_fault before (drop (i + 1) lines)) (sym take_is)

  pub filters_later : (filters : List NamedFilter) → filters ++ filters_in (drop i lines) ≡ filters_in lines →
      (filters ++ option_to_list (filter_at line (drop (i + 1) lines))) ++ filters_in (drop (i + 1) lines) ≡ filters_in lines
  unfolding filters_in
  filters_later filters so_far =
      append_assoc filters (option_to_list (filter_at line (drop (i + 1) lines))) (filters_in (drop (i + 1) lines))
      ∙ ap (λ ls. filters ++ filters_in ls) (sym drop_is) ∙ so_far

  pub skipped_later : (skipped : List ℕ) → skipped ++ all_skipped (drop i lines) ≡ all_skipped lines →
      (skipped ++ cond (is_some (key_at line.text)) (skipped_in (own_lines (drop (i + 1) lines))) []) ++ all_skipped (drop (i + 1) lines) ≡ all_skipped lines
  unfolding all_skipped
  skipped_later skipped so_far =
      append_assoc skipped (cond (is_some (key_at line.text)) (skipped_in (own_lines (drop (i + 1) lines))) []) (all_skipped (drop (i + 1) lines))
      ∙ ap (λ ls. skipped ++ all_skipped ls) (sym drop_is) ∙ so_far

  pub seen_later : (key : Key) → is_among_keys (take (i + 1) lines) key ≡ (is_among_keys (take i lines) key || begins_filter (heading_at line.text) key)
  seen_later key =
      ap (λ ls. is_among_keys ls key) take_is
      ∙ ap (list_any (same_key key)) (filter_map-append (λ (l : Line). key_at l.text) (take i lines) (line ∷ []))
      ∙ list_any-append (same_key key) (keys_in (take i lines)) (keys_in (line ∷ []))
      ∙ ap (λ b. is_among_keys (take i lines) key || b)
      (ap (list_any (same_key key)) (one_key (key_at line.text) line refl) ∙ any_of_one (same_key key) (key_at line.text))

  pub begun_later : refusal_at (take i lines) line ≡ None → true ≡ begins_part (take (i + 1) lines)
  begun_later fine =
      sym (ap begins_part take_is ∙ list_any-append (λ l. not (is_job_line l)) (take i lines) (line ∷ [])
      ∙ ap (λ b. begins_part (take i lines) || b) (or_false (not (is_job_line line)))
      ∙ part_is_begun (is_among_keys (take i lines)) (heading_at line.text) (begins_part (take i lines)) fine)

-- a file whose lines are all read
pub file_is_read : (lines : List Line) (i : ℕ) (filters : List NamedFilter) (skipped : List ℕ) → length lines ≤ i →
    first_filter_fault [] lines ≡ first_filter_fault (take i lines) (drop i lines) → filters ++ filters_in (drop i lines) ≡ filters_in lines →
    skipped ++ all_skipped (drop i lines) ≡ all_skipped lines →
    let file : FilterFile = record { filters = filters; skipped = skipped } in
    let answer : Result FilterFile FilterFault = Ok file in
    answer ≡ file_of lines
unfolding file_of first_filter_fault filters_in all_skipped
file_is_read lines i filters skipped past fault all_filters skips =
    let none : drop i lines ≡ [] = drop_all i lines past in
    ap₂ (λ (fs : List NamedFilter) (ns : List ℕ). let file : FilterFile = record { filters = fs; skipped = ns } in let answer : Result FilterFile FilterFault = Ok file in answer)
    (sym (append-nil filters) ∙ ap (λ ls. filters ++ filters_in ls) (sym none) ∙ all_filters)
    (sym (append-nil skipped) ∙ ap (λ ls. skipped ++ all_skipped ls) (sym none) ∙ skips)
    ∙ sym (ap (λ o. option_map_or Err o (Ok (record { filters = filters_in lines; skipped = all_skipped lines })))
    (fault ∙ ap (first_filter_fault (take i lines)) none))

-- a file with a line that is refused
pub file_is_refused : (lines : List Line) (f : FilterFault) → first_filter_fault [] lines ≡ Some f → Err f ≡ file_of lines
unfolding file_of
file_is_refused lines f is =
    sym (ap (λ o. option_map_or Err o (Ok (record { filters = filters_in lines; skipped = all_skipped lines }))) is)
