-- Looking for a filter by kind and name, and the places of filters.
use Rattle.std.proofs.Common.{◌≡◌, ℕ, suc, ◌+◌, ◌<◌, Bool, true, false, cond, List, [], ◌∷◌, ◌++◌, take, drop, length, get_or, find, Option, Some, None, IfSome, option_map, unwrap_or, refl, sym, ap, ◌∙◌, arith, length-take}
use Rattle.std.specs.List.{slice_get}
use Rattle.std.specs.Option.{option_and_then, option_map_or}
use Rattle.std.proofs.lemmas.List.{take_more}
use Rattle.std.proofs.lemmas.Option.{slice_get-get_or}
use Rattle.px_filter_files.specs.declared.files.FilterFile.{FilterFile}
use Rattle.px_filter_files.specs.declared.files.NamedFilter.{NamedFilter}
use Rattle.px_filter_files.specs.FilterFiles.{FiltersOfFiles, filters_of_all, found, has_key, jobs_of}
use Rattle.px_filter_files.specs.Headings.{Key}
use Rattle.px_filter_files.specs.Places.{first_place, jobs_at, jobs_at_place, or_here}

module _ {X : Type 0} (p : X → Bool) where
  further : (o : Option ℕ) (here : Bool) (n : ℕ) → option_map (λ k. k + 1) (or_here o here n) ≡ or_here (option_map (λ k. k + 1) o) here (n + 1)
  further (Some k) here n = refl
  further None true n = refl
  further None false n = refl

  by_test : (b : Bool) (o q : Option ℕ) (here : Bool) (n m : ℕ) → o ≡ or_here q here n → m ≡ n + 1 →
      cond b (Some 0) (option_map (λ k. k + 1) o) ≡ or_here (cond b (Some 0) (option_map (λ k. k + 1) q)) here m
  by_test true o q here n m e is = refl
  by_test false o q here n m e is = ap (option_map (λ k. k + 1)) e ∙ further q here n ∙ ap (or_here (option_map (λ k. k + 1) q) here) (sym is)

  -- one item more
  first_place-append : (xs : List X) (x : X) → first_place p (xs ++ x ∷ []) ≡ or_here (first_place p xs) (p x) (length xs)
  first_place-append [] x = refl
  first_place-append (y ∷ xs) x =
      by_test (p y) (first_place p (xs ++ x ∷ [])) (first_place p xs) (p x) (length xs) (length (y ∷ xs)) (first_place-append xs x) (omega arith)

  pub first_place-more : (xs : List X) (i : ℕ) (x : X) → i < length xs → x ≡ get_or xs i x →
      first_place p (take (i + 1) xs) ≡ or_here (first_place p (take i xs)) (p x) i
  first_place-more xs i x inside is =
      ap (first_place p) (take_more xs i x inside ∙ ap (λ y. take i xs ++ y ∷ []) (sym is)) ∙ first_place-append (take i xs) x
      ∙ ap (or_here (first_place p (take i xs)) (p x)) (omega (arith, length-take i xs))

  moved : (x : X) (xs : List X) (o : Option ℕ) → option_and_then (slice_get xs) o ≡ option_and_then (slice_get (x ∷ xs)) (option_map (λ k. k + 1) o)
  moved x xs None = refl
  moved x xs (Some k) = let e : suc k ≡ k + 1 = omega arith in ap (slice_get (x ∷ xs)) e

  -- the first item with a property is the one at its place
  pub find_by_place : (xs : List X) → find p xs ≡ option_and_then (slice_get xs) (first_place p xs)
  find_by_place [] = refl
  find_by_place (x ∷ xs) = at_front (p x) (find_by_place xs)
    where
      at_front : (b : Bool) → find p xs ≡ option_and_then (slice_get xs) (first_place p xs) →
          cond b (Some x) (find p xs) ≡ option_and_then (slice_get (x ∷ xs)) (cond b (Some 0) (option_map (λ k. k + 1) (first_place p xs)))
      at_front true e = refl
      at_front false e = e ∙ moved x xs (first_place p xs)

  pub place_within : (xs : List X) → IfSome (first_place p xs) (λ at. at < length xs)
  place_within [] = tt
  place_within (x ∷ xs) = at_front (p x) (first_place p xs) (place_within xs)
    where
      at_front : (b : Bool) (o : Option ℕ) → IfSome o (λ at. at < length xs) → IfSome (cond b (Some 0) (option_map (λ k. k + 1) o)) (λ at. at < length (x ∷ xs))
      at_front true o e = omega arith
      at_front false None e = tt
      at_front false (Some k) e = omega (arith, e)

-- ---- the first filter of a kind and a name

module _ (all : FiltersOfFiles) (key : Key) where
  found_by_place : found all key ≡ option_map (λ (f : NamedFilter). f.filter) (option_and_then (slice_get all.filters) (first_place (has_key key) all.filters))
  unfolding found
  found_by_place = ap (option_map (λ (f : NamedFilter). f.filter)) (find_by_place (has_key key) all.filters)

  pub found_at : (at : ℕ) (d : NamedFilter) → Some at ≡ first_place (has_key key) all.filters → at < length all.filters →
      found all key ≡ Some (get_or all.filters at d).filter
  found_at at d place inside =
      found_by_place
      ∙ ap (λ o. option_map (λ (f : NamedFilter). f.filter) (option_and_then (slice_get all.filters) o)) (sym place)
      ∙ ap (option_map (λ (f : NamedFilter). f.filter)) (slice_get-get_or all.filters at d inside)

  pub found_none : None ≡ first_place (has_key key) all.filters → found all key ≡ None
  found_none place =
      found_by_place ∙ ap (λ o. option_map (λ (f : NamedFilter). f.filter) (option_and_then (slice_get all.filters) o)) (sym place)

  -- the jobs at the place of the first filter are its jobs
  pub jobs_by_place : jobs_at_place all (first_place (has_key key) all.filters) ≡ jobs_of all key
  jobs_by_place = moved_in (first_place (has_key key) all.filters) ∙ ap (λ o. unwrap_or o []) (sym found_by_place)
    where
      by_filter : (o : Option NamedFilter) → option_map_or (λ (f : NamedFilter). f.filter) o [] ≡ unwrap_or (option_map (λ (f : NamedFilter). f.filter) o) []
      by_filter None = refl
      by_filter (Some f) = refl

      moved_in : (o : Option ℕ) → jobs_at_place all o ≡ unwrap_or (option_map (λ (f : NamedFilter). f.filter) (option_and_then (slice_get all.filters) o)) []
      moved_in None = refl
      moved_in (Some at) = by_filter (slice_get all.filters at)

-- the jobs of the filter that stands at a place
pub jobs_there : (all : FiltersOfFiles) (at : ℕ) (d : NamedFilter) → at < length all.filters → (get_or all.filters at d).filter ≡ jobs_at all at
jobs_there all at d inside = sym (ap (λ o. option_map_or (λ (f : NamedFilter). f.filter) o []) (slice_get-get_or all.filters at d inside))

pub jobs_here : (named : List NamedFilter) (filters all : FiltersOfFiles) (at : ℕ) (d : NamedFilter) → named ≡ filters.filters → filters ≡ all → at < length all.filters →
    (get_or named at d).filter ≡ jobs_at all at
jobs_here named filters all at d lent is inside =
    ap (λ fs. (get_or fs at d).filter) (lent ∙ ap (λ (f : FiltersOfFiles). f.filters) is) ∙ jobs_there all at d inside

-- ---- the filters of files

pub filters_of_first : (files : List FilterFile) (file : FilterFile) → 0 < length files → file ≡ get_or files 0 file →
    filters_of_all files ≡ file.filters ++ filters_of_all (drop 1 files)
filters_of_first [] file some is = absurd (omega arith)
filters_of_first (f ∷ files) file some is = ap (λ (g : FilterFile). g.filters ++ filters_of_all files) (sym is)
