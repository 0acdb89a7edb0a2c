-- The folder of a name, by its last byte.
use Rattle.std.proofs.Common.{◌≡◌, ℕ, List, [], ◌∷◌, ◌++◌, Bool, true, false, Option, None, Some, refl, sym, ap, ◌∙◌, cond}
use Rattle.std.specs.Prelude.{◌==◌, if◌then◌else◌}
use Rattle.px_config.specs.declared.names.TheConstants.{SLASH}
use Rattle.px_config.specs.Names.{folder_of, in_front_of_folder}

by_last : (front : List ℕ) (last : ℕ) → folder_of (front ++ last ∷ []) ≡ (if last == SLASH then Some front else folder_of front)
unfolding folder_of
by_last [] last = refl
by_last (b ∷ front) last = ap (in_front_of_folder b) (by_last front last) ∙ by (last == SLASH)
  where
    by : (t : Bool) → in_front_of_folder b (cond t (Some front) (folder_of front)) ≡ cond t (Some (b ∷ front)) (in_front_of_folder b (folder_of front))
    by true = refl
    by false = refl

pub folder_ends : (name front : List ℕ) (last : ℕ) → name ≡ front ++ last ∷ [] → (last == SLASH) ≡ true → folder_of name ≡ Some front
folder_ends name front last e t = rw (e, by_last front last, t) refl

pub folder_goes_on : (name front : List ℕ) (last : ℕ) → name ≡ front ++ last ∷ [] → (last == SLASH) ≡ false → folder_of name ≡ folder_of front
folder_goes_on name front last e t = rw (e, by_last front last, t) refl

pub folder_empty : folder_of [] ≡ None
unfolding folder_of
folder_empty = refl

pub ruleset folder_rules = (folder_ends, folder_goes_on, folder_empty)
