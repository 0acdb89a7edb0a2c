-- What names hold in files in memory.
use Rattle.std.proofs.Common.{◌≡◌, ℕ, ◌+◌, ◌<◌, Bool, true, false, cond, List, [], ◌∷◌, ◌++◌, length, drop, map, Option, Some, None, refl, sym, ap, ◌∙◌, add-one, drop-cons}
use Rattle.std.specs.Str.{bytes_eq}
use Rattle.px_base.specs.Contents.{Contents, after_turn}
use Rattle.px_base.specs.Folders.{holds, files_at, states_behind}

-- the first of two that is there
abbrev pub or_else : Option (List ℕ) → Option (List ℕ) → Option (List ℕ)
or_else None other = other
or_else (Some bytes) other = Some bytes

-- a name is looked for in the first files before the others
pub holds-append : (xs ys : List (List ℕ × List ℕ)) (name : List ℕ) → holds (xs ++ ys) name ≡ or_else (holds xs name) (holds ys name)
holds-append [] ys name = refl
holds-append (f ∷ xs) ys name = ap (cond (bytes_eq f.0 name) (Some f.1)) (holds-append xs ys name) ∙ by (bytes_eq f.0 name)
  where
    by : (b : Bool) → cond b (Some f.1) (or_else (holds xs name) (holds ys name)) ≡ or_else (cond b (Some f.1) (holds xs name)) (holds ys name)
    by true = refl
    by false = refl

pub ruleset folder_rules = (holds-append)

-- the contents to come, where there are some
states_behind-next : (states : List (List (List ℕ × List ℕ))) (i : ℕ) → i + 1 < length states → states_behind states i ≡ holds (files_at states (i + 1)) ∷ states_behind states (i + 1)
states_behind-next states i l = ap (map holds) (rw (← add-one (i + 1)) at (drop-cons states (i + 1) [] l))

-- a turn that goes to the next state
pub turned_to_next : (states : List (List (List ℕ × List ℕ))) (i : ℕ) (now : Contents) → i + 1 < length states → (name : List ℕ) → holds (files_at states (i + 1)) name ≡ after_turn now (states_behind states i) name
turned_to_next states i now l name = ap (λ cs. after_turn now cs name) (sym (states_behind-next states i l))

pub later_after_next : (states : List (List (List ℕ × List ℕ))) (i : ℕ) → i + 1 < length states → states_behind states (i + 1) ≡ drop 1 (states_behind states i)
later_after_next states i l = ap (drop 1) (sym (states_behind-next states i l))
