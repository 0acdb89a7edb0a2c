-- Places that are parted, and patterns that are asked together.
use Rattle.std.proofs.Common.{◌≡◌, ℕ, ◌&&◌, Bool, true, false, List, [], ◌∷◌, ◌++◌, Option, None, Some, refl, sym, ap, ap₂, ◌∙◌, subst, arith}
use Rattle.std.specs.List.{flat_map, list_any}
use mathlib.Core.Logic.{⊎_elim}
use Rattle.std.proofs.lemmas.Bool.{cases_Bool, false≢true, or_cases, or_left}
use Rattle.std.proofs.lemmas.List.Concat.{flat_map-append}
use Rattle.px_patterns.specs.Expressions.{finds}
use Rattle.px_patterns.specs.Hosts.{host_part_matches}
use Rattle.px_patterns.specs.Patterns.{path_matches, ports_match, url_matches}
use Rattle.px_patterns.specs.declared.urls.Url.{Url}
use Rattle.px_action_files.specs.declared.patterns.Pattern.{Pattern}
use Rattle.px_action_files.specs.declared.patterns.Pattern.TheVariants as pattern
use Rattle.px_merge.specs.Finders.{AreAsked, AreOnce, HasPath, KeepsPlaces, parted_places, with_places}
use Rattle.px_merge.specs.Indexes.{IsIndexed, hit_of, host_keys, passes, pattern_at, slot_of, slots_weight, weight}
use Rattle.px_merge.specs.Merging.{is_for_url}
use Rattle.px_merge.specs.declared.indexes.PlaceIndex.{PlaceIndex}
use Rattle.px_merge.specs.declared.parts.PlaceParts.{PlaceParts}
use Rattle.px_merge.specs.declared.places.PatternPlace.{PatternPlace}
use Rattle.px_merge.specs.declared.places.Placed.{Placed}
use Rattle.px_merge.proofs.ListLemmas.{any_either, any_left, any_right}
use Rattle.px_merge.proofs.SlotLemmas.{weight_append}
use Rattle.px_merge.proofs.WalkLemmas.{hit_none}

-- ---- a place that goes to one of the parts

pub once_always : (old new : PlaceParts) (place : PatternPlace) → new.always ≡ old.always ++ place ∷ [] → new.paths ≡ old.paths → AreOnce (parted_places old ++ place ∷ []) (parted_places new)
once_always old new place always paths weigh =
    omega (
      arith,
      ap (weight weigh) (ap₂ ◌++◌ always paths),
      weight_append weigh (old.always ++ place ∷ []) old.paths,
      weight_append weigh old.always (place ∷ []),
      weight_append weigh (old.always ++ old.paths) (place ∷ []),
      weight_append weigh old.always old.paths,
    )

-- ---- one place of a list after the other

pub keeps_step : (all old new others : List PatternPlace) (place : PatternPlace) → KeepsPlaces all (old ++ place ∷ others) → KeepsPlaces (old ++ place ∷ []) new → KeepsPlaces all (new ++ others)
keeps_step all old new others place before step test e =
    ⊎_elim (λ first. any_left test new others (step test (any_left test old (place ∷ []) first)))
    (λ later.
    ⊎_elim (λ here. any_left test new others (step test (any_right test old (place ∷ []) (or_left (test place) false here)))) (λ behind. any_right test new others behind)
    (or_cases (test place) (list_any test others) later))
    (any_either test old (place ∷ others) (before test e))

pub once_step : (all old new others : List PatternPlace) (place : PatternPlace) → AreOnce all (old ++ place ∷ others) → AreOnce (old ++ place ∷ []) new → AreOnce all (new ++ others)
once_step all old new others place before step weigh =
    omega (arith, before weigh, step weigh, weight_append weigh old (place ∷ others), weight_append weigh old (place ∷ []), weight_append weigh new others)

-- ---- expressions that are asked together

path_fails : (text : List ℕ) (o : Option Pattern) (url : Url) (tags : List (List ℕ)) → HasPath text o → finds text url.path ≡ false → passes (is_for_url url tags) o ≡ false
unfolding url_matches
path_fails text None url tags has fails = absurd has
path_fails text (Some (pattern.Url p)) url tags has fails =
    ap (λ path. (host_part_matches p.host url.host && ports_match p.ports url.port) && path_matches path url.path) has
    ∙ ap (λ b. (host_part_matches p.host url.host && ports_match p.ports url.port) && b) fails
    ∙ none_and (host_part_matches p.host url.host && ports_match p.ports url.port)
  where
    none_and : (b : Bool) → (b && false) ≡ false
    none_and true = refl
    none_and false = refl
path_fails text (Some (pattern.Tag p)) url tags has fails = absurd has
path_fails text (Some (pattern.NoRequestTag p)) url tags has fails = absurd has
path_fails text (Some (pattern.NoResponseTag p)) url tags has fails = absurd has
path_fails text (Some (pattern.ClientTag p)) url tags has fails = absurd has

not_left : {X : Type 0} (test : X → Bool) (xs ys : List X) → list_any test (xs ++ ys) ≡ false → list_any test xs ≡ false
not_left test xs ys e = ⊎_elim (λ some. absurd (false≢true (sym e ∙ any_left test xs ys some))) (λ none. none) (cases_Bool (list_any test xs))

not_last : {X : Type 0} (test : X → Bool) (xs : List X) (x : X) → list_any test (xs ++ x ∷ []) ≡ false → test x ≡ false
not_last test xs x e = ⊎_elim (λ some. absurd (false≢true (sym e ∙ any_right test xs (x ∷ []) (or_left (test x) false some)))) (λ none. none) (cases_Bool (test x))

asked_push : (sections : List Placed) (texts : List (List ℕ)) (places : List PatternPlace) (text : List ℕ) (place : PatternPlace) → HasPath text (pattern_at sections place)
    → AreAsked sections texts places → AreAsked sections (texts ++ text ∷ []) (places ++ place ∷ [])
asked_push sections texts places text place has asked url tags e =
    let test = is_for_url url tags in
    flat_map-append (hit_of sections test) places (place ∷ [])
    ∙ ap₂ ◌++◌ (asked url tags (not_left (λ t. finds t url.path) texts (text ∷ []) e))
    (ap (λ hits. hits ++ [])
    (hit_none sections test place (path_fails text (pattern_at sections place) url tags has (not_last (λ t. finds t url.path) texts text e))))

pub asked_path : (sections : List Placed) (old new : PlaceParts) (text : List ℕ) (place : PatternPlace) → HasPath text (pattern_at sections place) → new.union ≡ old.union ++ text ∷ []
    → new.paths ≡ old.paths ++ place ∷ [] → AreAsked sections old.union old.paths → AreAsked sections new.union new.paths
asked_path sections old new text place has union paths asked =
    subst (λ texts. AreAsked sections texts new.paths) (sym union) (subst (AreAsked sections (old.union ++ text ∷ [])) (sym paths) (asked_push sections old.union old.paths text place has asked))

pub asked_same : (sections : List Placed) (old new : PlaceParts) → new.union ≡ old.union → new.paths ≡ old.paths → AreAsked sections old.union old.paths → AreAsked sections new.union new.paths
asked_same sections old new union paths asked = subst (λ texts. AreAsked sections texts new.paths) (sym union) (subst (AreAsked sections old.union) (sym paths) asked)

-- ---- an index whose places were parted

pub parted_index : (raw index : PlaceIndex) (paths : List PatternPlace) (sections : List Placed) → index.slots ≡ raw.slots → KeepsPlaces raw.always (index.always ++ paths)
    → AreOnce raw.always (index.always ++ paths) → IsIndexed raw sections → IsIndexed (with_places index paths) sections
parted_index raw index paths sections slots keeps once indexed = record {
  has = λ i p below stands j pattern within at url tags fits test found.
      let keys = host_keys url.host in
      subst (λ s. list_any test ((index.always ++ paths) ++ flat_map (slot_of s.items) keys) ≡ true) (sym slots)
      (⊎_elim (λ first. any_left test (index.always ++ paths) (flat_map (slot_of raw.slots.items) keys) (keeps test first))
      (λ later. any_right test (index.always ++ paths) (flat_map (slot_of raw.slots.items) keys) later)
      (any_either test raw.always (flat_map (slot_of raw.slots.items) keys) (indexed.has i p below stands j pattern within at url tags fits test found)));
  once = λ weigh. omega (arith, once weigh, indexed.once weigh, ap (λ s. slots_weight weigh s.items) slots);
}
