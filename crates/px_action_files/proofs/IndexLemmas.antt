-- Where an alias is found by its name.
use Rattle.std.proofs.Common.{◌≡◌, ℕ, ◌<◌, ◌+◌, Bool, true, false, cond, List, [], ◌∷◌, ◌++◌, length, length-append, map, get_or, find, Option, Some, None, is_some, option_map, refl, sym, ap, subst, ◌∙◌, inl, inr, ◌⊎◌, arith}
use Rattle.std.specs.BTreeMap.{BTreeMap, UpdatesBy, get_by}
use Rattle.std.specs.Cmp.{eq_by_cmp_equiv}
use Rattle.std.specs.Cmp.Lexicographic.{slice_cmp, bytes_decides, nat_list_cmp_total, nat_list_eq_equiv}
use Rattle.std.specs.Global.{Vec}
use Rattle.std.specs.Map.{lookup, IsKeyTest, AreApart, KeepsOthers}
use Rattle.std.specs.Ordering.{is_eq, nat_cmp, eq_by_cmp}
use Rattle.std.specs.Option.{option_or}
use Rattle.std.specs.Str.{bytes_eq, str_to_ascii_lowercase, str_eq_ignore_ascii_case}
use Rattle.std.proofs.Math.ListN.{get_or-append}
use Rattle.std.proofs.Math.Seq.{get_or-append_seam}
use Rattle.std.proofs.lemmas.Bool.{cases_Bool, cond-true, cond-false}
use Rattle.std.proofs.lemmas.Map.Text.{is_eq-slice_cmp}
use Rattle.px_action_files.specs.Aliases.{alias_named, alias_cut, alias_of, is_alias_name, name_and_words, named_alias}
use Rattle.px_action_files.specs.AliasTables.{alias_has_key, IsPlace, IsIndex}
use Rattle.px_action_files.specs.Faults.{Refused, refused}
use Rattle.px_action_files.specs.Meanings.{AliasSeen, seen_alias}
use Rattle.px_actions.specs.Braces.{balances}
use Rattle.px_actions.specs.declared.changes.Change.{Change}
use Rattle.px_actions.specs.declared.kinds.Kind.{Kind}
use Rattle.px_text.specs.declared.lines.Line.{Line}
use Rattle.std.specs.Prelude.{Result, Ok, Err, not, if◌then◌else◌}
use Rattle.px_action_files.specs.declared.aliases.Alias.{Alias}
use Rattle.px_base.specs.Results.{result_map}

-- ---- a map whose keys are bytes, after a change at the bytes bs

apart : (bs cs ks : List ℕ) → bytes_eq bs cs ≡ false → is_eq (slice_cmp nat_cmp bs ks) ≡ true → is_eq (slice_cmp nat_cmp cs ks) ≡ false
apart bs cs ks n y =
    is_eq-slice_cmp cs ks ∙ (nat_list_eq_equiv.symm cs ks ∙ (sym (nat_list_eq_equiv.congr bs ks cs (sym (is_eq-slice_cmp bs ks) ∙ y)) ∙ n))

other_entries : {K X : Type 0} (eq : K → K → Bool) (test : K → Bool) (old new : List (K × X)) → KeepsOthers eq test old new
    → (other : K → Bool) → IsKeyTest eq other → AreApart test other → lookup other new ≡ lookup other old
unfolding KeepsOthers
other_entries eq test old new h = h

place_after : (bs : List ℕ) (m n : BTreeMap (Vec ℕ) ℕ) (w : Option ℕ) → UpdatesBy (λ x y. slice_cmp nat_cmp x.items y.items) (λ k. slice_cmp nat_cmp bs k.items) m n w
    → (cs : List ℕ) → get_by (λ k. slice_cmp nat_cmp cs k.items) n ≡ cond (bytes_eq bs cs) w (get_by (λ k. slice_cmp nat_cmp cs k.items) m)
place_after bs m n w h cs = elim (cases_Bool (bytes_eq bs cs)) [
  | inl y ↦ subst (λ l. get_by (λ k. slice_cmp nat_cmp l k.items) n ≡ w) ((bytes_decides bs cs).0 y) h.1 ∙ sym (cond-true (bytes_eq bs cs) w _ y)
  | inr other ↦
      other_entries _ _ _ _ h.3 _ (λ x y. (eq_by_cmp_equiv nat_list_cmp_total).congr cs x.items y.items) (λ k. apart bs cs k.items other)
      ∙ sym (cond-false (bytes_eq bs cs) w _ other)
]

-- ---- the alias of a key

first_or : {X : Type 0} (y : X) (o a b : Option X) (t : Bool) → o ≡ option_or a b → cond t (Some y) o ≡ option_or (cond t (Some y) a) b
first_or y o a b true e = refl
first_or y o a b false e = e

find-push : {X : Type 0} (p : X → Bool) (xs : List X) (x : X) → find p (xs ++ x ∷ []) ≡ option_or (find p xs) (cond (p x) (Some x) None)
find-push p [] x = refl
find-push p (y ∷ xs) x = first_or y (find p (xs ++ x ∷ [])) (find p xs) (cond (p x) (Some x) None) (p y) (find-push p xs x)

-- an alias more, whose key none has yet
place_pushed : (list : List Alias) (a : Alias) (key : List ℕ) (o : Option ℕ) (own : Bool) → bytes_eq (str_to_ascii_lowercase a.name) key ≡ own
    → (own ≡ true → find (alias_has_key key) list ≡ None) → IsPlace list key o → IsPlace (list ++ a ∷ []) key (cond own (Some (length list)) o)
place_pushed list a key o true e fresh h = (
  omega (arith, length-append list (a ∷ [])),
  λ d. find-push (alias_has_key key) list a ∙ (rw (fresh refl, e) (sym (ap Some (get_or-append_seam list a [] d)))),
)
place_pushed list a key None false e fresh h = find-push (alias_has_key key) list a ∙ rw (h, e) refl
place_pushed list a key (Some at) false e fresh h = (
  omega (arith, h.0, length-append list (a ∷ [])),
  λ d. find-push (alias_has_key key) list a ∙ rw (h.1 d) (sym (ap Some (get_or-append list (a ∷ []) d at h.0))),
)

-- the alias of a name is that of the name in small letters
named-map : (list : List Alias) (name : List ℕ) → alias_named (map seen_alias list) name ≡ option_map seen_alias (find (alias_has_key (str_to_ascii_lowercase name)) list)
named-map [] name = refl
named-map (a ∷ list) name = grind (arith, named-map list name)

none-mapped : {X Y : Type 0} (f : X → Y) (o : Option X) → is_some (option_map f o) ≡ false → o ≡ None
none-mapped f None e = refl
none-mapped f (Some x) e = absurd (cc)

no_alias : (list : List Alias) (name : List ℕ) → is_some (alias_named (map seen_alias list) name) ≡ false → find (alias_has_key (str_to_ascii_lowercase name)) list ≡ None
no_alias list name e = none-mapped seen_alias _ (ap is_some (sym (named-map list name)) ∙ e)

-- no alias is nowhere
pub index_of_none : (places : BTreeMap (Vec ℕ) ℕ) → places.entries ≡ [] → IsIndex places []
index_of_none places e key = rw e refl

-- an alias more, at the end
pub index_pushed : (self list new : List Alias) (a : Alias) (name key : List ℕ) (count : ℕ) (m n : BTreeMap (Vec ℕ) ℕ) → IsIndex m list → self ≡ list → name ≡ a.name
    → key ≡ str_to_ascii_lowercase name → count ≡ length list → is_some (alias_named (map seen_alias self) a.name) ≡ false → new ≡ list ++ a ∷ []
    → UpdatesBy (λ x y. slice_cmp nat_cmp x.items y.items) (λ k. slice_cmp nat_cmp key k.items) m n (Some count) → IsIndex n new
index_pushed self list new a name key count m n h same is_name is_key is_count unknown is_new updates q =
    let own = bytes_eq (str_to_ascii_lowercase a.name) q in
    let absent : find (alias_has_key (str_to_ascii_lowercase a.name)) list ≡ None = no_alias list a.name (subst (λ l. is_some (alias_named (map seen_alias l) a.name) ≡ false) same unknown) in
    let none : own ≡ true → find (alias_has_key q) list ≡ None =
    λ y. subst (λ l. find (alias_has_key l) list ≡ None) ((bytes_decides (str_to_ascii_lowercase a.name) q).0 y) absent in
    let place : get_by (λ k. slice_cmp nat_cmp q k.items) n ≡ cond own (Some (length list)) (get_by (λ k. slice_cmp nat_cmp q k.items) m) =
    place_after key m n (Some count) updates q
    ∙ (ap (λ l. cond (bytes_eq l q) (Some count) (get_by (λ k. slice_cmp nat_cmp q k.items) m)) (is_key ∙ ap str_to_ascii_lowercase is_name)
    ∙ ap (λ i. cond own (Some i) (get_by (λ k. slice_cmp nat_cmp q k.items) m)) is_count) in
    rw (is_new, place) (place_pushed list a q _ own refl none (h q))

-- what is found at a place, and where there is none
pub at_place : (places : BTreeMap (Vec ℕ) ℕ) (list : List Alias) (key : List ℕ) (o : Option ℕ) → IsIndex places list → o ≡ get_by (λ k. slice_cmp nat_cmp key k.items) places
    → IsPlace list key o
at_place places list key o h e = subst (λ p. IsPlace list key p) (sym e) (h key)

pub alias_at : (self list : List Alias) (name key : List ℕ) (at : ℕ) (a : Alias) → self ≡ list → key ≡ str_to_ascii_lowercase name → IsPlace list key (Some at)
    → a ≡ get_or list at a → Some (seen_alias a) ≡ alias_named (map seen_alias self) name
alias_at self list name key at a same is_key h is =
    let found : find (alias_has_key (str_to_ascii_lowercase name)) list ≡ Some (get_or list at a) = subst (λ k. find (alias_has_key k) list ≡ Some (get_or list at a)) is_key (h.1 a) in
    sym (ap (λ l. alias_named (map seen_alias l) name) same ∙ (named-map list name ∙ ap (option_map seen_alias) (found ∙ ap Some (sym is))))

pub alias_nowhere : (self list : List Alias) (name key : List ℕ) → self ≡ list → key ≡ str_to_ascii_lowercase name → IsPlace list key None
    → None ≡ alias_named (map seen_alias self) name
alias_nowhere self list name key same is_key h =
    let found : find (alias_has_key (str_to_ascii_lowercase name)) list ≡ None = subst (λ k. find (alias_has_key k) list ≡ None) is_key h in
    sym (ap (λ l. alias_named (map seen_alias l) name) same ∙ (named-map list name ∙ ap (option_map seen_alias) found))

-- ---- an alias that was read

by_tests : (known : List AliasSeen) (line : ℕ) (name : List ℕ) (fine taken : Bool) (r : Result (List (Kind × Change)) Refused) (a : AliasSeen)
    → is_some (alias_named known name) ≡ taken
    → (if not fine then refused line 44 else (if taken then refused line 20 else result_map (named_alias name) r)) ≡ Ok a
    → is_some (alias_named known a.name) ≡ false
by_tests known line name false taken r a t e = absurd (cc)
by_tests known line name true true r a t e = absurd (cc)
by_tests known line name true false (Ok us) a t e =
    let same : named_alias name us ≡ a = (cc) in subst (λ x. is_some (alias_named known x.name) ≡ false) same t
by_tests known line name true false (Err f) a t e = absurd (cc)

by_parts : (known : List AliasSeen) (line : ℕ) (parts : Option (List ℕ × List ℕ)) (a : AliasSeen) → alias_cut known line parts ≡ Ok a
    → is_some (alias_named known a.name) ≡ false
by_parts known line None a e = absurd (cc)
by_parts known line (Some parts) a e = by_tests known line parts.0 (is_alias_name parts.0) _ _ a refl e

by_balance : (known : List AliasSeen) (line : Line) (balanced : Bool) (a : AliasSeen)
    → (if balanced then alias_cut known line.number (name_and_words line.text) else refused line.number 16) ≡ Ok a
    → is_some (alias_named known a.name) ≡ false
by_balance known line true a e = by_parts known line.number (name_and_words line.text) a e
by_balance known line false a e = absurd (cc)

-- it has a name that none before it has
pub alias_fresh : (known : List AliasSeen) (line : Line) (a : AliasSeen) → alias_of known line ≡ Ok a → is_some (alias_named known a.name) ≡ false
unfolding alias_of
alias_fresh known line a e = by_balance known line (balances line.text) a e
