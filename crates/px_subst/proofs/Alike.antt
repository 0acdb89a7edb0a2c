-- A replaced text depends on the spans of the matches and their groups alone, so a built expression gives what the written one gives.
use Rattle.std.proofs.Common.{◌≡◌, ℕ, ◌+◌, ◌*◌, ◌<◌, ◌==◌, Bool, true, false, cond, List, [], ◌∷◌, ◌++◌, Option, Some, None, flat_map, map, take, length, slice_range, slice_index, refl, sym, ap, ap₂, ◌∙◌, arith, ◌-◌, ◌≤◌, ◌^◌}
use Rattle.std.specs.Option.{option_map_or}
use Rattle.std.proofs.lemmas.List.{length-map, take-map, take_all}
use Rattle.regex_hir.specs.Re.{Re}
use Rattle.regex_hir.specs.Find.{Match, find_all}
use Rattle.regex_syntax.specs.Captures.{SameCaptures}
use Rattle.regex.specs.Replace.{replaced_by, bytes_of}
use Rattle.regex.specs.Writes.{both}
use Rattle.regex.proofs.ForCallers.{spans, find_all_alike}
use Rattle.px_subst.specs.declared.items.SubstituteItem.{SubstituteItem}
use Rattle.px_subst.specs.declared.items.SubstituteItem.TheVariants.{Byte, Group}
use Rattle.px_subst.specs.declared.outcomes.JobOutcome.{JobOutcome}
use Rattle.px_subst.specs.declared.flags.Flags.{Flags}
use Rattle.px_subst.specs.Substitutes.{item_bytes, written_items}
use Rattle.px_subst.specs.Expressions.{job_expression, IsJobBuiltFrom}
use Rattle.px_subst.specs.Jobs.{replaced, run_with, unchanged}
use Rattle.px_subst.specs.Replacers.{Built, SpellsJob, replaced_up_to, replaces}
use Rattle.px_subst.proofs.MatchLemmas.{few_matches}

-- what a caller sees of a match: its start, its end and where its slots lie
abbrev Seen : Type 0
Seen = ℕ × ℕ × (ℕ → Option ℕ)

abbrev seen_bytes : List ℕ → Seen → SubstituteItem → List ℕ
seen_bytes text s (Byte b) = b ∷ []
seen_bytes text s (Group n) = bytes_of text (cond (n == 0) (Some (s.0, s.1)) (both (s.2 (2 * n)) (s.2 (2 * n + 1))))

seen_is : (text : List ℕ) (m : Match) (item : SubstituteItem) → item_bytes text m item ≡ seen_bytes text (spans m) item
seen_is text m (Byte b) = refl
seen_is text m (Group n) = refl

written_is : (text : List ℕ) (m : Match) (items : List SubstituteItem) → written_items text items m ≡ flat_map (seen_bytes text (spans m)) items
written_is text m [] = refl
written_is text m (item ∷ items) = ap₂ ◌++◌ (seen_is text m item) (written_is text m items)

replaced_same : (text : List ℕ) (items : List SubstituteItem) (at : ℕ) (xs ys : List Match) → map spans xs ≡ map spans ys →
    replaced_by (written_items text items) text at xs ≡ replaced_by (written_items text items) text at ys
unfolding replaced_by
replaced_same text items at [] [] e = refl
replaced_same text items at [] (y ∷ ys) e = absurd (cc e)
replaced_same text items at (x ∷ xs) [] e = absurd (cc e)
replaced_same text items at (x ∷ xs) (y ∷ ys) e =
    let first : spans x ≡ spans y = cc e in
    let later : map spans xs ≡ map spans ys = cc e in
    let wrote : written_items text items x ≡ written_items text items y =
    written_is text x items ∙ (ap (λ (s : Seen). flat_map (seen_bytes text s) items) first ∙ sym (written_is text y items)) in
    let tail : replaced_by (written_items text items) text x.trace.end xs ≡ replaced_by (written_items text items) text y.trace.end ys =
    replaced_same text items x.trace.end xs ys later ∙ ap (λ n. replaced_by (written_items text items) text n ys) (ap (λ (s : Seen). s.1) first) in
    ap₂ ◌++◌ (ap₂ (λ n w. slice_range text at n ++ w) (ap (λ (s : Seen). s.0) first) wrote) tail

outcome_same : (text : List ℕ) (items : List SubstituteItem) (xs ys : List Match) → map spans xs ≡ map spans ys →
    let one : JobOutcome = record { text = replaced_by (written_items text items) text 0 xs; hits = length xs } in
    one ≡ record { text = replaced_by (written_items text items) text 0 ys; hits = length ys }
outcome_same text items xs ys e =
    ap₂ (λ (t : List ℕ) (n : ℕ). let o : JobOutcome = record { text = t; hits = n } in o) (replaced_same text items 0 xs ys e)
    (sym (length-map xs spans) ∙ ap length e ∙ length-map ys spans)

module _ {a b : Re} (same : SameCaptures a b) (text : List ℕ) (bytes : (k : ℕ) → slice_index text k < 256) (items : List SubstituteItem) where
  pub replaced_alike : (every : Bool) → replaced every items a text ≡ replaced every items b text
  replaced_alike true = outcome_same text items _ _ (find_all_alike same text bytes false)
  replaced_alike false =
      outcome_same text items _ _
      (sym (take-map spans 1 (find_all a text)) ∙ ap (take 1) (find_all_alike same text bytes false) ∙ take-map spans 1 (find_all b text))

-- the first matches up to a limit, which is 1 or more than there are
chosen : (every : Bool) (limit : ℕ) (all : List Match) → limit ≡ cond every (2 ^ 64 - 1) 1 → length all ≤ 2 ^ 64 - 1 → take limit all ≡ cond every all (take 1 all)
chosen true limit all is few = ap (λ n. take n all) is ∙ take_all (2 ^ 64 - 1) all few
chosen false limit all is few = ap (λ n. take n all) is

pub replaced_by_limit : (every : Bool) (limit : ℕ) (items : List SubstituteItem) (re : Re) (text : List ℕ) → limit ≡ cond every (2 ^ 64 - 1) 1 →
    length text + 1 ≤ 2 ^ 64 - 1 → replaced_up_to limit items re text ≡ replaced every items re text
replaced_by_limit every limit items re text is short =
    ap (λ (taken : List Match). let o : JobOutcome = record { text = replaced_by (written_items text items) text 0 taken; hits = length taken } in o)
    (chosen every limit (find_all re text) is (omega (arith, few_matches re text)))

-- what the built expression and the items make of a text is what the pattern, the items and the flags stand for
pub built_replaces : (b : Built) (re : Re) (text : List ℕ) → IsJobBuiltFrom b.flags b.pattern re → ((k : ℕ) → slice_index text k < 256) →
    replaced b.flags.every b.items re text ≡ replaces b text
unfolding run_with
built_replaces b re text from bytes =
    replaced_alike from.2 text bytes b.items b.flags.every
    ∙ sym (ap (λ o. option_map_or (λ re. replaced b.flags.every b.items re text) o (unchanged text)) from.1)

-- what it makes is what a pattern, items and flags make that it spells
pub spelled_run : (pattern : List ℕ) (items : List SubstituteItem) (flags : Flags) (b : Built) → SpellsJob pattern items flags b → (text : List ℕ) →
    replaces b text ≡ run_with pattern items flags text
spelled_run pattern items flags b spells text =
    ap (λ f. run_with b.pattern b.items f text) spells.flags_are
    ∙ ap₂ (λ p is. run_with p is flags text) spells.pattern_is spells.items_are

pub unread_run : (pattern : List ℕ) (items : List SubstituteItem) (flags : Flags) (text : List ℕ) → job_expression flags pattern ≡ None →
    unchanged text ≡ run_with pattern items flags text
unfolding run_with
unread_run pattern items flags text none =
    sym (ap (λ o. option_map_or (λ re. replaced flags.every items re text) o (unchanged text)) none)
