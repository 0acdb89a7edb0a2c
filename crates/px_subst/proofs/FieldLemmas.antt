-- One byte further in a field.
use Rattle.std.proofs.Common.{◌≡◌, ℕ, ◌+◌, ◌<◌, Bool, false, not, ◌&&◌, cond, eqb, List, drop, length, get_or, Option, Some, None, option_map, refl, sym, ap, ◌∙◌, arith, take, ◌-◌, length-drop}
use Rattle.std.proofs.lemmas.List.{at_drop_more, take_all}
use Rattle.px_subst.specs.Fields.{field_end, backslash}

-- `&xs[i..]`
pub slice_to_end : (i : ℕ) (xs : List ℕ) → take (length xs - i) (drop i xs) ≡ drop i xs
slice_to_end i xs = take_all _ _ (omega (arith, length-drop i xs))

moved : (o : Option ℕ) (i : ℕ) → option_map (λ n. n + i) (option_map (λ n. n + 1) o) ≡ option_map (λ n. n + (i + 1)) o
moved None i = refl
moved (Some n) i = let e : n + 1 + i ≡ n + (i + 1) = omega arith in ap Some e

-- the byte at i doesn't end the field, so the field goes on behind it
pub field_goes_on : (d : ℕ) (taken next : Bool) (text : List ℕ) (i : ℕ) → i < length text →
    (not taken && eqb (get_or text i 0) d) ≡ false → next ≡ (not taken && eqb (get_or text i 0) backslash) →
    field_end d false text ≡ option_map (λ n. n + i) (field_end d taken (drop i text)) →
    field_end d false text ≡ option_map (λ n. n + (i + 1)) (field_end d next (drop (i + 1) text))
field_goes_on d taken next text i inside stays next_is so_far =
    so_far ∙ at_drop_more (λ s. option_map (λ n. n + i) (field_end d taken s)) text i 0 inside
    ∙ ap (λ b. option_map (λ n. n + i) (cond b (Some 0) (option_map (λ n. n + 1) (field_end d (not taken && eqb (get_or text i 0) backslash) (drop (i + 1) text))))) stays
    ∙ moved _ i ∙ ap (λ t. option_map (λ n. n + (i + 1)) (field_end d t (drop (i + 1) text))) (sym next_is)
