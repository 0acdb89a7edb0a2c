-- Labels of hosts.
use Rattle.std.proofs.Common.{◌≡◌, ℕ, suc, List, [], ◌∷◌, ◌++◌, length, map, Option, None, Some, ap, ◌∙◌, append_assoc, sym}
use Rattle.px_base.specs.Cuts.{parts_of}
use Rattle.px_patterns.specs.Hosts.{labels_in}
use Rattle.px_merge.specs.Keys.{slot_number}
use Rattle.px_merge.specs.declared.hosts.TheConstants.{DOT}

-- the length of what is left, or 0
abbrev pub rest_length : Option (List ℕ) → ℕ
rest_length None = 0
rest_length (Some bytes) = suc (length bytes)

pub labels_step : (count : ℕ) (old new : List ℕ) (bytes label : List ℕ) (behind : Option (List ℕ)) → labels_in bytes ≡ label ∷ parts_of DOT behind
    → new ≡ old ++ slot_number count label ∷ []
    → new ++ map (slot_number count) (parts_of DOT behind) ≡ old ++ map (slot_number count) (labels_in bytes)
labels_step count old new bytes label behind cut step =
    ap (λ ns. ns ++ map (slot_number count) (parts_of DOT behind)) step
    ∙ append_assoc old (slot_number count label ∷ []) (map (slot_number count) (parts_of DOT behind))
    ∙ ap (λ labels. old ++ map (slot_number count) labels) (sym cut)
