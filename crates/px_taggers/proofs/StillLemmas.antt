-- Where no tagger is in force, lines change nothing.
use Rattle.std.proofs.Common.{◌≡◌, ℕ, List, [], ◌∷◌, refl, sym, ap, ◌∙◌}
use Rattle.std.specs.Prelude.{fold}
use Rattle.px_actions.specs.declared.settings.Setting.{Setting}
use Rattle.px_merge.specs.declared.sides.Side.{Side}
use Rattle.px_taggers.specs.Tagging.{Rules, Tagged, TagsLike, after_absent, after_line, after_lines, after_tagger, in_force, rules, state, tag_headers}

still_line : (rules : Rules) (s : Tagged) (line : List ℕ) → in_force rules.side s.set ≡ [] → after_line rules s line ≡ s
unfolding after_line
still_line rules s line none = ap (fold (after_tagger rules line) s) none

still_lines : (rules : Rules) (s : Tagged) (lines : List (List ℕ)) → in_force rules.side s.set ≡ [] → after_lines rules s lines ≡ s
still_lines rules s [] none = refl
still_lines rules s (line ∷ lines) none = ap (λ t. after_lines rules t lines) (still_line rules s line none) ∙ still_lines rules s lines none

pub needs_no_line : (set : List Setting) (side : Side) → in_force side set ≡ [] → (lines : List (List ℕ)) → TagsLike set side [] lines
unfolding tag_headers
needs_no_line set side none lines sections filters tags vars =
    sym (ap (after_absent (rules sections filters side vars)) (still_lines (rules sections filters side vars) (state set tags) lines none))
