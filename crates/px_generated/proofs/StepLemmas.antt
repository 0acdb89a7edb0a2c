-- One section, request or answer more.
use Rattle.std.proofs.Common.{◌≡◌, ℕ, ◌+◌, ◌*◌, List, [], ◌∷◌, ◌++◌, ap, append_assoc, arith, refl, sym, ◌∙◌}
use Rattle.std.specs.List.{flat_map, range_with_len}
use Rattle.std.proofs.lemmas.List.{flat_map_more, map-id}
use Rattle.std.proofs.lemmas.List.FromFn.{map-range_with_len_more}
use Rattle.px_generated.specs.Draws.{after_draws}
use Rattle.px_generated.specs.Files.{section_from, sections}
use Rattle.px_generated.specs.Jobs.{first_sessions, session_at}
use Rattle.px_generated.specs.Sessions.{answer_from, answers, request_from, requests}

numbers_more : (count : ℕ) → range_with_len 0 (count + 1) ≡ range_with_len 0 count ++ count ∷ []
numbers_more count =
    sym (map-id (range_with_len 0 (count + 1)))
    ∙ (map-range_with_len_more (λ (k : ℕ). k) 0 count count (omega arith)
    ∙ ap (λ ks. ks ++ count ∷ []) (map-id (range_with_len 0 count)))

pieces_more : (f : ℕ → List ℕ) (count : ℕ) → flat_map f (range_with_len 0 (count + 1)) ≡ flat_map f (range_with_len 0 count) ++ f count
pieces_more f count = ap (flat_map f) (numbers_more count) ∙ sym (flat_map_more f [] (range_with_len 0 count) count)

pub sections_none : (x : ℕ) → sections 0 x ≡ []
unfolding sections
sections_none x = refl

pub sections_more : (count x now : ℕ) → now ≡ after_draws (3 * count) x → sections (count + 1) x ≡ sections count x ++ section_from now
unfolding sections
sections_more count x now there = pieces_more (λ k. section_from (after_draws (3 * k) x)) count ∙ ap (λ y. sections count x ++ section_from y) (sym there)

pub requests_none : (x : ℕ) → requests 0 x ≡ []
unfolding requests
requests_none x = refl

pub requests_more : (count x now : ℕ) → now ≡ after_draws (3 * count) x → requests (count + 1) x ≡ requests count x ++ request_from now
unfolding requests
requests_more count x now there = pieces_more (λ k. request_from (after_draws (3 * k) x)) count ∙ ap (λ y. requests count x ++ request_from y) (sym there)

pub answers_none : (x : ℕ) → answers 0 x ≡ []
unfolding answers
answers_none x = refl

pub answers_more : (count x now : ℕ) → now ≡ after_draws (3 * count) x → answers (count + 1) x ≡ answers count x ++ answer_from now ∷ []
unfolding answers
answers_more count x now there = map-range_with_len_more (λ k. answer_from (after_draws (3 * k) x)) 0 count count (omega arith) ∙ ap (λ y. answers count x ++ answer_from y ∷ []) (sym there)

pub sessions_none : (seed : ℕ) → first_sessions 0 seed ≡ []
unfolding first_sessions
sessions_none seed = refl

pub sessions_more : (count seed : ℕ) → first_sessions (count + 1) seed ≡ first_sessions count seed ++ session_at count seed ∷ []
unfolding first_sessions
sessions_more count seed = map-range_with_len_more (λ k. session_at k seed) 0 count count (omega arith)

-- three parts that are added one behind the other
pub three_parts : (old a b c first second new : List ℕ) → first ≡ old ++ a → second ≡ first ++ b → new ≡ second ++ c → new ≡ old ++ (a ++ b ++ c)
three_parts old a b c first second new one two three = grind (arith, append_assoc {A = ℕ}, one, two, three)
