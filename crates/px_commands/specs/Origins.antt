-- The file ORIGIN: entries, each a line of one to eight decimal digits, ended by LF, and that many bytes, which are the answer of one
-- dial; or a word line for a dial that is refused.
use Rattle.std.specs.Prelude.{◌≡◌, ◌⊎◌, ℕ, ◌≤◌, List, [], ◌∷◌, ◌++◌, length, Some, codes}
use Rattle.px_base.specs.Numbers.{decimal}
use Rattle.px_base.specs.declared.dials.Answer.{Answer}
use Rattle.px_base.specs.declared.dials.Answer.TheVariants as answer

-- an answer that is read to its end without faults
abbrev pub plain_answer : List ℕ → Answer
plain_answer bytes = answer.Link bytes [] [] []

-- bytes behind their count at the front of a text, and what comes behind them; 10 is LF
pub record BeginsCounted (text bytes rest : List ℕ) : Type 0 where
  pub digits : List ℕ
  pub short : length digits ≤ 8
  pub counts : decimal 99999999 digits ≡ Some (length bytes)
  pub parts : text ≡ digits ++ 10 ∷ (bytes ++ rest)

-- a word line at the front of a text, and what comes behind it; the last one may lack its LF
abbrev pub BeginsWithWord : List ℕ → List ℕ → List ℕ → Type 0
BeginsWithWord word text rest = (text ≡ word ++ 10 ∷ rest) ⊎ ((text ≡ word) × (rest ≡ []))

-- an entry at the front of a text, by its answer, and what comes behind it
abbrev pub BeginsEntry : List ℕ → Answer → List ℕ → Type 0
BeginsEntry text answer.NoName rest = BeginsWithWord (codes "no-name") text rest
BeginsEntry text answer.NotReached rest = BeginsWithWord (codes "not-reached") text rest
BeginsEntry text (answer.Link bytes cuts reads writes) rest = (answer.Link bytes cuts reads writes ≡ plain_answer bytes) × BeginsCounted text bytes rest

-- the text is the entries of those answers
abbrev pub IsOrigin : List ℕ → List Answer → Type 0
IsOrigin text [] = text ≡ []
IsOrigin text (a ∷ answers) = (rest : List ℕ) × BeginsEntry text a rest × IsOrigin rest answers
