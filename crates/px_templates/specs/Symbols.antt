-- The symbols of a template, its conditions, and their marks.
use Rattle.std.specs.Prelude.{ℕ, Bool, not, ◌==◌, nat_eq, List, [], ◌∷◌, length, find, Option, codes}
use Rattle.std.specs.List.{starts_with}
use Rattle.px_templates.specs.declared.symbols.Symbol.{Symbol}
use Rattle.px_templates.specs.declared.symbols.Symbol.TheVariants as symbol
use Rattle.px_templates.specs.declared.symbols.Symbols.{Symbols}
use Rattle.px_templates.specs.declared.conditions.Condition.{Condition}
use Rattle.px_templates.specs.declared.conditions.Condition.TheVariants as condition

-- what a symbol's value takes the place of
abbrev pub mark_of : Symbol → List ℕ
mark_of symbol.Hostname = codes "@hostname@"
mark_of symbol.Port = codes "@port@"
mark_of symbol.Path = codes "@path@"
mark_of symbol.Url = codes "@url@"
mark_of symbol.BlockReason = codes "@block-reason@"
mark_of symbol.Error = codes "@error@"
mark_of symbol.Parent = codes "@parent@"

abbrev pub symbol_value : Symbols → Symbol → List ℕ
symbol_value symbols symbol.Hostname = symbols.hostname
symbol_value symbols symbol.Port = symbols.port
symbol_value symbols symbol.Path = symbols.path
symbol_value symbols symbol.Url = symbols.url
symbol_value symbols symbol.BlockReason = symbols.block_reason
symbol_value symbols symbol.Error = symbols.error
symbol_value symbols symbol.Parent = symbols.parent

abbrev pub all_symbols : List Symbol
all_symbols = symbol.Hostname ∷ symbol.Port ∷ symbol.Path ∷ symbol.Url ∷ symbol.BlockReason ∷ symbol.Error ∷ symbol.Parent ∷ []

-- the symbol with whose mark a text begins
unfoldable pub symbol_at : List ℕ → Option Symbol
symbol_at text = find (λ s. starts_with nat_eq text (mark_of s)) all_symbols

-- the marks that a block of a condition stands between
abbrev pub start_of : Condition → List ℕ
start_of condition.BlockReason = codes "@if-block-reason-start"
start_of condition.Parent = codes "@if-parent-start"

abbrev pub end_mark : Condition → List ℕ
end_mark condition.BlockReason = codes "if-block-reason-end@"
end_mark condition.Parent = codes "if-parent-end@"

-- the condition with whose first mark a text begins
unfoldable pub condition_at : List ℕ → Option Condition
condition_at text = find (λ c. starts_with nat_eq text (start_of c)) (condition.BlockReason ∷ condition.Parent ∷ [])

-- the symbol by whose value a block stands or falls
abbrev pub symbol_of : Condition → Symbol
symbol_of condition.BlockReason = symbol.BlockReason
symbol_of condition.Parent = symbol.Parent

-- the value isn't empty
abbrev pub condition_holds : Symbols → Condition → Bool
condition_holds symbols c = not (length (symbol_value symbols (symbol_of c)) == 0)
