-- The text of pieces.
use Rattle.std.proofs.Common.{◌≡◌, ℕ, List, [], ◌∷◌, ◌++◌, refl, ap, sym, ◌∙◌, append-nil, ◌+◌, ◌<◌, ◌≤◌, length, take, get_or, arith, length-append, min, Option, true, false}
use Rattle.std.specs.Prelude.{flat_map}
use Rattle.std.proofs.lemmas.Grind.{flat_map-append}
use Rattle.std.proofs.lemmas.List.{take_more}
use Rattle.px_templates.specs.declared.symbols.Symbols.{Symbols}
use Rattle.px_templates.specs.declared.conditions.Condition.{Condition}
use Rattle.px_templates.specs.declared.runs.TemplateRun.{TemplateRun}
use Rattle.px_templates.specs.Pieces.{Piece, plain}
use Rattle.px_templates.specs.Rendering.{escaped, escaped_byte, piece_text, rendered, run_stands}
use Rattle.px_templates.specs.declared.runs.RunContent.{RunContent}
use Rattle.px_templates.specs.declared.runs.RunContent.TheVariants as content
use Rattle.px_templates.specs.declared.symbols.Symbol.{Symbol}
use Rattle.px_templates.specs.Runs.{content_pieces, held_pieces, run_pieces}
use Rattle.px_templates.specs.Symbols.{symbol_value}

pub rendered-append : (symbols : Symbols) (a b : List Piece) → rendered symbols (a ++ b) ≡ rendered symbols a ++ rendered symbols b
unfolding rendered
rendered-append symbols a b = flat_map-append (piece_text symbols) a b

pub held-append : (a b : List TemplateRun) → held_pieces (a ++ b) ≡ held_pieces a ++ held_pieces b
unfolding held_pieces
held-append a b = flat_map-append run_pieces a b

-- bytes in a block that stands
pub rendered-plain : (symbols : Symbols) (c : Option Condition) (bytes : List ℕ) → run_stands symbols c ≡ true → rendered symbols (plain c bytes) ≡ bytes
unfolding rendered
rendered-plain symbols c [] stand = refl
rendered-plain symbols c (b ∷ bs) stand = rw stand (ap (λ l. b ∷ l) (rendered-plain symbols c bs stand))

-- bytes in a block that falls
pub rendered-fallen : (symbols : Symbols) (c : Option Condition) (bytes : List ℕ) → run_stands symbols c ≡ false → rendered symbols (plain c bytes) ≡ []
unfolding rendered
rendered-fallen symbols c [] fall = refl
rendered-fallen symbols c (b ∷ bs) fall = rw fall (rendered-fallen symbols c bs fall)

pub content_falls : (symbols : Symbols) (c : Option Condition) (k : RunContent) → run_stands symbols c ≡ false → rendered symbols (content_pieces c k) ≡ []
unfolding rendered
content_falls symbols c (content.Bytes bytes) fall = rendered-fallen symbols c bytes fall
content_falls symbols c (content.Value s) fall = rw fall

pub content_bytes : (symbols : Symbols) (c : Option Condition) (k : RunContent) (bytes : List ℕ) → run_stands symbols c ≡ true → k ≡ content.Bytes bytes → rendered symbols (content_pieces c k) ≡ bytes
content_bytes symbols c k bytes stand is = ap (λ k'. rendered symbols (content_pieces c k')) is ∙ rendered-plain symbols c bytes stand

pub content_value : (symbols : Symbols) (c : Option Condition) (k : RunContent) (s : Symbol) → run_stands symbols c ≡ true → k ≡ content.Value s → rendered symbols (content_pieces c k) ≡ escaped (symbol_value symbols s)
unfolding rendered
content_value symbols c k s stand is = ap (λ k'. rendered symbols (content_pieces c k')) is ∙ rw stand (append-nil (escaped (symbol_value symbols s)))

held-one : (r : TemplateRun) → held_pieces (r ∷ []) ≡ run_pieces r
unfolding held_pieces
held-one r = append-nil (run_pieces r)

-- one run more
pub rendered-more : (symbols : Symbols) (runs : List TemplateRun) (i : ℕ) (r : TemplateRun) → i < length runs → r ≡ get_or runs i r →
    rendered symbols (held_pieces (take (i + 1) runs)) ≡ rendered symbols (held_pieces (take i runs)) ++ rendered symbols (run_pieces r)
rendered-more symbols runs i r within is =
    ap (λ l. rendered symbols (held_pieces l)) (take_more runs i r within)
    ∙ ap (rendered symbols) (held-append (take i runs) (get_or runs i r ∷ []))
    ∙ rendered-append symbols (held_pieces (take i runs)) (held_pieces (get_or runs i r ∷ []))
    ∙ ap (λ l. rendered symbols (held_pieces (take i runs)) ++ rendered symbols l) (held-one (get_or runs i r) ∙ ap run_pieces (sym is))

-- one byte more
pub escaped-more : (value : List ℕ) (i : ℕ) → i < length value → escaped (take (i + 1) value) ≡ escaped (take i value) ++ escaped_byte (get_or value i 0)
unfolding escaped
escaped-more value i within =
    ap (λ l. flat_map escaped_byte l) (take_more value i 0 within) ∙ flat_map-append escaped_byte (take i value) (get_or value i 0 ∷ [])
    ∙ ap (λ l. flat_map escaped_byte (take i value) ++ l) (append-nil (escaped_byte (get_or value i 0)))

-- sums of lengths, up to a greatest number
pub room-more : (most room more : ℕ) (before behind both : List ℕ) → room ≡ min (length before) most → more ≡ min (length behind) most → both ≡ before ++ behind →
    min (room + more) most ≡ min (length both) most
room-more most room more before behind both room_is more_is both_is =
    let sum : length both ≡ length before + length behind = ap length both_is ∙ length-append before behind in omega arith

pub room-exact : (most room more : ℕ) (before behind both : List ℕ) → room ≡ min (length before) most → more ≡ length behind → both ≡ before ++ behind →
    min (room + more) most ≡ min (length both) most
room-exact most room more before behind both room_is more_is both_is =
    let sum : length both ≡ length before + length behind = ap length both_is ∙ length-append before behind in omega arith

pub room-none : (most : ℕ) (bytes : List ℕ) → bytes ≡ [] → 0 ≡ min (length bytes) most
room-none most bytes none = let e : length bytes ≡ 0 = ap length none in omega arith

pub room-all : (most room : ℕ) (bytes : List ℕ) → room ≡ length bytes → room ≤ most → room ≡ min (length bytes) most
room-all most room bytes room_is fits = omega arith
