-- The bytes of a text in either of its forms.
use Rattle.std.specs.Prelude.{ℕ, List}
use Rattle.px_base.specs.declared.texts.Form.{Form}
use Rattle.px_base.specs.declared.texts.Form.TheVariants.{Short, Long}

-- the bytes that a form holds
abbrev pub form_bytes : Form → List ℕ
form_bytes (Short bytes) = bytes
form_bytes (Long bytes) = bytes.items
