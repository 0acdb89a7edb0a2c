-- A chunked body as a list of elements: size lines, data bytes, the CRLF after each chunk's data, trailer lines and the last
-- empty line (RFC 9112, section 7.1). All but the data bytes are lines, told apart by the place where they stand.
use Rattle.std.specs.Prelude.{◌≡◌, ℕ, suc, List, [], ◌∷◌, ◌++◌, flat_map, IsTrue}
use Rattle.px_framing.specs.declared.places.ChunkPlace.{ChunkPlace}
use Rattle.px_framing.specs.declared.places.ChunkPlace.TheVariants.{Data}
use Rattle.px_framing.specs.Lines.{may_stand, place_after_line, data_place}
use Rattle.px_head.specs.Prints.{crlf}

-- a line by its text, or a byte of a chunk's data
pub data Element : Type 0 where
  line : List ℕ → Element
  byte : ℕ → Element

abbrev pub print : Element → List ℕ
print (line text) = text ++ crlf
print (byte b) = b ∷ []

abbrev pub data_of : Element → List ℕ
data_of (line text) = []
data_of (byte b) = b ∷ []

-- the element may stand here, and next is what comes after it
abbrev pub ElementLeads : ChunkPlace → Element → ChunkPlace → Type 0
ElementLeads place (line text) next = IsTrue (may_stand place text) × (next ≡ place_after_line place text)
ElementLeads place (byte b) next = (left : ℕ) × (place ≡ Data (suc left)) × (next ≡ data_place left)

-- the elements may stand here one after another, and next is what comes after them
abbrev pub ElementsLead : ChunkPlace → List Element → ChunkPlace → Type 0
ElementsLead place [] next = next ≡ place
ElementsLead place (e ∷ es) next = (mid : ChunkPlace) × ElementLeads place e mid × ElementsLead mid es next

-- these bytes are whole elements that may stand here one after another, and these are their data
pub record AreWhole (place : ChunkPlace) (bytes data_bytes : List ℕ) : Type 0 where
  pub elements : List Element
  pub next : ChunkPlace
  pub leads : ElementsLead place elements next
  pub bytes_are : bytes ≡ flat_map print elements
  pub data_is : data_bytes ≡ flat_map data_of elements
