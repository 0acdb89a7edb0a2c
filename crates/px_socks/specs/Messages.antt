-- The bytes of the handshake (RFC 1928): the client's messages, and what it accepts of the server.
use Rattle.std.specs.Prelude.{◌≡◌, ℕ, ◌/◌, ◌%◌, Bool, false, if◌then◌else◌, IsTrue, ◌==◌, ◌&&◌, ◌||◌, List, [], ◌∷◌, ◌++◌, length, take}

-- the greeting (section 3): version 5, and one method, 0, "no authentication required"
abbrev pub greeting_message : List ℕ
greeting_message = 5 ∷ 1 ∷ 0 ∷ []

-- the request (section 4): version 5, CONNECT, a reserved byte, an address of type 3, a domain name behind its length, and
-- the port, highest byte first
abbrev pub request_message : List ℕ → ℕ → List ℕ
request_message target port = 5 ∷ 1 ∷ 0 ∷ 3 ∷ length target ∷ (target ++ port / 256 ∷ port % 256 ∷ [])

-- both, one behind the other
abbrev pub messages : List ℕ → ℕ → List ℕ
messages target port = greeting_message ++ request_message target port

-- the bytes heard of a server begin with version 5 and the method that was offered (section 3)
abbrev pub selects : List ℕ → Bool
selects [] = false
selects (version ∷ []) = false
selects (version ∷ method ∷ more) = version == 5 && method == 0

-- what is due to a server of which these bytes were heard: of both messages the greeting, their first three bytes, and both
-- once it has selected the method
abbrev pub due_messages : List ℕ → List ℕ → List ℕ
due_messages heard both = if selects heard then both else take 3 both

-- an address of that type (section 5): 1, an IPv4 address of 4 bytes; 3, a domain name behind its length; 4, an IPv6
-- address of 16 bytes
abbrev pub is_bound_address : ℕ → List ℕ → Bool
is_bound_address address_type [] = false
is_bound_address address_type (first ∷ more) = (address_type == 1 && length more == 3) || ((address_type == 3 && length more == first) || (address_type == 4 && length more == 15))

-- a reply that says "succeeded" (section 6): version 5, 0, a reserved byte, the type of the bound address, that address, and
-- two bytes of bound port
pub record IsReply (bytes : List ℕ) : Type 0 where
  pub reserved : ℕ
  pub address_type : ℕ
  pub bound_address : List ℕ
  pub port_high : ℕ
  pub port_low : ℕ
  pub parts : bytes ≡ 5 ∷ 0 ∷ reserved ∷ address_type ∷ (bound_address ++ port_high ∷ port_low ∷ [])
  pub fits : IsTrue (is_bound_address address_type bound_address)

-- what is accepted of a server: version 5 and the method 0 that it selects (section 3), and such a reply
pub record IsAccepted (bytes : List ℕ) : Type 0 where
  pub reply : List ℕ
  pub parts : bytes ≡ 5 ∷ 0 ∷ reply
  pub replied : IsReply reply

-- any bytes
abbrev pub AnyBytes : List ℕ → Type 0
AnyBytes bytes = Unit {0}

-- so many bytes of that kind were taken from the front
pub record Took (P : List ℕ → Type 0) (count : ℕ) (old new : List ℕ) : Type 0 where
  pub bytes : List ℕ
  pub moved : old ≡ bytes ++ new
  pub counted : length bytes ≡ count
  pub taken : P bytes

-- bytes of that kind were taken from the front
pub record TookSome (P : List ℕ → Type 0) (old new : List ℕ) : Type 0 where
  pub bytes : List ℕ
  pub moved : old ≡ bytes ++ new
  pub taken : P bytes

-- no bytes of that kind stand at the front
abbrev pub NoneAhead : (List ℕ → Type 0) → List ℕ → Type 0
NoneAhead P left = (bytes rest : List ℕ) → left ≡ bytes ++ rest → ¬ (P bytes)
