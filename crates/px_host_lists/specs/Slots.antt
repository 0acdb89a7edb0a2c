-- How a list keeps its hosts: all their bytes in one text, and a slot for each.
use Rattle.std.specs.Prelude.{◌≡◌, ℕ, ◌+◌, ◌*◌, ◌≤◌, List, length, map, take, drop}
use Rattle.std.specs.List.{All}
use Rattle.px_host_lists.specs.Hashes.{hash_of}
use Rattle.px_host_lists.specs.Hosts.{HostEntry}
use Rattle.px_host_lists.specs.declared.TheConstants.{HOST_LENGTH, HOST_LIMIT}
use Rattle.px_host_lists.specs.declared.gathering.Gathered.{Gathered}
use Rattle.px_host_lists.specs.declared.slots.Slot.{Slot}

abbrev pub slot_host : List ℕ → Slot → List ℕ
slot_host text slot = take slot.len (drop slot.start text)

abbrev pub slot_entry : List ℕ → Slot → HostEntry
slot_entry text slot = record { line = slot.line; host = slot_host text slot }

abbrev pub slot_entries : List ℕ → List Slot → List HostEntry
slot_entries text slots = map (slot_entry text) slots

-- the slot's host lies in the text, and has the slot's number
pub record IsSlot (text : List ℕ) (slot : Slot) : Type 0 where
  pub within : slot.start + slot.len ≤ length text
  pub hash : slot.hash ≡ hash_of (slot_host text slot)

abbrev pub AreSlots : List ℕ → List Slot → Type 0
AreSlots text slots = All (IsSlot text) slots

abbrev pub gathered_entries : Gathered → List HostEntry
gathered_entries list = slot_entries list.text.items list.slots.items

-- each slot is one, and neither hosts nor bytes are beyond what slots can tell
pub record IsGathered (list : Gathered) : Type 0 where
  pub slots : AreSlots list.text.items list.slots.items
  pub hosts : length list.slots.items ≤ HOST_LIMIT
  pub bytes : length list.text.items ≤ HOST_LENGTH * length list.slots.items
