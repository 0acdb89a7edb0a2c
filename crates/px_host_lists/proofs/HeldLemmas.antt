-- Each entry of a file is a host.
use Rattle.std.proofs.Common.{◌≡◌, ℕ, ◌+◌, Bool, true, false, cond, List, [], ◌∷◌, map, take, drop, refl, All}
use Rattle.std.specs.Prelude.{◌&&◌, ◌==◌, not, codes, nat_eq, Option, Some, None, position}
use Rattle.std.specs.List.{starts_with}
use Rattle.std.proofs.lemmas.List.Elements.{All-append, All-cons, All-head, All-nil, All-tail}
use Rattle.px_host_lists.specs.Addresses.{is_ip_address}
use Rattle.px_host_lists.specs.Hosts.{HostEntry}
use Rattle.px_host_lists.specs.Names.{host_named, is_host, is_local}
use Rattle.px_host_lists.specs.Readings.{entries_from, entries_on, items_behind, items_in_words, items_on, list_entries, rule_item}
use Rattle.px_host_lists.specs.Rules.{anchored_at, anchored_host, leaves_whole, named_where, rule_host}
use Rattle.px_host_lists.specs.Words.{list_lines, used_words}
use Rattle.px_host_lists.specs.declared.TheConstants.{CARET}

abbrev IsHeld : Option (List ℕ) → Type 0
IsHeld (Some host) = is_host host ≡ true
IsHeld None = Unit {0}

abbrev IsHostEntry : HostEntry → Type 0
IsHostEntry entry = is_host entry.host ≡ true

pick : (b : Bool) (x y : Option (List ℕ)) → IsHeld x → IsHeld y → IsHeld (cond b x y)
pick true x y one other = one
pick false x y one other = other

tested : (name : List ℕ) (a b : Bool) → is_host name ≡ a → IsHeld (cond (a && b) (Some name) None)
tested name true true e = e
tested name true false e = tt
tested name false b e = tt

held-named : (name : List ℕ) → IsHeld (host_named name)
unfolding host_named
held-named name = tested name (is_host name) (not (is_local name)) refl

held-where : (asked : Bool) (name : List ℕ) → IsHeld (named_where asked name)
held-where asked name = pick asked (host_named name) None (held-named name) tt

held-at : (rule : List ℕ) (at : Option ℕ) → IsHeld (anchored_at rule at)
held-at rule None = tt
held-at rule (Some at) = held-where (leaves_whole (drop (at + 1) rule)) (take at rule)

held-anchored : (rule : List ℕ) → IsHeld (anchored_host rule)
unfolding anchored_host
held-anchored rule = held-at rule (position (λ b. b == CARET) rule)

held-rule : (word : List ℕ) → IsHeld (rule_host word)
unfolding rule_host
held-rule word =
    pick (starts_with nat_eq word (codes "||")) (anchored_host (drop 2 word))
    (cond (starts_with nat_eq word (codes "*.")) (host_named (drop 2 word)) (cond (starts_with nat_eq word (codes ".")) (host_named (drop 1 word)) (host_named word))) (held-anchored (drop 2 word))
    (pick (starts_with nat_eq word (codes "*.")) (host_named (drop 2 word)) (cond (starts_with nat_eq word (codes ".")) (host_named (drop 1 word)) (host_named word)) (held-named (drop 2 word))
    (pick (starts_with nat_eq word (codes ".")) (host_named (drop 1 word)) (host_named word) (held-named (drop 1 word)) (held-named word)))

held-item : (word : List ℕ) (more : List (List ℕ)) → IsHeld (rule_item word more)
held-item word [] = held-rule word
held-item word (other ∷ more) = tt

held-names : (names : List (List ℕ)) → All IsHeld (map host_named names)
held-names [] = All-nil IsHeld
held-names (name ∷ names) = All-cons IsHeld (host_named name) (map host_named names) (held-named name) (held-names names)

held-behind : (names : List (List ℕ)) → All IsHeld (items_behind names)
held-behind [] = All-cons IsHeld None [] tt (All-nil IsHeld)
held-behind (name ∷ names) = held-names (name ∷ names)

pick-items : (b : Bool) (xs ys : List (Option (List ℕ))) → All IsHeld xs → All IsHeld ys → All IsHeld (cond b xs ys)
pick-items true xs ys one other = one
pick-items false xs ys one other = other

held-words : (words : List (List ℕ)) → All IsHeld (items_in_words words)
held-words [] = All-nil IsHeld
held-words (word ∷ more) =
    pick-items (is_ip_address word) (items_behind more) (rule_item word more ∷ []) (held-behind more) (All-cons IsHeld (rule_item word more) [] (held-item word more) (All-nil IsHeld))

held-line : (line : List ℕ) → All IsHeld (items_on line)
unfolding items_on
held-line line = held-words (used_words line)

held-entries : (number : ℕ) (items : List (Option (List ℕ))) → All IsHeld items → All IsHostEntry (entries_on number items)
held-entries number [] held = All-nil IsHostEntry
held-entries number (Some host ∷ items) held =
    All-cons IsHostEntry (record { line = number; host = host }) (entries_on number items) (All-head IsHeld (Some host) items held) (held-entries number items (All-tail IsHeld (Some host) items held))
held-entries number (None ∷ items) held = held-entries number items (All-tail IsHeld None items held)

held-from : (number : ℕ) (lines : List (List ℕ)) → All IsHostEntry (entries_from number lines)
unfolding entries_from
held-from number [] = All-nil IsHostEntry
held-from number (line ∷ lines) =
    All-append IsHostEntry (entries_on number (items_on line)) (entries_from (number + 1) lines) (held-entries number (items_on line) (held-line line)) (held-from (number + 1) lines)

pub entries-hosts : (bytes : List ℕ) → All (λ (entry : HostEntry). is_host entry.host ≡ true) (list_entries bytes)
unfolding list_entries
entries-hosts bytes = held-from 1 (list_lines bytes)
