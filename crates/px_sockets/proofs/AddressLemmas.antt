-- The addresses of a host, one behind the other.
use Rattle.std.proofs.Common.{◌≡◌, ℕ, zero, suc, Result, Ok, Err, ◌<◌, List, [], ◌∷◌, ◌++◌, length, take, slice_index_or, Some, sym, ap, subst, ◌∙◌, refl, arith, append_assoc}
use Rattle.std.specs.Prelude.{IfOk}
use Rattle.std.specs.List.{Contains}
use Rattle.std.specs.Net.Socket.{socket_ip, socket_port}
use Rattle.std.specs.Net.Grammar.{IsIpText}
use Rattle.std.specs.Net.ToAddrs.{HostAddrs, host_addrs, GivesHostAndPort}
use Rattle.px_sockets.specs.Bounds.{IsAddressOf}
use Rattle.std.specs.declared.net.socket_addr.SocketAddr.{SocketAddr}
use Rattle.std.specs.Array.Iter.{array_into_iter_items, array_steps}
use Rattle.std.specs.Iterator.Adapters.{take_source, take_count, take_steps}

-- those that are left stand behind others
pub record IsBehind (all left : List SocketAddr) : Type 0 where
  pub before : List SocketAddr
  pub parts : all ≡ before ++ left

pub none_before : (all : List SocketAddr) → IsBehind all all
none_before all = record { before = []; parts = refl }

-- the next one is the first of those left
pub next_is : (s t : HostAddrs) (a : SocketAddr) → take_steps array_steps s (Some a) t → host_addrs s ≡ a ∷ host_addrs t
next_is s t a h =
    let count : take_count s ≡ suc (take_count t) = omega (arith, h.1) in
    ap (λ (n : ℕ). take n (array_into_iter_items (take_source s))) count ∙ ap (λ (l : List SocketAddr). take (suc (take_count t)) l) h.0

pub one_more : (all : List SocketAddr) (s t : HostAddrs) (a : SocketAddr) → IsBehind all (host_addrs s) → take_steps array_steps s (Some a) t → IsBehind all (host_addrs t)
one_more all s t a b h = record {
  before = b.before ++ a ∷ [];
  parts = b.parts ∙ ap (λ (l : List SocketAddr). b.before ++ l) (next_is s t a h) ∙ sym (append_assoc b.before (a ∷ []) (host_addrs t));
}

stands : (before rest : List SocketAddr) (a : SocketAddr) → (length before < length (before ++ a ∷ rest)) × (slice_index_or (before ++ a ∷ rest) (length before) a ≡ a)
stands [] rest a = ((omega arith), refl)
stands (b ∷ bs) rest a = let p = stands bs rest a in ((omega (arith, p.0)), p.1)

pub among : (all : List SocketAddr) (s t : HostAddrs) (a : SocketAddr) → IsBehind all (host_addrs s) → take_steps array_steps s (Some a) t → Contains all a
among all s t a b h =
    let P = λ (l : List SocketAddr). Contains l a in
    let parts : b.before ++ a ∷ host_addrs t ≡ all = sym (b.parts ∙ ap (λ (l : List SocketAddr). b.before ++ l) (next_is s t a h)) in
    let p = stands b.before (host_addrs t) a in
    subst P parts (length b.before, p.0, p.1)

only_one : (all : List SocketAddr) (a b : SocketAddr) → all ≡ b ∷ [] → Contains all a → b ≡ a
only_one all a b e (k, within, h) =
    let P = λ (l : List SocketAddr). (k < length l) × (slice_index_or l k a ≡ a) in
    first k (subst P e (within, h))
  where
    first : (k : ℕ) → (k < 1) × (slice_index_or (b ∷ []) k a ≡ a) → b ≡ a
    first zero p = p.1
    first (suc n) p = absurd (omega (arith, p.0))

-- one of the addresses of a host that has the port is an address for both
pub address_of : (host : List ℕ) (port : ℕ) (it : HostAddrs) (a : SocketAddr) → GivesHostAndPort host port (Ok it) → socket_port a ≡ port → Contains (host_addrs it) a → IsAddressOf host port a
address_of host port it a gives at c = record {
  at_port = at;
  at_host = λ ip t.
      let one = gives ip t in
      let P = λ (b : SocketAddr). IsIpText host (socket_ip b) in
      subst P (only_one (host_addrs it) a one.0 one.1 c) one.2.0;
}

-- what a listener was made of stands in it
pub holds_of : {L E : Type 0} (r : Result L E) (f : L → SocketAddr) (a : SocketAddr) (P : SocketAddr → Type 0) → IfOk r (λ l. f l ≡ a) → P a → IfOk r (λ l. P (f l))
holds_of (Ok l) f a P e h = subst P (sym e) h
holds_of (Err x) f a P e h = tt
