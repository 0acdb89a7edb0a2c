-- The addresses that were tried, and those that are left.
use Rattle.std.proofs.Common.{◌≡◌, ℕ, zero, suc, ◌<◌, List, [], ◌∷◌, ◌++◌, length, take, Some, None, Option, sym, ap, ◌∙◌, refl, arith, append_assoc, append-nil, length-append}
use Rattle.std.specs.Net.ToAddrs.{HostAddrs, host_addrs}
use Rattle.std.specs.declared.net.socket_addr.SocketAddr.{SocketAddr}
use Rattle.std.specs.Array.Iter.{array_into_iter_items, array_steps}
use Rattle.std.specs.Iterator.Adapters.{take_source, take_count, take_steps}
use Rattle.px_sockets.specs.Tried.{InTurn}
use Rattle.px_sockets.proofs.AddressLemmas.{next_is}

-- those that aren't left were tried
pub record Turned (old new all left : List SocketAddr) : Type 0 where
  pub front : List SocketAddr
  pub parts : all ≡ front ++ left
  pub tried : new ≡ old ++ front

pub none_tried : (old all : List SocketAddr) → Turned old old all all
none_tried old all = record { front = []; parts = refl; tried = sym (append-nil old) }

pub one_tried : (old mid now new all : List SocketAddr) (s t : HostAddrs) (a : SocketAddr) → Turned old mid all (host_addrs s) → take_steps array_steps s (Some a) t → now ≡ mid → new ≡ now ++ a ∷ []
    → Turned old new all (host_addrs t)
one_tried old mid now new all s t a b h e f = record {
  front = b.front ++ a ∷ [];
  parts = b.parts ∙ ap (λ (l : List SocketAddr). b.front ++ l) (next_is s t a h) ∙ sym (append_assoc b.front (a ∷ []) (host_addrs t));
  tried = f ∙ ap (λ (l : List SocketAddr). l ++ a ∷ []) (e ∙ b.tried) ∙ append_assoc old b.front (a ∷ []);
}

pub in_turn : (old mid new all left : List SocketAddr) → Turned old mid all left → new ≡ mid → InTurn old new all
in_turn old mid new all left b e = record { front = b.front; rest = left; parts = b.parts; tried = e ∙ b.tried }

pub some_tried : (old mid now new all left : List SocketAddr) (a : SocketAddr) → Turned old mid all left → now ≡ mid → new ≡ now ++ a ∷ [] → ¬ (new ≡ old)
some_tried old mid now new all left a b e f same =
    absurd (omega (arith, ap (λ (l : List SocketAddr). length l) same, ap (λ (l : List SocketAddr). length l) f, length-append now (a ∷ []), ap (λ (l : List SocketAddr). length l) e, ap (λ (l : List SocketAddr). length l) b.tried, length-append old b.front))

taken_none : (n : ℕ) (items : List SocketAddr) → (0 < n → length items ≡ 0) → take n items ≡ []
taken_none zero items h = refl
taken_none (suc n) [] h = refl
taken_none (suc n) (a ∷ items) h = absurd (omega (arith, h (omega arith)))

none_left : (s t : HostAddrs) (r : Option SocketAddr) → take_steps array_steps s r t → ((a : SocketAddr) → ¬ (r ≡ Some a)) → host_addrs s ≡ []
none_left s t None h never = taken_none (take_count s) (array_into_iter_items (take_source s)) (λ some. (h some).0)
none_left s t (Some a) h never = absurd (never a refl)

-- none is left, so all were tried
pub all_tried : (old new all : List SocketAddr) (s t : HostAddrs) (r : Option SocketAddr) → Turned old new all (host_addrs s) → take_steps array_steps s r t → ((a : SocketAddr) → ¬ (r ≡ Some a)) → new ≡ old ++ all
all_tried old new all s t r b h never =
    let whole : all ≡ b.front = b.parts ∙ ap (λ (l : List SocketAddr). b.front ++ l) (none_left s t r h never) ∙ append-nil b.front in
    b.tried ∙ ap (λ (l : List SocketAddr). old ++ l) (sym whole)
