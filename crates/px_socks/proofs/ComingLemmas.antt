-- What the dials to come give, through servers and else.
use Rattle.std.proofs.Common.{◌≡◌, ℕ, zero, suc, ◌+◌, ◌<◌, ◌≤◌, Bool, true, false, IsTrue, List, [], ◌∷◌, ◌++◌, length, take, drop, map, cond, sym, ap, subst, ◌∙◌, arith, append_assoc, refl, ◌⊎◌, inl, inr, Option, Some, None, Result, Ok, Err, length-drop}
use Rattle.std.specs.Prelude.{◌==◌, ◌&&◌, nat_le, nat_lt, option_map, IfOk, IfErr}
use Rattle.std.specs.Str.{byte}
use Rattle.std.specs.List.{position, position_or_len}
use Rattle.std.proofs.lemmas.Grind.{common_steps}
use Rattle.std.proofs.lemmas.List.{take-append-drop, length-take}
use Rattle.std.proofs.lemmas.Bool.{eqb-true, and_parts}
use Rattle.px_base.specs.Sources.{SourceState}
use Rattle.px_base.specs.Sinks.{SinkState}
use Rattle.px_base.specs.Ports.{port}
use Rattle.px_base.specs.DialNames.{Server, server, begins_with_byte, bracketed_server, unbracketed, server_in, is_slash, server_of, target_of, is_dial_name, has_long_target}
use Rattle.px_base.specs.Dials.{DialerState, IsFresh, Met, offers, nameless, unreached, untold, Coming, agrees, first_plain, first_named, names_its_server, met, met_by, coming_behind, left_by, LeavesWanting}
use Rattle.px_base.specs.declared.faults.DialFault.{DialFault}
use Rattle.px_base.specs.declared.faults.DialFault.TheVariants as fault
use Rattle.px_socks.specs.declared.servers.ServerStop.{ServerStop}
use Rattle.px_socks.specs.declared.servers.ServerStop.TheVariants as stop
use Rattle.px_socks.specs.Messages.{IsReply, IsAccepted, is_bound_address, Took, NoneAhead}
use Rattle.px_socks.specs.Replies.{rest_length}
use Rattle.px_dial_names.specs.Printed.{HasNone}
use Rattle.px_socks.specs.Comings.{whole_length, reply_length, accepted_length, behind_handshake, through_server}
use Rattle.px_socks.specs.Ends.{InnerSource, InnerSink, has_failed, source_behind, sink_behind}
use Rattle.px_socks.specs.Notes.{no_handshake}
use Rattle.px_socks.specs.Serving.{IsBehindHandshake, Hung, CameOf}
use Rattle.px_socks.proofs.ReplyLemmas.{rest_bound, is_reply}

-- ---- how many bytes are accepted

nat_le-true : (a b : ℕ) → a ≤ b → nat_le a b ≡ true
nat_le-true a b h = grind (arith, common_steps)

le-nat_le : (a b : ℕ) → nat_le a b ≡ true → a ≤ b
le-nat_le a b h = grind (arith, common_steps)

length_of : (reserved kind : ℕ) (address : List ℕ) (high low : ℕ) (r : List ℕ) → IsTrue (is_bound_address kind address)
    → reply_length ((5 ∷ 0 ∷ reserved ∷ kind ∷ (address ++ high ∷ low ∷ [])) ++ r) ≡ Some (length (5 ∷ 0 ∷ reserved ∷ kind ∷ (address ++ high ∷ low ∷ [])))
length_of reserved kind [] high low r h = (cc)
length_of reserved kind (first ∷ more) high low r h =
    let all = (5 ∷ 0 ∷ reserved ∷ kind ∷ ((first ∷ more) ++ high ∷ low ∷ [])) ++ r in
    let fits : 5 + (length more + 2) ≤ length all = grind (arith, common_steps) in
    let count : 5 + (length more + 2) ≡ length (5 ∷ 0 ∷ reserved ∷ kind ∷ ((first ∷ more) ++ high ∷ low ∷ [])) = grind (arith, common_steps) in
    rw (rest_bound kind first more h, nat_le-true (5 + (length more + 2)) (length all) fits) (ap (λ (n : ℕ). Some n) count)

took_reply_length : (left rest : List ℕ) (count : ℕ) → Took IsReply count left rest → reply_length left ≡ Some count
took_reply_length left rest count t =
    let p = t.taken in
    let whole : left ≡ (5 ∷ 0 ∷ p.reserved ∷ p.address_type ∷ (p.bound_address ++ p.port_high ∷ p.port_low ∷ [])) ++ rest = t.moved ∙ ap (λ (l : List ℕ). l ++ rest) p.parts in
    ap (λ (l : List ℕ). reply_length l) whole ∙ length_of p.reserved p.address_type p.bound_address p.port_high p.port_low rest p.fits ∙ ap (λ (l : List ℕ). Some (length l)) (sym p.parts) ∙ ap (λ (n : ℕ). Some n) t.counted

-- so many accepted bytes
pub took_length : (left rest : List ℕ) (count : ℕ) → Took IsAccepted count left rest → accepted_length left ≡ Some count
took_length left rest count t =
    let p = t.taken in
    let whole : left ≡ 5 ∷ 0 ∷ (p.reply ++ rest) = t.moved ∙ ap (λ (l : List ℕ). l ++ rest) p.parts in
    let inner : Took IsReply (length p.reply) (p.reply ++ rest) rest = record { bytes = p.reply; moved = refl; counted = refl; taken = p.replied } in
    let counted : 2 + length p.reply ≡ count = omega (arith, t.counted, ap (λ (l : List ℕ). length l) p.parts) in
    ap (λ (l : List ℕ). accepted_length l) whole ∙ ap (λ (o : Option ℕ). option_map (λ n. 2 + n) o) (took_reply_length (p.reply ++ rest) rest (length p.reply) inner) ∙ ap (λ (n : ℕ). Some n) counted

none_whole : (left : List ℕ) (o : Option ℕ) → rest_length (take 5 left) ≡ o → NoneAhead IsReply left → whole_length left o ≡ None
none_whole left None e none = refl
none_whole left (Some more) e none = by (nat_le (5 + more) (length left)) refl
  where
    by : (b : Bool) → nat_le (5 + more) (length left) ≡ b → cond b (Some (5 + more)) None ≡ None
    by false f = refl
    by true f =
        let fits : 5 + more ≤ length left = le-nat_le (5 + more) (length left) f in
        let first : length (take 5 left) ≡ 5 = omega (arith, length-take 5 left) in
        let rest : length (take more (drop 5 left)) ≡ more = omega (arith, length-take more (drop 5 left), length-drop 5 left) in
        let parts : left ≡ (take 5 left ++ take more (drop 5 left)) ++ drop more (drop 5 left) =
        sym (append_assoc (take 5 left) (take more (drop 5 left)) (drop more (drop 5 left)) ∙ ap (λ (l : List ℕ). take 5 left ++ l) (take-append-drop more (drop 5 left)) ∙ take-append-drop 5 left) in
        absurd (none (take 5 left ++ take more (drop 5 left)) (drop more (drop 5 left)) parts (is_reply (take 5 left) (take more (drop 5 left)) first (e ∙ ap (λ (n : ℕ). Some n) (sym rest))))

two : (b : Bool) → (b ≡ true) ⊎ (b ≡ false)
two true = inl refl
two false = inr refl

-- none
pub none_length : (left : List ℕ) → NoneAhead IsAccepted left → accepted_length left ≡ None
none_length [] none = refl
none_length (a ∷ []) none = refl
none_length (a ∷ b ∷ left) none = elim (two (a == 5 && b == 0)) as (λ _. accepted_length (a ∷ b ∷ left) ≡ None) [
  | inr other ↦ rw other refl
  | inl chosen ↦
      let p = and_parts (a == 5) (b == 0) chosen in
      let five : a ≡ 5 = eqb-true a 5 p.0 in
      let nil : b ≡ 0 = eqb-true b 0 p.1 in
      let none_there : NoneAhead IsReply left = λ bytes rest e reply.
      none (a ∷ b ∷ bytes) rest (ap (λ (l : List ℕ). a ∷ b ∷ l) e) (record { reply = bytes; parts = ap (λ (x : ℕ). x ∷ b ∷ bytes) five ∙ ap (λ (x : ℕ). 5 ∷ x ∷ bytes) nil; replied = reply }) in
      rw (chosen, none_whole left (rest_length (take 5 left)) refl none_there) refl
]

-- ---- one dial of a server

never : (n : ℕ) → n ≡ 0 → ¬ (has_failed n ≡ true)
never n e h = let P = λ (k : ℕ). has_failed k ≡ true in let bad = subst P e h in (cc)

-- what came of the handshake over a link
pub came_behind : (m : Met) (mid new : DialerState) (i : SourceState) (o : SinkState) (messages : List ℕ) (r : Result (InnerSource × InnerSink) ServerStop)
    → agrees m (Ok (record { link_in = i; link_out = o })) → IsFresh (record { link_in = i; link_out = o }) → IsTrue i.tells
    → IfOk r (IsBehindHandshake i o messages) → IfErr r (Hung mid new i o messages) → CameOf m r
came_behind m mid new i o messages (Err stop.Lost) a fresh t behind hung = tt
came_behind m mid new i o messages (Err stop.Mem) a fresh t behind hung = tt
came_behind (offers bytes true true) mid new i o messages (Ok link) a fresh t behind hung =
    let took = behind.accepted t in
    let steady_out = behind.out_goes_on.steady_kept a.2 behind.begun.not_finished in
    (behind.in_goes_on.offered_same ∙ a.0, (behind.in_goes_on.steady_kept a.1).0, steady_out.0, ap (λ (l : List ℕ). accepted_length l) (sym a.0) ∙ took_length i.offered link.0.source.left link.0.passage.heard took)
came_behind (offers bytes true true) mid new i o messages (Err stop.Refused) a fresh t behind hung =
    let reads : hung.last_in.faults ≡ 0 = (hung.in_goes_on.steady_kept a.1).1 ∙ fresh.no_read_failed in
    let open_out : hung.last_out.finished ≡ false = hung.still_open ∙ fresh.not_finished in
    let writes : hung.last_out.faults ≡ 0 = (hung.out_goes_on.steady_kept a.2 open_out).1 ∙ fresh.no_write_failed in
    elim (hung.why refl) as (λ _. accepted_length bytes ≡ None) [
      | inl read ↦ absurd (never hung.last_in.faults reads read)
      | inr other ↦ elim other as (λ _. accepted_length bytes ≡ None) [
        | inl write ↦ absurd (never hung.last_out.faults writes write)
        | inr none ↦ ap (λ (l : List ℕ). accepted_length l) (sym a.0) ∙ none_length i.offered (none t)
      ]
    ]
came_behind (offers bytes true false) mid new i o messages (Ok link) a fresh t behind hung = tt
came_behind (offers bytes true false) mid new i o messages (Err stop.Refused) a fresh t behind hung = tt
came_behind (offers bytes false writes) mid new i o messages (Ok link) a fresh t behind hung = tt
came_behind (offers bytes false writes) mid new i o messages (Err stop.Refused) a fresh t behind hung = tt
came_behind nameless mid new i o messages (Ok link) a fresh t behind hung = absurd a
came_behind nameless mid new i o messages (Err stop.Refused) a fresh t behind hung = absurd a
came_behind unreached mid new i o messages (Ok link) a fresh t behind hung = absurd a
came_behind unreached mid new i o messages (Err stop.Refused) a fresh t behind hung = absurd a
came_behind untold mid new i o messages (Ok link) a fresh t behind hung = tt
came_behind untold mid new i o messages (Err stop.Refused) a fresh t behind hung = tt

-- what came of a server that wasn't found or reached
pub came_nameless : (m : Met) → agrees m (Err fault.NoName) → CameOf m (Err stop.Refused)
came_nameless (offers bytes reads writes) a = absurd a
came_nameless nameless a = tt
came_nameless unreached a = absurd a
came_nameless untold a = tt

pub came_unreached : (m : Met) → agrees m (Err fault.NotReached) → CameOf m (Err stop.Refused)
came_unreached (offers bytes reads writes) a = absurd a
came_unreached nameless a = absurd a
came_unreached unreached a = tt
came_unreached untold a = tt

pub accepted_met : (m : Met) (link : InnerSource × InnerSink) → CameOf m (Ok link) → link.0.source.tells ≡ true → link.0.passage ≡ link.1.passage
    → agrees (behind_handshake m) (Ok (record { link_in = source_behind link.0.passage link.0.source; link_out = sink_behind link.1.passage link.1.sink }))
accepted_met (offers bytes true true) link c t e = rw (c.3, t) (ap (λ (l : List ℕ). drop link.0.passage.heard l) c.0, c.1, c.2)
accepted_met (offers bytes true false) link c t e = tt
accepted_met (offers bytes false writes) link c t e = tt
accepted_met nameless link c t e = absurd c
accepted_met unreached link c t e = absurd c
accepted_met untold link c t e = tt

pub refused_met : (m : Met) → CameOf m (Err stop.Refused) → agrees (behind_handshake m) (Err fault.NotReached)
refused_met (offers bytes true true) c = rw c tt
refused_met (offers bytes true false) c = tt
refused_met (offers bytes false writes) c = tt
refused_met nameless c = tt
refused_met unreached c = tt
refused_met untold c = tt

-- ---- a server's host is no dial name, since it has no slash

none_before : (p : ℕ → Bool) (xs : List ℕ) → HasNone p (take (position_or_len p xs) xs)
none_before p [] = tt
none_before p (x ∷ xs) = elim (two (p x)) as (λ _. HasNone p (take (position_or_len p (x ∷ xs)) (x ∷ xs))) [
  | inl found ↦ rw found tt
  | inr other ↦
      let e : position_or_len p (x ∷ xs) ≡ suc (position_or_len p xs) = rw other (omega arith) in
      let P = λ (n : ℕ). HasNone p (take n (x ∷ xs)) in
      subst P (sym e) (other, none_before p xs)
]

none_taken : (p : ℕ → Bool) (n : ℕ) (xs : List ℕ) → HasNone p xs → HasNone p (take n xs)
none_taken p zero xs h = tt
none_taken p (suc n) [] h = tt
none_taken p (suc n) (x ∷ xs) h = (h.0, none_taken p n xs h.1)

none_dropped : (p : ℕ → Bool) (n : ℕ) (xs : List ℕ) → HasNone p xs → HasNone p (drop n xs)
none_dropped p zero xs h = h
none_dropped p (suc n) [] h = tt
none_dropped p (suc n) (x ∷ xs) h = none_dropped p n xs h.1

none_found : (p : ℕ → Bool) (xs : List ℕ) → HasNone p xs → position_or_len p xs ≡ length xs
none_found p [] h = refl
none_found p (x ∷ xs) h = let r = none_found p xs h.1 in rw (h.0, r) (omega arith)

no_place : (p : ℕ → Bool) (xs : List ℕ) → HasNone p xs → position p xs ≡ None
no_place p xs h =
    let more : nat_lt (length xs) (length xs) ≡ false = grind (arith, common_steps) in
    rw (none_found p xs h, more) refl

host_in : (host digits : List ℕ) (o : Option ℕ) (s : Server) → option_map (λ p. record { host = host; port = p }) o ≡ Some s → s.host ≡ host
host_in host digits None s e = absurd (cc)
host_in host digits (Some p) s e = (cc)

unbracketed_host : (bytes : List ℕ) (at : Option ℕ) (s : Server) → HasNone is_slash bytes → unbracketed bytes at ≡ Some s → HasNone is_slash s.host
unbracketed_host bytes None s h e = absurd (cc)
unbracketed_host bytes (Some at) s h e = rw (host_in (take at bytes) (drop (at + 1) bytes) (port (drop (at + 1) bytes)) s e) (none_taken is_slash at bytes h)

bracketed_host : (bytes : List ℕ) (at : Option ℕ) (s : Server) → HasNone is_slash bytes → bracketed_server bytes at ≡ Some s → HasNone is_slash s.host
bracketed_host bytes None s h e = absurd (cc)
bracketed_host bytes (Some at) s h e = by (begins_with_byte (byte ":") (drop (at + 1) bytes)) e
  where
    by : (b : Bool) → cond b (server (take at bytes) (drop 1 (drop (at + 1) bytes))) None ≡ Some s → HasNone is_slash s.host
    by true f = rw (host_in (take at bytes) (drop 1 (drop (at + 1) bytes)) (port (drop 1 (drop (at + 1) bytes))) s f) (none_taken is_slash at bytes h)
    by false f = absurd (cc)

server_host : (bytes : List ℕ) (s : Server) → HasNone is_slash bytes → server_in bytes ≡ Some s → HasNone is_slash s.host
server_host bytes s h e = by (begins_with_byte (byte "[") bytes) e
  where
    by : (b : Bool) → cond b (bracketed_server (drop 1 bytes) (position (λ b. b == byte "]") (drop 1 bytes))) (unbracketed bytes (position (λ b. b == byte ":") bytes)) ≡ Some s → HasNone is_slash s.host
    by true f = bracketed_host (drop 1 bytes) (position (λ b. b == byte "]") (drop 1 bytes)) s (none_dropped is_slash 1 bytes h) f
    by false f = unbracketed_host bytes (position (λ b. b == byte ":") bytes) s h f

no_name : (host : List ℕ) → HasNone is_slash host → is_dial_name host ≡ false
no_name host h = rw (no_place is_slash (drop 9 host) (none_dropped is_slash 9 host h)) (never_both _)
  where
    never_both : (b : Bool) → (b && false) ≡ false
    never_both true = refl
    never_both false = refl

plain_named : (through : Bool) (host : List ℕ) → is_dial_name host ≡ false → names_its_server through host ≡ false
plain_named true host h = h
plain_named false host h = refl

server_plain : (through : Bool) (name : List ℕ) (s : Server) → server_of name ≡ Some s → names_its_server through s.host ≡ false
server_plain through name s e = plain_named through s.host (no_name s.host (server_host (take (position_or_len is_slash (drop 9 name)) (drop 9 name)) s (none_before is_slash (drop 9 name)) e))

-- ---- what is to come through servers

first_through : (cs : List Coming) → first_plain (map through_server cs) ≡ first_plain cs
first_through [] = refl
first_through (c ∷ cs) = refl

named_through : (cs : List Coming) → first_named (map through_server cs) ≡ behind_handshake (first_plain cs)
named_through [] = refl
named_through (c ∷ cs) = refl

off_through : (cs : List Coming) → drop 1 (map through_server cs) ≡ map through_server (drop 1 cs)
off_through [] = refl
off_through (c ∷ cs) = refl

met_plain : (b c : Bool) (host : List ℕ) (cs : List Coming) → b ≡ false → c ≡ false → met_by b host (map through_server cs) ≡ met_by c host cs
met_plain false false host cs e f = first_through cs
met_plain false true host cs e f = absurd (cc)
met_plain true c host cs e f = absurd (cc)

left_plain : (b c : Bool) (host : List ℕ) (cs : List Coming) → b ≡ false → c ≡ false → left_by b host (map through_server cs) ≡ map through_server (left_by c host cs)
left_plain false false host cs e f = off_through cs
left_plain false true host cs e f = absurd (cc)
left_plain true c host cs e f = absurd (cc)

-- a host that is no dial name is met as below
pub plain_met : (d : DialerState) (host : List ℕ) → is_dial_name host ≡ false → met_by (is_dial_name host) host (map through_server d.coming) ≡ met d host
plain_met d host h = met_plain (is_dial_name host) (names_its_server d.through_servers host) host d.coming h (plain_named d.through_servers host h)

pub plain_left : (d : DialerState) (host : List ℕ) (new : List Coming) → is_dial_name host ≡ false → new ≡ coming_behind d host → map through_server new ≡ left_by (is_dial_name host) host (map through_server d.coming)
plain_left d host new h e = ap (map through_server) e ∙ sym (left_plain (is_dial_name host) (names_its_server d.through_servers host) host d.coming h (plain_named d.through_servers host h))

wanting_through : (b c : Bool) (old new behind behind' : List Coming) → c ≡ false → LeavesWanting c old new behind → LeavesWanting b (map through_server old) (map through_server new) behind'
wanting_through false false old new behind behind' e h = ap (map through_server) h
wanting_through true false old new behind behind' e h = inl (ap (map through_server) h)
wanting_through b true old new behind behind' e h = absurd (cc)

-- want of memory in the dial below leaves all
pub plain_wanting : (d : DialerState) (host : List ℕ) (new behind : List Coming) → is_dial_name host ≡ false → LeavesWanting (names_its_server d.through_servers host) d.coming new (coming_behind d host)
    → LeavesWanting (is_dial_name host) (map through_server d.coming) (map through_server new) behind
plain_wanting d host new behind h w = wanting_through (is_dial_name host) (names_its_server d.through_servers host) d.coming new (coming_behind d host) behind (plain_named d.through_servers host h) w

pub same_wanting : (b : Bool) (cs behind : List Coming) → LeavesWanting b cs cs behind
same_wanting false cs behind = refl
same_wanting true cs behind = inl refl

-- the link of a plain host is met as below
plain_link : (m : Met) (i : SourceState) (o : SinkState) → i.tells ≡ true → agrees m (Ok (record { link_in = i; link_out = o }))
    → agrees m (Ok (record { link_in = source_behind no_handshake i; link_out = sink_behind no_handshake o }))
plain_link (offers bytes reads writes) i o t a = rw t a
plain_link nameless i o t a = absurd a
plain_link unreached i o t a = absurd a
plain_link untold i o t a = tt

pub plain_agrees : (d : DialerState) (host : List ℕ) (i : SourceState) (o : SinkState) → is_dial_name host ≡ false → i.tells ≡ true → agrees (met d host) (Ok (record { link_in = i; link_out = o }))
    → agrees (met_by (is_dial_name host) host (map through_server d.coming)) (Ok (record { link_in = source_behind no_handshake i; link_out = sink_behind no_handshake o }))
plain_agrees d host i o h t a =
    let P = λ (m : Met). agrees m (Ok (record { link_in = source_behind no_handshake i; link_out = sink_behind no_handshake o })) in
    subst P (sym (plain_met d host h)) (plain_link (met d host) i o t a)

pub plain_refused : (d : DialerState) (host : List ℕ) (f : DialFault) → is_dial_name host ≡ false → agrees (met d host) (Err f) → agrees (met_by (is_dial_name host) host (map through_server d.coming)) (Err f)
plain_refused d host f h a = let P = λ (m : Met). agrees m (Err f) in subst P (sym (plain_met d host h)) a

long : (name : List ℕ) → 255 < length (target_of name) → has_long_target name ≡ true
long name h = grind (arith, common_steps)

short : (name : List ℕ) → length (target_of name) ≤ 255 → has_long_target name ≡ false
short name h = grind (arith, common_steps)

-- a dial name whose target is told to the server
pub record IsShort (name : List ℕ) (s : Server) : Type 0 where
  pub named : IsTrue (is_dial_name name)
  pub fits : length (target_of name) ≤ 255
  pub server : server_of name ≡ Some s

-- it is met as its server is, behind the handshake
named_met : (d : DialerState) (name : List ℕ) (s : Server) → IsShort name s → met_by (is_dial_name name) name (map through_server d.coming) ≡ behind_handshake (met d s.host)
named_met d name s h = rw (h.named, short name h.fits, server_plain d.through_servers name s h.server) (named_through d.coming)

pub accepted_coming : (d : DialerState) (name : List ℕ) (s : Server) (link : InnerSource × InnerSink) → IsShort name s → CameOf (met d s.host) (Ok link) → link.0.source.tells ≡ true → link.0.passage ≡ link.1.passage
    → agrees (met_by (is_dial_name name) name (map through_server d.coming)) (Ok (record { link_in = source_behind link.0.passage link.0.source; link_out = sink_behind link.1.passage link.1.sink }))
accepted_coming d name s link h came t e =
    let P = λ (m : Met). agrees m (Ok (record { link_in = source_behind link.0.passage link.0.source; link_out = sink_behind link.1.passage link.1.sink })) in
    subst P (sym (named_met d name s h)) (accepted_met (met d s.host) link came t e)

pub refused_coming : (d : DialerState) (name : List ℕ) (s : Server) → IsShort name s → CameOf (met d s.host) (Err stop.Refused) → agrees (met_by (is_dial_name name) name (map through_server d.coming)) (Err fault.NotReached)
refused_coming d name s h came = let P = λ (m : Met). agrees m (Err fault.NotReached) in subst P (sym (named_met d name s h)) (refused_met (met d s.host) came)

pub named_left : (d : DialerState) (name : List ℕ) (s : Server) (new : List Coming) → IsShort name s → new ≡ coming_behind d s.host → map through_server new ≡ left_by (is_dial_name name) name (map through_server d.coming)
named_left d name s new h e = rw (e, h.named, short name h.fits, server_plain d.through_servers name s h.server) (sym (off_through d.coming))

-- want of memory in the dial of the server leaves all
pub named_wanting : (d : DialerState) (name : List ℕ) (s : Server) (b : Bool) (new behind : List Coming) → server_of name ≡ Some s → LeavesWanting (names_its_server d.through_servers s.host) d.coming new (coming_behind d s.host)
    → LeavesWanting b (map through_server d.coming) (map through_server new) behind
named_wanting d name s b new behind e w = wanting_through b (names_its_server d.through_servers s.host) d.coming new (coming_behind d s.host) behind (server_plain d.through_servers name s e) w

-- and in the handshake it leaves what a dial leaves
pub lost_wanting : (d : DialerState) (name : List ℕ) (s : Server) (new : List Coming) → IsShort name s → new ≡ coming_behind d s.host
    → LeavesWanting (is_dial_name name) (map through_server d.coming) (map through_server new) (left_by (is_dial_name name) name (map through_server d.coming))
lost_wanting d name s new h e =
    by (is_dial_name name) (map through_server d.coming) (map through_server new) (left_by (is_dial_name name) name (map through_server d.coming)) h.named (named_left d name s new h e)
  where
    by : (b : Bool) (old more behind : List Coming) → b ≡ true → more ≡ behind → LeavesWanting b old more behind
    by true old more behind e k = inr k
    by false old more behind e k = absurd (cc)
