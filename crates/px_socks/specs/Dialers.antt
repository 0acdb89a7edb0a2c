-- What contracts see of a dialer through SOCKS servers.
use Rattle.std.specs.Prelude.{ℕ, true, ◌&&◌, List, map}
use Rattle.px_base.specs.Dials.{DialerState}
use Rattle.px_socks.specs.declared.notes.DialNote.{DialNote}
use Rattle.px_socks.specs.Notes.{outer_dials}
use Rattle.px_socks.specs.Comings.{through_server}

-- the dialer below, the notes, and the counts of this one
pub record KeptDialer : Type 0 where
  pub inner : DialerState
  pub notes : List DialNote
  pub names : ℕ
  pub reach : ℕ
  pub link_reads : ℕ
  pub link_writes : ℕ
  pub opened : ℕ
  pub hung_up : ℕ

-- it tells its dials where the dialer below does, and what its next dials give where that one tells both; it has that one's mark
abbrev pub outer_state : KeptDialer → DialerState
outer_state k = record {
  tells = k.inner.tells;
  dials = outer_dials k.notes k.inner.dials;
  tells_coming = k.inner.tells && k.inner.tells_coming;
  coming = map through_server k.inner.coming;
  through_servers = true;
  names = k.names;
  reach = k.reach;
  link_reads = k.link_reads;
  link_writes = k.link_writes;
  opened = k.opened;
  hung_up = k.hung_up;
  mark = k.inner.mark;
}
