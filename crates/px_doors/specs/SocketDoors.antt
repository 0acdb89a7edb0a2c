-- What doors over TCP are told.
use Rattle.std.specs.Prelude.{Option, option_map}
use Rattle.px_doors.specs.declared.addresses.ListenAddress.{ListenAddress}
use Rattle.px_sockets.specs.declared.listeners.SocketListener.{SocketListener}

-- the host and port for which a listener listens, if there is one
abbrev pub told_address : Option SocketListener → Option ListenAddress
told_address listener = option_map (λ l. record { host = l.host; port = l.asked }) listener
