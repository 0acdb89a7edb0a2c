-- Addresses that are lent, as plain data.
use Rattle.px_config.specs.Addresses.{AddressSeen}
use Rattle.px_config.specs.declared.addresses.HostPort.{HostPort}

abbrev pub seen_host : HostPort → AddressSeen
seen_host h = record { host = h.host.now; port_number = h.port }
