-- Servers of forward lines.
use Rattle.std.proofs.Common.{◌≡◌, ℕ, List, [], ◌∷◌, Option, None, Some, map, refl, ap}
use Rattle.std.specs.Prelude.{◌==◌, ◌||◌, is_some, option_map}
use Rattle.std.specs.Str.{byte}
use Rattle.std.specs.List.{list_any}
use Rattle.px_dial_names.specs.Printed.{has_colon}
use Rattle.px_decide.specs.declared.forwards.ForwardLine.{ForwardLine}
use Rattle.px_decide.specs.declared.servers.KeptServer.{KeptServer}
use Rattle.px_decide.specs.Forwards.{has_socks}
use Rattle.px_decide.specs.Lines.{keeps_server, forward_line_of}
use Rattle.px_decide.specs.Servers.{kept_server}
use Rattle.px_actions.specs.Hops.{is_colon}

pub colons : (host : List ℕ) → list_any is_colon host ≡ has_colon host
colons [] = refl
colons (b ∷ bs) = ap (λ rest. b == byte ":" || rest) (colons bs)

kept_some : (server : Option KeptServer) → is_some server ≡ is_some (option_map kept_server server)
kept_some None = refl
kept_some (Some s) = refl

pub servers : (lines : List ForwardLine) → list_any keeps_server lines ≡ has_socks (map forward_line_of lines)
servers [] = refl
servers (line ∷ lines) = rw (kept_some line.server, servers lines) refl
