-- The table of directives.
use Rattle.std.proofs.Common.{◌≡◌, Some, refl}
use Rattle.px_config.specs.Mains.{directive_of, row_of}
use Rattle.px_config.specs.declared.directives.Directive.{Directive}
use Rattle.px_config.specs.declared.directives.Directive.TheVariants as directive

-- each directive is found by its name
pub found : (d : Directive) → directive_of (row_of d).name ≡ Some d
unfolding row_of directive_of
found directive.ActionsFile = refl
found directive.FilterFile = refl
found directive.HostList = refl
found directive.Confdir = refl
found directive.Templdir = refl
found directive.ListenAddress = refl
found directive.BufferLimit = refl
found directive.Forward = refl
found directive.ForwardSocks5 = refl
found directive.ForwardSocks5t = refl
found directive.ForwardSocks4 = refl
found directive.ForwardSocks4a = refl
found directive.EmptyReturnsOk = refl
found directive.Toggle = refl
found directive.LinkReuse = refl
found directive.AccessLog = refl
found directive.PatternLimit = refl
found directive.ClientTag = refl
