-- The kinds of actions (the manual's chapter on actions files).
use Rattle.std.specs.Prelude.{ℕ, ◌&&◌, Bool, true, if◌then◌else◌, List, [], ◌∷◌, Option, codes}
use Rattle.std.specs.Cmp.Lexicographic.{slice_cmp}
use Rattle.std.specs.List.{find}
use Rattle.std.specs.Ordering.{is_lt, nat_cmp}
use Rattle.std.specs.Str.{str_eq_ignore_ascii_case}
use Rattle.px_actions.specs.declared.kinds.TheConstants.{KINDS}
use Rattle.px_actions.specs.declared.kinds.Kind.{Kind}
use Rattle.px_actions.specs.declared.kinds.Kind.TheVariants as kind
use Rattle.px_actions.specs.declared.kinds.Shape.{Shape}
use Rattle.px_actions.specs.declared.kinds.Shape.TheVariants as shape
use Rattle.px_actions.specs.declared.kinds.Rule.{Rule}
use Rattle.px_actions.specs.declared.kinds.Rule.TheVariants as rule

-- what the table of kinds says of a kind
pub record KindEntry : Type 0 where
  -- its place in byte order of the names
  pub place : ℕ
  pub name : List ℕ
  pub shape : Shape
  pub rule : Rule

abbrev pub flag : ℕ → List ℕ → KindEntry
flag place name = record { place = place; name = name; shape = shape.Flag; rule = rule.Nothing }

abbrev pub single : ℕ → List ℕ → Rule → KindEntry
single place name rule = record { place = place; name = name; shape = shape.Single; rule = rule }

abbrev pub multi : ℕ → List ℕ → Rule → KindEntry
multi place name rule = record { place = place; name = name; shape = shape.Multi; rule = rule }

-- the table of kinds
unfoldable pub entry_of : Kind → KindEntry
entry_of kind.AddHeader = multi 0 (codes "add-header") rule.AddedField
entry_of kind.Block = single 1 (codes "block") rule.TextOrEmpty
entry_of kind.ChangeXForwardedFor = single 2 (codes "change-x-forwarded-for") rule.BlockOrAdd
entry_of kind.ClientBodyFilter = multi 3 (codes "client-body-filter") rule.Text
entry_of kind.ClientBodyTagger = multi 4 (codes "client-body-tagger") rule.Text
entry_of kind.ClientHeaderFilter = multi 5 (codes "client-header-filter") rule.Text
entry_of kind.ClientHeaderTagger = multi 6 (codes "client-header-tagger") rule.Text
entry_of kind.ContentTypeOverwrite = single 7 (codes "content-type-overwrite") rule.Text
entry_of kind.CrunchClientHeader = single 8 (codes "crunch-client-header") rule.Text
entry_of kind.CrunchIfNoneMatch = flag 9 (codes "crunch-if-none-match")
entry_of kind.CrunchIncomingCookies = flag 10 (codes "crunch-incoming-cookies")
entry_of kind.CrunchOutgoingCookies = flag 11 (codes "crunch-outgoing-cookies")
entry_of kind.CrunchServerHeader = single 12 (codes "crunch-server-header") rule.Text
entry_of kind.DeanimateGifs = single 13 (codes "deanimate-gifs") rule.Text
entry_of kind.DelayResponse = single 14 (codes "delay-response") rule.Text
entry_of kind.DowngradeHttpVersion = flag 15 (codes "downgrade-http-version")
entry_of kind.ExternalFilter = multi 16 (codes "external-filter") rule.Text
entry_of kind.FastRedirects = single 17 (codes "fast-redirects") rule.RedirectCheck
entry_of kind.Filter = multi 18 (codes "filter") rule.Text
entry_of kind.ForceTextMode = flag 19 (codes "force-text-mode")
entry_of kind.ForwardOverride = single 20 (codes "forward-override") rule.Parent
entry_of kind.HandleAsEmptyDocument = flag 21 (codes "handle-as-empty-document")
entry_of kind.HandleAsImage = flag 22 (codes "handle-as-image")
entry_of kind.HideAcceptLanguage = single 23 (codes "hide-accept-language") rule.Text
entry_of kind.HideContentDisposition = single 24 (codes "hide-content-disposition") rule.Text
entry_of kind.HideFromHeader = single 25 (codes "hide-from-header") rule.Text
entry_of kind.HideIfModifiedSince = single 26 (codes "hide-if-modified-since") rule.Text
entry_of kind.HideReferrer = single 27 (codes "hide-referrer") rule.Text
entry_of kind.HideUserAgent = single 28 (codes "hide-user-agent") rule.Text
entry_of kind.HttpsInspection = flag 29 (codes "https-inspection")
entry_of kind.IgnoreCertificateErrors = flag 30 (codes "ignore-certificate-errors")
entry_of kind.LimitConnect = single 31 (codes "limit-connect") rule.Ports
entry_of kind.LimitCookieLifetime = single 32 (codes "limit-cookie-lifetime") rule.Minutes
entry_of kind.OverwriteLastModified = single 33 (codes "overwrite-last-modified") rule.ModifiedDate
entry_of kind.PreventCompression = flag 34 (codes "prevent-compression")
entry_of kind.Redirect = single 35 (codes "redirect") rule.Text
entry_of kind.ServerHeaderFilter = multi 36 (codes "server-header-filter") rule.Text
entry_of kind.ServerHeaderTagger = multi 37 (codes "server-header-tagger") rule.Text
entry_of kind.SessionCookiesOnly = flag 38 (codes "session-cookies-only")
entry_of kind.SetImageBlocker = single 39 (codes "set-image-blocker") rule.Text
entry_of kind.SuppressTag = multi 40 (codes "suppress-tag") rule.Text

-- each text is below the next one, byte by byte
abbrev pub are_in_byte_order : List (List ℕ) → Bool
are_in_byte_order [] = true
are_in_byte_order (text ∷ []) = true
are_in_byte_order (text ∷ next ∷ texts) = is_lt (slice_cmp nat_cmp text next) && are_in_byte_order (next ∷ texts)

-- the name that a spelling stands for
abbrev pub spelled_name : List ℕ → List ℕ
spelled_name name = if str_eq_ignore_ascii_case name (codes "hide-referer") then codes "hide-referrer" else name

-- the kind of a name, compared without case
unfoldable pub kind_named : List ℕ → Option Kind
kind_named name = find (λ k. str_eq_ignore_ascii_case (entry_of k).name (spelled_name name)) KINDS
