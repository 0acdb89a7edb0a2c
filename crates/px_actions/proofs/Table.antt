-- What the table of kinds keeps.
use Rattle.std.proofs.Common.{◌≡◌, ◌<◌, refl, sym, ap, ◌∙◌, Some, lit<}
use Rattle.std.specs.Prelude.{slice_index_or}
use Rattle.px_actions.specs.declared.kinds.TheConstants.{KINDS}
use Rattle.px_actions.specs.Kinds.{entry_of, kind_named}
use Rattle.px_actions.specs.declared.kinds.Kind.{Kind}
use Rattle.px_actions.specs.declared.kinds.Kind.TheVariants as kind

-- each kind has the name by which it is found
pub kind_named-name : (k : Kind) → kind_named (entry_of k).name ≡ Some k
unfolding entry_of kind_named
kind_named-name kind.AddHeader = refl
kind_named-name kind.Block = refl
kind_named-name kind.ChangeXForwardedFor = refl
kind_named-name kind.ClientBodyFilter = refl
kind_named-name kind.ClientBodyTagger = refl
kind_named-name kind.ClientHeaderFilter = refl
kind_named-name kind.ClientHeaderTagger = refl
kind_named-name kind.ContentTypeOverwrite = refl
kind_named-name kind.CrunchClientHeader = refl
kind_named-name kind.CrunchIfNoneMatch = refl
kind_named-name kind.CrunchIncomingCookies = refl
kind_named-name kind.CrunchOutgoingCookies = refl
kind_named-name kind.CrunchServerHeader = refl
kind_named-name kind.DeanimateGifs = refl
kind_named-name kind.DelayResponse = refl
kind_named-name kind.DowngradeHttpVersion = refl
kind_named-name kind.ExternalFilter = refl
kind_named-name kind.FastRedirects = refl
kind_named-name kind.Filter = refl
kind_named-name kind.ForceTextMode = refl
kind_named-name kind.ForwardOverride = refl
kind_named-name kind.HandleAsEmptyDocument = refl
kind_named-name kind.HandleAsImage = refl
kind_named-name kind.HideAcceptLanguage = refl
kind_named-name kind.HideContentDisposition = refl
kind_named-name kind.HideFromHeader = refl
kind_named-name kind.HideIfModifiedSince = refl
kind_named-name kind.HideReferrer = refl
kind_named-name kind.HideUserAgent = refl
kind_named-name kind.HttpsInspection = refl
kind_named-name kind.IgnoreCertificateErrors = refl
kind_named-name kind.LimitConnect = refl
kind_named-name kind.LimitCookieLifetime = refl
kind_named-name kind.OverwriteLastModified = refl
kind_named-name kind.PreventCompression = refl
kind_named-name kind.Redirect = refl
kind_named-name kind.ServerHeaderFilter = refl
kind_named-name kind.ServerHeaderTagger = refl
kind_named-name kind.SessionCookiesOnly = refl
kind_named-name kind.SetImageBlocker = refl
kind_named-name kind.SuppressTag = refl

-- a kind stands at its place
pub record IsAtPlace (k : Kind) (other : Kind) : Type 0 where
  pub within : (entry_of k).place < 41
  pub kind : slice_index_or KINDS (entry_of k).place other ≡ k

at_place : (k other : Kind) → IsAtPlace k other
unfolding entry_of
at_place kind.AddHeader other = record { within = lit< tt; kind = refl }
at_place kind.Block other = record { within = lit< tt; kind = refl }
at_place kind.ChangeXForwardedFor other = record { within = lit< tt; kind = refl }
at_place kind.ClientBodyFilter other = record { within = lit< tt; kind = refl }
at_place kind.ClientBodyTagger other = record { within = lit< tt; kind = refl }
at_place kind.ClientHeaderFilter other = record { within = lit< tt; kind = refl }
at_place kind.ClientHeaderTagger other = record { within = lit< tt; kind = refl }
at_place kind.ContentTypeOverwrite other = record { within = lit< tt; kind = refl }
at_place kind.CrunchClientHeader other = record { within = lit< tt; kind = refl }
at_place kind.CrunchIfNoneMatch other = record { within = lit< tt; kind = refl }
at_place kind.CrunchIncomingCookies other = record { within = lit< tt; kind = refl }
at_place kind.CrunchOutgoingCookies other = record { within = lit< tt; kind = refl }
at_place kind.CrunchServerHeader other = record { within = lit< tt; kind = refl }
at_place kind.DeanimateGifs other = record { within = lit< tt; kind = refl }
at_place kind.DelayResponse other = record { within = lit< tt; kind = refl }
at_place kind.DowngradeHttpVersion other = record { within = lit< tt; kind = refl }
at_place kind.ExternalFilter other = record { within = lit< tt; kind = refl }
at_place kind.FastRedirects other = record { within = lit< tt; kind = refl }
at_place kind.Filter other = record { within = lit< tt; kind = refl }
at_place kind.ForceTextMode other = record { within = lit< tt; kind = refl }
at_place kind.ForwardOverride other = record { within = lit< tt; kind = refl }
at_place kind.HandleAsEmptyDocument other = record { within = lit< tt; kind = refl }
at_place kind.HandleAsImage other = record { within = lit< tt; kind = refl }
at_place kind.HideAcceptLanguage other = record { within = lit< tt; kind = refl }
at_place kind.HideContentDisposition other = record { within = lit< tt; kind = refl }
at_place kind.HideFromHeader other = record { within = lit< tt; kind = refl }
at_place kind.HideIfModifiedSince other = record { within = lit< tt; kind = refl }
at_place kind.HideReferrer other = record { within = lit< tt; kind = refl }
at_place kind.HideUserAgent other = record { within = lit< tt; kind = refl }
at_place kind.HttpsInspection other = record { within = lit< tt; kind = refl }
at_place kind.IgnoreCertificateErrors other = record { within = lit< tt; kind = refl }
at_place kind.LimitConnect other = record { within = lit< tt; kind = refl }
at_place kind.LimitCookieLifetime other = record { within = lit< tt; kind = refl }
at_place kind.OverwriteLastModified other = record { within = lit< tt; kind = refl }
at_place kind.PreventCompression other = record { within = lit< tt; kind = refl }
at_place kind.Redirect other = record { within = lit< tt; kind = refl }
at_place kind.ServerHeaderFilter other = record { within = lit< tt; kind = refl }
at_place kind.ServerHeaderTagger other = record { within = lit< tt; kind = refl }
at_place kind.SessionCookiesOnly other = record { within = lit< tt; kind = refl }
at_place kind.SetImageBlocker other = record { within = lit< tt; kind = refl }
at_place kind.SuppressTag other = record { within = lit< tt; kind = refl }

pub kinds_place : (k d : Kind) → slice_index_or KINDS (entry_of k).place d ≡ k
kinds_place k d = (at_place k d).kind

pub place_within : (k : Kind) → (entry_of k).place < 41
place_within k = (at_place k k).within

-- two kinds at one place are the same
pub same_place : (j k : Kind) → (entry_of j).place ≡ (entry_of k).place → j ≡ k
same_place j k e = sym (kinds_place j j) ∙ (ap (λ at. slice_index_or KINDS at j) e ∙ kinds_place k j)
