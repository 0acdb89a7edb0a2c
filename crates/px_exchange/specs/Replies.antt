-- What is due to the client without an origin's answer.
use Rattle.std.specs.Prelude.{ℕ, Bool, true, not, List, [], ◌++◌, codes}
use Rattle.std.specs.Fmt.{decimal}
use Rattle.px_patterns.specs.declared.urls.Url.{Url}
use Rattle.px_decide.specs.declared.routes.Route.{Route}
use Rattle.px_templates.specs.declared.pages.Page.{Page}
use Rattle.px_templates.specs.declared.pages.Page.TheVariants as page
use Rattle.px_config.specs.declared.configs.Config.{Config}
use Rattle.px_notes.specs.Endings.{after_whole}
use Rattle.px_notes.specs.declared.endings.Ending.{Ending}
use Rattle.px_notes.specs.declared.endings.Ending.TheVariants as ending
use Rattle.px_judging.specs.Replies.{reply_bytes, url_symbols}
use Rattle.px_judging.specs.declared.replies.LocalReply.{LocalReply}
use Rattle.px_judging.specs.declared.replies.ReplyKind.{ReplyKind}
use Rattle.px_judging.specs.declared.replies.ReplyKind.TheVariants as kind
use Rattle.px_pumps.specs.declared.dues.Due.{Due}

-- what a reply of that kind is
abbrev pub reply_ending : ReplyKind → Ending
reply_ending (kind.Page p symbols) = ending.Page p
reply_ending kind.BlankImage = ending.Image
reply_ending kind.PatternImage = ending.Image
reply_ending kind.EmptyDocument = ending.Empty
reply_ending (kind.Redirect target) = ending.Redirect
reply_ending (kind.Inside own) = ending.Inside

-- a reply as what is due
abbrev pub local_due : Config → LocalReply → Due
local_due config reply = record { bytes = reply_bytes config reply; ending = reply_ending reply.kind; after = after_whole (not reply.close) }

-- the value of `error` on a page of a request that was sent on: its body was misframed
abbrev pub error_of : Page → List ℕ
error_of page.Blocked = []
error_of page.ConnectFailed = []
error_of page.NoSuchDomain = []
error_of page.ForwardingFailed = []
error_of page.NoServerData = []
error_of page.InvalidRequest = codes "Misframed"
error_of page.HeadTooLong = []
error_of page.BadReply = []
error_of page.SendFailed = []
error_of page.ConnectDenied = []
error_of page.BadRewrite = []

-- a parent as a page names it
abbrev pub parent_text : Route → List ℕ
parent_text route = route.host ++ codes ":" ++ decimal route.port

-- the value of `parent`
abbrev pub parent_value : Route → Page → List ℕ
parent_value route page.Blocked = []
parent_value route page.ConnectFailed = []
parent_value route page.NoSuchDomain = []
parent_value route page.ForwardingFailed = parent_text route
parent_value route page.NoServerData = []
parent_value route page.InvalidRequest = []
parent_value route page.HeadTooLong = []
parent_value route page.BadReply = []
parent_value route page.SendFailed = []
parent_value route page.ConnectDenied = []
parent_value route page.BadRewrite = []

-- a page about a URL, behind which the connection closes
abbrev pub url_page : Page → Url → List ℕ → List ℕ → Bool → LocalReply
url_page p url error parent bodiless = record { kind = kind.Page p (url_symbols url [] error parent); close = true; bodiless = bodiless }

-- the page that is returned in place of the answer to a request that was sent on
abbrev pub page_reply : Url → Route → Bool → Page → LocalReply
page_reply url route bodiless p = url_page p url (error_of p) (parent_value route p) bodiless

-- the same as what is due
abbrev pub page_due : Config → Url → Route → Bool → Page → Due
page_due config url route bodiless p = local_due config (page_reply url route bodiless p)
