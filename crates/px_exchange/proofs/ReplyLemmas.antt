-- No reply without a dial is a page that speaks of one.
use Rattle.std.proofs.Common.{◌≡◌, ◌⊎◌, inl, inr, refl}
use Rattle.px_base.specs.Dials.{DialerState}
use Rattle.px_templates.specs.declared.pages.Page.{Page}
use Rattle.px_templates.specs.declared.pages.Page.TheVariants as page
use Rattle.px_notes.specs.declared.endings.Ending.{Ending}
use Rattle.px_notes.specs.declared.endings.Ending.TheVariants as ending
use Rattle.px_judging.specs.Judging.{IsBeforeDials, NamesNoDial}
use Rattle.px_judging.specs.declared.replies.LocalReply.{LocalReply}
use Rattle.px_judging.specs.declared.replies.ReplyKind.{ReplyKind}
use Rattle.px_judging.specs.declared.replies.ReplyKind.TheVariants as kind
use Rattle.px_exchange.specs.Causes.{EndingCause, IsPageOr, PageCause}
use Rattle.px_exchange.specs.Replies.{reply_ending}

before_dials : (old new : DialerState) (p : Page) → IsBeforeDials p → PageCause old new p
before_dials old new page.Blocked h = tt
before_dials old new page.ConnectFailed h = absurd h
before_dials old new page.NoSuchDomain h = absurd h
before_dials old new page.ForwardingFailed h = absurd h
before_dials old new page.NoServerData h = tt
before_dials old new page.InvalidRequest h = tt
before_dials old new page.HeadTooLong h = tt
before_dials old new page.BadReply h = tt
before_dials old new page.SendFailed h = absurd h
before_dials old new page.ConnectDenied h = tt
before_dials old new page.BadRewrite h = tt

kind_cause : (old new : DialerState) (k : ReplyKind) → NamesNoDial k → EndingCause old new (reply_ending k)
kind_cause old new (kind.Page p symbols) h = before_dials old new p h
kind_cause old new kind.BlankImage h = tt
kind_cause old new kind.PatternImage h = tt
kind_cause old new kind.EmptyDocument h = tt
kind_cause old new (kind.Redirect target) h = tt
kind_cause old new (kind.Inside own) h = tt

-- an ending that is a page only where that other one is the same page
same_page : (old new : DialerState) (e e' : Ending) → ((p : Page) → e ≡ ending.Page p → e' ≡ ending.Page p) → EndingCause old new e' → EndingCause old new e
same_page old new (ending.Page p) e' same h = rw (same p refl) at h
same_page old new ending.Image e' same h = tt
same_page old new ending.Empty e' same h = tt
same_page old new ending.Redirect e' same h = tt
same_page old new ending.Inside e' same h = tt
same_page old new ending.Passed e' same h = tt
same_page old new ending.Filtered e' same h = tt
same_page old new ending.Bodiless e' same h = tt
same_page old new ending.CutFront e' same h = tt
same_page old new ending.Tunnel e' same h = tt
same_page old new ending.Broken e' same h = tt

pub local_cause : (reply : LocalReply) (old new : DialerState) (e : Ending) → NamesNoDial reply.kind
    → ((p : Page) → e ≡ ending.Page p → reply_ending reply.kind ≡ ending.Page p) → EndingCause old new e
local_cause reply old new e quiet same = same_page old new e (reply_ending reply.kind) same (kind_cause old new reply.kind quiet)

-- an ending of a kind is a page or one of that kind
pub of_kind : (IsOf : Ending → Type 0) (e : Ending) → IsOf e → IsPageOr IsOf e
of_kind IsOf (ending.Page p) h = tt
of_kind IsOf ending.Image h = h
of_kind IsOf ending.Empty h = h
of_kind IsOf ending.Redirect h = h
of_kind IsOf ending.Inside h = h
of_kind IsOf ending.Passed h = h
of_kind IsOf ending.Filtered h = h
of_kind IsOf ending.Bodiless h = h
of_kind IsOf ending.CutFront h = h
of_kind IsOf ending.Tunnel h = h
of_kind IsOf ending.Broken h = h

-- so is that page, or a broken end, where it is of that kind
pub page_or_broken : (IsOf : Ending → Type 0) (e : Ending) (p : Page) → IsOf ending.Broken → (e ≡ ending.Page p) ⊎ (e ≡ ending.Broken) → IsPageOr IsOf e
page_or_broken IsOf e p broken (inl is) = rw is tt
page_or_broken IsOf e p broken (inr is) = rw is broken
