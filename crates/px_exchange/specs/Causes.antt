-- Causes: a fault comes only where its own device's count rose.
use Rattle.std.specs.Prelude.{◌≡◌, ◌≢◌, ◌⊎◌}
use Rattle.px_base.specs.Causes.{Rose}
use Rattle.px_base.specs.Dials.{DialerState}
use Rattle.px_base.specs.Sinks.{SinkState}
use Rattle.px_base.specs.Sources.{SourceState}
use Rattle.px_templates.specs.declared.pages.Page.{Page}
use Rattle.px_templates.specs.declared.pages.Page.TheVariants as page
use Rattle.px_notes.specs.declared.endings.Ending.{Ending}
use Rattle.px_notes.specs.declared.endings.Ending.TheVariants as ending
use Rattle.px_notes.specs.declared.endings.After.{After}
use Rattle.px_notes.specs.declared.endings.After.TheVariants as after
use Rattle.px_notes.specs.declared.endings.Conclusion.{Conclusion}
use Rattle.px_judging.specs.declared.judgements.Judgement.{Judgement}
use Rattle.px_judging.specs.declared.judgements.Judgement.TheVariants as judgement
use Rattle.px_pumps.specs.Returning.{IsAnswerEnding}
use Rattle.px_pumps.specs.declared.talks.Talked.{Talked}
use Rattle.px_pumps.specs.declared.talks.Talked.TheVariants as talked
use Rattle.px_exchange.specs.Replies.{reply_ending}

-- why a page that speaks of a dial or of a link is returned
abbrev pub PageCause : DialerState → DialerState → Page → Type 0
PageCause old new page.Blocked = Unit {0}
PageCause old new page.ConnectFailed = Rose old.reach new.reach
PageCause old new page.NoSuchDomain = Rose old.names new.names
PageCause old new page.ForwardingFailed = Rose old.names new.names ⊎ Rose old.reach new.reach
PageCause old new page.NoServerData = Unit {0}
PageCause old new page.InvalidRequest = Unit {0}
PageCause old new page.HeadTooLong = Unit {0}
PageCause old new page.BadReply = Unit {0}
PageCause old new page.SendFailed = Rose old.link_writes new.link_writes
PageCause old new page.ConnectDenied = Unit {0}
PageCause old new page.BadRewrite = Unit {0}

abbrev pub EndingCause : DialerState → DialerState → Ending → Type 0
EndingCause old new (ending.Page p) = PageCause old new p
EndingCause old new ending.Image = Unit {0}
EndingCause old new ending.Empty = Unit {0}
EndingCause old new ending.Redirect = Unit {0}
EndingCause old new ending.Inside = Unit {0}
EndingCause old new ending.Passed = Unit {0}
EndingCause old new ending.Filtered = Unit {0}
EndingCause old new ending.Bodiless = Unit {0}
EndingCause old new ending.CutFront = Unit {0}
EndingCause old new ending.Tunnel = Unit {0}
EndingCause old new ending.Broken = Unit {0}

-- what came of a talk: a page with its cause, or the ending of an answer
abbrev pub TalkPageCause : DialerState → DialerState → Talked → Type 0
TalkPageCause old new (talked.Page p) = PageCause old new p
TalkPageCause old new (talked.Ended x) = IsAnswerEnding x.ending

-- the same over one link, whose sink failed where the page send-failed comes
abbrev pub LinkPageCause : SinkState → SinkState → Page → Type 0
LinkPageCause old new page.Blocked = ⊥
LinkPageCause old new page.ConnectFailed = ⊥
LinkPageCause old new page.NoSuchDomain = ⊥
LinkPageCause old new page.ForwardingFailed = ⊥
LinkPageCause old new page.NoServerData = Unit {0}
LinkPageCause old new page.InvalidRequest = Unit {0}
LinkPageCause old new page.HeadTooLong = ⊥
LinkPageCause old new page.BadReply = Unit {0}
LinkPageCause old new page.SendFailed = Rose old.faults new.faults
LinkPageCause old new page.ConnectDenied = ⊥
LinkPageCause old new page.BadRewrite = ⊥

abbrev pub TalkLinkCause : SinkState → SinkState → Talked → Type 0
TalkLinkCause old new (talked.Page p) = LinkPageCause old new p
TalkLinkCause old new (talked.Ended x) = IsAnswerEnding x.ending

-- the client's source failed exactly where what comes after says so; without memory in a tunnel it may have
abbrev pub ClientReadCause : SourceState → SourceState → After → Type 0
ClientReadCause old new after.Keep = new.faults ≡ old.faults
ClientReadCause old new after.Close = new.faults ≡ old.faults
ClientReadCause old new after.Cut = new.faults ≡ old.faults
ClientReadCause old new after.ReadFailed = Rose old.faults new.faults
ClientReadCause old new after.WriteFailed = new.faults ≡ old.faults
ClientReadCause old new after.NoMemory = Unit {0}

abbrev pub TalkReadCause : SourceState → SourceState → Talked → Type 0
TalkReadCause old new (talked.Page p) = new.faults ≡ old.faults
TalkReadCause old new (talked.Ended x) = ClientReadCause old new x.after

-- the client's sink failed exactly where what comes after says so; in a tunnel it may have beside its source, or without memory
abbrev pub WriteCauseAfter : SinkState → SinkState → Ending → After → Type 0
WriteCauseAfter old new e after.Keep = new.faults ≡ old.faults
WriteCauseAfter old new e after.Close = new.faults ≡ old.faults
WriteCauseAfter old new e after.Cut = new.faults ≡ old.faults
WriteCauseAfter old new e after.ReadFailed = e ≢ ending.Tunnel → new.faults ≡ old.faults
WriteCauseAfter old new e after.WriteFailed = Rose old.faults new.faults
WriteCauseAfter old new e after.NoMemory = Unit {0}

abbrev pub ClientWriteCause : SinkState → SinkState → Conclusion → Type 0
ClientWriteCause old new x = WriteCauseAfter old new x.ending x.after

abbrev pub TalkWriteCause : SinkState → SinkState → Talked → Type 0
TalkWriteCause old new (talked.Page p) = new.faults ≡ old.faults
TalkWriteCause old new (talked.Ended x) = ClientWriteCause old new x

-- the client's sink is as open as it was, save behind a tunnel
abbrev pub StaysOpenAfter : SinkState → SinkState → Ending → After → Type 0
StaysOpenAfter old new e after.Keep = new.finished ≡ old.finished
StaysOpenAfter old new e after.Close = e ≢ ending.Tunnel → new.finished ≡ old.finished
StaysOpenAfter old new e after.Cut = new.finished ≡ old.finished
StaysOpenAfter old new e after.ReadFailed = e ≢ ending.Tunnel → new.finished ≡ old.finished
StaysOpenAfter old new e after.WriteFailed = e ≢ ending.Tunnel → new.finished ≡ old.finished
StaysOpenAfter old new e after.NoMemory = Unit {0}

abbrev pub ClientStaysOpen : SinkState → SinkState → Conclusion → Type 0
ClientStaysOpen old new x = StaysOpenAfter old new x.ending x.after

abbrev pub TalkStaysOpen : SinkState → SinkState → Talked → Type 0
TalkStaysOpen old new (talked.Page p) = new.finished ≡ old.finished
TalkStaysOpen old new (talked.Ended x) = ClientStaysOpen old new x

-- a tunnel, or one that wasn't carried
abbrev pub IsTunnelEnding : Ending → Type 0
IsTunnelEnding e = (e ≡ ending.Tunnel) ⊎ (e ≡ ending.Broken)

-- what came of a tunnel: a page with its cause, or the ending of a tunnel
abbrev pub TunnelPageCause : DialerState → DialerState → Talked → Type 0
TunnelPageCause old new (talked.Page p) = PageCause old new p
TunnelPageCause old new (talked.Ended x) = IsTunnelEnding x.ending

-- the same over one link
abbrev pub TunnelLinkCause : SinkState → SinkState → Talked → Type 0
TunnelLinkCause old new (talked.Page p) = LinkPageCause old new p
TunnelLinkCause old new (talked.Ended x) = IsTunnelEnding x.ending

-- a page, or an ending of that kind
abbrev pub IsPageOr : (Ending → Type 0) → Ending → Type 0
IsPageOr IsOf (ending.Page p) = Unit {0}
IsPageOr IsOf e = IsOf e

-- how an exchange may end, by what was judged, whatever the devices tell
abbrev pub EndsByJudgement : Judgement → Ending → Type 0
EndsByJudgement (judgement.Local reply) e = (e ≡ reply_ending reply.kind) ⊎ (e ≡ ending.Broken)
EndsByJudgement (judgement.Forward plan) e = IsPageOr IsAnswerEnding e
EndsByJudgement (judgement.Tunnel t) e = IsPageOr IsTunnelEnding e
