-- The pages: their names, their statuses, and the texts that stand for templates that are missing.
use Rattle.std.specs.Prelude.{ℕ, List, [], ◌∷◌, ◌++◌, codes}
use Rattle.px_templates.specs.declared.pages.Page.{Page}
use Rattle.px_templates.specs.declared.pages.Page.TheVariants.{Blocked, ConnectFailed, NoSuchDomain, ForwardingFailed, NoServerData, InvalidRequest, HeadTooLong, BadReply, SendFailed, ConnectDenied, BadRewrite}

-- the name of a page's template
abbrev pub page_name : Page → List ℕ
page_name Blocked = codes "blocked"
page_name ConnectFailed = codes "connect-failed"
page_name NoSuchDomain = codes "no-such-domain"
page_name ForwardingFailed = codes "forwarding-failed"
page_name NoServerData = codes "no-server-data"
page_name InvalidRequest = codes "invalid-request"
page_name HeadTooLong = codes "head-too-long"
page_name BadReply = codes "bad-reply"
page_name SendFailed = codes "send-failed"
page_name ConnectDenied = codes "connect-denied"
page_name BadRewrite = codes "bad-rewrite"

-- the status of a page and its phrase
abbrev pub page_status : Page → List ℕ
page_status Blocked = codes "403 Forbidden"
page_status ConnectFailed = codes "503 Service Unavailable"
page_status NoSuchDomain = codes "404 Not Found"
page_status ForwardingFailed = codes "503 Service Unavailable"
page_status NoServerData = codes "502 Bad Gateway"
page_status InvalidRequest = codes "400 Bad Request"
page_status HeadTooLong = codes "431 Request Header Fields Too Large"
page_status BadReply = codes "502 Bad Gateway"
page_status SendFailed = codes "502 Bad Gateway"
page_status ConnectDenied = codes "403 Forbidden"
page_status BadRewrite = codes "500 Internal Server Error"

-- what the built-in template of a page says: its name, and on two pages a value
abbrev pub built_in_text : Page → List ℕ
built_in_text Blocked = codes "blocked: @block-reason@"
built_in_text ConnectFailed = page_name ConnectFailed
built_in_text NoSuchDomain = page_name NoSuchDomain
built_in_text ForwardingFailed = page_name ForwardingFailed
built_in_text NoServerData = page_name NoServerData
built_in_text InvalidRequest = codes "invalid-request: @error@"
built_in_text HeadTooLong = page_name HeadTooLong
built_in_text BadReply = page_name BadReply
built_in_text SendFailed = page_name SendFailed
built_in_text ConnectDenied = page_name ConnectDenied
built_in_text BadRewrite = page_name BadRewrite

-- the template of a page where an operator wrote none
abbrev pub built_in : Page → List ℕ
built_in page = codes "<html><body>" ++ built_in_text page ++ codes "</body></html>" ++ 10 ∷ []

-- the place of a page among all pages
abbrev pub page_rank : Page → ℕ
page_rank Blocked = 0
page_rank ConnectFailed = 1
page_rank NoSuchDomain = 2
page_rank ForwardingFailed = 3
page_rank NoServerData = 4
page_rank InvalidRequest = 5
page_rank HeadTooLong = 6
page_rank BadReply = 7
page_rank SendFailed = 8
page_rank ConnectDenied = 9
page_rank BadRewrite = 10
