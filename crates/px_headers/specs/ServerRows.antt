-- What actions do to the fields of an answer (Privoxy's manual, "Actions").
use Rattle.std.specs.Prelude.{ℕ, ◌==◌, List, codes, Option, None, unwrap_or, if◌then◌else◌}
use Rattle.std.specs.Option.{option_map_or}
use Rattle.std.specs.Str.{bytes_eq}
use Rattle.px_base.specs.Numbers.{decimal}
use Rattle.px_fields.specs.declared.fields.Field.{Field}
use Rattle.px_head.specs.declared.responses.ResponseHead.{ResponseHead}
use Rattle.px_fields.specs.Names.{has_name}
use Rattle.px_actions.specs.Sets.{is_on, value}
use Rattle.px_actions.specs.declared.kinds.Kind.TheVariants as kind
use Rattle.px_actions.specs.declared.settings.Setting.{Setting}
use Rattle.px_filter_files.specs.FilterFiles.{FiltersOfFiles}
use Rattle.px_subst.specs.declared.words.Vars.{Vars}
use Rattle.px_headers.specs.declared.held_back.MessageKind.TheVariants.{Response}
use Rattle.px_headers.specs.declared.server.ServerOut.{ServerOut}
use Rattle.px_headers.specs.ClientRows.{blocked_or_set}
use Rattle.px_headers.specs.Cookies.{cap_of, capped_cookie, session_cookie}
use Rattle.px_headers.specs.Dates.{date_at}
use Rattle.px_headers.specs.Filtering.{filter_lines}
use Rattle.px_headers.specs.HeldBack.{passed_on}
use Rattle.px_headers.specs.Kinds.{is_text}
use Rattle.px_headers.specs.Rewrites.{answer_line}
use Rattle.px_headers.specs.Rows.{◌▷◌, with_value, with_values, without_field, without_holding}

-- crunch-incoming-cookies
unfoldable pub crunch_incoming_cookies : List Setting → List Field → List Field
crunch_incoming_cookies set fields = if is_on set kind.CrunchIncomingCookies then without_field (codes "Set-Cookie") fields else fields

-- each cookie is one of a session
unfoldable pub with_session_cookies : List Field → List Field
with_session_cookies fields = with_values (has_name (codes "Set-Cookie")) session_cookie fields

-- each cookie lives so many minutes at most; where the date of that is past the year 9999 nothing changes
unfoldable pub with_capped_cookies : ℕ → ℕ → List Field → List Field
with_capped_cookies moment minutes fields =
    option_map_or (λ cap. with_values (has_name (codes "Set-Cookie")) (capped_cookie cap) fields) (cap_of moment minutes) fields

-- no minutes mean cookies of a session
unfoldable pub with_limited_cookies : ℕ → ℕ → List Field → List Field
with_limited_cookies moment minutes fields = if minutes == 0 then with_session_cookies fields else with_capped_cookies moment minutes fields

-- session-cookies-only, or else limit-cookie-lifetime
unfoldable pub limit_cookies : List Setting → ℕ → List Field → List Field
limit_cookies set moment fields =
    if is_on set kind.SessionCookiesOnly then with_session_cookies fields
    else option_map_or (λ v. with_limited_cookies moment (unwrap_or (decimal 100000000 v) 0) fields) (value set kind.LimitCookieLifetime) fields

-- the content type that is set: that of content-type-overwrite, where the answer as received is a text
unfoldable pub new_content_type : List Setting → List Field → Option (List ℕ)
new_content_type set received = if is_text set received then value set kind.ContentTypeOverwrite else None

-- content-type-overwrite
unfoldable pub overwrite_content_type : Option (List ℕ) → List Field → List Field
overwrite_content_type new fields = option_map_or (λ v. with_value (codes "Content-Type") v fields) new fields

abbrev pub reset_modified : ℕ → List Field → List Field
reset_modified moment fields = option_map_or (λ date. with_value (codes "Last-Modified") date fields) (date_at moment) fields

-- `block` removes the date, `reset-to-request-time` sets it to the moment, where that isn't past the year 9999
unfoldable pub with_modified : ℕ → List ℕ → List Field → List Field
with_modified moment v fields =
    if bytes_eq v (codes "block") then without_field (codes "Last-Modified") fields
    else if bytes_eq v (codes "reset-to-request-time") then reset_modified moment fields
    else fields

-- overwrite-last-modified
unfoldable pub overwrite_last_modified : List Setting → ℕ → List Field → List Field
overwrite_last_modified set moment fields = option_map_or (λ v. with_modified moment v fields) (value set kind.OverwriteLastModified) fields

-- hide-content-disposition
unfoldable pub hide_content_disposition : List Setting → List Field → List Field
hide_content_disposition set fields = option_map_or (λ v. blocked_or_set (codes "Content-Disposition") v fields) (value set kind.HideContentDisposition) fields

-- crunch-server-header
unfoldable pub crunch_server_header : List Setting → List Field → List Field
crunch_server_header set fields = option_map_or (λ v. without_holding v fields) (value set kind.CrunchServerHeader) fields

-- the rows of single fields, in their order
unfoldable pub server_rows : List Setting → ℕ → Option (List ℕ) → List Field → List Field
server_rows set moment content_type fields =
    fields ▷ crunch_incoming_cookies set ▷ limit_cookies set moment ▷ overwrite_content_type content_type ▷ overwrite_last_modified set moment
    ▷ hide_content_disposition set ▷ crunch_server_header set

-- the fields that are returned: those that may be passed on, after the rows and the header filters
unfoldable pub server_fields : List Setting → FiltersOfFiles → Vars → ℕ → List Field → List Field
server_fields set all vars moment fields =
    fields ▷ passed_on Response ▷ server_rows set moment (new_content_type set fields) ▷ filter_lines Response fields set all vars

-- the status line and the fields of the answer that is returned
unfoldable pub server_out : List Setting → FiltersOfFiles → Vars → ℕ → ResponseHead → ServerOut
server_out set all vars moment head = record { first_line = answer_line set all vars head; fields = server_fields set all vars moment head.fields }
