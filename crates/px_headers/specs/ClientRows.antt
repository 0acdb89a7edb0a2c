-- What actions do to the fields of a request (Privoxy's manual, "Actions").
use Rattle.std.specs.Prelude.{◌≡◌, ℕ, List, None, ◌++◌, filter_map, codes, Option, option_map, if◌then◌else◌}
use Rattle.std.specs.Option.{option_map_or}
use Rattle.std.specs.Str.{bytes_eq}
use Rattle.px_fields.specs.declared.fields.Field.{Field}
use Rattle.px_head.specs.declared.requests.RequestHead.{RequestHead}
use Rattle.px_fields.specs.FieldLines.{read_field}
use Rattle.px_head.specs.Prints.{request_line}
use Rattle.px_patterns.specs.declared.urls.Url.{Url}
use Rattle.px_actions.specs.Sets.{is_on, value, set_values}
use Rattle.px_actions.specs.declared.kinds.Kind.TheVariants as kind
use Rattle.px_actions.specs.declared.settings.Setting.{Setting}
use Rattle.px_filter_files.specs.FilterFiles.{FiltersOfFiles}
use Rattle.px_subst.specs.declared.words.Vars.{Vars}
use Rattle.px_headers.specs.declared.held_back.MessageKind.TheVariants.{Request}
use Rattle.px_headers.specs.declared.client.ClientOut.{ClientOut}
use Rattle.px_headers.specs.declared.faults.HeaderFault.{HeaderFault}
use Rattle.px_headers.specs.declared.faults.HeaderFault.TheVariants.{BadRewrite, Mem}
use Rattle.px_headers.specs.Filtering.{filter_lines}
use Rattle.px_headers.specs.HeldBack.{passed_on}
use Rattle.px_headers.specs.Referrers.{with_hidden_referrer}
use Rattle.px_headers.specs.Rewrites.{destination}
use Rattle.px_headers.specs.Rows.{◌▷◌, with_more, with_value, without_field, without_holding}

-- `block` removes the fields of that name
unfoldable pub blocked_fields : List ℕ → List ℕ → List Field → List Field
blocked_fields name v fields = if bytes_eq v (codes "block") then without_field name fields else fields

-- `block` removes them, any other text is set
unfoldable pub blocked_or_set : List ℕ → List ℕ → List Field → List Field
blocked_or_set name v fields = if bytes_eq v (codes "block") then without_field name fields else with_value name v fields

-- crunch-outgoing-cookies
unfoldable pub crunch_outgoing_cookies : List Setting → List Field → List Field
crunch_outgoing_cookies set fields = if is_on set kind.CrunchOutgoingCookies then without_field (codes "Cookie") fields else fields

-- hide-referrer
unfoldable pub hide_referrer : List Setting → Url → List Field → List Field
hide_referrer set url fields = option_map_or (λ v. with_hidden_referrer url v fields) (value set kind.HideReferrer) fields

-- hide-user-agent
unfoldable pub hide_user_agent : List Setting → List Field → List Field
hide_user_agent set fields = option_map_or (λ v. with_value (codes "User-Agent") v fields) (value set kind.HideUserAgent) fields

-- hide-from-header
unfoldable pub hide_from_header : List Setting → List Field → List Field
hide_from_header set fields = option_map_or (λ v. blocked_or_set (codes "From") v fields) (value set kind.HideFromHeader) fields

-- hide-accept-language
unfoldable pub hide_accept_language : List Setting → List Field → List Field
hide_accept_language set fields = option_map_or (λ v. blocked_or_set (codes "Accept-Language") v fields) (value set kind.HideAcceptLanguage) fields

-- hide-if-modified-since
unfoldable pub hide_if_modified_since : List Setting → List Field → List Field
hide_if_modified_since set fields = option_map_or (λ v. blocked_fields (codes "If-Modified-Since") v fields) (value set kind.HideIfModifiedSince) fields

-- crunch-if-none-match
unfoldable pub crunch_if_none_match : List Setting → List Field → List Field
crunch_if_none_match set fields = if is_on set kind.CrunchIfNoneMatch then without_field (codes "If-None-Match") fields else fields

-- prevent-compression
unfoldable pub prevent_compression : List Setting → List Field → List Field
prevent_compression set fields = if is_on set kind.PreventCompression then without_field (codes "Accept-Encoding") fields else fields

-- change-x-forwarded-for: `block` removes, `add` adds the client's address
unfoldable pub change_forwarded_for : List Setting → List ℕ → List Field → List Field
change_forwarded_for set peer fields =
    option_map_or (λ v. if bytes_eq v (codes "block") then without_field (codes "X-Forwarded-For") fields else with_more (codes "X-Forwarded-For") (codes ", ") peer fields)
    (value set kind.ChangeXForwardedFor) fields

-- crunch-client-header
unfoldable pub crunch_client_header : List Setting → List Field → List Field
crunch_client_header set fields = option_map_or (λ v. without_holding v fields) (value set kind.CrunchClientHeader) fields

-- add-header
unfoldable pub add_headers : List Setting → List Field → List Field
add_headers set fields = fields ++ filter_map read_field (set_values set kind.AddHeader)

-- the rows of single fields, in their order
unfoldable pub client_rows : List Setting → Url → List ℕ → List Field → List Field
client_rows set url peer fields =
    fields ▷ crunch_outgoing_cookies set ▷ hide_referrer set url ▷ hide_user_agent set ▷ hide_from_header set ▷ hide_accept_language set
    ▷ hide_if_modified_since set ▷ crunch_if_none_match set ▷ prevent_compression set ▷ change_forwarded_for set peer ▷ crunch_client_header set

-- the fields that are sent on: those that may be passed on, after the rows, the header filters and the added headers
unfoldable pub client_fields : List Setting → FiltersOfFiles → Vars → Url → List ℕ → List Field → List Field
client_fields set all vars url peer fields =
    fields ▷ passed_on Request ▷ client_rows set url peer ▷ filter_lines Request fields set all vars ▷ add_headers set

-- where a request goes and with which fields, or none where its line was rewritten badly
unfoldable pub client_out : List Setting → FiltersOfFiles → Vars → Url → List ℕ → RequestHead → Option ClientOut
client_out set all vars url peer head =
    option_map (λ to. record { url = to; fields = client_fields set all vars url peer head.fields }) (destination set all vars url head.method (request_line head))

-- the refusal is that of a line that was rewritten badly, or want of memory, which has no cause there
abbrev pub IsClientRefusal : Option ClientOut → HeaderFault → Type 0
IsClientRefusal out BadRewrite = out ≡ None
IsClientRefusal out Mem = Unit {0}
