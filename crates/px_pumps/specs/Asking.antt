-- Asking: what an answer becomes by a configuration and by what was asked.
use Rattle.std.specs.Prelude.{ℕ, List, ◌∷◌, ◌++◌, map, drop, codes, if◌then◌else◌}
use Rattle.px_fields.specs.declared.fields.Field.{Field}
use Rattle.px_head.specs.declared.responses.ResponseHead.{ResponseHead}
use Rattle.px_fields.specs.FieldLines.{field_line}
use Rattle.px_head.specs.Prints.{status_line}
use Rattle.px_framing.specs.declared.rules.BodyRule.{BodyRule}
use Rattle.px_actions.specs.Sets.{set_values}
use Rattle.px_actions.specs.declared.kinds.Kind.TheVariants as kind
use Rattle.px_actions.specs.declared.settings.Setting.{Setting}
use Rattle.px_subst.specs.declared.words.Vars.{Vars}
use Rattle.px_merge.specs.declared.sides.Side.TheVariants as side
use Rattle.px_templates.specs.declared.pages.Page.{Page}
use Rattle.px_config.specs.declared.configs.Config.{Config}
use Rattle.px_taggers.specs.Tagging.{tag_headers}
use Rattle.px_headers.specs.Kinds.{is_text}
use Rattle.px_headers.specs.ServerRows.{server_out}
use Rattle.px_headers.specs.declared.server.ServerOut.{ServerOut}
use Rattle.px_notes.specs.declared.asked.Asked.{Asked}
use Rattle.px_answers.specs.Framings as answers
use Rattle.px_answers.specs.declared.forms.Framed.{Framed}
use Rattle.px_answers.specs.declared.framings.Terms.{Terms}
use Rattle.px_answers.specs.declared.framings.HeaderLines.{HeaderLines}
use Rattle.px_pumps.specs.declared.dues.Due.{Due}
use Rattle.px_pumps.specs.Answering.{Ask}

-- the lines of a head as they were received: the status line, and each field's
abbrev pub received_lines : ResponseHead → List (List ℕ)
received_lines head = status_line head ∷ map field_line head.fields

-- the action set of an answer, from the request's set and tags: what the taggers add that run over the lines as received; with
-- `toggle 0` no tagger runs
unfoldable pub response_set : Config → List Setting → List (List ℕ) → Vars → ResponseHead → List Setting
response_set config set tags vars head =
    if config.settings.toggle
    then (tag_headers config.sections.sections config.filters set tags (received_lines head) side.Response vars).set
    else set

-- the status line as one of HTTP/1.1: a version has eight bytes
abbrev pub as_version_1_1 : List ℕ → List ℕ
as_version_1_1 line = codes "HTTP/1.1" ++ drop 8 line

-- what, beside the head, says how an answer is returned
abbrev pub terms_of : Config → Asked → List Setting → List Field → Terms
terms_of config asked set fields = record {
  minor = asked.minor;
  keep = asked.keep;
  text = is_text set fields;
  filters = set_values set kind.Filter;
  limit = config.settings.buffer_limit;
}

-- what the header actions made of a head, with its version written as HTTP/1.1
abbrev pub returned_lines : ServerOut → HeaderLines
returned_lines out = record { first_line = as_version_1_1 out.first_line; fields = out.fields }

-- what a head settles by an action set
abbrev pub framed_by : Config → Asked → List Setting → ResponseHead → BodyRule → Framed
framed_by config asked set head r =
    answers.framed_of config.filters head r (terms_of config asked set head.fields)
    (returned_lines (server_out set config.filters asked.vars asked.moment head))

-- what a head settles
unfoldable pub framed_answer : Config → Asked → ResponseHead → BodyRule → Framed
framed_answer config asked head r = framed_by config asked (response_set config asked.set asked.tags asked.vars head) head r

-- what an answer becomes by a configuration and by what was asked, where that is due for each page
abbrev pub ask_of : Config → Asked → (Page → Due) → Ask
ask_of config asked page_due = record {
  method = asked.method;
  framed = framed_answer config asked;
  work = record { filters = config.filters; vars = asked.vars };
  page_due = page_due;
}
