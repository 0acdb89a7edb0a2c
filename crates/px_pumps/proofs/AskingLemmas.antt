-- What a head settles by a configuration and by what was asked.
use Rattle.std.proofs.Common.{◌≡◌, ◌∙◌, ℕ, Bool, true, false, List, [], ◌∷◌, length, ap, sym, refl}
use Rattle.std.specs.Prelude.{◌==◌, ◌&&◌, not}
use Rattle.std.proofs.Math.Dec.{eqb-suc-zero}
use Rattle.px_head.specs.declared.responses.ResponseHead.{ResponseHead}
use Rattle.px_filter_files.specs.FilterFiles.{FiltersOfFiles}
use Rattle.px_framing.specs.declared.rules.BodyRule.{BodyRule}
use Rattle.px_actions.specs.Sets.{set_values}
use Rattle.px_actions.specs.declared.kinds.Kind.TheVariants as kind
use Rattle.px_actions.specs.declared.settings.Setting.{Setting}
use Rattle.px_config.specs.declared.configs.Config.{Config}
use Rattle.px_headers.specs.Kinds.{is_text}
use Rattle.px_headers.specs.ServerRows.{server_out}
use Rattle.px_headers.specs.declared.server.ServerOut.{ServerOut}
use Rattle.px_notes.specs.declared.asked.Asked.{Asked}
use Rattle.px_answers.specs.Framings as answers
use Rattle.px_answers.specs.declared.forms.Framed.{Framed}
use Rattle.px_answers.specs.declared.framings.BodyPlan.{BodyPlan}
use Rattle.px_answers.specs.declared.framings.HeaderLines.{HeaderLines}
use Rattle.px_pumps.specs.Asking.{framed_by, framed_answer, response_set, returned_lines, terms_of}

and-false : (b : Bool) → (b && false) ≡ false
and-false true = refl
and-false false = refl

-- its body's rule is the head's
pub framed_rule : (config : Config) (asked : Asked) (head : ResponseHead) (r : BodyRule) → (framed_answer config asked head r).rule ≡ r
unfolding framed_answer answers.body_plan
framed_rule config asked head r = refl

-- the limit of a body that is filtered is the configuration's
pub framed_limit : (config : Config) (asked : Asked) (head : ResponseHead) (r : BodyRule) → (framed_answer config asked head r).limit ≡ config.settings.buffer_limit
unfolding framed_answer answers.body_plan
framed_limit config asked head r = refl

-- where no filter is named, it is one whether the answer is a text or not
pub where_named : (files : FiltersOfFiles) (head : ResponseHead) (r : BodyRule) (minor : ℕ) (keep : Bool) (limit : ℕ) (text : Bool) (filters : List (List ℕ)) →
    answers.body_plan files head r (record { minor = minor; keep = keep; text = not (length filters == 0) && text; filters = filters; limit = limit })
    ≡ answers.body_plan files head r (record { minor = minor; keep = keep; text = text; filters = filters; limit = limit })
unfolding answers.body_plan answers.is_filterable
where_named files head r minor keep limit text [] = ap plan (and-false _ ∙ sym (and-false _))
  where
    plan : Bool → BodyPlan
    plan allowed = record (answers.body_plan files head r (record { minor = minor; keep = keep; text = text; filters = []; limit = limit })) { filters = answers.filters_if allowed [] }
where_named files head r minor keep limit text (name ∷ names) =
    ap (λ (empty : Bool). answers.body_plan files head r (record { minor = minor; keep = keep; text = not empty && text; filters = name ∷ names; limit = limit })) (eqb-suc-zero (length names))

-- a plan by the head as received, behind the lines that the header actions made
pub settled_as : (config : Config) (asked : Asked) (head : ResponseHead) (r : BodyRule) (set : List Setting) (text : Bool) (filters : List (List ℕ)) (plan : BodyPlan) (out : ServerOut) (lines : HeaderLines) (framed : Framed)
    → set ≡ response_set config asked.set asked.tags asked.vars head → text ≡ (not (length filters == 0) && is_text set head.fields) → filters ≡ set_values set kind.Filter
    → plan ≡ answers.body_plan config.filters head r (record { minor = asked.minor; keep = asked.keep; text = text; filters = filters; limit = config.settings.buffer_limit })
    → out ≡ server_out set config.filters asked.vars asked.moment head → lines ≡ returned_lines out → framed ≡ answers.framed_so plan lines → framed ≡ framed_answer config asked head r
unfolding framed_answer
settled_as config asked head r set text filters plan out lines framed is_set is_named are planned made printed is =
    is
    ∙ ap (λ (p : BodyPlan). answers.framed_so p lines) (planned ∙ ap (λ (t : Bool). answers.body_plan config.filters head r (record { minor = asked.minor; keep = asked.keep; text = t; filters = filters; limit = config.settings.buffer_limit })) is_named
    ∙ where_named config.filters head r asked.minor asked.keep config.settings.buffer_limit (is_text set head.fields) filters
    ∙ ap (λ (fs : List (List ℕ)). answers.body_plan config.filters head r (record { minor = asked.minor; keep = asked.keep; text = is_text set head.fields; filters = fs; limit = config.settings.buffer_limit })) are)
    ∙ ap (λ (ls : HeaderLines). answers.framed_so (answers.body_plan config.filters head r (terms_of config asked set head.fields)) ls) (printed ∙ ap returned_lines made)
    ∙ ap (λ (s : List Setting). framed_by config asked s head r) is_set
