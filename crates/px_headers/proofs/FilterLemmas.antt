-- Header filters by what is kept of a message.
use Rattle.std.proofs.Common.{◌≡◌, ℕ, Bool, true, false, List, Result, Ok, Err, IfOk, ap, sym, ◌∙◌}
use Rattle.std.specs.Prelude.{if◌then◌else◌, not}
use Rattle.px_fields.specs.declared.fields.Field.{Field}
use Rattle.px_actions.specs.declared.settings.Setting.{Setting}
use Rattle.px_subst.specs.declared.words.Vars.{Vars}
use Rattle.px_filter_files.specs.FilterFiles.{FiltersOfFiles}
use Rattle.px_filter_files.specs.declared.kinds.FilterKind.{FilterKind}
use Rattle.px_headers.specs.declared.held_back.MessageKind.{MessageKind}
use Rattle.px_headers.specs.declared.held_back.HeldBack.{HeldBack}
use Rattle.px_headers.specs.HeldBack.{is_held, is_held_back, IsHeldBackOf}
use Rattle.px_headers.specs.Filtering.{filter_kind, filter_lines, header_filter_names, filtered_fields, made_fields, run_all, some_found}
use Rattle.px_headers.proofs.HeldLemmas.{held-is, same-filtered}

fields-same : (h k : List ℕ → Bool) (run : List ℕ → List ℕ) (fields : List Field) → ((name : List ℕ) → h name ≡ k name) →
    filtered_fields h run fields ≡ filtered_fields k run fields
fields-same h k run fields same = same-filtered (λ (f : Field). not (h f.name)) (λ (f : Field). not (k f.name)) (made_fields run fields) (λ f. ap not (same f.name))

-- by the message that is kept
abbrev by_held : HeldBack → List Setting → FiltersOfFiles → Vars → List Field → MessageKind → List Field
by_held held set all vars fields message =
    if some_found all (filter_kind message) (header_filter_names message set)
    then filtered_fields (is_held held) (run_all all (filter_kind message) vars (header_filter_names message set)) fields
    else fields

held-lines : (message : MessageKind) (received : List Field) (held : HeldBack) (set : List Setting) (all : FiltersOfFiles) (vars : Vars) (fields : List Field) →
    IsHeldBackOf message received held → by_held held set all vars fields held.message ≡ filter_lines message received set all vars fields
unfolding filter_lines
held-lines message received held set all vars fields is =
    ap (by_held held set all vars fields) is.message_is
    ∙ ap (λ filtered. if some_found all (filter_kind message) (header_filter_names message set) then filtered else fields)
    (fields-same (is_held held) (is_held_back message received) (run_all all (filter_kind message) vars (header_filter_names message set)) fields
    (λ name. held-is message received held name is))

-- what is kept where there is a filter, and where there is none
pub lines-found : {E : Type 0} (r : Result (List Field) E) (held : HeldBack) (set : List Setting) (all warm : FiltersOfFiles) (vars : Vars) (fields : List Field)
    (kind : FilterKind) (names : List (List ℕ)) (found : Bool) →
    kind ≡ filter_kind held.message → names ≡ header_filter_names held.message set → warm ≡ all → found ≡ some_found all kind names → found ≡ true →
    IfOk r (λ kept. kept ≡ filtered_fields (is_held held) (run_all warm kind vars names) fields) →
    IfOk r (λ kept. (message : MessageKind) (received : List Field) → IsHeldBackOf message received held → kept ≡ filter_lines message received set all vars fields)
lines-found (Err e) held set all warm vars fields kind names found kind-is names-is warm-is found-is is-found kept-is = tt
lines-found (Ok kept) held set all warm vars fields kind names found kind-is names-is warm-is found-is is-found kept-is = λ message received is.
    kept-is
    ∙ (ap (λ w. filtered_fields (is_held held) (run_all w kind vars names) fields) warm-is
    ∙ (ap (λ b. if b then filtered_fields (is_held held) (run_all all kind vars names) fields else fields) (sym is-found ∙ found-is)
    ∙ (ap (λ k. if some_found all k names then filtered_fields (is_held held) (run_all all k vars names) fields else fields) kind-is
    ∙ (ap (λ n. if some_found all (filter_kind held.message) n then filtered_fields (is_held held) (run_all all (filter_kind held.message) vars n) fields else fields) names-is
    ∙ held-lines message received held set all vars fields is))))

pub lines-none : (message : MessageKind) (received : List Field) (held : HeldBack) (set : List Setting) (all : FiltersOfFiles) (vars : Vars) (fields : List Field)
    (kind : FilterKind) (names : List (List ℕ)) (found : Bool) →
    IsHeldBackOf message received held → kind ≡ filter_kind held.message → names ≡ header_filter_names held.message set → found ≡ some_found all kind names → found ≡ false →
    fields ≡ filter_lines message received set all vars fields
lines-none message received held set all vars fields kind names found is kind-is names-is found-is not-found =
    ap (λ b. if b then filtered_fields (is_held held) (run_all all kind vars names) fields else fields) (sym not-found ∙ found-is)
    ∙ (ap (λ k. if some_found all k names then filtered_fields (is_held held) (run_all all k vars names) fields else fields) kind-is
    ∙ (ap (λ n. if some_found all (filter_kind held.message) n then filtered_fields (is_held held) (run_all all (filter_kind held.message) vars n) fields else fields) names-is
    ∙ held-lines message received held set all vars fields is))
