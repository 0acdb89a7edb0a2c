-- Refusals of lines, and faults of files.
use Rattle.std.proofs.Common.{◌≡◌, ◌≢◌, ℕ, List, Option, None, Some, Result, Ok, Err, refl, sym, ap, ◌∙◌}
use Rattle.std.specs.Prelude.{IfErr, option_map}
use Rattle.px_text.specs.declared.lines.Line.{Line}
use Rattle.px_text.specs.declared.faults.TextFault.{TextFault}
use Rattle.px_text.specs.declared.faults.TextFault.TheVariants as text
use Rattle.px_text.specs.Faults.{IsTextRefusal}
use Rattle.px_action_files.specs.Faults.{IsReported, Refused, refused}
use Rattle.px_action_files.specs.declared.faults.FileFault.{FileFault}
use Rattle.px_action_files.specs.declared.faults.FileFault.TheVariants as at
use Rattle.px_templates.specs.declared.faults.TemplateFault.{TemplateFault}
use Rattle.px_templates.specs.declared.faults.TemplateFault.TheVariants as template
use Rattle.px_templates.specs.Faults.{IsAt}
use Rattle.px_templates.specs.Pieces.{Piece}
use Rattle.px_config.specs.declared.faults.LoadFault.{LoadFault}
use Rattle.px_config.specs.declared.faults.LoadFault.TheVariants as fault
use Rattle.px_filter_files.specs.declared.files.FilterFile.{FilterFile}
use Rattle.px_filter_files.specs.declared.faults.FilterFault.{FilterFault}
use Rattle.px_filter_files.specs.declared.faults.FilterFault.TheVariants as filtering
use Rattle.px_config.specs.Actions.{within}
use Rattle.px_config.specs.Filters.{filters_or, seen_filter_fault}
use Rattle.px_config.specs.Faults.{Fault, IsFault, IsRefusalOf, at_file, fault_at}
use Rattle.px_config.specs.Pages.{pieces_or, seen_template_fault}
use Rattle.px_config.specs.Loading.{IsLoadFault}
use Rattle.px_config.specs.Parts.{lines_or, seen_text_fault}

-- the refusal of a file, with the file's name, is the fault
pub fault_of : {X : Type 0} (name : List ℕ) (meaning : Result X Refused) (f : FileFault) (r : LoadFault) → IsReported meaning f → IsRefusalOf name f r → IsFault (at_file name meaning) r
fault_of name meaning (at.At line number) (fault.Spelled file l n) is of = ap (at_file name) is ∙ cc
fault_of name meaning (at.At line number) (fault.Read file) is of = of
fault_of name meaning (at.At line number) fault.Mem is of = tt
fault_of name meaning at.Mem (fault.Spelled file l n) is of = absurd of
fault_of name meaning at.Mem (fault.Read file) is of = of
fault_of name meaning at.Mem fault.Mem is of = tt

pub text_refused : (meaning : Option TextFault) (lines : List Line) (f : TextFault) → IsTextRefusal meaning f → IsReported (lines_or meaning lines) (seen_text_fault f)
text_refused meaning lines (text.NotText line) is = rw is refl
text_refused meaning lines (text.TooLong line) is = rw is refl
text_refused meaning lines text.Mem is = tt

pub text_sound : (meaning : Option TextFault) (lines : List Line) → meaning ≡ None → lines_or meaning lines ≡ Ok lines
text_sound meaning lines is = rw is refl

pub ruleset text_rules = (text_refused, text_sound)

pub template_refused : (meaning : Option ℕ) (pieces : List Piece) (f : TemplateFault) → IsAt meaning f → IsReported (pieces_or meaning pieces) (seen_template_fault f)
template_refused meaning pieces (template.OpenCondition line) is = rw is refl
template_refused meaning pieces template.Mem is = tt

pub template_sound : (meaning : Option ℕ) (pieces : List Piece) → meaning ≡ None → pieces_or meaning pieces ≡ Ok pieces
template_sound meaning pieces is = rw is refl

pub ruleset template_rules = (template_refused, template_sound)

-- the pattern that passes the limit, by the number of its line
pub within_none : {X : Type 0} (past : Option Line) (sections : X) → None ≡ option_map (λ (l : Line). l.number) past → within past sections ≡ Ok sections
within_none None sections is = refl
within_none (Some line) sections is = (cc)

pub within_some : {X : Type 0} (past : Option Line) (sections : X) (number : ℕ) → Some number ≡ option_map (λ (l : Line). l.number) past → within past sections ≡ refused number 31
within_some None sections number is = (cc)
within_some (Some line) sections number is = let same : line.number ≡ number = (cc) in ap (λ n. refused n 31) same

pub ruleset within_rules = (within_none, within_some)

pub filter_refused : (meaning read : Result FilterFile FilterFault) (f : FilterFault) → read ≡ Err f → (read ≢ Err filtering.Mem → read ≡ meaning) → IsReported (filters_or meaning) (seen_filter_fault f)
filter_refused meaning read (filtering.At line number) was is =
    let other : read ≢ Err filtering.Mem = λ e. (cc) in
    ap filters_or (sym (is other) ∙ was)
filter_refused meaning read filtering.Mem was is = tt

pub filter_sound : (meaning read : Result FilterFile FilterFault) (file : FilterFile) → read ≡ Ok file → (read ≢ Err filtering.Mem → read ≡ meaning) → filters_or meaning ≡ Ok file
filter_sound meaning read file was is =
    let other : read ≢ Err filtering.Mem = λ e. (cc) in
    ap filters_or (sym (is other) ∙ was)

-- a fault of the gathered files is one of loading
pub load_fault : {X T : Type 0} (result : Result T LoadFault) (meaning : Result X Fault) → IfErr result (IsFault meaning) → IfErr result (IsLoadFault meaning)
load_fault (Ok x) meaning is = tt
load_fault (Err (fault.Spelled file line number)) meaning is = is
load_fault (Err (fault.Read file)) meaning is = tt
load_fault (Err fault.Mem) meaning is = tt
