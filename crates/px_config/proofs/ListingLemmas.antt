-- What is read of lists of hosts.
use Rattle.std.proofs.Common.{◌≡◌, ◌≢◌, ℕ, List, length, Option, None, Result, Ok, Err, sym, ap, ◌∙◌}
use Rattle.px_actions.specs.declared.faults.ActionFault.{ActionFault}
use Rattle.px_actions.specs.declared.faults.ActionFault.TheVariants as action
use Rattle.px_action_files.specs.Faults.{IsReported, at_line, reported_word, word_number}
use Rattle.px_host_lists.specs.Hosts.{HostEntry, SameLines, first_listed}
use Rattle.px_host_lists.specs.Readings.{IsListRefusal, list_entries, list_notes, list_refusal}
use Rattle.px_host_lists.specs.declared.faults.ListFault.{ListFault}
use Rattle.px_host_lists.specs.declared.faults.ListFault.TheVariants as listing
use Rattle.px_host_lists.specs.declared.readings.ListNotes.{ListNotes}
use Rattle.px_config.specs.Listings.{HostsSeen, hosts_or, seen_list_fault}

-- a refused reason is reported at its line
pub word_reported : {X : Type 0} (line : ℕ) (m : Result X ActionFault) (f : ActionFault) → (f ≢ action.Mem → m ≡ Err f) → IsReported (at_line line word_number m) (reported_word line f)
word_reported line m action.UnknownAction h = ap (at_line line word_number) (h (λ e. (cc)))
word_reported line m action.ParameterWanted h = ap (at_line line word_number) (h (λ e. (cc)))
word_reported line m action.ParameterUnwanted h = ap (at_line line word_number) (h (λ e. (cc)))
word_reported line m action.BadParameter h = ap (at_line line word_number) (h (λ e. (cc)))
word_reported line m action.Mem h = tt

pub hosts_refused : (meaning : Option ListFault) (text : List ℕ) (f : ListFault) → IsListRefusal meaning f → IsReported (hosts_or meaning text) (seen_list_fault f)
hosts_refused meaning text (listing.TooLong line) is = ap (λ m. hosts_or m text) is
hosts_refused meaning text (listing.TooMany line) is = ap (λ m. hosts_or m text) is
hosts_refused meaning text listing.Mem is = tt

-- lists that give each host the same line are the same to callers
pub hosts_sound : (text : List ℕ) (list : List HostEntry) (notes : ListNotes) (bytes : ℕ) → list_refusal text ≡ None → SameLines list (list_entries text) → notes ≡ list_notes text → bytes ≡ length text →
    hosts_or (list_refusal text) text ≡ Ok (record { line_for = first_listed list; notes = notes; bytes = bytes })
hosts_sound text list notes bytes read same noted counted =
    let told : first_listed (list_entries text) ≡ first_listed list = λ i host. sym (same host) i in
    let H : (List ℕ → Option ℕ) → ListNotes → ℕ → HostsSeen = λ l n b. record { line_for = l; notes = n; bytes = b } in
    ap (λ m. hosts_or m text) read
    ∙ ap (λ l. Ok (H l (list_notes text) (length text))) told
    ∙ ap (λ n. Ok (H (first_listed list) n (length text))) (sym noted)
    ∙ ap (λ b. Ok (H (first_listed list) notes b)) (sym counted)

pub ruleset hosts_rules = (hosts_refused, hosts_sound)
