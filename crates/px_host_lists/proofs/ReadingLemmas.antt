-- What is read of a line, and which fault it may have.
use Rattle.std.proofs.Common.{◌≡◌, ℕ, zero, suc, ◌+◌, ◌<◌, ◌≤◌, Bool, true, false, cond, List, [], ◌∷◌, ◌++◌, length, refl, ap, sym, subst, ◌∙◌, arith, append_assoc}
use Rattle.std.specs.Prelude.{◌==◌, nat_lt, Option, None, Some, option_map, slice_get}
use Rattle.std.specs.List.{slice_split}
use Rattle.std.specs.Option.{option_or}
use Rattle.std.proofs.lemmas.Bool.{le-ltb, lt-ltb}
use Rattle.std.proofs.lemmas.List.{append-nil, length-map}
use Rattle.std.proofs.lemmas.Option.{none-some, slice_get_past}
use Rattle.px_host_lists.specs.Addresses.{is_ip_address}
use Rattle.px_host_lists.specs.Hosts.{HostEntry}
use Rattle.px_host_lists.specs.Readings.{IsListRefusal, entries_from, entries_on, has_other, host_refusal, items_behind, items_in_words, items_on, line_of_byte, list_entries, list_notes, list_refusal, passed_from, passed_lines, rule_item}
use Rattle.px_host_lists.specs.Slots.{IsGathered, gathered_entries, slot_entry}
use Rattle.px_host_lists.specs.Words.{unmarked, used_words}
use Rattle.px_host_lists.specs.declared.TheConstants.{BYTE_LIMIT, HOST_LIMIT}
use Rattle.px_host_lists.specs.declared.faults.ListFault.{ListFault}
use Rattle.px_host_lists.specs.declared.faults.ListFault.TheVariants as fault
use Rattle.px_host_lists.specs.declared.gathering.Gathered.{Gathered}

-- ---- the items of a line by its words

pub items-none : (line : List ℕ) → used_words line ≡ [] → items_on line ≡ []
unfolding items_on
items-none line e = ap items_in_words e

items_by : (word : List ℕ) (more : List (List ℕ)) (b : Bool) → is_ip_address word ≡ b → items_in_words (word ∷ more) ≡ cond b (items_behind more) (rule_item word more ∷ [])
items_by word more b e = ap (λ v. cond v (items_behind more) (rule_item word more ∷ [])) e

pub items-address : (line word : List ℕ) (more : List (List ℕ)) → used_words line ≡ word ∷ more → is_ip_address word ≡ true → items_on line ≡ items_behind more
unfolding items_on
items-address line word more e is = ap items_in_words e ∙ items_by word more true is

pub items-other : (line word : List ℕ) (more : List (List ℕ)) → used_words line ≡ word ∷ more → is_ip_address word ≡ false → items_on line ≡ rule_item word more ∷ []
unfolding items_on
items-other line word more e is = ap items_in_words e ∙ items_by word more false is

pub ruleset line_rules = (items-none, items-address, items-other)

-- ---- the first host beyond the limit

stays_by : (tell : HostEntry → ListFault) (xs ys : List HostEntry) (n : ℕ) (said : ListFault) → option_map tell (slice_get xs n) ≡ Some said → option_map tell (slice_get (xs ++ ys) n) ≡ Some said
stays_by tell [] ys n said e = absurd (none-some said e)
stays_by tell (x ∷ xs) ys zero said e = e
stays_by tell (x ∷ xs) ys (suc n) said e = stays_by tell xs ys n said e

stays : (xs ys : List HostEntry) (said : ListFault) → host_refusal xs ≡ Some said → host_refusal (xs ++ ys) ≡ Some said
unfolding host_refusal
stays xs ys said e = stays_by (λ entry. fault.TooMany entry.line) xs ys HOST_LIMIT said e

-- a refusal of a front of the hosts is one of all
pub refused-more : (xs ys : List HostEntry) (said : ListFault) → IsListRefusal (host_refusal xs) said → IsListRefusal (host_refusal (xs ++ ys)) said
refused-more xs ys fault.Mem e = tt
refused-more xs ys (fault.TooLong line) e = stays xs ys (fault.TooLong line) e
refused-more xs ys (fault.TooMany line) e = stays xs ys (fault.TooMany line) e

at_end : (xs : List HostEntry) (entry : HostEntry) → slice_get (xs ++ entry ∷ []) (length xs) ≡ Some entry
at_end [] entry = refl
at_end (x ∷ xs) entry = at_end xs entry

-- the host behind as many as the limit allows
pub refused-here : (xs : List HostEntry) (entry : HostEntry) → length xs ≡ HOST_LIMIT → host_refusal (xs ++ entry ∷ []) ≡ Some (fault.TooMany entry.line)
unfolding host_refusal
refused-here xs entry e = ap (λ n. option_map (λ one. fault.TooMany one.line) (slice_get (xs ++ entry ∷ []) n)) (sym e) ∙ ap (option_map (λ one. fault.TooMany one.line)) (at_end xs entry)

none-beyond : (xs : List HostEntry) → length xs ≤ HOST_LIMIT → host_refusal xs ≡ None
unfolding host_refusal
none-beyond xs within = ap (option_map (λ one. fault.TooMany one.line)) (slice_get_past xs HOST_LIMIT within)

-- ---- the hosts of items one by one

entries-cons : (number : ℕ) (item : Option (List ℕ)) (items : List (Option (List ℕ))) → entries_on number (item ∷ items) ≡ entries_on number (item ∷ []) ++ entries_on number items
entries-cons number (Some host) items = refl
entries-cons number None items = refl

-- an item more
pub entries-more : (held : List HostEntry) (number : ℕ) (item : Option (List ℕ)) (items : List (Option (List ℕ))) →
    held ++ entries_on number (item ∷ items) ≡ (held ++ entries_on number (item ∷ [])) ++ entries_on number items
entries-more held number item items =
    ap (λ l. held ++ l) (entries-cons number item items) ∙ sym (append_assoc held (entries_on number (item ∷ [])) (entries_on number items))

-- a refusal at an item is one of all items
pub refused-item : (all held : List HostEntry) (number : ℕ) (item : Option (List ℕ)) (items : List (Option (List ℕ))) (said : ListFault) → all ≡ held ++ entries_on number (item ∷ items) →
    IsListRefusal (host_refusal (held ++ entries_on number (item ∷ []))) said → IsListRefusal (host_refusal all) said
refused-item all held number item items said e refused =
    subst (λ l. IsListRefusal (host_refusal l) said) (sym (e ∙ entries-more held number item items))
    (refused-more (held ++ entries_on number (item ∷ [])) (entries_on number items) said refused)

-- ---- the lines of a file one by one

pub begin-entries : (bytes rest : List ℕ) → rest ≡ unmarked bytes → list_entries bytes ≡ entries_from 1 (slice_split (λ b. b == 10) rest)
unfolding list_entries
begin-entries bytes rest e = ap (λ t. entries_from 1 (slice_split (λ b. b == 10) t)) (sym e)

pub begin-passed : (bytes rest : List ℕ) → rest ≡ unmarked bytes → passed_lines bytes ≡ passed_from 1 (slice_split (λ b. b == 10) rest)
unfolding passed_lines
begin-passed bytes rest e = ap (λ t. passed_from 1 (slice_split (λ b. b == 10) t)) (sym e)

-- a line's hosts, and those of the lines behind it
pub further-entries : (all held : List HostEntry) (number : ℕ) (parts : List (List ℕ)) (line : List ℕ) (more : List (List ℕ)) → all ≡ held ++ entries_from number parts → parts ≡ line ∷ more →
    all ≡ (held ++ entries_on number (items_on line)) ++ entries_from (number + 1) more
unfolding entries_from
further-entries all held number parts line more e cut =
    e ∙ (ap (λ l. held ++ entries_from number l) cut ∙ sym (append_assoc held (entries_on number (items_on line)) (entries_from (number + 1) more)))

-- a refusal at a line is one of all lines
pub refused-line : (all held : List HostEntry) (number : ℕ) (parts : List (List ℕ)) (line : List ℕ) (more : List (List ℕ)) (said : ListFault) → all ≡ held ++ entries_from number parts → parts ≡ line ∷ more →
    IsListRefusal (host_refusal (held ++ entries_on number (items_on line))) said → IsListRefusal (host_refusal all) said
refused-line all held number parts line more said e cut refused =
    subst (λ l. IsListRefusal (host_refusal l) said) (sym (further-entries all held number parts line more e cut))
    (refused-more (held ++ entries_on number (items_on line)) (entries_from (number + 1) more) said refused)

count_by_line : (total count number : ℕ) (more : List ℕ) (other : Bool) → total ≡ count + length (cond other (number ∷ more) more) → total ≡ cond other (count + 1) count + length more
count_by_line total count number more true e = omega (arith, e)
count_by_line total count number more false e = e

-- how many lines are passed over, a line more
pub further-count : (total count number : ℕ) (parts : List (List ℕ)) (line : List ℕ) (more : List (List ℕ)) (other : Bool) (next : ℕ) → total ≡ count + length (passed_from number parts) → parts ≡ line ∷ more →
    other ≡ has_other (items_on line) → next ≡ cond other (count + 1) count → total ≡ next + length (passed_from (number + 1) more)
unfolding passed_from
further-count total count number parts line more other next e cut is n =
    count_by_line total count number (passed_from (number + 1) more) other
    (e ∙ (ap (λ l. count + length (passed_from number l)) cut ∙ ap (λ b. count + length (cond b (number ∷ passed_from (number + 1) more) (passed_from (number + 1) more))) (sym is)))
    ∙ ap (λ m. m + length (passed_from (number + 1) more)) (sym n)

-- no more lines are passed over than there are
pub count-within : (count number next : ℕ) (other : Bool) → count ≤ number → next ≡ cond other (count + 1) count → next ≤ number + 1
count-within count number next true within e = omega (arith, within, e)
count-within count number next false within e = omega (arith, within, e)

first_by_line : (said first : Option ℕ) (number : ℕ) (more : List ℕ) (other : Bool) → said ≡ option_or first (slice_get (cond other (number ∷ more) more) 0) →
    said ≡ option_or (cond other (option_or first (Some number)) first) (slice_get more 0)
first_by_line said None number more true e = e
first_by_line said (Some line) number more true e = e
first_by_line said first number more false e = e

-- the first line that is passed over, a line more
pub further-first : (said first : Option ℕ) (number : ℕ) (parts : List (List ℕ)) (line : List ℕ) (more : List (List ℕ)) (other : Bool) (next : Option ℕ) →
    said ≡ option_or first (slice_get (passed_from number parts) 0) → parts ≡ line ∷ more → other ≡ has_other (items_on line) → next ≡ cond other (option_or first (Some number)) first →
    said ≡ option_or next (slice_get (passed_from (number + 1) more) 0)
unfolding passed_from
further-first said first number parts line more other next e cut is n =
    first_by_line said first number (passed_from (number + 1) more) other
    (e ∙ (ap (λ l. option_or first (slice_get (passed_from number l) 0)) cut ∙ ap (λ b. option_or first (slice_get (cond b (number ∷ passed_from (number + 1) more) (passed_from (number + 1) more)) 0)) (sym is)))
    ∙ ap (λ o. option_or o (slice_get (passed_from (number + 1) more) 0)) (sym n)

-- ---- the last line

pub nothing-more : (held : List HostEntry) (number : ℕ) (line : List ℕ) → used_words line ≡ [] → held ≡ held ++ entries_on number (items_on line)
nothing-more held number line e = sym (append-nil held) ∙ ap (λ items. held ++ entries_on number items) (sym (items-none line e))

pub ended-entries : (all held : List HostEntry) (number : ℕ) (parts : List (List ℕ)) (line : List ℕ) (next : List HostEntry) → all ≡ held ++ entries_from number parts → parts ≡ line ∷ [] →
    next ≡ held ++ entries_on number (items_on line) → all ≡ next
unfolding entries_from
ended-entries all held number parts line next e cut n =
    further-entries all held number parts line [] e cut ∙ (append-nil (held ++ entries_on number (items_on line)) ∙ sym n)

pub ended-count : (total count number : ℕ) → total ≡ count + length (passed_from number []) → total ≡ count
unfolding passed_from
ended-count total count number e = omega (arith, e)

or_none : (first : Option ℕ) → option_or first None ≡ first
or_none None = refl
or_none (Some line) = refl

pub ended-first : (said first : Option ℕ) (number : ℕ) → said ≡ option_or first (slice_get (passed_from number []) 0) → said ≡ first
unfolding passed_from
ended-first said first number e = e ∙ or_none first

pub same-notes : (bytes : List ℕ) (held : List HostEntry) (count : ℕ) (first : Option ℕ) → list_entries bytes ≡ held → length (passed_lines bytes) ≡ count → slice_get (passed_lines bytes) 0 ≡ first →
    record { taken = length held; passed = count; first_passed = first } ≡ list_notes bytes
unfolding list_notes
same-notes bytes held count first entries counted said =
    ap (λ l. record { taken = length l; passed = count; first_passed = first }) (sym entries)
    ∙ (ap (λ n. record { taken = length (list_entries bytes); passed = n; first_passed = first }) (sym counted)
    ∙ ap (λ f. record { taken = length (list_entries bytes); passed = length (passed_lines bytes); first_passed = f }) (sym said))

-- ---- the limit of bytes

refusal_by : (bytes : List ℕ) (b : Bool) → nat_lt BYTE_LIMIT (length bytes) ≡ b → list_refusal bytes ≡ cond b (Some (fault.TooLong (line_of_byte BYTE_LIMIT bytes))) (host_refusal (list_entries bytes))
unfolding list_refusal
refusal_by bytes b e = ap (λ v. cond v (Some (fault.TooLong (line_of_byte BYTE_LIMIT bytes))) (host_refusal (list_entries bytes))) e

pub refused-long : (bytes : List ℕ) → BYTE_LIMIT < length bytes → list_refusal bytes ≡ Some (fault.TooLong (line_of_byte BYTE_LIMIT bytes))
refused-long bytes long = refusal_by bytes true (lt-ltb BYTE_LIMIT (length bytes) long)

pub refused-within : (bytes : List ℕ) → length bytes ≤ BYTE_LIMIT → list_refusal bytes ≡ host_refusal (list_entries bytes)
refused-within bytes within = refusal_by bytes false (le-ltb BYTE_LIMIT (length bytes) within)

-- gathered hosts are within the limit
pub none-gathered : (hosts : Gathered) → IsGathered hosts → host_refusal (gathered_entries hosts) ≡ None
none-gathered hosts fits = none-beyond (gathered_entries hosts) (omega (arith, length-map hosts.slots.items (slot_entry hosts.text.items), fits.hosts))
