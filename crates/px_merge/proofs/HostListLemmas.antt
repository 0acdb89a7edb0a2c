-- Lists of hosts by their numbers.
use Rattle.std.proofs.Common.{◌≡◌, ℕ, ◌+◌, ◌<◌, ◌≤◌, List, [], ◌∷◌, length, Option, None, Some, ap, sym, ◌∙◌, subst, arith}
use Rattle.std.specs.List.{All}
use Rattle.std.specs.Prelude.{option_map, slice_get}
use Rattle.std.proofs.lemmas.List.Elements.{All-append, All-cons, All-nil}
use Rattle.std.proofs.lemmas.Option.{slice_get-map}
use Rattle.px_host_lists.specs.Hosts.{listed_line}
use Rattle.px_merge.specs.declared.host_lists.ListRef.{ListRef}
use Rattle.px_merge.specs.declared.host_lists.ListedHosts.{ListedHosts}
use Rattle.px_merge.specs.Merged.{list_names}
use Rattle.px_merge.specs.Merging.{list_ref, list_refs, list_refs_from}

ref_below : (total number : ℕ) (line : Option ℕ) → number < total → All (λ (r : ListRef). r.list < total) (list_ref number line)
ref_below total number None less = All-nil (λ (r : ListRef). r.list < total)
ref_below total number (Some line) less = All-cons (λ (r : ListRef). r.list < total) (record { list = number; line = line }) [] less (All-nil (λ (r : ListRef). r.list < total))

refs_below : (total number : ℕ) (lists : List ListedHosts) (host : List ℕ) → number + length lists ≤ total → All (λ (r : ListRef). r.list < total) (list_refs_from number lists host)
refs_below total number [] host few = All-nil (λ (r : ListRef). r.list < total)
refs_below total number (l ∷ lists) host few =
    All-append (λ (r : ListRef). r.list < total) (list_ref number (listed_line l.hosts host)) (list_refs_from (number + 1) lists host)
    (ref_below total number (listed_line l.hosts host) (omega (arith, few)))
    (refs_below total (number + 1) lists host (omega (arith, few)))

-- the numbers of lists that name a host are those of lists
pub refs_of_lists : (lists : List ListedHosts) (host : List ℕ) (refs : List ListRef) → refs ≡ list_refs lists host → All (λ (r : ListRef). r.list < length lists) refs
refs_of_lists lists host refs e = subst (All (λ (r : ListRef). r.list < length lists)) (sym e) (refs_below (length lists) 0 lists host (omega arith))

-- the name of the list with a number
pub name_of_list : (lists : List ListedHosts) (number : ℕ) (list : ListedHosts) → slice_get lists number ≡ Some list → slice_get (list_names lists) number ≡ Some list.name
name_of_list lists number list e = slice_get-map (λ (l : ListedHosts). l.name) lists number ∙ ap (option_map (λ (l : ListedHosts). l.name)) e
