-- Sections with the patterns of lists' hosts set what the lists set.
use Rattle.std.proofs.Common.{◌≡◌, ℕ, Bool, true, false, cond, List, [], ◌∷◌, ◌++◌, map, refl, sym, ap, ◌∙◌}
use Rattle.std.specs.Prelude.{◌||◌, filter, Result, Ok, Err, is_some}
use Rattle.std.specs.List.{flat_map, list_any}
use Rattle.std.proofs.lemmas.List.Concat.{flat_map-append}
use Rattle.std.proofs.lemmas.List.Elements.{filter-append}
use Rattle.px_host_lists.specs.Hosts.{HostEntry, SameLines, is_listed, listed_line, without_end_dot}
use Rattle.px_host_lists.specs.Readings.{list_entries}
use Rattle.px_patterns.specs.Patterns.{url_matches, url_pattern}
use Rattle.px_patterns.specs.declared.faults.PatternFault.{PatternFault}
use Rattle.px_patterns.specs.declared.patterns.UrlPattern.{UrlPattern}
use Rattle.px_patterns.specs.declared.urls.Url.{Url}
use Rattle.px_actions.specs.Sets.{empty_set, updated, updated_all}
use Rattle.px_actions.specs.declared.settings.Setting.{Setting}
use Rattle.px_actions.specs.declared.updates.Update.{Update}
use Rattle.px_action_files.specs.declared.patterns.Pattern.{Pattern}
use Rattle.px_merge.specs.Merged.{Merged}
use Rattle.px_merge.specs.Merging.{applied, is_for_url, listed_updates, matching, updates_in, url_actions}
use Rattle.px_merge.specs.declared.host_lists.ListedHosts.{ListedHosts}
use Rattle.px_merge.specs.declared.places.Placed.{Placed}
use Rattle.px_list_patterns.specs.Dotted.{is_matched, read_matches}
use Rattle.px_list_patterns.specs.Sections.{AreReadFrom, dotted_patterns, hosts_section, hosts_sections, read_pattern, lists_as_sections}
use Rattle.px_list_patterns.proofs.DottedLemmas.{listed-matched}

-- ---- one list

or-false : (a : Bool) → (a || false) ≡ a
or-false true = refl
or-false false = refl

or-assoc : (a b c : Bool) → (a || (b || c)) ≡ ((a || b) || c)
or-assoc true b c = refl
or-assoc false b c = refl

any-append : (test : Pattern → Bool) (front back : List Pattern) → list_any test (front ++ back) ≡ (list_any test front || list_any test back)
any-append test [] back = refl
any-append test (p ∷ front) back = ap (λ b. test p || b) (any-append test front back) ∙ or-assoc (test p) (list_any test front) (list_any test back)

one-matches : (r : Result UrlPattern PatternFault) (url : Url) (tags : List (List ℕ)) → list_any (is_for_url url tags) (read_pattern r) ≡ read_matches r url
one-matches (Ok p) url tags = or-false (url_matches p url)
one-matches (Err fault) url tags = refl

patterns-match : (entries : List HostEntry) (url : Url) (tags : List (List ℕ)) → list_any (is_for_url url tags) (dotted_patterns entries) ≡ list_any (λ entry. is_matched entry.host url) entries
patterns-match [] url tags = refl
patterns-match (entry ∷ entries) url tags =
    any-append (is_for_url url tags) (read_pattern (url_pattern (46 ∷ entry.host))) (dotted_patterns entries)
    ∙ (ap (λ b. b || list_any (is_for_url url tags) (dotted_patterns entries)) (one-matches (url_pattern (46 ∷ entry.host)) url tags)
    ∙ ap (λ b. is_matched entry.host url || b) (patterns-match entries url tags))

same-listed : (one other : List HostEntry) (host : List ℕ) → SameLines one other → is_listed one host ≡ is_listed other host
unfolding listed_line
same-listed one other host same = ap is_some (same (without_end_dot host))

-- the patterns of a list's file match where the list names the host
matches-listed : (listed : ListedHosts) (bytes : List ℕ) (url : Url) (tags : List (List ℕ)) → SameLines listed.hosts (list_entries bytes) →
    list_any (is_for_url url tags) (dotted_patterns (list_entries bytes)) ≡ is_listed listed.hosts url.host
matches-listed listed bytes url tags same =
    patterns-match (list_entries bytes) url tags ∙ (sym (listed-matched bytes url) ∙ sym (same-listed listed.hosts (list_entries bytes) url.host same))

-- ---- all lists

-- the updates of the sections of lists that match
abbrev section_updates : List ListedHosts → List (List ℕ) → Url → List (List ℕ) → List Update
section_updates lists files url tags = updates_in (matching (hosts_sections lists files) url tags)

updates_by : (s : Bool) (listed : ListedHosts) (bytes : List ℕ) (sections : List Placed) (updates : List Update) → updates_in sections ≡ updates →
    updates_in (cond s (hosts_section listed bytes ∷ sections) sections) ≡ cond s (listed.update ∷ updates) updates
updates_by true listed bytes sections updates e = ap (λ us. listed.update ∷ us) e
updates_by false listed bytes sections updates e = e

listed_by : (s : Bool) (listed : ListedHosts) (lists : List ListedHosts) → cond s (listed.update ∷ map (λ (l : ListedHosts). l.update) lists) (map (λ (l : ListedHosts). l.update) lists)
    ≡ map (λ (l : ListedHosts). l.update) (cond s (listed ∷ lists) lists)
listed_by true listed lists = refl
listed_by false listed lists = refl

same-updates : (lists : List ListedHosts) (files : List (List ℕ)) (url : Url) (tags : List (List ℕ)) → AreReadFrom files lists → section_updates lists files url tags ≡ listed_updates lists url.host
same-updates [] [] url tags read = refl
same-updates [] (bytes ∷ files) url tags read = absurd read
same-updates (listed ∷ lists) [] url tags read = absurd read
same-updates (listed ∷ lists) (bytes ∷ files) url tags read =
    ap (λ b. updates_in (cond b (hosts_section listed bytes ∷ matching (hosts_sections lists files) url tags) (matching (hosts_sections lists files) url tags))) (matches-listed listed bytes url tags (read.0))
    ∙ (updates_by (is_listed listed.hosts url.host) listed bytes (matching (hosts_sections lists files) url tags) (listed_updates lists url.host) (same-updates lists files url tags (read.1))
    ∙ listed_by (is_listed listed.hosts url.host) listed (filter (λ (l : ListedHosts). is_listed l.hosts url.host) lists))

-- ---- what is set

updated-append : (set : List Setting) (front back : List Update) → updated_all set (front ++ back) ≡ updated_all (updated_all set front) back
updated-append set [] back = refl
updated-append set (u ∷ front) back = updated-append (updated set u.kind u.change) front back

updates-append : (front back : List Placed) → updates_in (front ++ back) ≡ updates_in front ++ updates_in back
updates-append front back = flat_map-append (λ (p : Placed). p.section.updates) front back

matching-append : (front back : List Placed) (url : Url) (tags : List (List ℕ)) → matching (front ++ back) url tags ≡ matching front url tags ++ matching back url tags
matching-append front back url tags = filter-append (λ (p : Placed). list_any (is_for_url url tags) p.section.patterns) front back

-- sections in front set what lists set
pub listed-sections : (merged : Merged) (files : List (List ℕ)) (url : Url) (tags : List (List ℕ)) → AreReadFrom files merged.lists → url_actions merged url tags ≡ url_actions (lists_as_sections files merged) url tags
unfolding url_actions
listed-sections merged files url tags read =
    let front = hosts_sections merged.lists files in
    ap (λ us. applied (updated_all empty_set us) (matching merged.sections url tags)) (sym (same-updates merged.lists files url tags read))
    ∙ (sym (updated-append empty_set (updates_in (matching front url tags)) (updates_in (matching merged.sections url tags)))
    ∙ (ap (updated_all empty_set) (sym (updates-append (matching front url tags) (matching merged.sections url tags)))
    ∙ ap (applied empty_set) (sym (matching-append front merged.sections url tags))))
