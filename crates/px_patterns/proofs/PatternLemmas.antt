-- What patterns stand for, by their parts.
use Rattle.std.proofs.Common.{◌≡◌, ℕ, ◌==◌, ◌&&◌, ◌||◌, true, false, List, [], ◌∷◌, length, Option, None, Some, Ok, Err, refl, ap, sym, ◌∙◌}
use Rattle.std.specs.Prelude.{slice_index}
use Rattle.std.specs.List.{after_first, before_first, list_any}
use Rattle.std.proofs.lemmas.Bool.{and_from, and_right, eqb-true}
use Rattle.std.proofs.lemmas.List.{nil_from_length}
use Rattle.px_patterns.specs.declared.TheConstants.{ADDRESS_BEGIN, COLON, SLASH}
use Rattle.px_patterns.specs.declared.faults.PatternFault.{PatternFault}
use Rattle.px_patterns.specs.declared.faults.PatternFault.TheVariants.{BadAddress, HasProtocol}
use Rattle.px_patterns.specs.declared.hosts.HostPattern.TheVariants.{Address}
use Rattle.px_patterns.specs.declared.patterns.TagPattern.{TagPattern}
use Rattle.px_patterns.specs.Expressions.{expression_of}
use Rattle.px_patterns.specs.Faults.{IsPatternRefusal}
use Rattle.px_patterns.specs.Hosts.{host_pattern}
use Rattle.px_patterns.specs.Patterns.{address_end, addressed_pattern, behind_slash, expression_pattern, has_protocol, host_expression, is_addressed, begins_ports, begins_path, pattern_of_parts, port_text, ports_of, tag_pattern, url_pattern, with_expression, with_parts}
use Rattle.px_patterns.specs.Places.{BeginsWithByte, IsCut, LacksPlace}
use Rattle.px_patterns.specs.Urls.{is_address}
use Rattle.px_patterns.proofs.FaultLemmas.{refusal_on}
use Rattle.px_patterns.proofs.GlobLemmas.{or_right}
use Rattle.px_base.specs.Results.{result_map}

abbrev tag_of : List ℕ → TagPattern
tag_of expression = record { expression = expression }

pub tag_pattern-ok : (text expression : List ℕ) → expression_of text ≡ Ok expression → tag_pattern text ≡ Ok (tag_of expression)
unfolding tag_pattern
tag_pattern-ok text expression read = ap (result_map tag_of) read

pub tag_pattern-refused : (text : List ℕ) (fault : PatternFault) → IsPatternRefusal (expression_of text) fault → IsPatternRefusal (tag_pattern text) fault
unfolding tag_pattern
tag_pattern-refused text fault refused = refusal_on (expression_of text) (tag_pattern text) fault refused (ap (result_map tag_of))

-- ---- URL patterns

pub pattern_protocol : (text : List ℕ) → has_protocol text ≡ true → url_pattern text ≡ Err HasProtocol
unfolding url_pattern
pattern_protocol text does = rw does refl

-- a text with a slash, and one without
pub pattern_slash : (text part path : List ℕ) → has_protocol text ≡ false → IsCut begins_path text part path → url_pattern text ≡ pattern_of_parts part (behind_slash (Some path))
unfolding url_pattern
pattern_slash text part path fails cut =
    rw (fails, cut.some) (ap (λ l. pattern_of_parts l (Some (SLASH ∷ after_first begins_path text))) (sym cut.before) ∙ ap (λ l. pattern_of_parts part (Some (SLASH ∷ l))) (sym cut.behind))

pub pattern_no_slash : (text : List ℕ) → has_protocol text ≡ false → LacksPlace begins_path text → url_pattern text ≡ pattern_of_parts text (behind_slash None)
unfolding url_pattern
pattern_no_slash text fails lacks = rw (fails, lacks.none) (ap (λ l. pattern_of_parts l None) lacks.whole)

-- the same of a host expression
pub expression_slash : (text part path : List ℕ) → IsCut begins_path text part path → expression_pattern text ≡ with_expression (host_expression part) (behind_slash (Some path))
unfolding expression_pattern
expression_slash text part path cut =
    rw cut.some (ap (λ l. with_expression (host_expression l) (Some (SLASH ∷ after_first begins_path text))) (sym cut.before) ∙ ap (λ l. with_expression (host_expression part) (Some (SLASH ∷ l))) (sym cut.behind))

pub expression_no_slash : (text : List ℕ) → LacksPlace begins_path text → expression_pattern text ≡ with_expression (host_expression text) (behind_slash None)
unfolding expression_pattern
expression_no_slash text lacks = rw lacks.none (ap (λ l. with_expression (host_expression l) None) lacks.whole)

pub parts_addressed : (part rest : List ℕ) (path : Option (List ℕ)) → BeginsWithByte ADDRESS_BEGIN part rest → pattern_of_parts part path ≡ addressed_pattern rest path
parts_addressed part rest path begins = rw begins.first (ap (λ l. addressed_pattern l path) (sym begins.behind))

pub parts_named : (part name ports : List ℕ) (path : Option (List ℕ)) → (slice_index part 0 == ADDRESS_BEGIN) ≡ false → IsCut begins_ports part name ports →
    pattern_of_parts part path ≡ with_parts (host_pattern name) (ports_of (Some ports)) path
parts_named part name ports path other cut =
    rw (other, cut.some)
    (ap (λ l. with_parts (host_pattern l) (ports_of (Some (after_first begins_ports part))) path) (sym cut.before) ∙ ap (λ l. with_parts (host_pattern name) (ports_of (Some l)) path) (sym cut.behind))

pub parts_alone : (part : List ℕ) (path : Option (List ℕ)) → (slice_index part 0 == ADDRESS_BEGIN) ≡ false → LacksPlace begins_ports part → pattern_of_parts part path ≡ with_parts (host_pattern part) (ports_of None) path
parts_alone part path other lacks = rw (other, lacks.none) (ap (λ l. with_parts (host_pattern l) (ports_of None) path) lacks.whole)

-- what stands behind an address
pub port_behind : (behind ports : List ℕ) → BeginsWithByte COLON behind ports → port_text behind ≡ Some ports
port_behind [] ports begins = absurd (cc begins.first)
port_behind (b ∷ behind) ports begins = rw begins.first (ap (λ l. Some l) (sym begins.behind))

pub address_with_ports : (text address behind ports : List ℕ) (path : Option (List ℕ)) → IsCut address_end text address behind → is_address address ≡ true → BeginsWithByte COLON behind ports →
    addressed_pattern text path ≡ with_parts (Ok (Address address)) (ports_of (Some ports)) path
address_with_ports text address behind ports path cut good begins =
    let first : before_first address_end text ≡ address = sym cut.before in
    let after : after_first address_end text ≡ behind = sym cut.behind in
    let third : (length (after_first address_end text) == 0 || slice_index (after_first address_end text) 0 == COLON) ≡ true =
    rw after (or_right (length behind == 0) (slice_index behind 0 == COLON) begins.first) in
    let test : is_addressed text ≡ true =
    and_from (list_any address_end text && is_address (before_first address_end text)) (length (after_first address_end text) == 0 || slice_index (after_first address_end text) 0 == COLON)
    (and_from (list_any address_end text) (is_address (before_first address_end text)) cut.some (ap is_address first ∙ good)) third in
    rw test
    (ap (λ l. with_parts (Ok (Address l)) (ports_of (port_text (after_first address_end text))) path) first
    ∙ ap (λ o. with_parts (Ok (Address address)) (ports_of o) path) (ap port_text after ∙ port_behind behind ports begins))

pub address_alone : (text address behind : List ℕ) (path : Option (List ℕ)) → IsCut address_end text address behind → is_address address ≡ true → (length behind == 0) ≡ true →
    addressed_pattern text path ≡ with_parts (Ok (Address address)) (ports_of None) path
address_alone text address behind path cut good empty =
    let first : before_first address_end text ≡ address = sym cut.before in
    let none : after_first address_end text ≡ [] = sym cut.behind ∙ nil_from_length behind (eqb-true (length behind) 0 empty) in
    let third : (length (after_first address_end text) == 0 || slice_index (after_first address_end text) 0 == COLON) ≡ true = rw none refl in
    let test : is_addressed text ≡ true =
    and_from (list_any address_end text && is_address (before_first address_end text)) (length (after_first address_end text) == 0 || slice_index (after_first address_end text) 0 == COLON)
    (and_from (list_any address_end text) (is_address (before_first address_end text)) cut.some (ap is_address first ∙ good)) third in
    rw test
    (ap (λ l. with_parts (Ok (Address l)) (ports_of (port_text (after_first address_end text))) path) first
    ∙ ap (λ o. with_parts (Ok (Address address)) (ports_of o) path) (ap port_text none))

-- something other than a colon follows an address
pub address_other : (text address behind : List ℕ) (path : Option (List ℕ)) → IsCut address_end text address behind → (length behind == 0) ≡ false → (slice_index behind 0 == COLON) ≡ false → addressed_pattern text path ≡ Err BadAddress
address_other text address behind path cut some other =
    let third : (length (after_first address_end text) == 0 || slice_index (after_first address_end text) 0 == COLON) ≡ false = rw (sym cut.behind) (rw (some, other) refl) in
    let test : is_addressed text ≡ false = and_right (list_any address_end text && is_address (before_first address_end text)) (length (after_first address_end text) == 0 || slice_index (after_first address_end text) 0 == COLON) third in
    rw test refl

pub address_bad : (text address behind : List ℕ) (path : Option (List ℕ)) → IsCut address_end text address behind → is_address address ≡ false → addressed_pattern text path ≡ Err BadAddress
address_bad text address behind path cut bad =
    let bad' : is_address (before_first address_end text) ≡ false = ap is_address (sym cut.before) ∙ bad in
    rw (cut.some, bad') refl

pub address_open : (text : List ℕ) (path : Option (List ℕ)) → LacksPlace address_end text → addressed_pattern text path ≡ Err BadAddress
address_open text path lacks = rw lacks.none refl
