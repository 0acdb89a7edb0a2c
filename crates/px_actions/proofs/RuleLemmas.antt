-- What a value is that keeps the rule of its kind.
use Rattle.std.proofs.Common.{◌≡◌, ℕ, true, false, List, Option, Some, None, is_some, arith, subst}
use Rattle.std.specs.Prelude.{IsTrue}
use Rattle.std.specs.Str.{is_utf8}
use Rattle.px_base.specs.Numbers.{decimal}
use Rattle.px_fields.specs.FieldLines.{read_field}
use Rattle.px_fields.specs.Names.{is_held_back_of_request}
use Rattle.px_fields.specs.declared.fields.Field.{Field}
use Rattle.px_actions.specs.Kinds.{entry_of}
use Rattle.px_actions.specs.Rules.{is_plain_text, override_hop, may_add, meets, keeps_rule}
use Rattle.px_actions.specs.declared.kinds.Kind.TheVariants as kind
use Rattle.px_actions.specs.declared.kinds.Rule.{Rule}

-- it is UTF-8
pub keeps_text : (r : Rule) (text : List ℕ) → IsTrue (keeps_rule r text) → is_utf8 text ≡ true
unfolding keeps_rule is_plain_text
keeps_text r text h = grind arith

-- it is a number of minutes
pub keeps_minutes : (text : List ℕ) → IsTrue (keeps_rule (entry_of kind.LimitCookieLifetime).rule text) → is_some (decimal 100000000 text) ≡ true
unfolding entry_of keeps_rule meets
keeps_minutes text h = grind arith

-- it is a field line that may be added
pub keeps_field : (text : List ℕ) → IsTrue (keeps_rule (entry_of kind.AddHeader).rule text) → may_add (read_field text) ≡ true
unfolding entry_of keeps_rule meets
keeps_field text h = grind arith

-- the name of its field isn't held back
pub field_sent : (text : List ℕ) (f : Field) → IsTrue (keeps_rule (entry_of kind.AddHeader).rule text) → read_field text ≡ Some f → is_held_back_of_request f.name ≡ false
field_sent text f h e = let added : may_add (Some f) ≡ true = subst (λ o. may_add o ≡ true) e (keeps_field text h) in grind arith

pub no_field : (text : List ℕ) → IsTrue (keeps_rule (entry_of kind.AddHeader).rule text) → read_field text ≡ None → ⊥
no_field text h e = let added : may_add None ≡ true = subst (λ o. may_add o ≡ true) e (keeps_field text h) in (cc)

-- it is a next hop
pub keeps_hop : (text : List ℕ) → IsTrue (keeps_rule (entry_of kind.ForwardOverride).rule text) → is_some (override_hop text) ≡ true
unfolding entry_of keeps_rule meets
keeps_hop text h = grind arith

pub not_none : {X : Type 0} (o : Option X) → is_some o ≡ true → None ≡ o → ⊥
not_none None h e = (cc)
not_none (Some x) h e = (cc)
