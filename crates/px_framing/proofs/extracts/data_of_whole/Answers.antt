use Rattle.std.proofs.Common.{◌≡◌, ℕ, List, length, sym, ◌∙◌, ap, subst}
use Rattle.px_framing.specs.declared.places.ChunkPlace.TheVariants.{Size}
use Rattle.px_framing.specs.declared.places.State.TheVariants.{Whole}
use Rattle.px_framing.specs.declared.rules.BodyRule.TheVariants as rule
use Rattle.px_framing.specs.Body.{Part}
use Rattle.px_framing.specs.Elements.{AreWhole}
use Rattle.px_framing.proofs.BodyLemmas.{body-one, whole-raw}
use Rattle.px_framing.proofs.extracts.data_of_whole.Goals as goal

pub returns-in-Ok : goal.returns-in-Ok
returns-in-Ok c p body =
    let given = c.requires in
    let same : p ≡ given.0 = body-one rule.Chunked c.args.raw p given.0 body given.1 in
    let state : p.state ≡ Whole = ap (λ (x : Part). x.state) same ∙ given.2 in
    let used : p.used ≡ length c.args.raw = ap (λ (x : Part). x.used) same ∙ given.3 in
    let elements = whole-raw c.args.raw p body state used in
    c.from_vec.ensures ∙ c.keep_whole.ensures p.plain (subst (λ (v : List ℕ). AreWhole Size v p.plain) (sym c.in-Ok.ensures.ok) elements)
