use Rattle.std.proofs.Common.{◌≡◌, ◌+◌, ◌-◌, ◌<◌, ◌∙◌, length, drop, subst, sym, ℕ, List, arith}
use Rattle.macro_expander.specs.Places.{LeadTo}
use Rattle.macro_expander.proofs.Leading.{Place, leads_more}
use Rattle.macro_expander.proofs.places.all_places.Goals as goal

pub loop-place-preserved : goal.loop-place-preserved
loop-place-preserved g c =
    let name_of = g.T.Called.name in
    let i = c.loop-place.place - 1 in
    let below : i < length c.args.items.now = omega arith in
    let next : c.loop-place.place ≡ i + 1 = omega arith in
    record {
      within = omega arith;
      leads =
          subst (λ (es : List Place). LeadTo name_of es c.args.items.now (drop i c.args.items.now)) (sym c.in_ok-insert.ensures.entries)
          (leads_more name_of c.loop-place.places.entries c.args.items.now i c.index-items-place.result c.in_ok-name.name below c.index-items-place.is (c.in_ok-name.ensures.items ∙ c.name.ensures)
          (subst (λ (n : ℕ). LeadTo name_of c.loop-place.places.entries c.args.items.now (drop n c.args.items.now)) next c.loop-place.invariant.leads));
    }
