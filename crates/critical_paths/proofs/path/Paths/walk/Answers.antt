use Rattle.std.proofs.Common.{◌≡◌, ℕ, ◌+◌, ◌++◌, ◌∷◌, [], List, length, Option, None, MatchOption, false, is_some, sym, ap, subst, ◌∙◌, arith}
use Rattle.critical_paths.specs.declared.event.Stop.{Stop}
use Rattle.critical_paths.specs.declared.path.Passage.{Passage}
use Rattle.fixpoint_engine.specs.Waves.{waves_of}
use Rattle.critical_paths.specs.Known.{Has, LeadsWithin, Walked, are_met}
use Rattle.critical_paths.proofs.Stops.{stop_turned}
use Rattle.critical_paths.proofs.Keys.{entered, not_got, placed}
use Rattle.critical_paths.proofs.Memo.{tells_level}
use Rattle.critical_paths.proofs.Walks.{chain_short, push_long, walked_more}
use Rattle.critical_paths.proofs.path.Paths.walk.Goals as goal

-- what is not found was not met
fresh : (met : List (Stop × ℕ)) (s : Stop) (o : Option ℕ) → o ≡ None →
    MatchOption o (are_met met s ≡ false) (Has met s) → are_met met s ≡ false
fresh met s o none found =
    subst (λ (x : Option ℕ). MatchOption x (are_met met s ≡ false) (Has met s)) none found

pub returns-in-Some-get_index_of-clause-halt : goal.returns-in-Some-get_index_of-clause-halt
returns-in-Some-get_index_of-clause-halt g c = (
  fresh c.args.self.now.met.entries c.links.stop c.number.result c.in_default.is c.number.ensures,
  placed c.links.chain.entries c.links.stop c.in-Some-get_index_of.place
      (sym c.get_index_of.ensures.index ∙ c.in-Some-get_index_of.is),
)

pub links-preserved : goal.links-preserved
links-preserved g c =
    let circuit = c.args.view.now.circuit.now in
    let ws = waves_of c.args.view.now.waves.now in
    let met = c.args.self.now.met.entries in
    let chain = c.links.chain.entries in
    let s = c.links.stop in
    let p = c.in-Earlier.passage in
    let t = c.in-Earlier.earlier in
    let new : are_met met s ≡ false = fresh met s c.number.result c.in_default.is
    c.number.ensures in
    let unmet : are_met chain s ≡ false =
    not_got chain s (sym c.get_index_of.ensures.found
    ∙ ap (λ (o : Option ℕ). is_some o) c.in_default-get_index_of.is) in
    let from = sym c.in_ok-passage.ensures.is ∙ c.in-Earlier.is in
    let within = subst (LeadsWithin circuit s.corner) c.in-Earlier.is
    c.in_ok-passage.ensures.within in
    let entries : c.insert.new.self.entries ≡ chain ++ (s, p) ∷ [] =
    c.in_ok-insert-in-Earlier.ensures.entries ∙ entered chain s p unmet in
    subst (λ (l : List (Stop × Passage)). Walked circuit ws met c.args.start l t) (sym entries)
    (walked_more circuit ws stop_turned met c.args.start chain s p t c.links.invariant new unmet
    from within.0 within.1)

pub links-smaller : goal.links-smaller
links-smaller g c =
    let chain = c.links.chain.entries in
    let s = c.links.stop in
    let p = c.in-Earlier.passage in
    let unmet : are_met chain s ≡ false =
    not_got chain s (sym c.get_index_of.ensures.found
    ∙ ap (λ (o : Option ℕ). is_some o) c.in_default-get_index_of.is) in
    let entries : c.insert.new.self.entries ≡ chain ++ (s, p) ∷ [] =
    c.in_ok-insert-in-Earlier.ensures.entries ∙ entered chain s p unmet in
    let walked = links-preserved g c in
    let short = chain_short c.args.view.now.circuit.now (waves_of c.args.view.now.waves.now)
    c.in-Earlier.earlier.corner c.insert.new.self.entries walked.stops walked.apart in
    let long : length c.insert.new.self.entries ≡ length chain + 1 = ap length entries
    ∙ push_long chain (s, p) in
    omega (arith, short, long)

pub returns-in-Input-clause-halt : goal.returns-in-Input-clause-halt
returns-in-Input-clause-halt g c = (
  fresh c.args.self.now.met.entries c.links.stop c.number.result c.in_default.is c.number.ensures,
  (
    not_got c.links.chain.entries c.links.stop
        (sym c.get_index_of.ensures.found
        ∙ ap (λ (o : Option ℕ). is_some o) c.in_default-get_index_of.is),
    c.source.ensures.tells,
  ),
)

pub returns-in-Level-clause-halt : goal.returns-in-Level-clause-halt
returns-in-Level-clause-halt g c = (
  fresh c.args.self.now.met.entries c.links.stop c.number.result c.in_default.is c.number.ensures,
  (
    not_got c.links.chain.entries c.links.stop
        (sym c.get_index_of.ensures.found
        ∙ ap (λ (o : Option ℕ). is_some o) c.in_default-get_index_of.is),
    tells_level c.args.view.now.circuit.now (waves_of c.args.view.now.waves.now) c.links.stop
        c.last.result c.last.ensures (sym c.in_ok-passage.ensures.is ∙ c.in-Level.is),
  ),
)
