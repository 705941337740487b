use Rattle.std.proofs.Common.{◌≡◌, ◌∙◌, ℕ, Bool, true, ap, sym, subst, arith, ℤ, ◌+ℤ◌, to_z, of_z, w64, rules, cond, inl, inr, Option}
use Rattle.std.specs.Prelude.{FitsSigned, is_some}
use Rattle.std.proofs.lemmas.Int.{to_z-of_z}
use Rattle.scald_base.specs.Time.{period}
use Rattle.fixpoint_engine.specs.Waves.{waves_of}
use Rattle.critical_paths.specs.declared.event.Reading.TheVariants.{Folded}
use Rattle.critical_paths.specs.declared.gather.Reached.{Reached}
use Rattle.critical_paths.specs.declared.near.Near.{Near}
use Rattle.critical_paths.specs.Known.{IsNear}
use Rattle.critical_paths.specs.Launch.{ticks_of}
use Rattle.critical_paths.specs.Path.{is_event}
use Rattle.critical_paths.specs.Tick.{slot_of}
use Rattle.critical_paths.specs.Reached.{HasWay, IsWay, comes, gathered, later, stop_at, time_of, with_one, with_time}
use Rattle.critical_paths.proofs.Ways.{way_few, way_near, way_on, way_short}
use Rattle.critical_paths.proofs.path.Paths.add_one.Goals as goal

pub returns-then-not-permits-clause-gathered : goal.returns-then-not-permits-clause-gathered
returns-then-not-permits-clause-gathered g c = λ fits behind at.
    let circuit = c.args.view.now.circuit.now in
    let ws = waves_of c.args.view.now.waves.now in
    let place = c.args.place in
    let passage = c.args.passage in
    let near = c.near_at-behind.result in
    let same : near ≡ behind = let is = c.near_at-behind.ensures in cc in
    let fits_ticks : FitsSigned w64 c.ticks.result = search rules in
    let fits_tick : FitsSigned w64 c.tick_after-tick.result = search rules in
    let tick : c.tick_after-tick.result ≡ near.tick +ℤ ticks_of passage =
    c.tick_after-tick.ensures ∙ ap (λ (z : ℤ). near.tick +ℤ z) (to_z-of_z w64 c.ticks.result fits_ticks ∙ c.ticks.ensures.is) in
    let comes_is : comes circuit ws place (later passage (near.ideal, near.tick)) ≡ c.permits.result =
    sym (c.permits.ensures ∙ ap (λ (z : ℤ). is_event circuit ws (record {
      net = place.net;
      direction = place.direction;
      slot = slot_of (period circuit.header) z;
    })) (to_z-of_z w64 c.tick_after-tick.result fits_tick ∙ tick)) in
    sym (ap (λ (b : Bool). cond b (with_time place.corner (gathered c.args.out.now) (later passage (near.ideal, near.tick)))
    (gathered c.args.out.now)) (comes_is ∙ c.if-not-permits.true))
    ∙ ap (λ (n : Near). with_one circuit ws place (gathered c.args.out.now) (later passage (n.ideal, n.tick))) same

pub returns-clause-gathered : goal.returns-clause-gathered
returns-clause-gathered g c = λ fits behind at.
    let circuit = c.args.view.now.circuit.now in
    let ws = waves_of c.args.view.now.waves.now in
    let place = c.args.place in
    let passage = c.args.passage in
    let near = c.near_at-behind.result in
    let same : near ≡ behind = let is = c.near_at-behind.ensures in cc in
    let fits_ticks : FitsSigned w64 c.ticks.result = search rules in
    let fits_tick : FitsSigned w64 c.tick_after-tick.result = search rules in
    let tick : c.tick_after-tick.result ≡ near.tick +ℤ ticks_of passage =
    c.tick_after-tick.ensures ∙ ap (λ (z : ℤ). near.tick +ℤ z) (to_z-of_z w64 c.ticks.result fits_ticks ∙ c.ticks.ensures.is) in
    let comes_is : comes circuit ws place (later passage (near.ideal, near.tick)) ≡ c.permits.result =
    sym (c.permits.ensures ∙ ap (λ (z : ℤ). is_event circuit ws (record {
      net = place.net;
      direction = place.direction;
      slot = slot_of (period circuit.header) z;
    })) (to_z-of_z w64 c.tick_after-tick.result fits_tick ∙ tick)) in
    c.in_ok-merge.ensures.gathered
    ∙ ap (with_time place.corner (gathered c.args.out.now)) c.in-Some.ensures.time
    ∙ sym (ap (λ (b : Bool). cond b (with_time place.corner (gathered c.args.out.now) (later passage (near.ideal, near.tick)))
    (gathered c.args.out.now)) (comes_is ∙ c.if-not-permits.false))
    ∙ ap (λ (n : Near). with_one circuit ws place (gathered c.args.out.now) (later passage (n.ideal, n.tick))) same

pub returns-clause-ways : goal.returns-clause-ways
returns-clause-ways g c = λ b behind is here has old k r found.
    let circuit = c.args.view.now.circuit.now in
    let ws = waves_of c.args.view.now.waves.now in
    let nodes = c.args.self.now.nodes in
    let place = c.args.place in
    let passage = c.args.passage in
    let near = c.near_at-behind.result in
    let new = c.in-Some.reached in
    let same : behind ≡ near = let at = c.near_at-behind.ensures in cc in
    let fits_ticks : FitsSigned w64 c.ticks.result = search rules in
    let fits_tick : FitsSigned w64 c.tick_after-tick.result = search rules in
    let ticks : to_z w64 (of_z w64 c.ticks.result) ≡ ticks_of passage =
    to_z-of_z w64 c.ticks.result fits_ticks ∙ c.ticks.ensures.is in
    let tick : to_z w64 (of_z w64 c.tick_after-tick.result) ≡ new.near.tick =
    to_z-of_z w64 c.tick_after-tick.result fits_tick ∙ c.tick_after-tick.ensures
    ∙ ap (λ (z : ℤ). near.tick +ℤ z) ticks ∙ sym (ap (λ (t : ℤ × ℤ). t.1) c.in-Some.ensures.time) in
    let event : comes circuit ws place (time_of new) ≡ true =
    sym (c.permits.ensures ∙ ap (λ (z : ℤ). is_event circuit ws (record {
      net = place.net;
      direction = place.direction;
      slot = slot_of (period circuit.header) z;
    })) tick) ∙ c.if-not-permits.false in
    let stop : c.stop-stop.result ≡ stop_at circuit place new.near.tick =
    c.stop-stop.ensures ∙ ap (λ (n : ℕ). record {
      net = place.net;
      direction = place.direction;
      slot = n;
      corner = place.corner;
      reading = Folded;
    }) (c.slot.ensures.is ∙ ap (slot_of (period circuit.header)) tick) in
    let short : IsNear 131072 (ticks_of passage) = subst (IsNear 131072) c.ticks.ensures.is c.ticks.ensures.near in
    let way : IsWay circuit ws nodes new.event.count place (time_of new) new.event =
    way_on circuit ws nodes place b passage near c.stop-stop.result new is
    (subst (HasWay circuit ws nodes b) same has) short event stop
    c.in-Some.ensures.time c.in-Some.ensures.event in
    elim (c.in_ok-merge.ensures.only r (k, found)) [
      | inl own ↦ subst (λ (x : Reached). IsWay circuit ws nodes x.event.count place (time_of x) x.event)
          (sym own) way
      | inr before ↦ old before.0 r before.1
    ]

pub returns-in_default-clause-fits : goal.returns-in_default-clause-fits
returns-in_default-clause-fits g c = λ b behind few here has.
    let circuit = c.args.view.now.circuit.now in
    let ws = waves_of c.args.view.now.waves.now in
    let nodes = c.args.self.now.nodes in
    let passage = c.args.passage in
    let near = c.near_at-behind.result in
    let same : behind ≡ near = let at = c.near_at-behind.ensures in cc in
    let own = subst (HasWay circuit ws nodes b) same has in
    let count = way_few circuit ws nodes own.0.count b (near.ideal, near.tick) own.0 own.2 few.most few.ends in
    let most = few.few in
    let short : IsNear 131072 (ticks_of passage) = subst (IsNear 131072) c.ticks.ensures.is c.ticks.ensures.near in
    let some = c.reached.ensures.some own.0 own.1 (omega (arith, count, most))
    (way_short circuit ws nodes own.0.count b (near.ideal, near.tick) own.0 own.2)
    (way_near circuit ws nodes own.0.count b (near.ideal, near.tick) own.0 own.2
    (omega (arith, count, most)) (ticks_of passage) short) in
    sym (ap (λ (o : Option Reached). is_some o) c.in_default.is) ∙ some
