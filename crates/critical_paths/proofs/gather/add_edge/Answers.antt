use Rattle.std.proofs.Common.{◌≡◌, ◌∙◌, ◌++◌, ◌∷◌, [], ℕ, refl, sym, ap, subst, ℤ, pos, ◌-ℤ◌, to_z, of_z, w64, rules, Option, inl, inr}
use Rattle.std.specs.Prelude.{FitsSigned, List, slice_get, unwrap_or}
use Rattle.std.proofs.lemmas.Int.{to_z-of_z}
use Rattle.std.proofs.lemmas.List.{map-append}
use Rattle.scald_base.specs.Time.{period}
use Rattle.fixpoint_engine.specs.Waves.{waves_of}
use Rattle.critical_paths.specs.declared.event.Reading.TheVariants.{Folded}
use Rattle.critical_paths.specs.declared.event.Stop.{Stop}
use Rattle.critical_paths.specs.declared.gather.Reached.{Reached}
use Rattle.critical_paths.specs.Known.{IsNear}
use Rattle.critical_paths.specs.Launch.{offset_at}
use Rattle.critical_paths.specs.Tick.{slot_of}
use Rattle.critical_paths.specs.Views.{end_at}
use Rattle.critical_paths.specs.Reached.{IsWay, age_at, comes, end_time, gathered, stop_at, time_of}
use Rattle.critical_paths.proofs.Edges.{offset_folded}
use Rattle.critical_paths.proofs.Ways.{after_one, end_near, lone_count, lone_near, nearer, way_first}
use Rattle.critical_paths.proofs.gather.add_edge.Goals as goal

pub begun-near-requires-clause-tick : goal.begun-near-requires-clause-tick
begun-near-requires-clause-tick g c =
    let t = c.end-tick.result in
    let fits : FitsSigned w64 t = search rules in
    subst (IsNear 131072) (sym (to_z-of_z w64 t fits))
    (nearer t
    (end_near c.args.view.now.circuit.now (waves_of c.args.view.now.waves.now) c.args.place
    c.args.place.corner c.args.region t c.requires.edge c.end-tick.ensures))

pub begun-near-requires-clause-age : goal.begun-near-requires-clause-age
begun-near-requires-clause-age g c =
    let a = c.source-event.result.age in
    let fits : FitsSigned w64 a = search rules in
    subst (IsNear 131072) (sym (to_z-of_z w64 a fits))
    (lone_near c.source-event.result c.source-event.ensures.tells.count c.source-event.ensures.tells.near)

pub returns-clause-gathered : goal.returns-clause-gathered
returns-clause-gathered g c =
    let circuit = c.args.view.now.circuit.now in
    let place = c.args.place in
    let t = c.end-tick.result in
    let a = c.source-event.result.age in
    let fits_t : FitsSigned w64 t = search rules in
    let fits_a : FitsSigned w64 a = search rules in
    let at : to_z w64 (of_z w64 t) ≡ end_at place.corner c.args.region = to_z-of_z w64 t fits_t ∙ c.end-tick.ensures in
    let age : to_z w64 (of_z w64 a) ≡ age_at circuit place (end_at place.corner c.args.region) =
    to_z-of_z w64 a fits_a ∙ c.source-event.ensures.age
    ∙ ap (λ (s : Stop). unwrap_or (offset_at circuit s) (pos 0)) c.stop-stop.ensures
    ∙ ap (λ (n : ℕ). unwrap_or (offset_at circuit (record {
      net = place.net;
      direction = place.direction;
      slot = n;
      corner = place.corner;
      reading = Folded;
    })) (pos 0)) (c.slot.ensures.is ∙ ap (slot_of (period circuit.header)) at)
    ∙ ap (λ (o : Option ℤ). unwrap_or o (pos 0)) (offset_folded circuit (record {
      net = place.net;
      direction = place.direction;
      slot = slot_of (period circuit.header) (end_at place.corner c.args.region);
      corner = place.corner;
      reading = Folded;
    }) refl) in
    let time : time_of (record { event = c.source-event.result; near = c.begun-near.result }) ≡ end_time circuit place c.args.region =
    (λ i. ((c.begun-near.ensures.0 ∙ (λ j. at j -ℤ age j)) i, (c.begun-near.ensures.1 ∙ at) i)) in
    ap gathered c.in_ok-push.ensures.ok
    ∙ map-append time_of c.args.out.now _
    ∙ ap (λ (x : ℤ × ℤ). gathered c.args.out.now ++ x ∷ []) time

pub returns-clause-ways : goal.returns-clause-ways
returns-clause-ways g c = λ nodes own old k r here.
    let circuit = c.args.view.now.circuit.now in
    let place = c.args.place in
    let t = c.end-tick.result in
    let a = c.source-event.result.age in
    let fits_t : FitsSigned w64 t = search rules in
    let fits_a : FitsSigned w64 a = search rules in
    let at : to_z w64 (of_z w64 t) ≡ end_at place.corner c.args.region = to_z-of_z w64 t fits_t ∙ c.end-tick.ensures in
    let age : to_z w64 (of_z w64 a) ≡ age_at circuit place (end_at place.corner c.args.region) =
    to_z-of_z w64 a fits_a ∙ c.source-event.ensures.age
    ∙ ap (λ (s : Stop). unwrap_or (offset_at circuit s) (pos 0)) c.stop-stop.ensures
    ∙ ap (λ (n : ℕ). unwrap_or (offset_at circuit (record {
      net = place.net;
      direction = place.direction;
      slot = n;
      corner = place.corner;
      reading = Folded;
    })) (pos 0)) (c.slot.ensures.is ∙ ap (slot_of (period circuit.header)) at)
    ∙ ap (λ (o : Option ℤ). unwrap_or o (pos 0)) (offset_folded circuit (record {
      net = place.net;
      direction = place.direction;
      slot = slot_of (period circuit.header) (end_at place.corner c.args.region);
      corner = place.corner;
      reading = Folded;
    }) refl) in
    let near : IsNear 65536 (end_at place.corner c.args.region) =
    end_near circuit (waves_of c.args.view.now.waves.now) place place.corner c.args.region
    (end_at place.corner c.args.region) c.requires.edge refl in
    let time : time_of (record { event = c.source-event.result; near = c.begun-near.result }) ≡ end_time circuit place c.args.region =
    (λ i. ((c.begun-near.ensures.0 ∙ (λ j. at j -ℤ age j)) i, (c.begun-near.ensures.1 ∙ at) i)) in
    let new : Reached = record { event = c.source-event.result; near = c.begun-near.result } in
    let tick : end_at place.corner c.args.region ≡ new.near.tick = sym (c.begun-near.ensures.1 ∙ at) in
    let tells = c.source-event.ensures.tells in
    let way : IsWay circuit (waves_of c.args.view.now.waves.now) nodes new.event.count place (time_of new) new.event =
    way_first circuit (waves_of c.args.view.now.waves.now) nodes place new record {
      input = c.requires.input;
      clock = own;
      event = ap (comes circuit (waves_of c.args.view.now.waves.now) place) time ∙ c.requires.edge.event;
      stop = tells.of ∙ c.stop-stop.ensures
          ∙ ap (λ (n : ℕ). record {
            net = place.net;
            direction = place.direction;
            slot = n;
            corner = place.corner;
            reading = Folded;
          }) (c.slot.ensures.is ∙ ap (slot_of (period circuit.header)) at)
          ∙ ap (stop_at circuit place) tick;
      count = lone_count new.event tells.count;
      age = sym (to_z-of_z w64 a fits_a) ∙ age ∙ ap (age_at circuit place) tick;
      edge = c.begun-near.ensures.0
          ∙ (λ i. (to_z-of_z w64 t fits_t ∙ c.end-tick.ensures ∙ tick) i -ℤ to_z-of_z w64 a fits_a i);
      near = subst (IsNear 65536) tick near;
      short = lone_near new.event tells.count tells.near;
    } in
    elim (after_one c.args.out.now new r k
    (ap (λ (l : List Reached). slice_get l k) (sym c.in_ok-push.ensures.ok) ∙ here)) [
      | inl last ↦ subst (λ (x : Reached). IsWay circuit (waves_of c.args.view.now.waves.now) nodes
          x.event.count place (time_of x) x.event) (sym last.1) way
      | inr before ↦ old k r before
    ]
