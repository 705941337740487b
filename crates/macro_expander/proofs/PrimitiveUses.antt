-- The use of a primitive, step by step.
use Rattle.std.proofs.Common.{◌≡◌, ℕ, ◌≤◌, Bool, true, false, cond, List, [], ◌∷◌, length, map, Result, Ok, Err, refl, sym, ◌∙◌, subst, arith}
use Rattle.std.specs.List.{All}
use Rattle.std.proofs.lemmas.List.{length-map}
use Rattle.std.proofs.lemmas.List.Elements.{All-head, All-tail}
use Rattle.scald_base.specs.Time.{period}
use Rattle.scald_base.specs.declared.refusal.Place.{Place}
use Rattle.scald_base.specs.declared.refusal.Refusal.{Refusal}
use Rattle.scald_base.specs.declared.refusal.RefusalKind.{RefusalKind}
use Rattle.scald_base.specs.declared.refusal.RefusalKind.TheVariants.{Width}
use Rattle.scald_base.specs.declared.refusal.Stop.{Stop}
use Rattle.scald_base.specs.declared.refusal.Stop.TheVariants.{Refused}
use Rattle.element_kinds.specs.declared.kind.Kind.{Kind}
use Rattle.element_kinds.specs.Kinds.{has_output, selects_of}
use Rattle.flat_circuit.specs.Name.{Name}
use Rattle.flat_circuit.specs.Instances.{InstanceFits}
use Rattle.drawing_tree.specs.declared.statement.UseStmt.{UseStmt}
use Rattle.drawing_tree.specs.Tree.{use_of}
use Rattle.macro_expander.specs.declared.expansion.Expansion.{Expansion}
use Rattle.macro_expander.specs.declared.primitive.Plan.{Plan}
use Rattle.macro_expander.specs.declared.scope.Scope as numbered_scope
use Rattle.macro_expander.specs.declared.connection.Joined as numbered_joined
use Rattle.macro_expander.specs.declared.connection.Wires as numbered_wires
use Rattle.macro_expander.specs.Outcome.{Outcome, Fails}
use Rattle.macro_expander.specs.Steps.{IsJudgedRefusal}
use Rattle.macro_expander.specs.Terms.{Joined, Wires, labelled, wires_of}
use Rattle.macro_expander.specs.Setting.{Setting}
use Rattle.macro_expander.specs.Primitives.{width, greatest, width_of, width_in, inputs_fit, in_pin_order, is_least_first, plan_of, all_added, primitive_use}
use Rattle.macro_expander.specs.Numbered.{bit_of, joined_of, bits_in, instance_ref, scope_of, named_wires, names_in, nets_in, state_of, JoinedExists, Failed, Grows, GivesWires, DoneAt}
use Rattle.macro_expander.proofs.Nets.{grows_trans}
use Rattle.macro_expander.proofs.Joints.{HasWidth, AreJoined, AreWires, are_wires}
use Rattle.macro_expander.proofs.Facts.{plan_fits, counted, bit_fits}
use Rattle.macro_expander.proofs.PinOrder.{in_pin_order_map, in_pin_order_are, joined_turned, selects_few}

pub done_later : (d e f : Expansion) (r : Result (Unit {0}) Stop) (o o' : Outcome (Unit {0})) → Grows d e → o' ≡ o → DoneAt e f r o → DoneAt d f r o'
done_later d e f (Ok done) o o' g is h = record { is = is ∙ h.is; grows = grows_trans d e f g h.grows }
done_later d e f (Err stop) o o' g is h = record { agrees = λ r s. is ∙ h.agrees r s }

-- ---- widths

widths_named : (names : List Name) (cs : List numbered_joined.Joined) → map width (map (joined_of names) cs) ≡ map bits_in cs
widths_named names [] = refl
widths_named names (c ∷ cs) = rw (length-map c.bits (bit_of names), widths_named names cs) refl

greatest_few : (cs : List Joined) → All HasWidth cs → greatest (map width cs) ≤ 256
greatest_few [] h = omega arith
greatest_few (c ∷ cs) h =
    let w = All-head HasWidth c cs h in
    let more = greatest_few cs (All-tail HasWidth c cs h) in
    omega (arith, w.few, more)

width_few : (b : Bool) (ins outs : List Joined) → All HasWidth ins → All HasWidth outs → cond b (greatest (map width outs)) (greatest (map width ins)) ≤ 256
width_few true ins outs h k = greatest_few outs k
width_few false ins outs h k = greatest_few ins h

module _ (e : Expansion) (setting : Setting) (kind : Kind) (s : numbered_scope.Scope) (u : UseStmt) where
  abbrev the_use : Outcome (Unit {0})
  the_use = primitive_use setting kind (scope_of (names_in e) s) (use_of u) (state_of e)

  pub use_refused : (stop : Stop) → IsJudgedRefusal u.place stop (plan_of setting.ticks kind s.env (use_of u)) → Failed stop the_use
  unfolding primitive_use
  use_refused stop h = record { agrees = λ r is. rw (h.agrees r is, h.here r is) refl }

  module _ (plan : Plan) (was : plan_of setting.ticks kind s.env (use_of u) ≡ Ok plan) where
    pub use_cut : (stop : Stop) → Failed stop (wires_of (scope_of (names_in e) s) (use_of u) (state_of e)) → Failed stop the_use
    unfolding primitive_use
    use_cut stop h = record { agrees = λ r is. rw (was, h.agrees r is) refl }

    module _ (e1 : Expansion) (w : numbered_wires.Wires) (g : GivesWires e e1 w (wires_of (scope_of (names_in e) s) (use_of u) (state_of e))) (i o i2 : List numbered_joined.Joined) (n : ℕ)
        (i_is : i ≡ w.ins) (o_is : o ≡ w.outs) (i2_is : i2 ≡ w.ins) (n_is : n ≡ width_of kind (map bits_in i) (map bits_in o)) where
      abbrev wires : Wires
      wires = named_wires (names_in e1) w

      width_is : width_in kind wires ≡ n
      width_is = sym (n_is ∙ rw (i_is, o_is, widths_named (names_in e1) w.ins, widths_named (names_in e1) w.outs) refl)

      widths_are : map width wires.ins ≡ map bits_in i2
      widths_are = rw i2_is (widths_named (names_in e1) w.ins)

      pub use_narrow : inputs_fit kind n (map bits_in i2) ≡ false → the_use ≡ Fails Width u.place
      unfolding primitive_use
      use_narrow h = rw (was, g.is, width_is, widths_are, h) refl

      -- the input connections in the order of the pins
      abbrev turned : List numbered_joined.Joined
      turned = in_pin_order (is_least_first setting.version) kind w.ins

      turned_named : map (joined_of (names_in e1)) turned ≡ in_pin_order (is_least_first setting.version) kind wires.ins
      turned_named = in_pin_order_map (joined_of (names_in e1)) (is_least_first setting.version) kind w.ins

      pub use_done : (e2 : Expansion) (r : Result (Unit {0}) Stop) (path : List ℕ) (i3 o3 : List numbered_joined.Joined) →
          path ≡ labelled (scope_of (names_in e) s) u.label → i3 ≡ turned → o3 ≡ w.outs → inputs_fit kind n (map bits_in i2) ≡ true →
          DoneAt e1 e2 r (all_added path (use_of u) kind plan n (map (joined_of (names_in e1)) i3) (map (joined_of (names_in e1)) o3) (state_of e1)) → DoneAt e e2 r the_use
      unfolding primitive_use
      use_done e2 r path i3 o3 p q t fits h =
          let is : the_use ≡ all_added path (use_of u) kind plan n (map (joined_of (names_in e1)) i3)
          (map (joined_of (names_in e1)) o3) (state_of e1) = rw (was, g.is, width_is, widths_are, fits, p, q, t, turned_named) refl in
          done_later e e1 e2 r (all_added path (use_of u) kind plan n (map (joined_of (names_in e1)) i3) (map (joined_of (names_in e1)) o3) (state_of e1)) the_use g.grows is h

      are : AreWires (use_of u) wires
      are = are_wires (scope_of (names_in e) s) (use_of u) wires (state_of e) (state_of e1) g.is

      pub use_few : n ≤ 256
      use_few = subst (λ (m : ℕ). m ≤ 256) width_is (width_few (has_output kind) wires.ins wires.outs are.ins.wide are.outs.wide)

      -- as many connections as the kind has selects
      pub use_selects : setting.ticks ≡ period e.builder.header → selects_of kind ≤ length w.ins
      use_selects p =
          let was' : plan_of (period e.builder.header) kind s.env (use_of u) ≡ Ok plan = subst (λ (x : ℕ). plan_of x kind s.env (use_of u) ≡ Ok plan) p was in
          let fits = plan_fits e.builder.header kind s.env (use_of u) plan was' in
          let c = counted e.builder.header (names_in e1) kind (use_of u) plan w.ins w.outs fits are.ins are.outs in
          omega (arith, c.least, selects_few kind)

      pub use_fits : (k : ℕ) (path : List ℕ) (i3 o3 : List numbered_joined.Joined) → i3 ≡ turned →
          o3 ≡ w.outs → setting.ticks ≡ period e.builder.header →
          InstanceFits e1.builder.header (nets_in e1) (instance_ref path u kind plan i3 o3 k)
      use_fits k path i3 o3 q t p =
          let was' : plan_of (period e.builder.header) kind s.env (use_of u) ≡ Ok plan = subst (λ (x : ℕ). plan_of x kind s.env (use_of u) ≡ Ok plan) p was in
          let pins : AreJoined (use_of u).ins (map (joined_of (names_in e1)) turned) =
          rw turned_named (joined_turned (use_of u).ins wires.ins (is_least_first setting.version) kind are.ins) in
          rw (q, t, g.grows.header) (bit_fits e.builder.header (names_in e1) kind (use_of u) plan turned
          w.outs (plan_fits e.builder.header kind s.env (use_of u) plan was') pins are.outs (nets_in e1) k path u
          (in_pin_order_are (JoinedExists (nets_in e1)) (is_least_first setting.version) kind w.ins g.ins) g.outs)

-- a refusal that a call makes
pub failed_so : {A : Type 0} (stop : Stop) (o : Outcome A) (kind : RefusalKind) (place : Place) →
    stop ≡ Refused (record { kind = kind; place = place }) → o ≡ Fails kind place → Failed stop o
failed_so stop o kind place is h = record {
  agrees = λ r s.
      let made : Refusal = record { kind = kind; place = place } in
      let same : made ≡ r = cc in
      subst (λ (x : Refusal). o ≡ Fails x.kind x.place) same h;
}
