-- Each place that expansion tells of stands in the drawing: those of instances, and that of a refusal.
use Rattle.std.proofs.Common.{◌≡◌, ℕ, zero, suc, ◌+◌, ℤ, Bool, true, false, if◌then◌else◌, nat_lt, List, [], ◌∷◌, ◌++◌, length, map, Option, Some, None, Result, Ok, Err, inl, inr, sym, subst}
use Rattle.std.specs.Prelude.{IfSome, ⊤, slice_get}
use Rattle.std.specs.List.{AllByRecursion, range_with_len}
use Rattle.scald_base.specs.Time.{Bounds}
use Rattle.scald_base.specs.declared.assertion.AssertSpec.{AssertSpec}
use Rattle.scald_base.specs.declared.refusal.Place.{Place}
use Rattle.scald_base.specs.declared.refusal.Refusal.{Refusal}
use Rattle.scald_base.specs.declared.refusal.RefusalKind.{RefusalKind}
use Rattle.scald_base.specs.declared.refusal.RefusalKind.TheVariants.{AssertionClash, TooMany, TwoDrivers, ZeroLoop, Width}
use Rattle.scald_base.specs.declared.refusal.Stop.TheVariants.{Refused}
use Rattle.assertion_syntax.specs.declared.name.SignalName.{SignalName}
use Rattle.drawing_tree.specs.declared.environment.Binding.{Binding}
use Rattle.flat_circuit.specs.Name.{Name}
use Rattle.flat_circuit.specs.Instances.{most_bits}
use Rattle.flat_circuit.specs.Builder.{Built, StandsAt, IsFirst, IsRuleBroken, has_name}
use Rattle.flat_circuit.specs.declared.instance.Instance.{Instance}
use Rattle.element_kinds.specs.declared.kind.Kind.{Kind}
use Rattle.element_kinds.specs.Kinds.{kind_of}
use Rattle.drawing_tree.specs.declared.drawing.CaseEntry.{CaseEntry}
use Rattle.drawing_tree.specs.declared.drawing.CaseStmt.{CaseStmt}
use Rattle.drawing_tree.specs.Tree.{Item, Zero, One, Named, Term, Connection, UseStatement, WireStatement, Statement, Use, Wire, If, For, Statements, nil, cons, Otherwise, no_else, else_, Assignment, Macro, Drawing}
use Rattle.drawing_tree.specs.EachPlace.{IsStatementAt, AreStatementsAt, IsOtherwiseAt, IsMacroAt, IsEntryAt, IsCaseAt, EachPlace}
use Rattle.drawing_tree.proofs.Every.{every_append, every_mapped, every_find, every_get}
use Rattle.macro_expander.specs.declared.primitive.Plan.{Plan}
use Rattle.macro_expander.specs.Named.{Where, On, Fixed, Bit, NamedInstance, State}
use Rattle.macro_expander.specs.Outcome.{Outcome, Gives, Fails, after, Judged, judged, gathered, each}
use Rattle.macro_expander.specs.Terms.{Bound, Scope, labelled, Joined, formal_of, net_text, valued, written_ends, numbers_of, formal_term, clashes, with_net, naming, net_bit, net_bits, meant, named_bits, item_bits, term_bits, has_width, terms_bits, joined, all_joined, wires_of}
use Rattle.macro_expander.specs.Primitives.{plan_of, inputs_fit, in_pin_order, is_least_first, width, width_in, instance_at, are_few, with_instance, adding, all_added, primitive_use, delay_between}
use Rattle.macro_expander.specs.Macros.{macro_of, given_to, inside_of, inner_path, bound_scope, inner_scope}
use Rattle.macro_expander.specs.Flat.{Act, with_wire, with_wires, wire_act, expanded, macro_use, use_act_of, use_act, most_statements, counted, is_zero, turn_act, statement_act, statements_act, otherwise_act, body_at, deepest, const_values, setting_of, top, nothing_yet, flat}
use Rattle.macro_expander.specs.Setting.{Setting}
use Rattle.macro_expander.specs.Loops.{binding, in_turn, loop_ends, values_between}
use Rattle.macro_expander.specs.Cases.{CaseBit, may_set, entry_bit, case_bits, with_case, cases_behind, most_cases, unless_many, cases_of}
use Rattle.macro_expander.specs.Numbered.{instance_of}
use Rattle.macro_expander.specs.Stands.{BreaksRule, IsStopOf}

-- ---- what holds of the places of a step

abbrev IsInstanceAt : (Place → Type 0) → NamedInstance → Type 0
IsInstanceAt P j = P j.place

abbrev IsStateAt : (Place → Type 0) → State → Type 0
IsStateAt P s = AllByRecursion (IsInstanceAt P) s.instances

abbrev IsOutcomeAt : (Place → Type 0) → {A : Type 0} → Outcome A → Type 0
IsOutcomeAt P (Gives a s) = IsStateAt P s
IsOutcomeAt P (Fails kind place) = P place

abbrev IsActAt : (Place → Type 0) → Act → Type 0
IsActAt P act = (scope : Scope) (s : State) → IsStateAt P s → IsOutcomeAt P (act scope s)

abbrev IsBodyAt : (Place → Type 0) → Option (Macro → Act) → Type 0
IsBodyAt P None = ⊤
IsBodyAt P (Some body) = (m : Macro) → IsMacroAt P m → IsActAt P (body m)

module _ (P : Place → Type 0) where
  -- ---- steps one after another

  after_at : {A B : Type 0} (o : Outcome A) (next : A → State → Outcome B) → IsOutcomeAt P o →
      ((a : A) (s : State) → IsStateAt P s → IsOutcomeAt P (next a s)) → IsOutcomeAt P (after o next)
  after_at (Gives a s) next h k = k a s h
  after_at (Fails kind place) next h k = h

  judged_at : {A B : Type 0} (j : Judged A) (place : Place) (next : A → Outcome B) → P place → ((a : A) → IsOutcomeAt P (next a)) → IsOutcomeAt P (judged j place next)
  judged_at (Ok a) place next p k = k a
  judged_at (Err kind) place next p k = p

  either_at : {A : Type 0} (b : Bool) (x y : Outcome A) → IsOutcomeAt P x → IsOutcomeAt P y → IsOutcomeAt P (if b then x else y)
  either_at true x y h k = h
  either_at false x y h k = k

  gathered_at : {X Y : Type 0} (step : X → State → Outcome (List Y)) → ((x : X) (s : State) → IsStateAt P s → IsOutcomeAt P (step x s)) →
      (ys : List Y) (xs : List X) (s : State) → IsStateAt P s → IsOutcomeAt P (gathered step ys xs s)
  gathered_at step k ys [] s h = h
  gathered_at step k ys (x ∷ xs) s h = after_at (step x s) (λ more s'. gathered step (ys ++ more) xs s') (k x s h) (λ more s' h'. gathered_at step k (ys ++ more) xs s' h')

  each_at : {X : Type 0} (step : X → State → Outcome (Unit {0})) →
      ((x : X) (s : State) → IsStateAt P s → IsOutcomeAt P (step x s)) → (xs : List X) (s : State) → IsStateAt P s → IsOutcomeAt P (each step xs s)
  each_at step k [] s h = h
  each_at step k (x ∷ xs) s h = after_at (step x s) (λ _ s'. each step xs s') (k x s h) (λ _ s' h'. each_at step k xs s' h')

  -- ---- names, terms and connections, at a place

  naming_at : (name : Name) (place : Place) (s : State) → P place → IsStateAt P s → IsOutcomeAt P (naming name place s)
  naming_at name place s p h =
      either_at (has_name s.names name) (Gives tt s) _ h
      (either_at (nat_lt (length s.names) most_bits) (Gives tt (with_net s name)) (Fails TooMany place) h p)

  net_bit_at : (text : List ℕ) (spec : AssertSpec) (place : Place) (i : ℕ) (s : State) → P place → IsStateAt P s → IsOutcomeAt P (net_bit text spec place i s)
  net_bit_at text spec place i s p h =
      either_at (clashes s.asserted text spec) (Fails AssertionClash place) _ p
      (after_at (naming (record { text = text; bit = i }) place s) _ (naming_at (record { text = text; bit = i }) place s p h) (λ _ s1 h1. h1))

  net_bits_at : (text : List ℕ) (spec : AssertSpec) (place : Place) (numbers : List ℕ) (s : State) → P place → IsStateAt P s → IsOutcomeAt P (net_bits text spec place numbers s)
  net_bits_at text spec place numbers s p h = gathered_at (net_bit text spec place) (λ i s' h'. net_bit_at text spec place i s' p h') [] numbers s h

  meant_at : (f : Option Bound) (text : List ℕ) (spec : AssertSpec) (ends : Option (ℤ × ℤ)) (place : Place) (s : State) →
      P place → IsStateAt P s → IsOutcomeAt P (meant f text spec ends place s)
  meant_at (Some f) text spec ends place s p h = judged_at (formal_term f.numbers f.bits spec ends) place _ p (λ bits. h)
  meant_at None text spec ends place s p h = judged_at (numbers_of ends) place _ p (λ numbers. net_bits_at text spec place numbers s p h)

  named_bits_at : (scope : Scope) (name : SignalName) (ends : Option (ℤ × ℤ)) (place : Place) (s : State) → P place → IsStateAt P s → IsOutcomeAt P (named_bits scope name ends place s)
  unfolding named_bits
  named_bits_at scope name ends place s p h = meant_at (formal_of scope.formals name) (net_text scope.path name) name.spec ends place s p h

  item_bits_at : (scope : Scope) (i : Item) (place : Place) (s : State) → P place → IsStateAt P s → IsOutcomeAt P (item_bits scope i place s)
  item_bits_at scope Zero place s p h = h
  item_bits_at scope One place s p h = h
  item_bits_at scope (Named name range) place s p h = judged_at (written_ends scope.env range) place _ p (λ ends. named_bits_at scope name ends place s p h)

  term_bits_at : (scope : Scope) (place : Place) (t : Term) (s : State) → P place → IsStateAt P s → IsOutcomeAt P (term_bits scope place t s)
  unfolding term_bits
  term_bits_at scope place t s p h = after_at (item_bits scope t.item place s) _ (item_bits_at scope t.item place s p h) (λ bits s1 h1. h1)

  joined_at : (scope : Scope) (place : Place) (c : Connection) (s : State) → P place → IsStateAt P s → IsOutcomeAt P (joined scope place c s)
  unfolding joined
  joined_at scope place c s p h =
      after_at (terms_bits scope place c.terms s) _
      (gathered_at (term_bits scope place) (λ t s' h'. term_bits_at scope place t s' p h') [] c.terms s h)
      (λ bits s1 h1. either_at (has_width bits) (Gives ((record { bits = bits; hold = c.hold }) ∷ []) s1) (Fails Width place) h1 p)

  all_joined_at : (scope : Scope) (place : Place) (cs : List Connection) (s : State) → P place → IsStateAt P s → IsOutcomeAt P (all_joined scope place cs s)
  unfolding all_joined
  all_joined_at scope place cs s p h = gathered_at (joined scope place) (λ c s' h'. joined_at scope place c s' p h') [] cs s h

  wires_of_at : (scope : Scope) (u : UseStatement) (s : State) → P u.place → IsStateAt P s → IsOutcomeAt P (wires_of scope u s)
  unfolding wires_of
  wires_of_at scope u s p h =
      after_at (all_joined scope u.place u.ins s) _ (all_joined_at scope u.place u.ins s p h) (λ ins s1 h1.
      after_at (all_joined scope u.place u.outs s1) _ (all_joined_at scope u.place u.outs s1 p h1) (λ outs s2 h2. h2))

  -- ---- the uses of primitives

  adding_at : (j : NamedInstance) (s : State) → P j.place → IsStateAt P s → IsOutcomeAt P (adding j s)
  adding_at j s p h =
      either_at (are_few (s.instances ++ j ∷ [])) (Gives tt (with_instance s j)) (Fails TooMany j.place)
      (every_append (IsInstanceAt P) s.instances (j ∷ []) h (p, tt)) p

  all_added_at : (path : List ℕ) (u : UseStatement) (kind : Kind) (plan : Plan) (n : ℕ) (ins outs : List Joined) (s : State) →
      P u.place → IsStateAt P s → IsOutcomeAt P (all_added path u kind plan n ins outs s)
  unfolding all_added
  all_added_at path u kind plan n ins outs s p h =
      each_at (λ k. adding (instance_at path u kind plan ins outs k)) (λ k s' h'. adding_at (instance_at path u kind plan ins outs k) s' p h') (range_with_len 0 n) s h

  primitive_use_at : (setting : Setting) (kind : Kind) (u : UseStatement) → P u.place →
      (scope : Scope) (s : State) → IsStateAt P s → IsOutcomeAt P (primitive_use setting kind scope u s)
  unfolding primitive_use
  primitive_use_at setting kind u p scope s h =
      judged_at (plan_of setting.ticks kind scope.env u) u.place _ p (λ plan.
      after_at (wires_of scope u s) _ (wires_of_at scope u s p h) (λ w s1 h1.
      let ins = in_pin_order (is_least_first setting.version) kind w.ins in
      either_at (inputs_fit kind (width_in kind w) (map width w.ins))
      (all_added (labelled scope u.label) u kind plan (width_in kind w) ins w.outs s1) (Fails Width u.place)
      (all_added_at (labelled scope u.label) u kind plan (width_in kind w) ins w.outs s1 p h1) p))

  -- ---- WIRE

  with_wire_at : (wire : Bounds) (t : Where) (s : State) → IsStateAt P s → IsStateAt P (with_wire wire t s)
  with_wire_at wire (On name) s h = h
  with_wire_at wire (Fixed one) s h = h

  with_wires_at : (wire : Bounds) (bits : List Bit) (s : State) → IsStateAt P s → IsStateAt P (with_wires wire bits s)
  with_wires_at wire [] s h = h
  with_wires_at wire (b ∷ bits) s h = with_wires_at wire bits (with_wire wire b.target s) (with_wire_at wire b.target s h)

  wire_act_at : (w : WireStatement) → P w.place → IsActAt P (wire_act w)
  unfolding wire_act
  wire_act_at w p scope s h =
      judged_at (written_ends scope.env w.range) w.place _ p (λ ends.
      judged_at (valued scope.env w.min) w.place _ p (λ min.
      judged_at (valued scope.env w.max) w.place _ p (λ max.
      after_at (named_bits scope w.name ends w.place s) _ (named_bits_at scope w.name ends w.place s p h) (λ bits s1 h1.
      judged_at (delay_between min max) w.place _ p (λ wire. with_wires_at wire bits s1 h1)))))

  -- ---- the uses of macros

  inner_scope_at : (consts : List Binding) (m : Macro) (given : List Binding) (scope : Scope) (u : UseStatement) (s : State) →
      P u.place → IsStateAt P s → IsOutcomeAt P (inner_scope consts m given scope u s)
  unfolding inner_scope
  inner_scope_at consts m given scope u s p h =
      judged_at (inside_of consts m given) u.place _ p (λ inside.
      after_at (wires_of scope u s) _ (wires_of_at scope u s p h) (λ w s1 h1.
      judged_at (bound_scope (inner_path scope u.label) inside w.ins w.outs) u.place _ p (λ inner. h1)))

  expanded_at : (setting : Setting) (body : Option (Macro → Act)) (m : Macro) (given : List Binding) (u : UseStatement) →
      IsBodyAt P body → IsMacroAt P m → P u.place → IsActAt P (expanded setting body m given u)
  expanded_at setting None m given u b a p scope s h = p
  expanded_at setting (Some body) m given u b a p scope s h =
      after_at (inner_scope setting.consts m given scope u s) _ (inner_scope_at setting.consts m given scope u s p h) (λ inner s1 h1. b m a inner s1 h1)

  macro_use_at : (setting : Setting) (body : Option (Macro → Act)) (found : Option Macro) (u : UseStatement) →
      IsBodyAt P body → IfSome found (IsMacroAt P) → P u.place → IsActAt P (macro_use setting body found u)
  macro_use_at setting body None u b a p scope s h = p
  macro_use_at setting body (Some m) u b a p scope s h = judged_at (given_to m scope.env u) u.place _ p (λ given. expanded_at setting body m given u b a p scope s h)

  module _ (setting : Setting) (ms : AllByRecursion (IsMacroAt P) setting.macros) where
    use_act_of_at : (found : Option Kind) (body : Option (Macro → Act)) (u : UseStatement) → IsBodyAt P body →
        P u.place → IsActAt P (use_act_of found setting body u)
    use_act_of_at (Some kind) body u b p scope s h = primitive_use_at setting kind u p scope s h
    use_act_of_at None body u b p scope s h =
        macro_use_at setting body (macro_of u.kind setting.macros) u b
        (every_find (IsMacroAt P) _ setting.macros ms) p scope s h

    use_act_at : (body : Option (Macro → Act)) (u : UseStatement) → IsBodyAt P body → P u.place → IsActAt P (use_act setting body u)
    unfolding use_act
    use_act_at body u b p scope s h = use_act_of_at (kind_of u.kind) body u b p scope s h

    -- ---- statements

    counted_at : (place : Place) (act : Act) → P place → IsActAt P act → IsActAt P (counted place act)
    counted_at place act p k scope s h =
        either_at (nat_lt s.statements most_statements) (act scope (record s { statements = s.statements + 1 })) (Fails TooMany place)
        (k scope (record s { statements = s.statements + 1 }) h) p

    chosen_at : (b : Bool) (x y : Act) → IsActAt P x → IsActAt P y → IsActAt P (if b then x else y)
    chosen_at true x y h k = h
    chosen_at false x y h k = k

    turn_at : (var : List ℕ) (place : Place) (body : Act) → P place → IsActAt P body → (v : ℤ) → IsActAt P (turn_act var place body v)
    turn_at var place body p k v scope s h = counted_at place (λ around. body (in_turn var v around)) p (λ around s1 h1. k (in_turn var v around) s1 h1) scope s h

    mutual
      statement_at : (body : Option (Macro → Act)) (s : Statement) → IsBodyAt P body → IsStatementAt P s → IsActAt P (statement_act setting body s)
      statement_at body (Use u) b a = counted_at u.place (use_act setting body u) a.place (use_act_at body u b a.place)
      statement_at body (Wire w) b a = counted_at w.place (wire_act w) a (wire_act_at w a)
      statement_at body (If test taken other place) b a =
          let yes = statements_at body taken b a.1 in
          let no = otherwise_at body other b a.2 in
          counted_at place _ a.0 (λ scope s h.
          judged_at (valued scope.env test) place _ a.0
          (λ v. chosen_at (is_zero v) (otherwise_act setting body other)
          (statements_act setting body taken) no yes scope s h))
      statement_at body (For var first last ss place) b a =
          counted_at place _ a.0 (λ scope s h.
          judged_at (loop_ends scope.env first last) place _ a.0 (λ ends.
          each_at (λ v. turn_act var place (statements_act setting body ss) v scope)
          (λ v s1 h1. turn_at var place (statements_act setting body ss) a.0 (statements_at body ss b a.1) v scope s1 h1)
          (values_between ends.0 ends.1) s h))

      statements_at : (body : Option (Macro → Act)) (ss : Statements) → IsBodyAt P body → AreStatementsAt P ss → IsActAt P (statements_act setting body ss)
      statements_at body nil b a scope s h = h
      statements_at body (cons first others) b a scope s h =
          after_at (statement_act setting body first scope s) _ (statement_at body first b a.0 scope s h) (λ _ s1 h1. statements_at body others b a.1 scope s1 h1)

      otherwise_at : (body : Option (Macro → Act)) (o : Otherwise) → IsBodyAt P body → IsOtherwiseAt P o → IsActAt P (otherwise_act setting body o)
      otherwise_at body no_else b a scope s h = h
      otherwise_at body (else_ ss) b a scope s h = statements_at body ss b a scope s h

    bodies_at : (n : ℕ) → IsBodyAt P (body_at setting n)
    unfolding body_at
    bodies_at zero = tt
    bodies_at (suc n) = λ m a. statements_at (body_at setting n) m.body (bodies_at n) a.body

  const_values_at : (known : List Binding) (cs : List Assignment) (places : List Place) (s : State) → AllByRecursion P places → IsStateAt P s →
      IsOutcomeAt P (const_values known cs places s)
  const_values_at known [] places s a h = h
  const_values_at known (c ∷ cs) [] s a h = h
  const_values_at known (c ∷ cs) (place ∷ places) s a h =
      judged_at (valued known c.value) place _ a.0 (λ v. const_values_at (known ++ binding c.name v ∷ []) cs places s a.1 h)

  flat_at : (d : Drawing) → EachPlace P d → IsOutcomeAt P (flat d)
  unfolding flat
  flat_at d a =
      after_at (const_values [] d.consts d.const_places (nothing_yet d.header)) _
      (const_values_at [] d.consts d.const_places (nothing_yet d.header) a.consts tt)
      (λ consts s h.
      let setting = setting_of d consts in
      statements_at setting a.macros (body_at setting deepest) d.body (bodies_at setting a.macros deepest) a.body (top consts) s h)

  -- ---- rules of the circuit

  stands_at : (found : Option Instance) (at : Place) → IfSome found (λ (j : Instance). P j.place) → StandsAt found at → P at
  stands_at None at a e = absurd e
  stands_at (Some j) at a e = subst P (sym e) a

  first_at : (Q : ℕ → Type 0) (js : List Instance) (at : Place) → AllByRecursion (λ (j : Instance). P j.place) js → IsFirst Q js at → P at
  first_at Q js at a first = stands_at (slice_get js first.k) at (every_get (λ (j : Instance). P j.place) js first.k a) first.stands

  rule_at : (b : Built) (at : Place) (kind : RefusalKind) → AllByRecursion (λ (j : Instance). P j.place) b.instances → IsRuleBroken b at kind → P at
  rule_at b at TwoDrivers a broken = first_at _ b.instances at a broken
  rule_at b at ZeroLoop a broken = first_at _ b.instances at a broken.1
  rule_at b at _ a broken = absurd broken

  breaks_at : (d : Drawing) (r : Refusal) → EachPlace P d → BreaksRule d (Refused r) → P r.place
  breaks_at d r a breaks =
      let named : IsStateAt P breaks.state = subst (IsOutcomeAt P) breaks.expanded (flat_at d a) in
      let numbered : AllByRecursion (IsInstanceAt P) (map (instance_of breaks.numbered.names) breaks.numbered.instances) =
      subst (AllByRecursion (IsInstanceAt P)) (sym breaks.is_numbered.instances) named in
      rule_at breaks.numbered r.place r.kind (every_mapped (IsInstanceAt P) (instance_of breaks.numbered.names) breaks.numbered.instances numbered) breaks.broken

  -- If expansion is refused, or a rule is broken, something of the drawing stands.
  pub stop_at : (d : Drawing) (r : Refusal) → EachPlace P d → IsStopOf d (Refused r) → P r.place
  stop_at d r a (inl e) = subst (IsOutcomeAt P) e (flat_at d a)
  stop_at d r a (inr breaks) = breaks_at d r a breaks

  -- ---- cases

  abbrev IsResultAt : {A : Type 0} → Result A Refusal → Type 0
  IsResultAt (Ok x) = ⊤
  IsResultAt (Err r) = P r.place

  one_result_at : {A : Type 0} (b : Bool) (x y : Result A Refusal) → IsResultAt x → IsResultAt y → IsResultAt (if b then x else y)
  one_result_at true x y h k = h
  one_result_at false x y h k = k

  case_bits_at : (s : State) (before : List CaseBit) (es : List CaseEntry) → AllByRecursion (IsEntryAt P) es → IsResultAt (case_bits s before es)
  case_bits_at s before [] a = tt
  case_bits_at s before (e ∷ es) a = one_result_at (may_set s before e) _ _ (case_bits_at s (before ++ entry_bit e ∷ []) es a.1) a.0

  with_case_at : (bits : Result (List CaseBit) Refusal) (next : List CaseBit → Result (List (List CaseBit)) Refusal) →
      IsResultAt bits → ((found : List CaseBit) → IsResultAt (next found)) → IsResultAt (with_case bits next)
  with_case_at (Ok bits) next h k = k bits
  with_case_at (Err r) next h k = h

  cases_behind_at : (s : State) (before : List (List CaseBit)) (cs : List CaseStmt) → AllByRecursion (IsCaseAt P) cs → IsResultAt (cases_behind s before cs)
  cases_behind_at s before [] a = tt
  cases_behind_at s before (c ∷ cs) a = with_case_at (case_bits s [] c.entries) _ (case_bits_at s [] c.entries a.0.entries) (λ bits. cases_behind_at s (before ++ bits ∷ []) cs a.1)

  unless_many_at : (one_more : Option CaseStmt) (cases : Result (List (List CaseBit)) Refusal) → IfSome one_more (IsCaseAt P) → IsResultAt cases → IsResultAt (unless_many one_more cases)
  unless_many_at (Some c) cases a h = a.place
  unless_many_at None cases a h = h

  all_cases_at : (s : State) (d : Drawing) → EachPlace P d → IsResultAt (cases_of s d)
  unfolding cases_of
  all_cases_at s d a = unless_many_at (slice_get d.cases most_cases) _ (every_get (IsCaseAt P) d.cases most_cases a.cases) (cases_behind_at s [] d.cases a.cases)

  -- If its cases are refused, too.
  pub cases_at : (s : State) (d : Drawing) (r : Refusal) → EachPlace P d → cases_of s d ≡ Err r → P r.place
  cases_at s d r a e = subst IsResultAt e (all_cases_at s d a)
