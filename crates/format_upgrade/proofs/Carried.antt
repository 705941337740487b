-- Drawings that are alike have flat circuits that are alike, if the first has one.
use Rattle.std.proofs.Common.{◌≡◌, ℕ, zero, suc, ◌+◌, ℤ, Bool, true, false, if◌then◌else◌, nat_lt, List, [], ◌∷◌, ◌++◌, length, map, Option, Some, None, refl, ap, sym, subst, arith}
use Rattle.std.specs.Prelude.{⊤}
use Rattle.scald_base.specs.Time.{period}
use Rattle.scald_base.specs.declared.refusal.Place.{Place}
use Rattle.drawing_tree.specs.declared.environment.Binding.{Binding}
use Rattle.element_kinds.specs.declared.kind.Kind.{Kind}
use Rattle.element_kinds.specs.Kinds.{kind_of}
use Rattle.drawing_tree.specs.Tree.{UseStatement, WireStatement, Statement, Use, Wire, If, For, Statements, nil, cons, Otherwise, no_else, else_, Assignment, Macro, Drawing}
use Rattle.drawing_tree.specs.Places.{unplaced_connection}
use Rattle.macro_expander.specs.Named.{State}
use Rattle.macro_expander.specs.Setting.{Setting}
use Rattle.macro_expander.specs.Terms.{Scope, valued, written_ends, named_bits, all_joined, wires_of}
use Rattle.macro_expander.specs.Primitives.{primitive_use, delay_between}
use Rattle.macro_expander.specs.Macros.{macro_of, given_to, inside_of, inner_path, bound_scope, inner_scope}
use Rattle.macro_expander.specs.Loops.{binding, in_turn, loop_ends, values_between}
use Rattle.macro_expander.specs.Flat.{Act, with_wires, wire_act, expanded, macro_use, use_act_of, use_act, most_statements, counted, is_zero}
use Rattle.macro_expander.specs.Flat.{turn_act, statement_act, statements_act, otherwise_act, body_at, deepest, const_values, top, nothing_yet, setting_of, flat}
use Rattle.format_upgrade.specs.Upgraded.{turned_selects}
use Rattle.format_upgrade.proofs.Sights.{Sight}
use Rattle.format_upgrade.proofs.Exchange.{AreAlike}
use Rattle.format_upgrade.proofs.Noting.{named_notes}
use Rattle.format_upgrade.proofs.Following.{Follows, gives_alike, after_follows, judged_follows, if_follows, each_follows, notes_follow, counted_alike, wires_alike}
use Rattle.format_upgrade.proofs.Uses.{SaysSame, says_turned, marks_unplaced, long_unplaced, connections_follow, primitive_follows, turned_follows}
use Rattle.format_upgrade.proofs.Like.{Way, Kept, Turned, AreVersions, IsUseLike, IsWireLike, IsLike}
use Rattle.format_upgrade.proofs.Like.{AreLike, IsElseLike, IsMacroLike, AreMacrosLike, IsDrawingLike, AreFoundLike, found_like}

abbrev ActFollows : Act → Act → Type 0
ActFollows f g = (scope : Scope) (s t : State) → AreAlike s t → Follows (f scope s) (g scope t)

-- ---- WIRE

wire_follows : (w x : WireStatement) → IsWireLike w x → ActFollows (wire_act w) (wire_act x)
unfolding wire_act
wire_follows w x like scope s t alike =
    judged_follows (written_ends scope.env w.range) (written_ends scope.env x.range) w.place x.place _ _ (ap (written_ends scope.env) like.range) (λ ends _.
    judged_follows (valued scope.env w.min) (valued scope.env x.min) w.place x.place _ _ (ap (valued scope.env) like.min) (λ min _.
    judged_follows (valued scope.env w.max) (valued scope.env x.max) w.place x.place _ _ (ap (valued scope.env) like.max) (λ max _.
    after_follows (named_bits scope w.name ends w.place s) (named_bits scope x.name ends x.place t) _ _
    (subst (λ n. Follows (named_bits scope w.name ends w.place s) (named_bits scope n ends x.place t)) (sym like.name)
    (notes_follow (λ place u. named_bits scope w.name ends place u) w.place x.place s t (λ bits u e. named_notes scope w.name ends w.place s bits u e) alike))
    (λ bits s1 t1 h1.
    judged_follows (delay_between min max) (delay_between min max) w.place x.place _ _ refl (λ wire _.
    gives_alike tt (with_wires wire bits s1) (with_wires wire bits t1) (wires_alike wire bits s1 t1 h1))))))

-- ---- the uses of macros

abbrev BodiesFollow : Way → Option (Macro → Act) → Option (Macro → Act) → Type 0
BodiesFollow way None None = ⊤
BodiesFollow way (Some f) (Some g) = (m n : Macro) → IsMacroLike way m n → ActFollows (f m) (g n)
BodiesFollow way _ _ = ⊥

module _ (way : Way) (m n : Macro) (like : IsMacroLike way m n) (u v : UseStatement) (says : SaysSame u v)
    (ins : map unplaced_connection v.ins ≡ map unplaced_connection u.ins) where
  given_same : (env : List Binding) → given_to n env v ≡ given_to m env u
  unfolding given_to
  given_same env =
      rw (says.delay, says.params, like.params, like.ins, like.outs, says.ins, says.marked_ins, long_unplaced u.outs v.outs says.outs, marks_unplaced u.outs v.outs says.outs) refl

  inside_same : (consts given : List Binding) → inside_of consts n given ≡ inside_of consts m given
  unfolding inside_of
  inside_same consts given = rw (like.params, like.ins, like.outs) refl

  inner_follows : (consts given : List Binding) (scope : Scope) (s t : State) → AreAlike s t →
      Follows (inner_scope consts m given scope u s) (inner_scope consts n given scope v t)
  unfolding inner_scope wires_of
  inner_follows consts given scope s t alike =
      judged_follows (inside_of consts m given) (inside_of consts n given) u.place v.place _ _ (inside_same consts given) (λ inside _.
      after_follows (wires_of scope u s) (wires_of scope v t) _ _
      (after_follows (all_joined scope u.place u.ins s) (all_joined scope v.place v.ins t) _ _ (connections_follow scope u.place v.place s t alike u.ins v.ins ins)
      (λ js s1 t1 h1. after_follows (all_joined scope u.place u.outs s1) (all_joined scope v.place v.outs t1) _ _
      (connections_follow scope u.place v.place s1 t1 h1 u.outs v.outs says.outs) (λ ks s2 t2 h2. gives_alike _ s2 t2 h2)))
      (λ w s3 t3 h3.
      judged_follows (bound_scope (inner_path scope u.label) inside w.ins w.outs) (bound_scope (inner_path scope v.label) inside w.ins w.outs) u.place v.place _ _
      (ap (λ label. bound_scope (inner_path scope label) inside w.ins w.outs) says.label) (λ inner _. gives_alike inner s3 t3 h3)))

module _ (way : Way) (S T : Setting) (versions : AreVersions way S.version T.version) (ticks : T.ticks ≡ S.ticks) (consts : T.consts ≡ S.consts)
    (macros : AreMacrosLike way S.macros T.macros) where
  expanded_follows : (f g : Option (Macro → Act)) (m n : Macro) (given : List Binding) (u v : UseStatement) → BodiesFollow way f g → IsMacroLike way m n → SaysSame u v →
      map unplaced_connection v.ins ≡ map unplaced_connection u.ins → ActFollows (expanded S f m given u) (expanded T g n given v)
  expanded_follows None g m n given u v bodies like says ins scope s t alike = tt
  expanded_follows (Some f) None m n given u v bodies like says ins scope s t alike = absurd bodies
  expanded_follows (Some f) (Some g) m n given u v bodies like says ins scope s t alike =
      after_follows (inner_scope S.consts m given scope u s) (inner_scope T.consts n given scope v t) _ _
      (subst (λ c. Follows (inner_scope S.consts m given scope u s) (inner_scope c n given scope v t)) (sym consts)
      (inner_follows way m n like u v says ins S.consts given scope s t alike))
      (λ inner s1 t1 h1. bodies m n like inner s1 t1 h1)

  macro_follows : (f g : Option (Macro → Act)) (found other : Option Macro) (u v : UseStatement) → BodiesFollow way f g → AreFoundLike way found other → SaysSame u v →
      map unplaced_connection v.ins ≡ map unplaced_connection u.ins → ActFollows (macro_use S f found u) (macro_use T g other v)
  macro_follows f g None other u v bodies like says ins scope s t alike = tt
  macro_follows f g (Some m) None u v bodies like says ins scope s t alike = absurd like
  macro_follows f g (Some m) (Some n) u v bodies like says ins scope s t alike =
      judged_follows (given_to m scope.env u) (given_to n scope.env v) u.place v.place _ _ (given_same way m n like u v says ins scope.env)
      (λ given _. expanded_follows f g m n given u v bodies like says ins scope s t alike)

  -- ---- uses

  says_by : (w : Way) (u v : UseStatement) → IsUseLike w u v → SaysSame u v
  says_by Kept u v like = says_turned u v like.label like.delay like.fall like.params 0 like.ins like.outs
  says_by Turned u v like =
      says_turned u v like.label like.delay like.fall like.params (turned_selects (kind_of u.kind) (length u.ins)) like.ins like.outs

  primitive_by : (w : Way) (kind : Kind) (u v : UseStatement) → AreVersions w S.version T.version → IsUseLike w u v → kind_of u.kind ≡ Some kind →
      ActFollows (λ scope s. primitive_use S kind scope u s) (λ scope s. primitive_use T kind scope v s)
  primitive_by Kept kind u v order like is scope s t alike =
      primitive_follows S T ticks kind scope u v (says_by Kept u v like) like.ins s t alike (λ js. rw order refl)
  primitive_by Turned kind u v order like is scope s t alike =
      turned_follows S T ticks order.0 order.1 scope u v (says_by Turned u v like) s t alike kind (rw is at like.ins)

  same_ins : (w : Way) (u v : UseStatement) → IsUseLike w u v → kind_of u.kind ≡ None → map unplaced_connection v.ins ≡ map unplaced_connection u.ins
  same_ins Kept u v like none = like.ins
  same_ins Turned u v like none = rw none at like.ins

  use_by : (found : Option Kind) (f g : Option (Macro → Act)) (u v : UseStatement) → BodiesFollow way f g → IsUseLike way u v → kind_of u.kind ≡ found →
      ActFollows (use_act_of found S f u) (use_act_of found T g v)
  use_by (Some kind) f g u v bodies like is scope s t alike = primitive_by way kind u v versions like is scope s t alike
  use_by None f g u v bodies like is scope s t alike =
      macro_follows f g (macro_of u.kind S.macros) (macro_of v.kind T.macros) u v bodies
      (subst (λ name. AreFoundLike way (macro_of u.kind S.macros) (macro_of name T.macros)) (sym like.kind) (found_like way u.kind S.macros T.macros macros))
      (says_by way u v like) (same_ins way u v like is) scope s t alike

  use_follows : (f g : Option (Macro → Act)) (u v : UseStatement) → BodiesFollow way f g → IsUseLike way u v → ActFollows (use_act S f u) (use_act T g v)
  unfolding use_act
  use_follows f g u v bodies like scope s t alike =
      subst (λ name. Follows (use_act_of (kind_of u.kind) S f u scope s) (use_act_of (kind_of name) T g v scope t)) (sym like.kind)
      (use_by (kind_of u.kind) f g u v bodies like refl scope s t alike)

  -- ---- statements

  counted_follows : (place at : Place) (f g : Act) → ActFollows f g → ActFollows (counted place f) (counted at g)
  counted_follows place at f g k scope s t alike =
      if_follows (nat_lt s.statements most_statements) (nat_lt t.statements most_statements) _ _ _ _
      (ap (λ (v : Sight). nat_lt v.statements most_statements) alike.same)
      (k scope (record s { statements = s.statements + 1 }) (record t { statements = t.statements + 1 }) (counted_alike s t alike)) tt

  turn_follows : (var name : List ℕ) (place at : Place) (f g : Act) → name ≡ var → ActFollows f g → (v : ℤ) → ActFollows (turn_act var place f v) (turn_act name at g v)
  turn_follows var name place at f g same k v scope s t alike =
      subst (λ x. Follows (turn_act var place f v scope s) (turn_act x at g v scope t)) (sym same)
      (counted_follows place at (λ around. f (in_turn var v around)) (λ around. g (in_turn var v around)) (λ around s1 t1 h. k (in_turn var v around) s1 t1 h) scope s t alike)

  chosen_follows : (b : Bool) (f g f' g' : Act) → ActFollows f f' → ActFollows g g' → ActFollows (if b then f else g) (if b then f' else g')
  chosen_follows true f g f' g' h k = h
  chosen_follows false f g f' g' h k = k

  mutual
    statement_follows : (f g : Option (Macro → Act)) (x y : Statement) → BodiesFollow way f g → IsLike way x y → ActFollows (statement_act S f x) (statement_act T g y)
    statement_follows f g (Use u) (Use v) b like = counted_follows u.place v.place (use_act S f u) (use_act T g v) (use_follows f g u v b like)
    statement_follows f g (Wire w) (Wire x) b like = counted_follows w.place x.place (wire_act w) (wire_act x) (wire_follows w x like)
    statement_follows f g (If test ss other place) (If again ts another at) b like =
        let yes = statements_follow f g ss ts b like.1 in
        let no = else_follows f g other another b like.2 in
        counted_follows place at _ _ (λ scope s t alike.
        judged_follows (valued scope.env test) (valued scope.env again) place at _ _ (ap (valued scope.env) like.0) (λ v _.
        chosen_follows (is_zero v) (otherwise_act S f other) (statements_act S f ss) (otherwise_act T g another) (statements_act T g ts) no yes scope s t alike))
    statement_follows f g (For var first last ss place) (For name from to ts at) b like =
        let body = statements_follow f g ss ts b like.3 in
        counted_follows place at _ _ (λ scope s t alike.
        judged_follows (loop_ends scope.env first last) (loop_ends scope.env from to) place at _ _ (rw (like.1, like.2) refl) (λ ends _.
        each_follows (λ v. turn_act var place (statements_act S f ss) v scope) (λ v. turn_act name at (statements_act T g ts) v scope)
        (λ v s1 t1 h1. turn_follows var name place at (statements_act S f ss) (statements_act T g ts) like.0 body v scope s1 t1 h1)
        (values_between ends.0 ends.1) s t alike))
    statement_follows f g _ _ b like = absurd like

    statements_follow : (f g : Option (Macro → Act)) (xs ys : Statements) → BodiesFollow way f g → AreLike way xs ys → ActFollows (statements_act S f xs) (statements_act T g ys)
    statements_follow f g nil nil b like scope s t alike = gives_alike tt s t alike
    statements_follow f g (cons x xs) (cons y ys) b like scope s t alike =
        after_follows (statement_act S f x scope s) (statement_act T g y scope t) _ _ (statement_follows f g x y b like.0 scope s t alike)
        (λ _ s1 t1 h1. statements_follow f g xs ys b like.1 scope s1 t1 h1)
    statements_follow f g _ _ b like scope s t alike = absurd like

    else_follows : (f g : Option (Macro → Act)) (x y : Otherwise) → BodiesFollow way f g → IsElseLike way x y → ActFollows (otherwise_act S f x) (otherwise_act T g y)
    else_follows f g no_else no_else b like scope s t alike = gives_alike tt s t alike
    else_follows f g (else_ xs) (else_ ys) b like scope s t alike = statements_follow f g xs ys b like scope s t alike
    else_follows f g _ _ b like scope s t alike = absurd like

  bodies_follow : (n : ℕ) → BodiesFollow way (body_at S n) (body_at T n)
  unfolding body_at
  bodies_follow zero = tt
  bodies_follow (suc n) = λ m k like. statements_follow (body_at S n) (body_at T n) m.body k.body (bodies_follow n) like.body

-- ---- constants

consts_follow : (known : List Binding) (cs : List Assignment) (places at : List Place) (s t : State) → length at ≡ length places → AreAlike s t →
    Follows (const_values known cs places s) (const_values known cs at t)
consts_follow known [] places at s t same alike = gives_alike known s t alike
consts_follow known (c ∷ cs) [] [] s t same alike = gives_alike known s t alike
consts_follow known (c ∷ cs) [] (q ∷ at) s t same alike = absurd (omega (arith, same))
consts_follow known (c ∷ cs) (p ∷ places) [] s t same alike = absurd (omega (arith, same))
consts_follow known (c ∷ cs) (p ∷ places) (q ∷ at) s t same alike =
    judged_follows (valued known c.value) (valued known c.value) p q _ _ refl
    (λ v _. consts_follow (known ++ binding c.name v ∷ []) cs places at s t (omega (arith, same)) alike)

-- ---- the whole

module _ (way : Way) (d e : Drawing) (like : IsDrawingLike way d e) where
  begun_alike : AreAlike (nothing_yet d.header) (nothing_yet e.header)
  begun_alike = record {
    first = record { bounded = refl; real = λ text. refl };
    second = record { bounded = refl; real = λ text. refl };
    same = rw like.header refl;
  }

  -- The flat circuit of a drawing is followed by that of one which is like it.
  pub flat_follows : Follows (flat d) (flat e)
  unfolding flat
  flat_follows =
      after_follows (const_values [] d.consts d.const_places (nothing_yet d.header)) (const_values [] e.consts e.const_places (nothing_yet e.header)) _ _
      (subst (λ cs. Follows (const_values [] d.consts d.const_places (nothing_yet d.header)) (const_values [] cs e.const_places (nothing_yet e.header))) (sym like.consts)
      (consts_follow [] d.consts d.const_places e.const_places (nothing_yet d.header) (nothing_yet e.header) like.places begun_alike))
      (λ consts s t alike.
      let S = setting_of d consts in
      let T = setting_of e consts in
      let ticks : T.ticks ≡ S.ticks = ap period like.header in
      statements_follow way S T like.versions ticks refl like.macros (body_at S deepest) (body_at T deepest) d.body e.body
      (bodies_follow way S T like.versions ticks refl like.macros deepest) like.body (top consts) s t alike)
