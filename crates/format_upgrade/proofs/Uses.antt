-- Uses that are alike, places aside, and uses of multiplexers with their selects in the other order.
use Rattle.std.proofs.Common.{◌≡◌, ℕ, ◌∙◌, Bool, true, false, cond, ◌&&◌, if◌then◌else◌, List, [], ◌∷◌, ◌++◌, length, map, take, drop, Some, Ok, refl, ap, sym, subst, arith}
use Rattle.std.specs.Prelude.{nat_le, reverse, count_by, sum_by}
use Rattle.std.specs.List.{list_all, range_with_len}
use Rattle.std.proofs.lemmas.Bool.{and_parts, leb-true}
use Rattle.std.proofs.lemmas.List.{length-map, length-append, length-reverse, take-append-drop, reverse-append}
use Rattle.std.proofs.lemmas.List.Sums.{sum_by-append, sum_by_push, sum_by-take-drop}
use Rattle.scald_base.specs.declared.refusal.Place.{Place}
use Rattle.scald_base.specs.declared.refusal.RefusalKind.TheVariants.{BadParameter, Bounds, PinCount, Width}
use Rattle.drawing_tree.specs.declared.environment.Binding.{Binding}
use Rattle.element_kinds.specs.declared.kind.Kind.{Kind}
use Rattle.element_kinds.specs.declared.kind.Kind.TheVariants.{Mux2, Mux4, Mux8}
use Rattle.drawing_tree.specs.Tree.{Connection, UseStatement}
use Rattle.drawing_tree.specs.Places.{unplaced_connection}
use Rattle.macro_expander.specs.declared.primitive.Plan.{Plan}
use Rattle.macro_expander.specs.Named.{State}
use Rattle.macro_expander.specs.Outcome.{Fails}
use Rattle.macro_expander.specs.Setting.{Setting}
use Rattle.macro_expander.specs.Terms.{Scope, labelled, Joined, Wires, all_joined, wires_of}
use Rattle.macro_expander.specs.Primitives.{are_of, takes, fall_of, written_delay, values_given, delays_of, takes_delays, limits_of, are_connected, plan_of, marks}
use Rattle.macro_expander.specs.Primitives.{width, width_in, can_have, inputs_fit, first_reversed, is_least_first, in_pin_order, instance_at, adding, all_added, primitive_use}
use Rattle.macro_expander.proofs.Lists.{count_by_map}
use Rattle.macro_expander.proofs.Facts.{demanded_ok, judging_ok}
use Rattle.format_upgrade.specs.Upgraded.{turned_selects}
use Rattle.format_upgrade.proofs.Exchange.{AreAlike}
use Rattle.format_upgrade.proofs.Following.{FollowsAs, Follows, gives_alike, after_follows_as, judged_follows, if_follows, each_follows, adding_follows}
use Rattle.format_upgrade.proofs.Turning.{two_turned, three_turned, joined_follow, joined_unplaced}

-- ---- lists of which some are reversed

sum_reversed : {X : Type 0} (f : X → ℕ) (xs : List X) → sum_by f (reverse xs) ≡ sum_by f xs
sum_reversed f [] = refl
sum_reversed f (x ∷ xs) =
    let turned : sum_by f (reverse (x ∷ xs)) ≡ sum_by f (reverse xs ++ x ∷ []) = ap (sum_by f) (reverse-append (x ∷ []) xs) in
    omega (arith, turned, sum_by_push f (reverse xs) x, sum_reversed f xs, sum_by-append f (x ∷ []) xs, sum_by_push f [] x)

sum_first_reversed : {X : Type 0} (f : X → ℕ) (n : ℕ) (xs : List X) → sum_by f (first_reversed n xs) ≡ sum_by f xs
sum_first_reversed f n xs =
    omega (arith, sum_by-append f (reverse (take n xs)) (drop n xs), sum_reversed f (take n xs), sum_by-take-drop f xs n)

long_reversed : {X : Type 0} (n : ℕ) (xs : List X) → length (first_reversed n xs) ≡ length xs
long_reversed n xs =
    omega (arith, length-append (reverse (take n xs)) (drop n xs), length-reverse (take n xs), length-append (take n xs) (drop n xs), ap length (take-append-drop n xs))

-- ---- what is counted of connections

pub marks_unplaced : (cs ds : List Connection) → map unplaced_connection ds ≡ map unplaced_connection cs → marks ds ≡ marks cs
marks_unplaced cs ds h =
    sym (count_by_map (λ (c : Connection). c.hold) unplaced_connection ds)
    ∙ ap (λ (xs : List Connection). count_by (λ c. c.hold) xs) h
    ∙ count_by_map (λ (c : Connection). c.hold) unplaced_connection cs

pub long_unplaced : (cs ds : List Connection) → map unplaced_connection ds ≡ map unplaced_connection cs → length ds ≡ length cs
long_unplaced cs ds h = sym (length-map ds unplaced_connection) ∙ ap length h ∙ length-map cs unplaced_connection

marks_reversed : (n : ℕ) (cs : List Connection) → marks (first_reversed n cs) ≡ marks cs
marks_reversed n cs = sum_first_reversed (λ (c : Connection). cond c.hold 1 0) n cs

-- ---- uses that are alike but for their connections

-- The second says the same, with connections that are as many and as often marked.
pub record SaysSame (u v : UseStatement) : Type 0 where
  pub label : v.label ≡ u.label
  pub delay : v.delay ≡ u.delay
  pub fall : v.fall ≡ u.fall
  pub params : v.params ≡ u.params
  pub ins : length v.ins ≡ length u.ins
  pub marked_ins : marks v.ins ≡ marks u.ins
  pub outs : map unplaced_connection v.outs ≡ map unplaced_connection u.outs

plan_same : (ticks : ℕ) (kind : Kind) (env : List Binding) (u v : UseStatement) → SaysSame u v → plan_of ticks kind env v ≡ plan_of ticks kind env u
unfolding plan_of
plan_same ticks kind env u v h =
    rw (h.delay, h.fall, h.params, h.ins, h.marked_ins, long_unplaced u.outs v.outs h.outs, marks_unplaced u.outs v.outs h.outs) refl

-- a use with a plan has the connections of its kind
connected : (ticks : ℕ) (kind : Kind) (env : List Binding) (u : UseStatement) (plan : Plan) → plan_of ticks kind env u ≡ Ok plan → are_connected kind u ≡ true
unfolding plan_of
connected ticks kind env u plan e =
    let a = demanded_ok (takes_delays kind u) Bounds _ plan e in
    let b = demanded_ok (are_of (takes kind) u.params) BadParameter _ plan a.1 in
    let ends = judging_ok (written_delay env u.delay) _ plan b.1 in
    let fall = judging_ok (written_delay env (fall_of u)) _ plan ends.goes_on in
    let given = judging_ok (values_given env u.params) _ plan fall.goes_on in
    let delays = judging_ok (delays_of ends.value fall.value) _ plan given.goes_on in
    let limits = judging_ok (limits_of ticks kind given.value) _ plan delays.goes_on in
    (demanded_ok (are_connected kind u) PinCount _ plan limits.goes_on).0

module _ (scope : Scope) (at place : Place) (s t : State) (alike : AreAlike s t) where
  pub connections_follow : (cs ds : List Connection) → map unplaced_connection ds ≡ map unplaced_connection cs →
      Follows (all_joined scope at cs s) (all_joined scope place ds t)
  connections_follow cs ds h =
      subst (λ o. Follows (all_joined scope at cs s) o) (sym (joined_unplaced scope place cs ds t h)) (joined_follow scope at place s t alike cs)

added_follow : (path also : List ℕ) (u v : UseStatement) (kind : Kind) (plan : Plan) (n : ℕ) (ins outs : List Joined) (s t : State) → also ≡ path → AreAlike s t →
    Follows (all_added path u kind plan n ins outs s) (all_added also v kind plan n ins outs t)
unfolding all_added
added_follow path also u v kind plan n ins outs s t same alike =
    each_follows (λ k. adding (instance_at path u kind plan ins outs k)) (λ k. adding (instance_at also v kind plan ins outs k))
    (λ k s1 t1 h. adding_follows (instance_at path u kind plan ins outs k) (instance_at also v kind plan ins outs k) (rw same refl) s1 t1 h) (range_with_len 0 n) s t alike

-- what stands in the place of the wires that a use has
abbrev turned_wires : (List Joined → List Joined) → Wires → Wires
turned_wires turn w = record w { ins = turn w.ins }

module _ (S T : Setting) (ticks : T.ticks ≡ S.ticks) (kind : Kind) (scope : Scope) (u v : UseStatement) (says : SaysSame u v) (turn : List Joined → List Joined)
    (fit : (w : Wires) → inputs_fit kind (width_in kind (turned_wires turn w)) (map width (turn w.ins)) ≡ inputs_fit kind (width_in kind w) (map width w.ins))
    (wide : (w : Wires) → width_in kind (turned_wires turn w) ≡ width_in kind w)
    (back : (js : List Joined) → in_pin_order (is_least_first T.version) kind (turn js) ≡ in_pin_order (is_least_first S.version) kind js)
    (s t : State) (alike : AreAlike s t) where
  labels : labelled scope v.label ≡ labelled scope u.label
  labels = ap (labelled scope) says.label

  made_follow : (plan : Plan) (w : Wires) (s1 t1 : State) → AreAlike s1 t1 →
      Follows
      (if inputs_fit kind (width_in kind w) (map width w.ins) then
      all_added (labelled scope u.label) u kind plan (width_in kind w) (in_pin_order (is_least_first S.version) kind w.ins) w.outs s1 else Fails Width u.place)
      (if inputs_fit kind (width_in kind (turned_wires turn w)) (map width (turn w.ins)) then
      all_added (labelled scope v.label) v kind plan (width_in kind (turned_wires turn w)) (in_pin_order (is_least_first T.version) kind (turn w.ins)) w.outs t1
      else Fails Width v.place)
  made_follow plan w s1 t1 h =
      if_follows _ _ _ _ _ _ (fit w)
      (subst
      (λ (x : ℕ × List Joined). Follows
      (all_added (labelled scope u.label) u kind plan (width_in kind w) (in_pin_order (is_least_first S.version) kind w.ins) w.outs s1)
      (all_added (labelled scope v.label) v kind plan x.0 x.1 w.outs t1))
      (λ i. (sym (wide w) i, sym (back w.ins) i))
      (added_follow (labelled scope u.label) (labelled scope v.label) u v kind plan (width_in kind w)
      (in_pin_order (is_least_first S.version) kind w.ins) w.outs s1 t1 labels h))
      tt

  -- A use follows another if its inputs do: turned so, and turned back by the order of its pins.
  primitive_by : ((plan : Plan) → plan_of S.ticks kind scope.env u ≡ Ok plan → FollowsAs turn (all_joined scope u.place u.ins s) (all_joined scope v.place v.ins t)) →
      Follows (primitive_use S kind scope u s) (primitive_use T kind scope v t)
  unfolding primitive_use wires_of
  primitive_by inputs =
      judged_follows (plan_of S.ticks kind scope.env u) (plan_of T.ticks kind scope.env v) u.place v.place _ _
      (rw ticks (plan_same S.ticks kind scope.env u v says))
      (λ plan e. after_follows_as (turned_wires turn) (λ x. x) _ _ _ _
      (after_follows_as turn (turned_wires turn) (all_joined scope u.place u.ins s) (all_joined scope v.place v.ins t) _ _ (inputs plan e)
      (λ ins s1 t1 h1. after_follows_as (λ x. x) (turned_wires turn) (all_joined scope u.place u.outs s1) (all_joined scope v.place v.outs t1) _ _
      (connections_follow scope u.place v.place s1 t1 h1 u.outs v.outs says.outs)
      (λ outs s2 t2 h2. gives_alike _ s2 t2 h2)))
      (λ w s3 t3 h3. made_follow plan w s3 t3 h3))

-- ---- in the same order

module _ (S T : Setting) (ticks : T.ticks ≡ S.ticks) (kind : Kind) (scope : Scope) (u v : UseStatement) (says : SaysSame u v)
    (ins : map unplaced_connection v.ins ≡ map unplaced_connection u.ins)
    (s t : State) (alike : AreAlike s t) where
  pub primitive_follows : ((js : List Joined) → in_pin_order (is_least_first T.version) kind js ≡ in_pin_order (is_least_first S.version) kind js) →
      Follows (primitive_use S kind scope u s) (primitive_use T kind scope v t)
  primitive_follows order =
      primitive_by S T ticks kind scope u v says (λ js. js) (λ w. refl) (λ w. refl) order s t alike
      (λ plan e. connections_follow scope u.place v.place s t alike u.ins v.ins ins)

-- ---- multiplexers in the other order

all_turned : (p : ℕ → Bool) (a b : ℕ) (rest : List ℕ) → list_all p (b ∷ a ∷ rest) ≡ list_all p (a ∷ b ∷ rest)
all_turned p a b rest = by (p a) (p b)
  where
    by : (x y : Bool) → (y && (x && list_all p rest)) ≡ (x && (y && list_all p rest))
    by true true = refl
    by true false = refl
    by false true = refl
    by false false = refl

fit_two : (n : ℕ) (js : List Joined) → list_all (can_have n) (map width (first_reversed 2 js)) ≡ list_all (can_have n) (map width js)
fit_two n [] = refl
fit_two n (i ∷ []) = refl
fit_two n (i ∷ j ∷ js) = all_turned (can_have n) (width i) (width j) (map width js)

fit_three : (n : ℕ) (js : List Joined) → list_all (can_have n) (map width (first_reversed 3 js)) ≡ list_all (can_have n) (map width js)
fit_three n [] = refl
fit_three n (i ∷ []) = refl
fit_three n (i ∷ j ∷ []) = all_turned (can_have n) (width i) (width j) []
fit_three n (i ∷ j ∷ k ∷ js) =
    all_turned (can_have n) (width j) (width k) (width i ∷ map width js)
    ∙ ap (λ b. can_have n (width j) && b) (all_turned (can_have n) (width i) (width k) (map width js))
    ∙ all_turned (can_have n) (width i) (width j) (width k ∷ map width js)

two_back : (js : List Joined) → first_reversed 2 (first_reversed 2 js) ≡ js
two_back [] = refl
two_back (i ∷ []) = refl
two_back (i ∷ j ∷ js) = refl

three_back : (js : List Joined) → first_reversed 3 (first_reversed 3 js) ≡ js
three_back [] = refl
three_back (i ∷ []) = refl
three_back (i ∷ j ∷ []) = refl
three_back (i ∷ j ∷ k ∷ js) = refl

-- so many connections, exactly
exactly : (n k : ℕ) (rest : Bool) → ((nat_le n k && nat_le k n) && rest) ≡ true → k ≡ n
exactly n k rest h =
    let both = and_parts (nat_le n k) (nat_le k n) (and_parts (nat_le n k && nat_le k n) rest h).0 in
    omega (arith, leb-true n k both.0, leb-true k n both.1)

module _ (S T : Setting) (ticks : T.ticks ≡ S.ticks) (first : is_least_first S.version ≡ false) (second : is_least_first T.version ≡ true)
    (scope : Scope) (u v : UseStatement) (says : SaysSame u v) (s t : State) (alike : AreAlike s t) where
  four_by : (cs : List Connection) → length cs ≡ 6 → map unplaced_connection v.ins ≡ map unplaced_connection (first_reversed 2 cs) →
      FollowsAs (λ js. first_reversed 2 js) (all_joined scope u.place cs s) (all_joined scope v.place v.ins t)
  four_by [] l h = absurd (omega (arith, l))
  four_by (a ∷ []) l h = absurd (omega (arith, l))
  four_by (a ∷ b ∷ rest) l h =
      subst (λ o. FollowsAs (λ js. first_reversed 2 js) (all_joined scope u.place (a ∷ b ∷ rest) s) o)
      (sym (joined_unplaced scope v.place (b ∷ a ∷ rest) v.ins t h)) (two_turned scope u.place v.place s t alike a b rest)

  eight_by : (cs : List Connection) → length cs ≡ 11 → map unplaced_connection v.ins ≡ map unplaced_connection (first_reversed 3 cs) →
      FollowsAs (λ js. first_reversed 3 js) (all_joined scope u.place cs s) (all_joined scope v.place v.ins t)
  eight_by [] l h = absurd (omega (arith, l))
  eight_by (a ∷ []) l h = absurd (omega (arith, l))
  eight_by (a ∷ b ∷ []) l h = absurd (omega (arith, l))
  eight_by (a ∷ b ∷ c ∷ rest) l h =
      subst (λ o. FollowsAs (λ js. first_reversed 3 js) (all_joined scope u.place (a ∷ b ∷ c ∷ rest) s) o)
      (sym (joined_unplaced scope v.place (c ∷ b ∷ a ∷ rest) v.ins t h)) (three_turned scope u.place v.place s t alike a b c rest)

  mux4_follows : map unplaced_connection v.ins ≡ map unplaced_connection (first_reversed (turned_selects (Some Mux4) (length u.ins)) u.ins) →
      Follows (primitive_use S Mux4 scope u s) (primitive_use T Mux4 scope v t)
  mux4_follows h =
      primitive_by S T ticks Mux4 scope u v says (λ js. first_reversed 2 js) (λ w. fit_two (width_in Mux4 w) w.ins) (λ w. refl)
      (λ js. rw (first, second) (two_back js)) s t alike
      (λ plan e.
      let many : length u.ins ≡ 6 = exactly 6 (length u.ins) _ (connected S.ticks Mux4 scope.env u plan e) in
      four_by u.ins many (let exact : map unplaced_connection v.ins ≡ map unplaced_connection (first_reversed 2 u.ins) = rw many at h in exact))

  mux8_follows : map unplaced_connection v.ins ≡ map unplaced_connection (first_reversed (turned_selects (Some Mux8) (length u.ins)) u.ins) →
      Follows (primitive_use S Mux8 scope u s) (primitive_use T Mux8 scope v t)
  mux8_follows h =
      primitive_by S T ticks Mux8 scope u v says (λ js. first_reversed 3 js) (λ w. fit_three (width_in Mux8 w) w.ins) (λ w. refl)
      (λ js. rw (first, second) (three_back js)) s t alike
      (λ plan e.
      let many : length u.ins ≡ 11 = exactly 11 (length u.ins) _ (connected S.ticks Mux8 scope.env u plan e) in
      eight_by u.ins many (let exact : map unplaced_connection v.ins ≡ map unplaced_connection (first_reversed 3 u.ins) = rw many at h in exact))

  one_back : (js : List Joined) → first_reversed 1 js ≡ js
  one_back [] = refl
  one_back (j ∷ js) = refl

  -- A use in version 1 is followed by the use with its selects in the other order, in version 2.
  pub turned_follows : (kind : Kind) → map unplaced_connection v.ins ≡ map unplaced_connection (first_reversed (turned_selects (Some kind) (length u.ins)) u.ins) →
      Follows (primitive_use S kind scope u s) (primitive_use T kind scope v t)
  turned_follows Mux4 h = mux4_follows h
  turned_follows Mux8 h = mux8_follows h
  turned_follows Mux2 h = primitive_follows S T ticks Mux2 scope u v says h s t alike (λ js. rw (first, second) (one_back js))
  turned_follows kind h = primitive_follows S T ticks kind scope u v says h s t alike (λ js. rw (first, second) refl)

-- ---- what is said stays said

pub says_turned : (u v : UseStatement) → v.label ≡ u.label → v.delay ≡ u.delay → v.fall ≡ u.fall → v.params ≡ u.params →
    (n : ℕ) → map unplaced_connection v.ins ≡ map unplaced_connection (first_reversed n u.ins) → map unplaced_connection v.outs ≡ map unplaced_connection u.outs → SaysSame u v
says_turned u v label delay fall params n ins outs = record {
  label = label;
  delay = delay;
  fall = fall;
  params = params;
  ins = long_unplaced (first_reversed n u.ins) v.ins ins ∙ long_reversed n u.ins;
  marked_ins = marks_unplaced (first_reversed n u.ins) v.ins ins ∙ marks_reversed n u.ins;
  outs = outs;
}
