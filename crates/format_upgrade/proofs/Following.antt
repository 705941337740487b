-- Steps that give the same of circuits that are alike, wherever the first of them gives anything.
use Rattle.std.proofs.Common.{◌≡◌, ◌+◌, ◌∙◌, Bool, true, false, if◌then◌else◌, List, [], ◌∷◌, ◌++◌, length, map, Option, Some, None, Ok, Err, refl, ap, sym, subst, arith}
use Rattle.std.specs.Prelude.{⊤}
use Rattle.std.proofs.lemmas.List.{map_push}
use Rattle.scald_base.specs.Time.{Bounds}
use Rattle.scald_base.specs.declared.refusal.Place.{Place}
use Rattle.scald_base.specs.declared.refusal.RefusalKind.TheVariants.{TooMany}
use Rattle.flat_circuit.specs.Name.{Name}
use Rattle.flat_circuit.specs.Builder.{same_name}
use Rattle.flat_circuit.proofs.Tables.{same_name_is}
use Rattle.macro_expander.specs.Named.{Where, On, Fixed, Bit, NamedInstance, State}
use Rattle.macro_expander.specs.Outcome.{Outcome, Gives, Fails, after, Judged, judged, each}
use Rattle.macro_expander.specs.Primitives.{is_gate, is_checker, pin_count, are_few, with_instance, adding}
use Rattle.macro_expander.specs.Flat.{set_wire, with_wire, with_wires}
use Rattle.macro_expander.proofs.Lists.{count_by_map, sum_by_map}
use Rattle.format_upgrade.specs.SameCircuit.{unplaced_instance, wire_named}
use Rattle.format_upgrade.proofs.Sights.{Sight, sight, IsSound}
use Rattle.format_upgrade.proofs.Exchange.{AreAlike, same_name_turned, noted_alike}
use Rattle.format_upgrade.proofs.Noting.{Notes}

-- ---- outcomes

-- the same value, and a circuit that is like this one
pub record GivesAlike {A : Type 0} (a : A) (s : State) (o : Outcome A) : Type 0 where
  pub state : State
  pub is : o ≡ Gives a state
  pub alike : AreAlike s state

-- if the first gives something, the second gives what this makes of it
abbrev pub FollowsAs : {A B : Type 0} → (A → B) → Outcome A → Outcome B → Type 0
FollowsAs f (Gives a s) o = GivesAlike (f a) s o
FollowsAs f (Fails kind place) o = ⊤

abbrev pub Follows : {A : Type 0} → Outcome A → Outcome A → Type 0
Follows o p = FollowsAs (λ a. a) o p

pub gives_alike : {A : Type 0} (a : A) (s t : State) → AreAlike s t → GivesAlike a s (Gives a t)
gives_alike a s t h = record { state = t; is = refl; alike = h }

pub after_follows_as : {A B C D : Type 0} (v : A → B) (w : C → D) (o : Outcome A) (p : Outcome B) (f : A → State → Outcome C) (g : B → State → Outcome D) →
    FollowsAs v o p → ((a : A) (s t : State) → AreAlike s t → FollowsAs w (f a s) (g (v a) t)) → FollowsAs w (after o f) (after p g)
after_follows_as v w (Gives a s) p f g h k = subst (λ x. FollowsAs w (f a s) (after x g)) (sym h.is) (k a s h.state h.alike)
after_follows_as v w (Fails kind place) p f g h k = tt

pub after_follows : {A B : Type 0} (o p : Outcome A) (f g : A → State → Outcome B) → Follows o p →
    ((a : A) (s t : State) → AreAlike s t → Follows (f a s) (g a t)) → Follows (after o f) (after p g)
after_follows o p f g h k = after_follows_as (λ a. a) (λ b. b) o p f g h k

pub judged_follows : {A B : Type 0} (j k : Judged A) (at place : Place) (f g : A → Outcome B) → k ≡ j →
    ((a : A) → j ≡ Ok a → Follows (f a) (g a)) → Follows (judged j at f) (judged k place g)
judged_follows (Ok a) k at place f g e h = subst (λ x. Follows (f a) (judged x place g)) (sym e) (h a refl)
judged_follows (Err kind) k at place f g e h = tt

pub if_follows : {A : Type 0} (b c : Bool) (o p : Outcome A) (q r : Outcome A) → c ≡ b → Follows o q → Follows p r → Follows (if b then o else p) (if c then q else r)
if_follows true c o p q r e h k = rw e h
if_follows false c o p q r e h k = rw e k

pub each_follows : {X : Type 0} (f g : X → State → Outcome (Unit {0})) → ((x : X) (s t : State) → AreAlike s t → Follows (f x s) (g x t)) →
    (xs : List X) (s t : State) → AreAlike s t → Follows (each f xs s) (each g xs t)
each_follows f g k [] s t h = gives_alike tt s t h
each_follows f g k (x ∷ xs) s t h = after_follows (f x s) (g x t) _ _ (k x s t h) (λ _ s1 t1 h1. each_follows f g k xs s1 t1 h1)

-- What only makes notes follows itself, at any place.
pub notes_follow : {A : Type 0} (step : Place → State → Outcome A) (at place : Place) (s t : State) →
    ((a : A) (u : State) → step at s ≡ Gives a u → Notes step s a u) → AreAlike s t → Follows (step at s) (step place t)
notes_follow {A} step at place s t k h = by (step at s) refl
  where
    by : (o : Outcome A) → step at s ≡ o → Follows o (step place t)
    by (Gives a u) e =
        let n = k a u e in
        let m = noted_alike n.notes n.notes s t u (λ v. refl) h n.noted_is in
        record { state = m.state; is = n.does place t m.state m.is; alike = m.alike }
    by (Fails kind where_) e = tt

-- ---- statements that are counted

abbrev one_more : State → State
one_more s = record s { statements = s.statements + 1 }

pub counted_alike : (s t : State) → AreAlike s t → AreAlike (one_more s) (one_more t)
counted_alike s t h = record {
  first = record { bounded = h.first.bounded; real = h.first.real };
  second = record { bounded = h.second.bounded; real = h.second.real };
  same = ap (λ (v : Sight). let more : Sight = record v { statements = v.statements + 1 } in more) h.same;
}

-- ---- wires

-- the wire of a net, if that of another one is set
abbrev wire_set : Option Bounds → Bool → Bounds → Option Bounds
wire_set None same new = None
wire_set (Some w) true new = Some new
wire_set (Some w) false new = Some w

wire_set_other : (o : Option Bounds) (w : Bounds) → wire_set o false w ≡ o
wire_set_other None w = refl
wire_set_other (Some v) w = refl

set_named : (ns : List Name) (ws : List Bounds) (name : Name) (w : Bounds) (m : Name) →
    wire_named ns (set_wire ns ws name w) m ≡ wire_set (wire_named ns ws m) (same_name m name) w
set_named [] ws name w m = refl
set_named (n ∷ ns) [] name w m = refl
set_named (n ∷ ns) (v ∷ ws) name w m = by (same_name name n) refl (set_named ns ws name w m)
  where
    here : (c : Bool) → (if c then Some w else wire_named ns ws m) ≡ wire_set (if c then Some v else wire_named ns ws m) c w
    here true = refl
    here false = sym (wire_set_other (wire_named ns ws m) w)

    there : (c : Bool) → same_name m n ≡ c → same_name name n ≡ false → wire_named ns (set_wire ns ws name w) m ≡ wire_set (wire_named ns ws m) (same_name m name) w →
        (if c then Some v else wire_named ns (set_wire ns ws name w) m) ≡ wire_set (if c then Some v else wire_named ns ws m) (same_name m name) w
    there true e f h =
        let other : same_name m name ≡ false = subst (λ x. same_name x name ≡ false) (same_name_is m n e) (same_name_turned name n f) in
        rw other refl
    there false e f h = h

    by : (b : Bool) → same_name name n ≡ b → wire_named ns (set_wire ns ws name w) m ≡ wire_set (wire_named ns ws m) (same_name m name) w →
        wire_named (n ∷ ns) (if b then w ∷ ws else v ∷ set_wire ns ws name w) m ≡ wire_set (if same_name m n then Some v else wire_named ns ws m) (same_name m name) w
    by true e h =
        subst (λ x. (if same_name m n then Some w else wire_named ns ws m) ≡ wire_set (if same_name m n then Some v else wire_named ns ws m) (same_name m x) w)
        (same_name_is name n e) (here (same_name m n))
    by false e h = there (same_name m n) refl e h

set_long : (ns : List Name) (ws : List Bounds) (name : Name) (w : Bounds) → length (set_wire ns ws name w) ≡ length ws
set_long [] ws name w = refl
set_long (n ∷ ns) [] name w = refl
set_long (n ∷ ns) (v ∷ ws) name w = by (same_name name n) (set_long ns ws name w)
  where
    by : (b : Bool) → length (set_wire ns ws name w) ≡ length ws → length (if b then w ∷ ws else v ∷ set_wire ns ws name w) ≡ length (v ∷ ws)
    by true h = refl
    by false h = omega (arith, h)

module _ (wire : Bounds) where
  abbrev set_seen : Name → Sight → Sight
  set_seen name v = record v { wires = λ m. wire_set (v.wires m) (same_name m name) wire }

  set_sight : (name : Name) (s : State) → sight (with_wire wire (On name) s) ≡ set_seen name (sight s)
  set_sight name s = ap (λ (f : Name → Option Bounds). record (sight s) { wires = f }) (λ i m. set_named s.names s.wires name wire m i)

  set_sound : (name : Name) (s : State) → IsSound s → IsSound (with_wire wire (On name) s)
  set_sound name s h = record { bounded = set_long s.names s.wires name wire ∙ h.bounded; real = h.real }

  wire_alike : (target : Where) (s t : State) → AreAlike s t → AreAlike (with_wire wire target s) (with_wire wire target t)
  wire_alike (On name) s t h = record {
    first = set_sound name s h.first;
    second = set_sound name t h.second;
    same = set_sight name t ∙ ap (set_seen name) h.same ∙ sym (set_sight name s);
  }
  wire_alike (Fixed one) s t h = h

  pub wires_alike : (bits : List Bit) (s t : State) → AreAlike s t → AreAlike (with_wires wire bits s) (with_wires wire bits t)
  wires_alike [] s t h = h
  wires_alike (b ∷ bits) s t h = wires_alike bits (with_wire wire b.target s) (with_wire wire b.target t) (wire_alike b.target s t h)

-- ---- instances

few_unplaced : (js : List NamedInstance) → are_few (map unplaced_instance js) ≡ are_few js
few_unplaced js = rw (count_by_map is_gate unplaced_instance js, count_by_map is_checker unplaced_instance js, sum_by_map pin_count unplaced_instance js) refl

module _ (i j : NamedInstance) (same : unplaced_instance j ≡ unplaced_instance i) where
  all_unplaced : (is js : List NamedInstance) → map unplaced_instance js ≡ map unplaced_instance is →
      map unplaced_instance (js ++ j ∷ []) ≡ map unplaced_instance (is ++ i ∷ [])
  all_unplaced is js h = map_push unplaced_instance js j ∙ rw (h, same) refl ∙ sym (map_push unplaced_instance is i)

  few_same : (is js : List NamedInstance) → map unplaced_instance js ≡ map unplaced_instance is → are_few (js ++ j ∷ []) ≡ are_few (is ++ i ∷ [])
  few_same is js h = sym (few_unplaced (js ++ j ∷ [])) ∙ ap are_few (all_unplaced is js h) ∙ few_unplaced (is ++ i ∷ [])

  instance_alike : (s t : State) → AreAlike s t → AreAlike (with_instance s i) (with_instance t j)
  instance_alike s t h = record {
    first = record { bounded = h.first.bounded; real = h.first.real };
    second = record { bounded = h.second.bounded; real = h.second.real };
    same =
        ap (λ (js : List NamedInstance). record (sight t) { instances = js }) (all_unplaced s.instances t.instances (ap (λ v. v.instances) h.same))
        ∙ ap (λ (v : Sight). let more : Sight = record v { instances = map unplaced_instance (s.instances ++ i ∷ []) } in more) h.same;
  }

  -- one that differs in its place alone
  pub adding_follows : (s t : State) → AreAlike s t → Follows (adding i s) (adding j t)
  adding_follows s t h =
      if_follows (are_few (s.instances ++ i ∷ [])) (are_few (t.instances ++ j ∷ [])) (Gives tt (with_instance s i)) (Fails TooMany i.place)
      (Gives tt (with_instance t j)) (Fails TooMany j.place)
      (few_same s.instances t.instances (ap (λ v. v.instances) h.same))
      (gives_alike tt (with_instance s i) (with_instance t j) (instance_alike s t h)) tt
