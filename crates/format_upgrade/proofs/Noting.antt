-- What names and connections do to a circuit: some notes, whatever the circuit is.
use Rattle.std.proofs.Common.{◌≡◌, ℕ, ◌∙◌, ℤ, Bool, true, false, if◌then◌else◌, nat_lt, List, [], ◌∷◌, ◌++◌, length, map, Option, Some, None, Ok, Err, refl, ap, sym}
use Rattle.scald_base.specs.declared.assertion.AssertSpec.{AssertSpec}
use Rattle.scald_base.specs.declared.refusal.Place.{Place}
use Rattle.scald_base.specs.declared.refusal.RefusalKind.TheVariants.{AssertionClash, TooMany, Width}
use Rattle.assertion_syntax.specs.declared.name.SignalName.{SignalName}
use Rattle.flat_circuit.specs.Name.{Name}
use Rattle.flat_circuit.specs.Instances.{most_bits}
use Rattle.flat_circuit.specs.Builder.{has_name}
use Rattle.drawing_tree.specs.Tree.{Item, Zero, One, Named, Term, Connection}
use Rattle.macro_expander.specs.Named.{On, Bit, State}
use Rattle.macro_expander.specs.Outcome.{Outcome, Gives, Fails, after, Judged, judged, gathered}
use Rattle.macro_expander.specs.Terms.{Bound, Scope, Joined, plain, formal_of, net_text, written_ends, numbers_of, formal_term, clashes, with_net}
use Rattle.macro_expander.specs.Terms.{with_assertion, net_bit, net_bits, meant, named_bits, item_bits, turned_bit, term_bits, has_width, terms_bits, joined}
use Rattle.format_upgrade.proofs.Sights.{Note, Names, Asserts}
use Rattle.format_upgrade.proofs.Exchange.{behind, all_noted, noted_append}

-- A step at any place: what it gave of one circuit came of notes, and it gives the same wherever these are not refused.
pub record Notes {A : Type 0} (step : Place → State → Outcome A) (s : State) (a : A) (t : State) : Type 0 where
  pub notes : List Note
  pub noted_is : all_noted notes s ≡ Some t
  pub does : (at : Place) (u v : State) → all_noted notes u ≡ Some v → step at u ≡ Gives a v

-- ---- steps that end

pub record Parts {A B : Type 0} (o : Outcome A) (next : A → State → Outcome B) (b : B) (t : State) : Type 0 where
  pub value : A
  pub state : State
  pub first : o ≡ Gives value state
  pub rest : next value state ≡ Gives b t

pub parts_of : {A B : Type 0} (o : Outcome A) (next : A → State → Outcome B) (b : B) (t : State) → after o next ≡ Gives b t → Parts o next b t
parts_of (Gives a s) next b t h = record { value = a; state = s; first = refl; rest = h }
parts_of (Fails kind place) next b t h = absurd (cc)

-- ---- notes one after another

pub record NotedParts (xs ys : List Note) (s t : State) : Type 0 where
  pub state : State
  pub first : all_noted xs s ≡ Some state
  pub rest : all_noted ys state ≡ Some t

pub noted_parts : (xs ys : List Note) (s t : State) → all_noted (xs ++ ys) s ≡ Some t → NotedParts xs ys s t
noted_parts xs ys s t h = by (all_noted xs s) refl (sym (noted_append xs ys s) ∙ h)
  where
    by : (o : Option State) → all_noted xs s ≡ o → behind o (λ u. all_noted ys u) ≡ Some t → NotedParts xs ys s t
    by None e k = absurd (cc)
    by (Some u) e k = record { state = u; first = e; rest = k }

pub noted_both : (xs ys : List Note) (s u t : State) → all_noted xs s ≡ Some u → all_noted ys u ≡ Some t → all_noted (xs ++ ys) s ≡ Some t
noted_both xs ys s u t e f = noted_append xs ys s ∙ ap (λ o. behind o (λ w. all_noted ys w)) e ∙ f

-- ---- what steps are made of

-- it leaves the circuit as it is
still_notes : {A : Type 0} (a : A) (s t : State) (b : A) → Gives a s ≡ Gives b t → Notes (λ at u. Gives a u) s b t
still_notes a s t b h =
    let value : a ≡ b = cc in
    let state : s ≡ t = cc in
    record { notes = []; noted_is = ap Some state; does = λ at u v e. let is : u ≡ v = cc in rw (value, is) refl }

after_notes : {A B : Type 0} (step : Place → State → Outcome A) (next : A → Place → State → Outcome B) (at : Place) (s : State) (b : B) (t : State) →
    ((a : A) (u : State) → step at s ≡ Gives a u → Notes step s a u) →
    ((a : A) (u : State) → next a at u ≡ Gives b t → Notes (next a) u b t) →
    after (step at s) (λ a u. next a at u) ≡ Gives b t → Notes (λ place w. after (step place w) (λ a u. next a place u)) s b t
after_notes step next at s b t k l h =
    let p = parts_of (step at s) (λ a u. next a at u) b t h in
    let first = k p.value p.state p.first in
    let rest = l p.value p.state p.rest in
    record {
      notes = first.notes ++ rest.notes;
      noted_is = noted_both first.notes rest.notes s p.state t first.noted_is rest.noted_is;
      does = λ place u v e.
          let q = noted_parts first.notes rest.notes u v e in
          ap (λ o. after o (λ a w. next a place w)) (first.does place u q.state q.first) ∙ rest.does place q.state v q.rest;
    }

judged_notes : {A B : Type 0} (j : Judged A) (next : A → Place → State → Outcome B) (at : Place) (s : State) (b : B) (t : State) →
    ((a : A) → next a at s ≡ Gives b t → Notes (next a) s b t) →
    judged j at (λ a. next a at s) ≡ Gives b t → Notes (λ place w. judged j place (λ a. next a place w)) s b t
judged_notes (Ok a) next at s b t k h = k a h
judged_notes (Err kind) next at s b t k h = absurd (cc)

gathered_notes : {X Y : Type 0} (step : X → Place → State → Outcome (List Y)) (at : Place) →
    ((x : X) (s : State) (ys : List Y) (t : State) → step x at s ≡ Gives ys t → Notes (step x) s ys t) →
    (ys : List Y) (xs : List X) (s : State) (zs : List Y) (t : State) →
    gathered (λ x. step x at) ys xs s ≡ Gives zs t → Notes (λ place w. gathered (λ x. step x place) ys xs w) s zs t
gathered_notes step at k ys [] s zs t h = still_notes ys s t zs h
gathered_notes step at k ys (x ∷ xs) s zs t h =
    after_notes (step x) (λ more place w. gathered (λ y. step y place) (ys ++ more) xs w) at s zs t
    (λ more u e. k x s more u e) (λ more u e. gathered_notes step at k (ys ++ more) xs u zs t e) h

-- ---- names

module _ (text : List ℕ) (spec : AssertSpec) (i : ℕ) where
  abbrev the_net : Name
  the_net = record { text = text; bit = i }

  abbrev the_notes : List Note
  the_notes = Names the_net ∷ Asserts text spec ∷ []

  -- the name and the assertion are refused in either order
  net_by : (at : Place) (s : State) (c h r : Bool) → clashes s.asserted text spec ≡ c → has_name s.names the_net ≡ h → nat_lt (length s.names) most_bits ≡ r →
      (bits : List Bit) (t : State) → net_bit text spec at i s ≡ Gives bits t →
      (bits ≡ plain (On the_net) ∷ []) × (all_noted the_notes s ≡ Some t)
  net_by at s true h r p q e bits t given = let f : Fails AssertionClash at ≡ Gives bits t = rw p at given in absurd (cc)
  net_by at s false true r p q e bits t given =
      let g : Gives (plain (On the_net) ∷ []) (with_assertion s text spec) ≡ Gives bits t = rw (p, q) at given in
      (let b : plain (On the_net) ∷ [] ≡ bits = cc in sym b, rw (q, p) (let u : with_assertion s text spec ≡ t = cc in ap Some u))
  net_by at s false false true p q e bits t given =
      let g : Gives (plain (On the_net) ∷ []) (with_assertion (with_net s the_net) text spec) ≡ Gives bits t = rw (p, q, e) at given in
      (let b : plain (On the_net) ∷ [] ≡ bits = cc in sym b, rw (q, e, p) (let u : with_assertion (with_net s the_net) text spec ≡ t = cc in ap Some u))
  net_by at s false false false p q e bits t given = let f : Fails TooMany at ≡ Gives bits t = rw (p, q, e) at given in absurd (cc)

  net_does : (at : Place) (u v : State) (c h r : Bool) → clashes u.asserted text spec ≡ c → has_name u.names the_net ≡ h → nat_lt (length u.names) most_bits ≡ r →
      all_noted the_notes u ≡ Some v → net_bit text spec at i u ≡ Gives (plain (On the_net) ∷ []) v
  net_does at u v true true r p q e given = let f : None ≡ Some v = rw (q, p) at given in absurd (cc)
  net_does at u v false true r p q e given =
      let g : Some (with_assertion u text spec) ≡ Some v = rw (q, p) at given in
      rw (p, q) (let w : with_assertion u text spec ≡ v = cc in ap (λ x. Gives (plain (On the_net) ∷ []) x) w)
  net_does at u v true false true p q e given = let f : None ≡ Some v = rw (q, e, p) at given in absurd (cc)
  net_does at u v false false true p q e given =
      let g : Some (with_assertion (with_net u the_net) text spec) ≡ Some v = rw (q, e, p) at given in
      rw (p, q, e) (let w : with_assertion (with_net u the_net) text spec ≡ v = cc in ap (λ x. Gives (plain (On the_net) ∷ []) x) w)
  net_does at u v c false false p q e given = let f : None ≡ Some v = rw (q, e) at given in absurd (cc)

  net_notes : (at : Place) (s : State) (bits : List Bit) (t : State) → net_bit text spec at i s ≡ Gives bits t → Notes (λ place w. net_bit text spec place i w) s bits t
  net_notes at s bits t given =
      let found = net_by at s (clashes s.asserted text spec) (has_name s.names the_net) (nat_lt (length s.names) most_bits) refl refl refl bits t given in
      record {
        notes = the_notes;
        noted_is = found.1;
        does = λ place u v e.
            net_does place u v (clashes u.asserted text spec) (has_name u.names the_net) (nat_lt (length u.names) most_bits) refl refl refl e
            ∙ ap (λ x. Gives x v) (sym found.0);
      }

meant_notes : (f : Option Bound) (text : List ℕ) (spec : AssertSpec) (ends : Option (ℤ × ℤ)) (at : Place) (s : State) (bits : List Bit) (t : State) →
    meant f text spec ends at s ≡ Gives bits t → Notes (λ place w. meant f text spec ends place w) s bits t
meant_notes (Some f) text spec ends at s bits t h =
    judged_notes (formal_term f.numbers f.bits spec ends) (λ found place w. Gives found w) at s bits t (λ found e. still_notes found s t bits e) h
meant_notes None text spec ends at s bits t h =
    judged_notes (numbers_of ends) (λ numbers place w. net_bits text spec place numbers w) at s bits t
    (λ numbers e. gathered_notes (λ i place w. net_bit text spec place i w) at (λ i u ys v. net_notes text spec i at u ys v) [] numbers s bits t e) h

pub named_notes : (scope : Scope) (name : SignalName) (ends : Option (ℤ × ℤ)) (at : Place) (s : State) (bits : List Bit) (t : State) →
    named_bits scope name ends at s ≡ Gives bits t → Notes (λ place w. named_bits scope name ends place w) s bits t
unfolding named_bits
named_notes scope name ends at s bits t h = meant_notes (formal_of scope.formals name) (net_text scope.path name) name.spec ends at s bits t h

-- ---- terms and connections

item_notes : (scope : Scope) (i : Item) (at : Place) (s : State) (bits : List Bit) (t : State) →
    item_bits scope i at s ≡ Gives bits t → Notes (λ place w. item_bits scope i place w) s bits t
item_notes scope Zero at s bits t h = still_notes _ s t bits h
item_notes scope One at s bits t h = still_notes _ s t bits h
item_notes scope (Named name range) at s bits t h =
    judged_notes (written_ends scope.env range) (λ ends place w. named_bits scope name ends place w) at s bits t (λ ends e. named_notes scope name ends at s bits t e) h

term_notes : (scope : Scope) (x : Term) (at : Place) (s : State) (bits : List Bit) (t : State) →
    term_bits scope at x s ≡ Gives bits t → Notes (λ place w. term_bits scope place x w) s bits t
unfolding term_bits
term_notes scope x at s bits t h =
    after_notes (λ place w. item_bits scope x.item place w) (λ found place w. Gives (map (turned_bit x.minus) found) w) at s bits t
    (λ found u e. item_notes scope x.item at s found u e) (λ found u e. still_notes _ u t bits e) h

pub joined_notes : (scope : Scope) (c : Connection) (at : Place) (s : State) (js : List Joined) (t : State) →
    joined scope at c s ≡ Gives js t → Notes (λ place w. joined scope place c w) s js t
unfolding joined
joined_notes scope c at s js t h =
    after_notes (λ place w. terms_bits scope place c.terms w)
    (λ bits place w. if has_width bits then Gives ((record { bits = bits; hold = c.hold }) ∷ []) w else Fails Width place) at s js t
    (λ bits u e. gathered_notes (λ x place w. term_bits scope place x w) at (λ x v ys w. term_notes scope x at v ys w) [] c.terms s bits u e)
    (λ bits u e. by bits u (has_width bits) e) h
  where
    by : (bits : List Bit) (u : State) (b : Bool) →
        (if b then Gives ((record { bits = bits; hold = c.hold }) ∷ []) u else Fails Width at) ≡ Gives js t →
        Notes (λ place w. if b then Gives ((record { bits = bits; hold = c.hold }) ∷ []) w else Fails Width place) u js t
    by bits u true e = still_notes _ u t js e
    by bits u false e = absurd (cc)
