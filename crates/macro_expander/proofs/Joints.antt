-- The connections of a use: as many as were written, marked as they were written, each with 1 to 256 bits.
use Rattle.std.proofs.Common.{◌≡◌, ◌≤◌, Bool, true, false, cond, List, [], ◌∷◌, ◌++◌, length, refl, sym, ◌∙◌, subst, arith}
use Rattle.std.specs.List.{All, count_by}
use Rattle.std.specs.Prelude.{nat_le}
use Rattle.std.proofs.lemmas.Bool.{and_parts, leb-true}
use Rattle.std.proofs.lemmas.List.{append-nil, append_assoc}
use Rattle.std.proofs.lemmas.List.Sums.{sum_by-cons}
use Rattle.std.proofs.lemmas.List.Elements.{All-nil, All-cons}
use Rattle.scald_base.specs.declared.refusal.Place.{Place}
use Rattle.scald_base.specs.declared.refusal.RefusalKind.TheVariants.{Width}
use Rattle.vector_names.specs.Bits.{widest}
use Rattle.drawing_tree.specs.Tree.{Connection, UseStatement}
use Rattle.macro_expander.specs.Named.{Bit, State}
use Rattle.macro_expander.specs.Outcome.{Outcome, Gives, Fails, after, gathered}
use Rattle.macro_expander.specs.Terms.{Scope, Joined, Wires, has_width, terms_bits, joined, all_joined, wires_of}

pub record HasWidth (c : Joined) : Type 0 where
  pub some : 1 ≤ length c.bits
  pub few : length c.bits ≤ widest

pub record AreJoined (cs : List Connection) (js : List Joined) : Type 0 where
  pub count : length js ≡ length cs
  pub marked : count_by (λ (j : Joined). j.hold) js ≡ count_by (λ (c : Connection). c.hold) cs
  pub wide : All HasWidth js

pub record IsJoined (c : Connection) (ys : List Joined) : Type 0 where
  pub joint : Joined
  pub only : ys ≡ joint ∷ []
  pub held : joint.hold ≡ c.hold
  pub wide : HasWidth joint

width_by : (b : Bool) (c : Connection) (bits : List Bit) (place : Place) (s t : State) (ys : List Joined) →
    has_width bits ≡ b → cond b (Gives ((record { bits = bits; hold = c.hold }) ∷ []) s) (Fails Width place) ≡ Gives ys t → IsJoined c ys
width_by true c bits place s t ys h e =
    let w = and_parts (nat_le 1 (length bits)) (nat_le (length bits) widest) h in
    let j : Joined = record { bits = bits; hold = c.hold } in
    record { joint = j; only = cc; held = refl; wide = record { some = leb-true 1 (length bits) w.0; few = leb-true (length bits) widest w.1 } }
width_by false c bits place s t ys h e = absurd (cc)

after_terms : (o : Outcome (List Bit)) (c : Connection) (place : Place) (t : State) (ys : List Joined) → after o
    (λ bits s1. cond (has_width bits) (Gives ((record { bits = bits; hold = c.hold }) ∷ []) s1) (Fails Width place)) ≡ Gives ys t → IsJoined c ys
after_terms (Gives bits s) c place t ys e = width_by (has_width bits) c bits place s t ys refl e
after_terms (Fails kind at) c place t ys e = absurd (cc)

is_joined : (scope : Scope) (place : Place) (c : Connection) (s t : State) (ys : List Joined) → joined scope place c s ≡ Gives ys t → IsJoined c ys
unfolding joined
is_joined scope place c s t ys e = after_terms (terms_bits scope place c.terms s) c place t ys e

pub record Behind (cs : List Connection) (got js : List Joined) : Type 0 where
  pub more : List Joined
  pub all : js ≡ got ++ more
  pub are : AreJoined cs more

behind_cons : (c : Connection) (cs : List Connection) (got ys js : List Joined) → IsJoined c ys → Behind cs (got ++ ys) js → Behind (c ∷ cs) got js
behind_cons c cs got ys js i b = record {
  more = i.joint ∷ b.more;
  all = b.all ∙ rw i.only (append_assoc got (i.joint ∷ []) b.more);
  are = record {
    count = omega (arith, b.are.count);
    marked = sum_by-cons (λ (j : Joined). cond j.hold 1 0) i.joint b.more ∙ rw (i.held, b.are.marked) (sym (sum_by-cons (λ (k : Connection). cond k.hold 1 0) c cs));
    wide = All-cons HasWidth i.joint b.more i.wide b.are.wide;
  };
}

step_joined : (scope : Scope) (place : Place) (c : Connection) (cs : List Connection) (got js : List Joined) (o : Outcome (List Joined)) (t : State) →
    ((ys : List Joined) (s : State) → o ≡ Gives ys s → IsJoined c ys) →
    ((ys : List Joined) (s : State) → gathered (joined scope place) (got ++ ys) cs s ≡ Gives js t → Behind cs (got ++ ys) js) →
    after o (λ ys s1. gathered (joined scope place) (got ++ ys) cs s1) ≡ Gives js t → Behind (c ∷ cs) got js
step_joined scope place c cs got js (Gives ys s) t one rest e = behind_cons c cs got ys js (one ys s refl) (rest ys s e)
step_joined scope place c cs got js (Fails kind at) t one rest e = absurd (cc)

gathered_joined : (scope : Scope) (place : Place) (cs : List Connection) (got js : List Joined) (s t : State) → gathered (joined scope place) got cs s ≡ Gives js t → Behind cs got js
gathered_joined scope place [] got js s t e =
    let is : got ≡ js = cc in
    record { more = []; all = sym is ∙ sym (append-nil got); are = record { count = refl; marked = refl; wide = All-nil HasWidth } }
gathered_joined scope place (c ∷ cs) got js s t e =
    step_joined scope place c cs got js (joined scope place c s) t (λ ys s1 q. is_joined scope place c s s1 ys q) (λ ys s1 q. gathered_joined scope place cs (got ++ ys) js s1 t q) e

pub are_joined : (scope : Scope) (place : Place) (cs : List Connection) (js : List Joined) (s t : State) → all_joined scope place cs s ≡ Gives js t → AreJoined cs js
unfolding all_joined
are_joined scope place cs js s t e =
    let b = gathered_joined scope place cs [] js s t e in
    subst (AreJoined cs) (sym b.all) b.are

pub record AreWires (u : UseStatement) (w : Wires) : Type 0 where
  pub ins : AreJoined u.ins w.ins
  pub outs : AreJoined u.outs w.outs

outs_by : (scope : Scope) (u : UseStatement) (ins : List Joined) (o : Outcome (List Joined)) (w : Wires) (t : State) →
    AreJoined u.ins ins → ((ys : List Joined) (s : State) → o ≡ Gives ys s → AreJoined u.outs ys) →
    after o (λ outs s2. Gives (record { ins = ins; outs = outs }) s2) ≡ Gives w t → AreWires u w
outs_by scope u ins (Gives outs s) w t i h e =
    let made : Wires = record { ins = ins; outs = outs } in
    let is : made ≡ w = cc in
    subst (AreWires u) is (record { ins = i; outs = h outs s refl })
outs_by scope u ins (Fails kind at) w t i h e = absurd (cc)

ins_by : (scope : Scope) (u : UseStatement) (o : Outcome (List Joined)) (w : Wires) (t : State) → ((ys : List Joined) (s : State) → o ≡ Gives ys s → AreJoined u.ins ys) →
    after o (λ ins s1. after (all_joined scope u.place u.outs s1) (λ outs s2. Gives (record { ins = ins; outs = outs }) s2)) ≡ Gives w t → AreWires u w
ins_by scope u (Gives ins s) w t h e = outs_by scope u ins (all_joined scope u.place u.outs s) w t (h ins s refl) (λ ys s1 q. are_joined scope u.place u.outs ys s s1 q) e
ins_by scope u (Fails kind at) w t h e = absurd (cc)

pub are_wires : (scope : Scope) (u : UseStatement) (w : Wires) (s t : State) → wires_of scope u s ≡ Gives w t → AreWires u w
unfolding wires_of
are_wires scope u w s t e = ins_by scope u (all_joined scope u.place u.ins s) w t (λ ys s1 q. are_joined scope u.place u.ins ys s s1 q) e
