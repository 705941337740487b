-- What of a circuit by names says nothing of the order of its nets, nor of places; and what it becomes if a net is named or
-- something asserted.
use Rattle.std.proofs.Common.{◌≡◌, ℕ, ◌+◌, ◌∙◌, Bool, true, false, not, ◌&&◌, ◌||◌, if◌then◌else◌, nat_lt, List}
use Rattle.std.proofs.Common.{[], ◌∷◌, ◌++◌, length, map, Option, Some, None, refl, ap, sym, ap₂, arith, add-zero}
use Rattle.std.specs.Prelude.{⊤, is_some}
use Rattle.std.specs.Str.{bytes_eq}
use Rattle.std.proofs.lemmas.Slice.Eq.{bytes_eq-Decides}
use Rattle.std.proofs.lemmas.List.{length_push}
use Rattle.scald_base.specs.Time.{Bounds, Header}
use Rattle.scald_base.specs.declared.assertion.AssertSpec.{AssertSpec}
use Rattle.scald_base.specs.declared.assertion.AssertSpec.TheVariants.{None as Unasserted, Precision, Clock, Stable}
use Rattle.flat_circuit.specs.Name.{Name}
use Rattle.flat_circuit.specs.Instances.{most_bits}
use Rattle.flat_circuit.specs.Builder.{Asserted, is_asserted, spec_of, has_text, with_asserted, same_name, has_name}
use Rattle.flat_circuit.proofs.Tables.{same_name_is}
use Rattle.macro_expander.specs.Named.{NamedInstance, State}
use Rattle.macro_expander.specs.Assertions.{same_assertion}
use Rattle.macro_expander.specs.Terms.{clashes, with_net, with_assertion}
use Rattle.format_upgrade.specs.SameCircuit.{unplaced_instance, wire_named}

-- ---- sights

-- Nets by their names, assertions by their texts, and instances without places.
pub record Sight : Type 0 where
  pub header : Header
  pub statements : ℕ
  pub count : ℕ
  pub wires : Name → Option Bounds
  pub specs : List ℕ → AssertSpec
  pub instances : List NamedInstance

abbrev pub sight : State → Sight
sight s = record {
  header = s.header;
  statements = s.statements;
  count = length s.names;
  wires = λ name. wire_named s.names s.wires name;
  specs = λ text. spec_of s.asserted text;
  instances = map unplaced_instance s.instances;
}

-- each net has its wire, and what is asserted of a text is an assertion
pub record IsSound (s : State) : Type 0 where
  pub bounded : length s.wires ≡ length s.names
  pub real : (text : List ℕ) → is_asserted (spec_of s.asserted text) ≡ has_text s.asserted text

-- ---- a net or an assertion more

-- the wire of a net, if the wire of another one is put beside
abbrev pub wire_beside : Option Bounds → Bool → Bounds → Option Bounds
wire_beside (Some w) same new = Some w
wire_beside None true new = Some new
wire_beside None false new = None

abbrev pub nets_more : Option Bounds → ℕ
nets_more (Some w) = 0
nets_more None = 1

abbrev pub is_room : Option Bounds → ℕ → Bool
is_room (Some w) count = true
is_room None count = nat_lt count most_bits

abbrev pub with_name : Name → Sight → Sight
with_name n v = record v { count = v.count + nets_more (v.wires n); wires = λ m. wire_beside (v.wires m) (same_name m n) v.header.wire }

-- the assertion of a text, if that of another one is put beside
abbrev pub spec_beside : AssertSpec → Bool → AssertSpec → AssertSpec
spec_beside Unasserted same new = if same then new else Unasserted
spec_beside (Precision c) same new = Precision c
spec_beside (Clock c) same new = Clock c
spec_beside (Stable spans) same new = Stable spans

abbrev pub with_spec : List ℕ → AssertSpec → Sight → Sight
with_spec text spec v = record v { specs = λ x. spec_beside (v.specs x) (bytes_eq x text) spec }

-- both are assertions, and not written alike
abbrev pub disagree : AssertSpec → AssertSpec → Bool
disagree old spec = is_asserted old && (is_asserted spec && not (same_assertion spec old))

-- ---- notes

-- what a name in a drawing does to the circuit: it names a net, or asserts something of a text
pub data Note : Type 0 where
  Names : Name → Note
  Asserts : List ℕ → AssertSpec → Note

-- the circuit after a note, if the note is not refused
abbrev pub noted : Note → State → Option State
noted (Names n) s = if has_name s.names n then Some s else if nat_lt (length s.names) most_bits then Some (with_net s n) else None
noted (Asserts text spec) s = if clashes s.asserted text spec then None else Some (with_assertion s text spec)

-- and its sight
abbrev pub is_allowed : Note → Sight → Bool
is_allowed (Names n) v = is_room (v.wires n) v.count
is_allowed (Asserts text spec) v = not (disagree (v.specs text) spec)

abbrev pub with_note : Note → Sight → Sight
with_note (Names n) v = with_name n v
with_note (Asserts text spec) v = with_spec text spec v

abbrev pub seen : Note → Sight → Option Sight
seen n v = if is_allowed n v then Some (with_note n v) else None

-- the same end, and sound
abbrev pub IsSeenAs : Option State → Option Sight → Type 0
IsSeenAs None None = ⊤
IsSeenAs (Some s) (Some v) = IsSound s × (sight s ≡ v)
IsSeenAs _ _ = ⊥

-- ---- nets

wire_push : (ns : List Name) (ws : List Bounds) (n : Name) (w : Bounds) (m : Name) → length ws ≡ length ns →
    wire_named (ns ++ n ∷ []) (ws ++ w ∷ []) m ≡ wire_beside (wire_named ns ws m) (same_name m n) w
wire_push [] [] n w m l = by (same_name m n)
  where
    by : (b : Bool) → (if b then Some w else None) ≡ wire_beside None b w
    by true = refl
    by false = refl
wire_push [] (v ∷ ws) n w m l = absurd (omega (arith, l))
wire_push (x ∷ ns) [] n w m l = absurd (omega (arith, l))
wire_push (x ∷ ns) (v ∷ ws) n w m l = by (same_name m x) (wire_push ns ws n w m (omega (arith, l)))
  where
    by : (b : Bool) → wire_named (ns ++ n ∷ []) (ws ++ w ∷ []) m ≡ wire_beside (wire_named ns ws m) (same_name m n) w →
        (if b then Some v else wire_named (ns ++ n ∷ []) (ws ++ w ∷ []) m) ≡ wire_beside (if b then Some v else wire_named ns ws m) (same_name m n) w
    by true h = refl
    by false h = h

pub has_wire : (ns : List Name) (ws : List Bounds) (m : Name) → length ws ≡ length ns → has_name ns m ≡ is_some (wire_named ns ws m)
has_wire [] [] m l = refl
has_wire [] (v ∷ ws) m l = absurd (omega (arith, l))
has_wire (x ∷ ns) [] m l = absurd (omega (arith, l))
has_wire (x ∷ ns) (v ∷ ws) m l = by (same_name m x) (has_wire ns ws m (omega (arith, l)))
  where
    by : (b : Bool) → has_name ns m ≡ is_some (wire_named ns ws m) → (b || has_name ns m) ≡ is_some (if b then Some v else wire_named ns ws m)
    by true h = refl
    by false h = h

beside_other : (o : Option Bounds) (w : Bounds) → wire_beside o false w ≡ o
beside_other None w = refl
beside_other (Some v) w = refl

-- a net that is there stays as it is
beside_known : (wires : Name → Option Bounds) (n : Name) (w new : Bounds) → wires n ≡ Some w → (m : Name) (b : Bool) → same_name m n ≡ b →
    wires m ≡ wire_beside (wires m) (same_name m n) new
beside_known wires n w new h m true e =
    let is : wires m ≡ Some w = ap wires (sym (same_name_is m n e)) ∙ h in
    rw is refl
beside_known wires n w new h m false e = rw e (sym (beside_other (wires m) new))

module _ (n : Name) (s : State) (sound : IsSound s) where
  abbrev wires : Name → Option Bounds
  wires m = wire_named s.names s.wires m

  abbrev nets_now : ℕ
  nets_now = length s.names

  pushed : IsSound (with_net s n)
  pushed = record {
    bounded = length_push s.wires s.header.wire ∙ ap (λ k. k + 1) sound.bounded ∙ sym (length_push s.names n);
    real = sound.real;
  }

  name_by : (found : Option Bounds) → wires n ≡ found → (b : Bool) → nat_lt nets_now most_bits ≡ b →
      IsSeenAs (if is_some found then Some s else if b then Some (with_net s n) else None)
      (if is_room found nets_now
      then Some (record (sight s) { count = nets_now + nets_more found; wires = λ m. wire_beside (wires m) (same_name m n) s.header.wire }) else None)
  name_by (Some w) h b e = (
    sound,
    ap₂ (λ (k : ℕ) (f : Name → Option Bounds). record (sight s) { count = k; wires = f }) (sym (add-zero nets_now))
        (λ i m. beside_known wires n w s.header.wire h m (same_name m n) refl i),
  )
  name_by None h true e = rw e (
    pushed,
    ap₂ (λ (k : ℕ) (f : Name → Option Bounds). record (sight s) { count = k; wires = f }) (length_push s.names n)
        (λ i m. wire_push s.names s.wires n s.header.wire m sound.bounded i),
  )
  name_by None h false e = rw e tt

  pub name_seen : IsSeenAs (noted (Names n) s) (seen (Names n) (sight s))
  name_seen = rw (has_wire s.names s.wires n sound.bounded) (name_by (wires n) refl (nat_lt nets_now most_bits) refl)

-- ---- assertions

pub unasserted_is : (o : AssertSpec) → is_asserted o ≡ false → o ≡ Unasserted
unasserted_is Unasserted h = refl
unasserted_is (Precision c) h = absurd (cc)
unasserted_is (Clock c) h = absurd (cc)
unasserted_is (Stable spans) h = absurd (cc)

pub spec_beside_other : (o new : AssertSpec) → spec_beside o false new ≡ o
spec_beside_other Unasserted new = refl
spec_beside_other (Precision c) new = refl
spec_beside_other (Clock c) new = refl
spec_beside_other (Stable spans) new = refl

pub spec_beside_none : (o : AssertSpec) (b : Bool) → spec_beside o b Unasserted ≡ o
spec_beside_none Unasserted true = refl
spec_beside_none Unasserted false = refl
spec_beside_none (Precision c) b = refl
spec_beside_none (Clock c) b = refl
spec_beside_none (Stable spans) b = refl

pub spec_beside_known : (o new : AssertSpec) (b : Bool) → is_asserted o ≡ true → spec_beside o b new ≡ o
spec_beside_known Unasserted new b h = absurd (cc)
spec_beside_known (Precision c) new b h = refl
spec_beside_known (Clock c) new b h = refl
spec_beside_known (Stable spans) new b h = refl

spec_push : (given : List Asserted) (a : Asserted) (x : List ℕ) →
    spec_of (given ++ a ∷ []) x ≡ (if has_text given x then spec_of given x else if bytes_eq x a.text then a.spec else Unasserted)
spec_push [] a x = refl
spec_push (g ∷ given) a x = by (bytes_eq x g.text) (spec_push given a x)
  where
    by : (b : Bool) → spec_of (given ++ a ∷ []) x ≡ (if has_text given x then spec_of given x else if bytes_eq x a.text then a.spec else Unasserted) →
        (if b then g.spec else spec_of (given ++ a ∷ []) x)
        ≡ (if b || has_text given x then (if b then g.spec else spec_of given x) else if bytes_eq x a.text then a.spec else Unasserted)
    by true h = refl
    by false h = h

text_push : (given : List Asserted) (a : Asserted) (x : List ℕ) → has_text (given ++ a ∷ []) x ≡ (has_text given x || bytes_eq x a.text)
text_push [] a x = by (bytes_eq x a.text)
  where
    by : (b : Bool) → (b || false) ≡ b
    by true = refl
    by false = refl
text_push (g ∷ given) a x = by (bytes_eq x g.text) (text_push given a x)
  where
    by : (b : Bool) → has_text (given ++ a ∷ []) x ≡ (has_text given x || bytes_eq x a.text) →
        (b || has_text (given ++ a ∷ []) x) ≡ ((b || has_text given x) || bytes_eq x a.text)
    by true h = refl
    by false h = h

pub clash_is : (given : List Asserted) (text : List ℕ) (spec : AssertSpec) → clashes given text spec ≡ disagree (spec_of given text) spec
clash_is given text spec = by (is_asserted spec) (is_asserted (spec_of given text)) (not (same_assertion spec (spec_of given text)))
  where
    by : (a b c : Bool) → (a && (b && c)) ≡ (b && (a && c))
    by true true c = refl
    by true false c = refl
    by false true c = refl
    by false false c = refl

module _ (given : List Asserted) (real : (x : List ℕ) → is_asserted (spec_of given x) ≡ has_text given x) (text : List ℕ) (spec : AssertSpec) where
  abbrev entry : Asserted
  entry = record { text = text; spec = spec }

  -- it is one of those that are there, or the new one
  pushed_by : (b : Bool) (x : List ℕ) → has_text given x ≡ b →
      (if b then spec_of given x else if bytes_eq x text then spec else Unasserted) ≡ spec_beside (spec_of given x) (bytes_eq x text) spec
  pushed_by true x h = sym (spec_beside_known (spec_of given x) spec (bytes_eq x text) (real x ∙ h))
  pushed_by false x h = rw (unasserted_is (spec_of given x) (real x ∙ h)) refl

  real_by : (b : Bool) (x : List ℕ) → has_text given x ≡ b → is_asserted spec ≡ true →
      is_asserted (if b then spec_of given x else if bytes_eq x text then spec else Unasserted) ≡ (b || bytes_eq x text)
  real_by true x h a = real x ∙ h
  real_by false x h a = end (bytes_eq x text)
    where
      end : (e : Bool) → is_asserted (if e then spec else Unasserted) ≡ e
      end true = a
      end false = refl

  -- if the text has an assertion, it keeps that
  kept_by : (b : Bool) (x : List ℕ) → bytes_eq x text ≡ b → has_text given text ≡ true → spec_of given x ≡ spec_beside (spec_of given x) (bytes_eq x text) spec
  kept_by true x e h =
      let same : x ≡ text = (bytes_eq-Decides x text).0 e in
      sym (spec_beside_known (spec_of given x) spec (bytes_eq x text) (ap (λ y. is_asserted (spec_of given y)) same ∙ real text ∙ h))
  kept_by false x e h = rw e (sym (spec_beside_other (spec_of given x) spec))

  specs_by : (a t : Bool) → is_asserted spec ≡ a → has_text given text ≡ t → (x : List ℕ) →
      spec_of (if a && not t then given ++ entry ∷ [] else given) x ≡ spec_beside (spec_of given x) (bytes_eq x text) spec
  specs_by true true p q x = kept_by (bytes_eq x text) x refl q
  specs_by true false p q x = spec_push given entry x ∙ pushed_by (has_text given x) x refl
  specs_by false t p q x = rw (unasserted_is spec p) (sym (spec_beside_none (spec_of given x) (bytes_eq x text)))

  still_real_by : (a t : Bool) → is_asserted spec ≡ a → has_text given text ≡ t → (x : List ℕ) →
      is_asserted (spec_of (if a && not t then given ++ entry ∷ [] else given) x) ≡ has_text (if a && not t then given ++ entry ∷ [] else given) x
  still_real_by true true p q x = real x
  still_real_by true false p q x = ap is_asserted (spec_push given entry x) ∙ real_by (has_text given x) x refl p ∙ sym (text_push given entry x)
  still_real_by false t p q x = real x

  specs_with : (x : List ℕ) → spec_of (with_asserted given text spec) x ≡ spec_beside (spec_of given x) (bytes_eq x text) spec
  specs_with x = specs_by (is_asserted spec) (has_text given text) refl refl x

  still_real : (x : List ℕ) → is_asserted (spec_of (with_asserted given text spec) x) ≡ has_text (with_asserted given text spec) x
  still_real x = still_real_by (is_asserted spec) (has_text given text) refl refl x

spec_seen : (text : List ℕ) (spec : AssertSpec) (s : State) → IsSound s → IsSeenAs (noted (Asserts text spec) s) (seen (Asserts text spec) (sight s))
spec_seen text spec s sound = rw (clash_is s.asserted text spec) (by (disagree (spec_of s.asserted text) spec))
  where
    by : (b : Bool) → IsSeenAs (if b then None else Some (with_assertion s text spec)) (if not b then Some (with_spec text spec (sight s)) else None)
    by true = tt
    by false = (
      record { bounded = sound.bounded; real = still_real s.asserted sound.real text spec },
      ap (λ (f : List ℕ → AssertSpec). record (sight s) { specs = f }) (λ i x. specs_with s.asserted sound.real text spec x i),
    )

-- A note does to the sight of a circuit what it does to the circuit.
pub note_seen : (n : Note) (s : State) → IsSound s → IsSeenAs (noted n s) (seen n (sight s))
note_seen (Names n) s sound = name_seen n s sound
note_seen (Asserts text spec) s sound = spec_seen text spec s sound
