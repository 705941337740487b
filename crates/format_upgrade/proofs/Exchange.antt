-- Nets and assertions may be named in any order.
use Rattle.std.proofs.Common.{◌≡◌, ℕ, ◌+◌, ◌∙◌, Bool, true, false, not, ◌&&◌, if◌then◌else◌, nat_lt, List, []}
use Rattle.std.proofs.Common.{◌∷◌, ◌++◌, Option, Some, None, refl, ap, sym, subst, ap₂, arith, add-zero, append-nil, append_assoc}
use Rattle.std.specs.Str.{bytes_eq}
use Rattle.std.proofs.lemmas.Slice.Eq.{bytes_eq-Decides}
use Rattle.scald_base.specs.Time.{Bounds}
use Rattle.scald_base.specs.declared.assertion.AssertSpec.{AssertSpec}
use Rattle.scald_base.specs.declared.assertion.AssertSpec.TheVariants.{None as Unasserted}
use Rattle.flat_circuit.specs.Name.{Name}
use Rattle.flat_circuit.specs.Instances.{most_bits}
use Rattle.flat_circuit.specs.Builder.{is_asserted, same_name}
use Rattle.flat_circuit.proofs.Tables.{same_name_is, same_name_refl}
use Rattle.macro_expander.specs.Assertions.{same_assertion}
use Rattle.macro_expander.specs.Named.{State}
use Rattle.macro_expander.proofs.Alike.{assertion_equal}
use Rattle.format_upgrade.proofs.Sights.{Sight, sight, IsSound, wire_beside, nets_more, is_room, spec_beside, disagree, Note, Names}
use Rattle.format_upgrade.proofs.Sights.{Asserts, noted, is_allowed, with_note, seen, IsSeenAs, unasserted_is, spec_beside_other, spec_beside_none, spec_beside_known, note_seen}

-- ---- one after the other

abbrev pub behind : {A B : Type 0} → Option A → (A → Option B) → Option B
behind None next = None
behind (Some a) next = next a

abbrev pub all_noted : List Note → State → Option State
all_noted [] s = Some s
all_noted (n ∷ ns) s = behind (noted n s) (λ t. all_noted ns t)

abbrev pub all_seen : List Note → Sight → Option Sight
all_seen [] v = Some v
all_seen (n ∷ ns) v = behind (seen n v) (λ w. all_seen ns w)

behind_behind : {A B C : Type 0} (o : Option A) (f : A → Option B) (g : B → Option C) → behind (behind o f) g ≡ behind o (λ a. behind (f a) g)
behind_behind None f g = refl
behind_behind (Some a) f g = refl

pub behind_same : {A B : Type 0} (o : Option A) (f g : A → Option B) → ((a : A) → f a ≡ g a) → behind o f ≡ behind o g
behind_same None f g h = refl
behind_same (Some a) f g h = h a

-- ---- two notes

-- both are allowed, the second of the circuit with the first
abbrev both_allowed : Note → Note → Sight → Bool
both_allowed a b v = is_allowed a v && is_allowed b (with_note a v)

abbrev with_both : Note → Note → Sight → Sight
with_both a b v = with_note b (with_note a v)

both_seen : (a b : Note) (v : Sight) → behind (seen a v) (λ w. seen b w) ≡ (if both_allowed a b v then Some (with_both a b v) else None)
both_seen a b v = by (is_allowed a v)
  where
    by : (x : Bool) → behind (if x then Some (with_note a v) else None) (λ w. seen b w) ≡ (if x && is_allowed b (with_note a v) then Some (with_both a b v) else None)
    by true = refl
    by false = refl

exchanged_by : (a b : Note) (v : Sight) → both_allowed a b v ≡ both_allowed b a v → (both_allowed a b v ≡ true → with_both a b v ≡ with_both b a v) →
    behind (seen a v) (λ w. seen b w) ≡ behind (seen b v) (λ w. seen a w)
exchanged_by a b v allowed same = both_seen a b v ∙ by (both_allowed a b v) refl ∙ sym (both_seen b a v)
  where
    by : (x : Bool) → both_allowed a b v ≡ x → (if both_allowed a b v then Some (with_both a b v) else None) ≡ (if both_allowed b a v then Some (with_both b a v) else None)
    by true e = rw (sym allowed, e) (ap Some (same e))
    by false e = rw (sym allowed, e) refl

and_turned : (a b : Bool) → (a && b) ≡ (b && a)
and_turned true true = refl
and_turned true false = refl
and_turned false true = refl
and_turned false false = refl

-- ---- two nets

pub same_name_turned : (m n : Name) → same_name m n ≡ false → same_name n m ≡ false
same_name_turned m n h = by (same_name n m) refl
  where
    by : (b : Bool) → same_name n m ≡ b → same_name n m ≡ false
    by true e =
        let is : m ≡ n = same_name_is n m e in
        let yes : same_name m n ≡ true = subst (λ x. same_name m x ≡ true) is (same_name_refl m) in
        let f : true ≡ false = sym yes ∙ h in
        absurd (cc)
    by false e = e

wires_exchange : (o : Option Bounds) (a b : Bool) (w : Bounds) → wire_beside (wire_beside o a w) b w ≡ wire_beside (wire_beside o b w) a w
wires_exchange (Some v) a b w = refl
wires_exchange None true true w = refl
wires_exchange None true false w = refl
wires_exchange None false true w = refl
wires_exchange None false false w = refl

beside_other : (o : Option Bounds) (w : Bounds) → wire_beside o false w ≡ o
beside_other None w = refl
beside_other (Some v) w = refl

room_exchange : (o p : Option Bounds) (n : ℕ) → (is_room o n && is_room p (n + nets_more o)) ≡ (is_room p n && is_room o (n + nets_more p))
room_exchange (Some a) (Some b) n = refl
room_exchange (Some a) None n = rw (add-zero n) (and_turned true (nat_lt n most_bits))
room_exchange None (Some b) n = rw (add-zero n) (and_turned (nat_lt n most_bits) true)
room_exchange None None n = refl

module _ (m n : Name) (v : Sight) where
  abbrev both_wires : Name → Name → Name → Option Bounds
  both_wires first second x = wire_beside (wire_beside (v.wires x) (same_name x first) v.header.wire) (same_name x second) v.header.wire

  other_names : same_name m n ≡ false → same_name n m ≡ false → behind (seen (Names m) v) (λ w. seen (Names n) w) ≡ behind (seen (Names n) v) (λ w. seen (Names m) w)
  other_names e f =
      let first : wire_beside (v.wires n) (same_name n m) v.header.wire ≡ v.wires n = rw f (beside_other (v.wires n) v.header.wire) in
      let second : wire_beside (v.wires m) (same_name m n) v.header.wire ≡ v.wires m = rw e (beside_other (v.wires m) v.header.wire) in
      let counts : v.count + nets_more (v.wires m) + nets_more (v.wires n) ≡ v.count + nets_more (v.wires n) + nets_more (v.wires m) = omega arith in
      exchanged_by (Names m) (Names n) v (rw (first, second) (room_exchange (v.wires m) (v.wires n) v.count))
      (λ _. rw (first, second)
      (ap₂ (λ (k : ℕ) (f : Name → Option Bounds). record v { count = k; wires = f }) counts
      (λ i x. wires_exchange (v.wires x) (same_name x m) (same_name x n) v.header.wire i)))

  names_by : (b : Bool) → same_name m n ≡ b → behind (seen (Names m) v) (λ w. seen (Names n) w) ≡ behind (seen (Names n) v) (λ w. seen (Names m) w)
  names_by true e = subst (λ x. behind (seen (Names m) v) (λ w. seen (Names x) w) ≡ behind (seen (Names x) v) (λ w. seen (Names m) w)) (sym (same_name_is m n e)) refl
  names_by false e = other_names e (same_name_turned m n e)

-- ---- two assertions

alike_turned : (a b : AssertSpec) → same_assertion a b ≡ same_assertion b a
alike_turned a b = by (same_assertion a b) (same_assertion b a) refl refl
  where
    turn : (x y : AssertSpec) → x ≡ y → same_assertion x y ≡ same_assertion y x
    turn x y e = ap (λ z. same_assertion z y) e ∙ ap (λ z. same_assertion y z) (sym e)

    by : (x y : Bool) → same_assertion a b ≡ x → same_assertion b a ≡ y → same_assertion a b ≡ same_assertion b a
    by true y p q = turn a b (assertion_equal a b p)
    by false true p q = sym (turn b a (assertion_equal b a q))
    by false false p q = p ∙ sym q

disagree_turned : (a b : AssertSpec) → disagree a b ≡ disagree b a
disagree_turned a b = rw (alike_turned b a) (by (is_asserted a) (is_asserted b) (not (same_assertion a b)))
  where
    by : (x y z : Bool) → (x && (y && z)) ≡ (y && (x && z))
    by true true z = refl
    by true false z = refl
    by false true z = refl
    by false false z = refl

equal_by : (p q : AssertSpec) → is_asserted p ≡ true → is_asserted q ≡ true → not (disagree p q) ≡ true → q ≡ p
equal_by p q a b h = assertion_equal q p (by (same_assertion q p) (let d : not (true && (true && not (same_assertion q p))) ≡ true = rw (a, b) at h in d))
  where
    by : (c : Bool) → not (not c) ≡ true → c ≡ true
    by true e = refl
    by false e = absurd (cc)

agreed : (p q : AssertSpec) → not (disagree p q) ≡ true → spec_beside p true q ≡ spec_beside q true p
agreed p q h = by (is_asserted p) (is_asserted q) refl refl
  where
    by : (a b : Bool) → is_asserted p ≡ a → is_asserted q ≡ b → spec_beside p true q ≡ spec_beside q true p
    by true true x y = let e : q ≡ p = equal_by p q x y h in ap (λ z. spec_beside p true z) e ∙ ap (λ z. spec_beside z true p) (sym e)
    by true false x y = rw (unasserted_is q y) (spec_beside_none p true)
    by false b x y = rw (unasserted_is p x) (sym (spec_beside_none q true))

module _ (v : Sight) where
  abbrev Turned : List ℕ → List ℕ → AssertSpec → AssertSpec → Type 0
  Turned t u p q = behind (seen (Asserts t p) v) (λ w. seen (Asserts u q) w) ≡ behind (seen (Asserts u q) v) (λ w. seen (Asserts t p) w)

  -- two texts
  module _ (t u : List ℕ) (p q : AssertSpec) (other : bytes_eq t u ≡ false) (turned : bytes_eq u t ≡ false) where
    texts_by : (x : List ℕ) (a b : Bool) → bytes_eq x t ≡ a → bytes_eq x u ≡ b →
        spec_beside (spec_beside (v.specs x) (bytes_eq x t) p) (bytes_eq x u) q ≡ spec_beside (spec_beside (v.specs x) (bytes_eq x u) q) (bytes_eq x t) p
    texts_by x true true e f =
        let is : x ≡ t = (bytes_eq-Decides x t).0 e in
        let no : true ≡ false = sym f ∙ ap (λ y. bytes_eq y u) is ∙ other in
        absurd (cc)
    texts_by x true false e f = rw (e, f, spec_beside_other (v.specs x) q, spec_beside_other (spec_beside (v.specs x) true p) q) refl
    texts_by x false true e f = rw (e, f, spec_beside_other (v.specs x) p, spec_beside_other (spec_beside (v.specs x) true q) p) refl
    texts_by x false false e f = rw (e, f, spec_beside_other (v.specs x) p, spec_beside_other (v.specs x) q, spec_beside_other (v.specs x) p) refl

    two_texts : Turned t u p q
    two_texts =
        let first : spec_beside (v.specs u) (bytes_eq u t) p ≡ v.specs u = rw turned (spec_beside_other (v.specs u) p) in
        let second : spec_beside (v.specs t) (bytes_eq t u) q ≡ v.specs t = rw other (spec_beside_other (v.specs t) q) in
        exchanged_by (Asserts t p) (Asserts u q) v
        (rw (first, second) (and_turned (not (disagree (v.specs t) p)) (not (disagree (v.specs u) q))))
        (λ _. ap (λ (f : List ℕ → AssertSpec). record v { specs = f }) (λ i x. texts_by x (bytes_eq x t) (bytes_eq x u) refl refl i))

  -- one text
  module _ (t : List ℕ) (p q : AssertSpec) where
    abbrev IsEither : AssertSpec → Type 0
    IsEither o = spec_beside (spec_beside o true p) true q ≡ spec_beside (spec_beside o true q) true p

    text_by : IsEither (v.specs t) → (x : List ℕ) (b : Bool) → bytes_eq x t ≡ b →
        spec_beside (spec_beside (v.specs x) (bytes_eq x t) p) (bytes_eq x t) q ≡ spec_beside (spec_beside (v.specs x) (bytes_eq x t) q) (bytes_eq x t) p
    text_by same x true e = rw e (subst (λ y. IsEither (v.specs y)) (sym ((bytes_eq-Decides x t).0 e)) same)
    text_by same x false e = rw (e, spec_beside_other (v.specs x) p, spec_beside_other (v.specs x) q, spec_beside_other (v.specs x) p) refl

    one_by : both_allowed (Asserts t p) (Asserts t q) v ≡ both_allowed (Asserts t q) (Asserts t p) v →
        (both_allowed (Asserts t p) (Asserts t q) v ≡ true → IsEither (v.specs t)) → Turned t t p q
    one_by allowed same =
        exchanged_by (Asserts t p) (Asserts t q) v allowed
        (λ both. ap (λ (f : List ℕ → AssertSpec). record v { specs = f }) (λ i x. text_by (same both) x (bytes_eq x t) refl i))

    text_self : bytes_eq t t ≡ true
    text_self = (bytes_eq-Decides t t).1 refl

    -- it is asserted already, or not yet
    known_text : is_asserted (v.specs t) ≡ true → Turned t t p q
    known_text a =
        let first : spec_beside (v.specs t) (bytes_eq t t) p ≡ v.specs t = spec_beside_known (v.specs t) p (bytes_eq t t) a in
        let second : spec_beside (v.specs t) (bytes_eq t t) q ≡ v.specs t = spec_beside_known (v.specs t) q (bytes_eq t t) a in
        one_by (rw (first, second) (and_turned (not (disagree (v.specs t) p)) (not (disagree (v.specs t) q))))
        (λ _. rw (spec_beside_known (v.specs t) p true a, spec_beside_known (v.specs t) q true a, spec_beside_known (v.specs t) p true a) refl)

    new_text : v.specs t ≡ Unasserted → Turned t t p q
    new_text h = one_by (rw (text_self, h) (ap not (disagree_turned p q))) (λ both. rw h (agreed p q (let b : not (disagree p q) ≡ true = rw (text_self, h) at both in b)))

    one_text : (b : Bool) → is_asserted (v.specs t) ≡ b → Turned t t p q
    one_text true a = known_text a
    one_text false a = new_text (unasserted_is (v.specs t) a)

  text_turned : (t u : List ℕ) → bytes_eq t u ≡ false → bytes_eq u t ≡ false
  text_turned t u h = by (bytes_eq u t) refl
    where
      by : (b : Bool) → bytes_eq u t ≡ b → bytes_eq u t ≡ false
      by true e = let f : true ≡ false = sym ((bytes_eq-Decides t u).1 (sym ((bytes_eq-Decides u t).0 e))) ∙ h in absurd (cc)
      by false e = e

  specs_by : (t u : List ℕ) (p q : AssertSpec) (b : Bool) → bytes_eq t u ≡ b → Turned t u p q
  specs_by t u p q true e = subst (λ x. Turned t x p q) ((bytes_eq-Decides t u).0 e) (one_text t p q (is_asserted (v.specs t)) refl)
  specs_by t u p q false e = two_texts t u p q e (text_turned t u e)

-- ---- any two

net_and_text : (n : Name) (t : List ℕ) (p : AssertSpec) (v : Sight) →
    behind (seen (Names n) v) (λ w. seen (Asserts t p) w) ≡ behind (seen (Asserts t p) v) (λ w. seen (Names n) w)
net_and_text n t p v = exchanged_by (Names n) (Asserts t p) v (and_turned (is_room (v.wires n) v.count) (not (disagree (v.specs t) p))) (λ _. refl)

two_seen : (a b : Note) (v : Sight) → behind (seen a v) (λ w. seen b w) ≡ behind (seen b v) (λ w. seen a w)
two_seen (Names m) (Names n) v = names_by m n v (same_name m n) refl
two_seen (Names n) (Asserts t p) v = net_and_text n t p v
two_seen (Asserts t p) (Names n) v = sym (net_and_text n t p v)
two_seen (Asserts t p) (Asserts u q) v = specs_by v t u p q (bytes_eq t u) refl

-- ---- many notes

pub seen_append : (xs ys : List Note) (v : Sight) → all_seen (xs ++ ys) v ≡ behind (all_seen xs v) (λ w. all_seen ys w)
seen_append [] ys v = refl
seen_append (x ∷ xs) ys v =
    behind_same (seen x v) (λ w. all_seen (xs ++ ys) w) (λ w. behind (all_seen xs w) (λ u. all_seen ys u)) (λ w. seen_append xs ys w)
    ∙ sym (behind_behind (seen x v) (λ w. all_seen xs w) (λ u. all_seen ys u))

-- one after all others
last_seen : (x : Note) (ys : List Note) (v : Sight) → all_seen (x ∷ ys) v ≡ all_seen (ys ++ x ∷ []) v
last_seen x [] v = refl
last_seen x (y ∷ ys) v =
    sym (behind_behind (seen x v) (λ w. seen y w) (λ u. all_seen ys u))
    ∙ ap (λ o. behind o (λ u. all_seen ys u)) (two_seen x y v)
    ∙ behind_behind (seen y v) (λ w. seen x w) (λ u. all_seen ys u)
    ∙ behind_same (seen y v) (λ w. all_seen (x ∷ ys) w) (λ w. all_seen (ys ++ x ∷ []) w) (λ w. last_seen x ys w)

-- Some after all others.
pub exchanged : (xs ys : List Note) (v : Sight) → all_seen (xs ++ ys) v ≡ all_seen (ys ++ xs) v
exchanged [] ys v = ap (λ zs. all_seen zs v) (sym (append-nil ys))
exchanged (x ∷ xs) ys v =
    behind_same (seen x v) (λ w. all_seen (xs ++ ys) w) (λ w. all_seen (ys ++ xs) w) (λ w. exchanged xs ys w)
    ∙ sym (behind_same (seen x v) (λ w. behind (all_seen ys w) (λ u. all_seen xs u)) (λ w. all_seen (ys ++ xs) w) (λ w. sym (seen_append ys xs w)))
    ∙ sym (behind_behind (seen x v) (λ w. all_seen ys w) (λ u. all_seen xs u))
    ∙ ap (λ o. behind o (λ u. all_seen xs u)) (last_seen x ys v)
    ∙ sym (seen_append (ys ++ x ∷ []) xs v)
    ∙ ap (λ zs. all_seen zs v) (append_assoc ys (x ∷ []) xs)

-- ---- circuits and their sights

seen_behind : (o : Option State) (p : Option Sight) (ns : List Note) → IsSeenAs o p →
    ((s : State) → IsSound s → IsSeenAs (all_noted ns s) (all_seen ns (sight s))) →
    IsSeenAs (behind o (λ t. all_noted ns t)) (behind p (λ w. all_seen ns w))
seen_behind None None ns h k = tt
seen_behind None (Some v) ns h k = absurd h
seen_behind (Some s) None ns h k = absurd h
seen_behind (Some s) (Some v) ns h k = subst (λ w. IsSeenAs (all_noted ns s) (all_seen ns w)) h.1 (k s h.0)

pub all_notes_seen : (ns : List Note) (s : State) → IsSound s → IsSeenAs (all_noted ns s) (all_seen ns (sight s))
all_notes_seen [] s sound = (sound, refl)
all_notes_seen (n ∷ ns) s sound = seen_behind (noted n s) (seen n (sight s)) ns (note_seen n s sound) (λ t h. all_notes_seen ns t h)

pub noted_append : (xs ys : List Note) (s : State) → all_noted (xs ++ ys) s ≡ behind (all_noted xs s) (λ t. all_noted ys t)
noted_append [] ys s = refl
noted_append (x ∷ xs) ys s =
    behind_same (noted x s) (λ t. all_noted (xs ++ ys) t) (λ t. behind (all_noted xs t) (λ u. all_noted ys u)) (λ t. noted_append xs ys t)
    ∙ sym (behind_behind (noted x s) (λ t. all_noted xs t) (λ u. all_noted ys u))

-- ---- circuits that are seen alike

-- both are sound, and have one sight
pub record AreAlike (s t : State) : Type 0 where
  pub first : IsSound s
  pub second : IsSound t
  pub same : sight t ≡ sight s

-- the notes make of one circuit one that is like the other
pub record NotedAlike (ns : List Note) (s1 t : State) : Type 0 where
  pub state : State
  pub is : all_noted ns t ≡ Some state
  pub alike : AreAlike s1 state

some_seen : (p : Option Sight) (s : State) → IsSeenAs (Some s) p → IsSound s × (p ≡ Some (sight s))
some_seen None s h = absurd h
some_seen (Some v) s h = (h.0, ap Some (sym h.1))

some_noted : (ns : List Note) (s1 t : State) (o : Option State) → all_noted ns t ≡ o → IsSound s1 → IsSeenAs o (Some (sight s1)) → NotedAlike ns s1 t
some_noted ns s1 t None e sound h = absurd h
some_noted ns s1 t (Some u) e sound h = record { state = u; is = e; alike = record { first = sound; second = h.0; same = h.1 } }

-- Two lists of notes with one sight do the same to circuits with one sight.
pub noted_alike : (ms ns : List Note) (s t s1 : State) → ((v : Sight) → all_seen ns v ≡ all_seen ms v) → AreAlike s t → all_noted ms s ≡ Some s1 → NotedAlike ns s1 t
noted_alike ms ns s t s1 exchange alike e =
    let first = some_seen (all_seen ms (sight s)) s1 (subst (λ o. IsSeenAs o (all_seen ms (sight s))) e (all_notes_seen ms s alike.first)) in
    let ends : all_seen ns (sight t) ≡ Some (sight s1) = ap (λ v. all_seen ns v) alike.same ∙ exchange (sight s) ∙ first.1 in
    some_noted ns s1 t (all_noted ns t) refl first.0 (subst (λ p. IsSeenAs (all_noted ns t) p) ends (all_notes_seen ns t alike.second))
