-- The first break of some elements, with one element more.
use Rattle.std.proofs.Common.{◌≡◌, ℕ, ◌+◌, ◌<◌, ◌≤◌, Bool, true, false, cond, ltb, length, Option, Some, None, refl, ap, sym, subst, arith, inl, inr}
use Rattle.std.specs.Prelude.{◌⊎◌, MatchOption}
use Rattle.std.proofs.lemmas.Bool.{cases_eq, ltb-true, ltb-false}
use Rattle.std.proofs.lemmas.Option.{slice_get_within}
use Rattle.flat_circuit.specs.Circuit.{Circuit}
use Rattle.flat_circuit.specs.Run.{Run}
use Rattle.flat_circuit.specs.Laws.{front}
use Rattle.trace_tool.specs.declared.element.Element.{Element}
use Rattle.trace_tool.specs.declared.element.Element.TheVariants.{Instance as OfInstance, Net as OfNet}
use Rattle.trace_tool.specs.Break.{Breaks, BreaksBy, BreaksFirst, BreaksNever, Precedes}
use Rattle.trace_tool.specs.Pass.{AreAmong, HasFirstAmong, HasSoonest, IsFirstAmong, IsSoonest, sooner_of}

-- An element is added to some, which all come before it.
pub record Adds (among more : Element → Type 0) (e : Element) : Type 0 where
  pub adds : (o : Element) → more o → (o ≡ e) ⊎ among o
  pub keeps : (o : Element) → among o → more o
  pub has : more e
  pub last : (o : Element) → more o → Precedes e o → ⊥

module _ (c : Circuit) (run : Run) (from : ℕ) (whole : (o : Element) (t : ℕ) → BreaksBy c run from t o → Breaks c run from o)
    (among more : Element → Type 0) (e : Element) (a : Adds among more e) where
  -- what holds of the added element and of the others holds of all
  all_of : (P : Element → Type 0) → P e → ((o : Element) → among o → P o) → (o : Element) → more o → P o
  all_of P here others o is = elim (a.adds o is) as (λ _. P o) [
    | inl same ↦ subst P (sym same) here
    | inr before ↦ others o before
  ]

  first_is_new : (last : ℕ) → IsSoonest c run from e last →
      ((o : Element) → among o → (t : ℕ) → t ≤ last → BreaksBy c run from t o → ⊥) → IsFirstAmong c run from more e last
  first_is_new last s others = record {
    is_among = a.has;
    at = s.at;
    no_sooner = all_of (λ o. (t : ℕ) → t < last → BreaksBy c run from t o → ⊥) s.no_sooner
        (λ o before t less b. others o before t (omega arith) b);
    no_other = λ o is precedes b. elim (a.adds o is) as (λ _. ⊥) [
      | inl same ↦ a.last e a.has (subst (λ (x : Element). Precedes x e) same precedes)
      | inr before ↦ others o before last (omega arith) b
    ];
  }

  first_stays : (b : Element) (last : ℕ) → IsFirstAmong c run from among b last →
      ((t : ℕ) → t < last → BreaksBy c run from t e → ⊥) → IsFirstAmong c run from more b last
  first_stays b last f none = record {
    is_among = a.keeps b f.is_among;
    at = f.at;
    no_sooner = all_of (λ o. (t : ℕ) → t < last → BreaksBy c run from t o → ⊥) none f.no_sooner;
    no_other = λ o is precedes by. elim (a.adds o is) as (λ _. ⊥) [
      | inl same ↦ a.last b (a.keeps b f.is_among) (subst (λ (x : Element). Precedes x b) same precedes)
      | inr before ↦ f.no_other o before precedes by
    ];
  }

  pub one_more : (best : Option (Element × ℕ)) (found : Option ℕ) → HasFirstAmong c run from among best →
      HasSoonest c run from e found → HasFirstAmong c run from more (sooner_of best e found)
  one_more None None h s = all_of (λ o. Breaks c run from o → ⊥) s h
  one_more (Some b) None h s = first_stays b.0 b.1 h (λ t less by. s (whole e t by))
  one_more None (Some last) h s = first_is_new last s (λ o before t less by. h o before (whole o t by))
  one_more (Some b) (Some last) h s = by (ltb last b.1) refl
    where
      by : (t : Bool) → ltb last b.1 ≡ t → HasFirstAmong c run from more (cond t (Some (e, last)) (Some b))
      by true is =
          let less = ltb-true last b.1 is in
          first_is_new last s (λ o before t few by. h.no_sooner o before t (omega arith) by)
      by false is =
          let far = ltb-false last b.1 is in
          first_stays b.0 b.1 h (λ t less by. s.no_sooner t (omega arith) by)

-- ---- instances as they are expanded, then nets by name

pub one_instance : (k : ℕ) → Adds (AreAmong k 0) (AreAmong (k + 1) 0) (OfInstance k)
one_instance k = record {
  adds = among;
  keeps = keeps;
  has = omega arith;
  last = last;
}
  where
    among : (o : Element) → AreAmong (k + 1) 0 o → (o ≡ OfInstance k) ⊎ AreAmong k 0 o
    among (OfInstance j) less = elim (cases_eq j k) as (λ _. (OfInstance j ≡ OfInstance k) ⊎ (j < k)) [
      | inl same ↦ inl (ap OfInstance same)
      | inr apart ↦ inr (omega arith)
    ]
    among (OfNet place) less = absurd (omega arith)

    keeps : (o : Element) → AreAmong k 0 o → AreAmong (k + 1) 0 o
    keeps (OfInstance j) less = omega arith
    keeps (OfNet place) less = less

    last : (o : Element) → AreAmong (k + 1) 0 o → Precedes (OfInstance k) o → ⊥
    last (OfInstance j) less after = omega arith
    last (OfNet place) less after = omega arith

pub one_net : (instances place : ℕ) → Adds (AreAmong instances place) (AreAmong instances (place + 1)) (OfNet place)
one_net instances place = record {
  adds = among;
  keeps = keeps;
  has = omega arith;
  last = last;
}
  where
    among : (o : Element) → AreAmong instances (place + 1) o → (o ≡ OfNet place) ⊎ AreAmong instances place o
    among (OfInstance j) less = inr less
    among (OfNet other) less = elim (cases_eq other place) as (λ _. (OfNet other ≡ OfNet place) ⊎ (other < place)) [
      | inl same ↦ inl (ap OfNet same)
      | inr apart ↦ inr (omega arith)
    ]

    keeps : (o : Element) → AreAmong instances place o → AreAmong instances (place + 1) o
    keeps (OfInstance j) less = less
    keeps (OfNet other) less = omega arith

    last : (o : Element) → AreAmong instances (place + 1) o → Precedes (OfNet place) o → ⊥
    last (OfInstance j) less after = after
    last (OfNet other) less after = omega arith

-- ---- all elements

pub is_among : (c : Circuit) (run : Run) (from : ℕ) → length c.order ≡ length c.nets → (e : Element) → Breaks c run from e →
    AreAmong (length c.instances) (length c.nets) e
is_among c run from long (OfInstance k) b = elim b as (λ _. k < length c.instances) [
  | inl h ↦ slice_get_within c.instances k h.instance h.instance_is
  | inr w ↦ elim w as (λ _. k < length c.instances) [
    | inl h ↦ slice_get_within c.instances k h.instance h.instance_is
    | inr h ↦ slice_get_within c.instances k h.instance h.instance_is
  ]
]
is_among c run from long (OfNet place) b =
    let inside = b.0 in
    omega arith

pub first_of_all : (c : Circuit) (run : Run) (from : ℕ) → length c.order ≡ length c.nets → (best : Option (Element × ℕ)) →
    HasFirstAmong c run from (AreAmong (length c.instances) (length c.nets)) best →
    MatchOption best (BreaksNever c run from) (λ b. BreaksFirst c run from b.1 b.0)
first_of_all c run from long None none = λ e b. none e (is_among c run from long e b) b
first_of_all c run from long (Some b) first = record {
  at = first.at;
  no_sooner = λ o t less by. first.no_sooner o (is_among c (front (t + 1) run) from long o by.1) t less by;
  no_other = λ o precedes by. first.no_other o (is_among c (front (b.1 + 1) run) from long o by.1) precedes by;
}

pub none_yet : (c : Circuit) (run : Run) (from : ℕ) → HasFirstAmong c run from (AreAmong 0 0) None
none_yet c run from (OfInstance k) less = absurd (omega arith)
none_yet c run from (OfNet place) less = absurd (omega arith)
