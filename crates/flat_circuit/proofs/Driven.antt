-- The table of drivers.
use Rattle.std.proofs.Common.{◌≡◌, ℕ, zero, suc, ◌+◌, ◌<◌, ◌≤◌, true, false, List, [], ◌∷◌, length, get_or, set, Option, Some, None, refl, ap, sym, subst, ◌∙◌, arith, inl, inr}
use Rattle.std.specs.Prelude.{slice_get}
use Rattle.std.specs.List.{All}
use Rattle.std.specs.Option.{MatchOption}
use Rattle.std.proofs.lemmas.List.{get_or-set_same, get_or-set_other, length-set}
use Rattle.std.proofs.lemmas.List.Elements.{All-get_or}
use Rattle.std.proofs.lemmas.Bool.{cases_eq}
use Rattle.scald_base.proofs.Below.{below_or_last}
use Rattle.vector_names.specs.declared.bits.Target.{Target}
use Rattle.vector_names.specs.declared.bits.Target.TheVariants.{Net as OnNet, Constant}
use Rattle.flat_circuit.specs.declared.instance.Instance.{Instance}
use Rattle.flat_circuit.specs.Instances.{out_at, OutExists, InstanceExists, IsTaken, Is_constant, Is_driven, AreDrivers}
use Rattle.flat_circuit.specs.Builder.{IsFirst}
use Rattle.flat_circuit.specs.Steps.{entry, DrivenTo, Took}

pub get_is : {X : Type 0} (xs : List X) (k : ℕ) (x : X) → k < length xs → x ≡ get_or xs k x → slice_get xs k ≡ Some x
get_is [] k x h e = absurd (omega arith)
get_is (y ∷ ys) zero x h e = ap Some (sym e)
get_is (y ∷ ys) (suc k) x h e = get_is ys k x (omega arith) e

pub get_none : {X : Type 0} (xs : List X) (k : ℕ) → length xs ≤ k → slice_get xs k ≡ None
get_none [] k h = refl
get_none (y ∷ ys) zero h = absurd (omega arith)
get_none (y ∷ ys) (suc k) h = get_none ys k (omega arith)

driven_same : (js : List Instance) (n k : ℕ) (ds : List (Option ℕ)) → None ≡ out_at js k → DrivenTo js n k ds → DrivenTo js n (k + 1) ds
driven_same js n k ds e h = record {
  long = h.long;
  is = λ i d x. let a = h.is i d x in let b = a.0 in (omega arith, a.1);
  of = λ i d b x. elim (below_or_last d k b) as (λ _. entry ds i ≡ Some d) [
    | inl l ↦ h.of i d l x
    | inr q ↦ let y : out_at js k ≡ Some (OnNet i) =
        subst (λ z. out_at js z ≡ Some (OnNet i)) q x in absurd (cc)
  ];
  steady = λ d b l x. elim (below_or_last d k l) as (λ _. ⊥) [
    | inl m ↦ h.steady d b m x
    | inr q ↦ let y : out_at js k ≡ Some (Constant b) =
        subst (λ z. out_at js z ≡ Some (Constant b)) q x in absurd (cc)
  ];
}

abbrev net_of : Option Target → ℕ → ℕ
net_of (Some (OnNet i)) d = i
net_of _ d = d

driven_new : (js : List Instance) (n k m : ℕ) (ds : List (Option ℕ)) →
    Some (OnNet m) ≡ out_at js k → m < n → entry ds m ≡ None →
    DrivenTo js n k ds → DrivenTo js n (k + 1) (set ds m (Some k))
driven_new js n k m ds e lt o h =
    let l : m < length ds = omega (arith, h.long) in
    let same : entry (set ds m (Some k)) m ≡ Some k = get_or-set_same ds m (Some k) None l in
    record {
      long = length-set ds m (Some k) ∙ h.long;
      is = λ i d x. elim (cases_eq i m) as (λ _. (d < k + 1) × (out_at js d ≡ Some (OnNet i))) [
        | inl q ↦ let y : entry (set ds m (Some k)) m ≡ Some d = subst (λ z. entry (set ds m (Some k)) z ≡ Some d) q x in let z : k ≡ d =
            cc in (omega arith, subst (λ v. out_at js v ≡ Some (OnNet i)) z (sym e ∙ ap (λ v. Some (OnNet v)) (sym q)))
        | inr q ↦ let a = h.is i d (sym (get_or-set_other ds m i (Some k) None q) ∙ x) in let b = a.0 in (omega arith, a.1)
      ];
      of = λ i d b x. elim (below_or_last d k b) as (λ _. entry (set ds m (Some k)) i ≡ Some d) [
        | inl t ↦ let y = h.of i d t x in elim (cases_eq i m) as (λ _. entry (set ds m (Some k)) i ≡ Some d)
            [ inl q ↦ let z : entry ds m ≡ Some d = subst (λ v. entry ds v ≡ Some d) q y in absurd (cc) | inr q ↦ get_or-set_other ds m i (Some k) None q ∙ y ]
        | inr q ↦ let y : out_at js k ≡ Some (OnNet i) = subst (λ z. out_at js z ≡ Some (OnNet i)) q x in let z : m ≡ i =
            ap (λ v. net_of v 0) (e ∙ y) in subst (λ v. entry (set ds m (Some k)) v ≡ Some d) z (same ∙ ap Some (sym q))
      ];
      steady = λ d b t x. elim (below_or_last d k t) as (λ _. ⊥) [
        | inl v ↦ h.steady d b v x
        | inr q ↦ let y : out_at js k ≡ Some (Constant b) =
            subst (λ z. out_at js z ≡ Some (Constant b)) q x in absurd (cc)
      ];
    }

took_new : (js : List Instance) (n k m : ℕ) (ds ds' : List (Option ℕ)) (v : Option ℕ) → entry ds m ≡ v → Some (OnNet m) ≡ out_at js k →
    m < n → MatchOption v ((true ≡ true) × (ds' ≡ set ds m (Some k))) (λ _. true ≡ false) → DrivenTo js n k ds → DrivenTo js n (k + 1) ds'
took_new js n k m ds ds' None o e lt t h = subst (DrivenTo js n (k + 1)) (sym t.1) (driven_new js n k m ds e lt o h)
took_new js n k m ds ds' (Some v) o e lt t h = absurd (cc)

pub driven_step : (js : List Instance) (n k : ℕ) (ds ds' : List (Option ℕ)) (o : Option Target) →
    o ≡ out_at js k → OutExists n o → Took ds ds' k o true → DrivenTo js n k ds → DrivenTo js n (k + 1) ds'
driven_step js n k ds ds' None e i t h = subst (DrivenTo js n (k + 1)) (sym t.1) (driven_same js n k ds e h)
driven_step js n k ds ds' (Some (Constant b)) e i t h = absurd (cc)
driven_step js n k ds ds' (Some (OnNet m)) e i t h = took_new js n k m ds ds' (entry ds m) refl e i t h

taken_new : (js : List Instance) (n k m : ℕ) (ds ds' : List (Option ℕ)) (v : Option ℕ) → entry ds m ≡ v → Some (OnNet m) ≡ out_at js k →
    MatchOption v ((false ≡ true) × (ds' ≡ set ds m (Some k))) (λ _. false ≡ false) → DrivenTo js n k ds → IsTaken js k
taken_new js n k m ds ds' None o e t h = let f : false ≡ true = t.0 in absurd (cc)
taken_new js n k m ds ds' (Some v) o e t h = let a = h.is m v o in Is_driven a.0 a.1 (sym e)

pub taken_is : (js : List Instance) (n k : ℕ) (ds ds' : List (Option ℕ)) (o : Option Target) → o ≡ out_at js k → Took ds ds' k o false → DrivenTo js n k ds → IsTaken js k
taken_is js n k ds ds' None e t h = let f : false ≡ true = t.0 in absurd (cc)
taken_is js n k ds ds' (Some (Constant b)) e t h = Is_constant (sym e)
taken_is js n k ds ds' (Some (OnNet m)) e t h = taken_new js n k m ds ds' (entry ds m) refl e t h

pub not_taken : (js : List Instance) (n k : ℕ) (ds : List (Option ℕ)) → DrivenTo js n k ds → (m : ℕ) → m < k → IsTaken js m → ⊥
not_taken js n k ds h m l (Is_constant {b} x) = h.steady m b l x
not_taken js n k ds h m l (Is_driven {i} {d} t x y) =
    let a = h.of i d (omega arith) x in
    let b = h.of i m l y in
    let e : d ≡ m = cc in
    omega arith

pub driven_more : (js : List Instance) (n k : ℕ) (ds ds' : List (Option ℕ)) (j : Instance) → k < length js →
    j ≡ get_or js k j → All (InstanceExists n) js → Took ds ds' k j.out true → DrivenTo js n k ds → DrivenTo js n (k + 1) ds'
driven_more js n k ds ds' j l e a t h =
    let g = get_is js k j l e in
    let i : InstanceExists n j = subst (InstanceExists n) (sym e) (All-get_or (InstanceExists n) js k j l a) in
    driven_step js n k ds ds' j.out (rw g refl) i.drives t h

pub first_taken : (js : List Instance) (n k : ℕ) (ds ds' : List (Option ℕ)) (j : Instance) →
    k < length js → j ≡ get_or js k j → Took ds ds' k j.out false → DrivenTo js n k ds → IsFirst (IsTaken js) js j.place
first_taken js n k ds ds' j l e t h =
    let g = get_is js k j l e in
    record {
      k = k;
      below = l;
      is = taken_is js n k ds ds' j.out (rw g refl) t h;
      first = not_taken js n k ds h;
      stands = rw g refl;
    }

pub drivers_are : (js : List Instance) (n : ℕ) (ds : List (Option ℕ)) → DrivenTo js n (length js) ds → AreDrivers js (entry ds)
drivers_are js n ds h = record {
  is = λ i d x. (h.is i d x).1;
  of = λ i d x. h.of i d (out_in js d (OnNet i) x) x;
  steady = λ d b x. h.steady d b (out_in js d (Constant b) x) x;
} where
  out_in : (js : List Instance) (d : ℕ) (t : Target) → out_at js d ≡ Some t → d < length js
  out_in [] d t x = absurd (cc)
  out_in (j ∷ js) zero t x = omega arith
  out_in (j ∷ js) (suc d) t x = let r = out_in js d t x in omega arith
