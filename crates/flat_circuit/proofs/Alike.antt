-- Each is as itself, to be alike holds both ways, and of two that are as a third.
use Rattle.std.proofs.Common.{ℕ, List, [], ◌∷◌, Option, Some, None, refl, sym, ◌∙◌}
use Rattle.std.specs.List.{AllZip}
use Rattle.vector_names.specs.declared.bits.Target.{Target}
use Rattle.vector_names.specs.declared.bits.Target.TheVariants.{Net as OnNet, Constant}
use Rattle.flat_circuit.specs.declared.case.CaseValue.{CaseValue}
use Rattle.flat_circuit.specs.declared.instance.Pin.{Pin}
use Rattle.flat_circuit.specs.declared.instance.Instance.{Instance}
use Rattle.flat_circuit.specs.declared.net.Net.{Net}
use Rattle.flat_circuit.specs.Circuit.{Circuit}
use Rattle.flat_circuit.specs.Alike.{TargetsAlike, PinsAlike, DriversAlike, CasesAlike, NetsAlike, instance_of}

zip_self : {T : Type 0} (R : T → T → Type 0) → ((x : T) → R x x) → (xs : List T) → AllZip R xs xs
zip_self R self [] = tt
zip_self R self (x ∷ xs) = (self x, zip_self R self xs)

zip_back : {T : Type 0} (R : T → T → Type 0) → ((x y : T) → R x y → R y x) → (xs ys : List T) → AllZip R xs ys → AllZip R ys xs
zip_back R back [] [] h = tt
zip_back R back [] (y ∷ ys) h = absurd h
zip_back R back (x ∷ xs) [] h = absurd h
zip_back R back (x ∷ xs) (y ∷ ys) h = (back x y h.0, zip_back R back xs ys h.1)

zip_both : {T : Type 0} (R : T → T → Type 0) → ((x y z : T) → R x z → R y z → R x y) → (xs ys zs : List T) → AllZip R xs zs → AllZip R ys zs → AllZip R xs ys
zip_both R both [] [] zs h h' = tt
zip_both R both [] (y ∷ ys) [] h h' = absurd h'
zip_both R both [] (y ∷ ys) (z ∷ zs) h h' = absurd h
zip_both R both (x ∷ xs) ys [] h h' = absurd h
zip_both R both (x ∷ xs) [] (z ∷ zs) h h' = absurd h'
zip_both R both (x ∷ xs) (y ∷ ys) (z ∷ zs) h h' = (both x y z h.0 h'.0, zip_both R both xs ys zs h.1 h'.1)

module _ (k : List ℕ) where
  targets_self : (a : Target) → TargetsAlike k a a
  targets_self (OnNet i) = refl
  targets_self (Constant a) = refl

  targets_back : (a b : Target) → TargetsAlike k a b → TargetsAlike k b a
  targets_back (OnNet i) (OnNet j) h = sym h
  targets_back (OnNet i) (Constant b) h = h
  targets_back (Constant a) (OnNet j) h = h
  targets_back (Constant a) (Constant b) h = sym h

  targets_both : (a b c : Target) → TargetsAlike k a c → TargetsAlike k b c → TargetsAlike k a b
  targets_both (OnNet i) (OnNet j) (OnNet l) h h' = h ∙ sym h'
  targets_both (OnNet i) (OnNet j) (Constant l) h h' = absurd h
  targets_both (OnNet i) (Constant b) (OnNet l) h h' = h'
  targets_both (OnNet i) (Constant b) (Constant l) h h' = h
  targets_both (Constant a) (OnNet j) (OnNet l) h h' = h
  targets_both (Constant a) (OnNet j) (Constant l) h h' = h'
  targets_both (Constant a) (Constant b) (OnNet l) h h' = absurd h
  targets_both (Constant a) (Constant b) (Constant l) h h' = h ∙ sym h'

  pins_self : (p : Pin) → PinsAlike k p p
  pins_self p = record { target = targets_self p.target; complement = refl; mark = refl }

  pins_back : (p q : Pin) → PinsAlike k p q → PinsAlike k q p
  pins_back p q h = record { target = targets_back p.target q.target h.target; complement = sym h.complement; mark = sym h.mark }

  pins_both : (p q r : Pin) → PinsAlike k p r → PinsAlike k q r → PinsAlike k p q
  pins_both p q r h h' = record {
    target = targets_both p.target q.target r.target h.target h'.target;
    complement = h.complement ∙ sym h'.complement;
    mark = h.mark ∙ sym h'.mark;
  }

  drivers_self : (a : Option Instance) → DriversAlike k a a
  drivers_self None = tt
  drivers_self (Some a) = record {
    kind = refl;
    delay = refl;
    split = refl;
    complement = refl;
    pins = zip_self (PinsAlike k) pins_self a.pins;
  }

  drivers_back : (a b : Option Instance) → DriversAlike k a b → DriversAlike k b a
  drivers_back None None h = h
  drivers_back None (Some b) h = h
  drivers_back (Some a) None h = h
  drivers_back (Some a) (Some b) h = record {
    kind = sym h.kind;
    delay = sym h.delay;
    split = sym h.split;
    complement = sym h.complement;
    pins = zip_back (PinsAlike k) pins_back a.pins b.pins h.pins;
  }

  drivers_both : (a b d : Option Instance) → DriversAlike k a d → DriversAlike k b d → DriversAlike k a b
  drivers_both None None d h h' = tt
  drivers_both None (Some b) None h h' = h'
  drivers_both None (Some b) (Some d) h h' = h
  drivers_both (Some a) None None h h' = h
  drivers_both (Some a) None (Some d) h h' = h'
  drivers_both (Some a) (Some b) None h h' = absurd h
  drivers_both (Some a) (Some b) (Some d) h h' = record {
    kind = h.kind ∙ sym h'.kind;
    delay = h.delay ∙ sym h'.delay;
    split = h.split ∙ sym h'.split;
    complement = h.complement ∙ sym h'.complement;
    pins = zip_both (PinsAlike k) pins_both a.pins b.pins d.pins h.pins h'.pins;
  }

cases_self : (cases : List (List CaseValue)) (i : ℕ) → CasesAlike cases i i
cases_self cases i k d below = refl

cases_back : (cases : List (List CaseValue)) (i j : ℕ) → CasesAlike cases i j → CasesAlike cases j i
cases_back cases i j h k d below = sym (h k d below)

cases_both : (cases : List (List CaseValue)) (i j r : ℕ) → CasesAlike cases i r → CasesAlike cases j r → CasesAlike cases i j
cases_both cases i j r h h' k d below = h k d below ∙ sym (h' k d below)

pub nets_self : (c : Circuit) (cases : List (List CaseValue)) (k : List ℕ) (i : ℕ) (m : Net) → NetsAlike c cases k i i m m
nets_self c cases k i m = record { spec = refl; wire = refl; values = cases_self cases i; drivers = drivers_self k (instance_of c m.driver) }

pub nets_back : (c : Circuit) (cases : List (List CaseValue)) (k : List ℕ) (i j : ℕ) (m n : Net) → NetsAlike c cases k i j m n → NetsAlike c cases k j i n m
nets_back c cases k i j m n h = record {
  spec = sym h.spec;
  wire = sym h.wire;
  values = cases_back cases i j h.values;
  drivers = drivers_back k (instance_of c m.driver) (instance_of c n.driver) h.drivers;
}

pub nets_both : (c : Circuit) (cases : List (List CaseValue)) (k : List ℕ) (i j r : ℕ) (m n o : Net) → NetsAlike c cases k i r m o → NetsAlike c cases k j r n o →
    NetsAlike c cases k i j m n
nets_both c cases k i j r m n o h h' = record {
  spec = h.spec ∙ sym h'.spec;
  wire = h.wire ∙ sym h'.wire;
  values = cases_both cases i j r h.values h'.values;
  drivers = drivers_both k (instance_of c m.driver) (instance_of c n.driver) (instance_of c o.driver) h.drivers h'.drivers;
}
