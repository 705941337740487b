-- What a call gives of the cells of two runs, or of one, slot by slot.
use Rattle.std.proofs.Common.{◌≡◌, ℕ, zero, suc, ◌+◌, ◌<◌, List, [], ◌∷◌, ◌++◌, length, get_or, take, refl, sym, ap, ◌∙◌, arith, subst}
use Rattle.std.specs.Prelude.{replicate}
use Rattle.std.specs.List.{AllZip, zip}
use Rattle.std.proofs.lemmas.List.{append_assoc, append-nil}
use Rattle.run_wave.specs.declared.run.Run.{Run}
use Rattle.run_wave.specs.Run.{cells_of}
use Rattle.run_wave.proofs.Runs.{cells_of_more}

module _ {A B : Type 0} (R : A → B → Type 0) where
  pub AllZip_append : (xs xs' : List A) (ys ys' : List B) → AllZip R xs ys → AllZip R xs' ys' → AllZip R (xs ++ xs') (ys ++ ys')
  AllZip_append [] xs' [] ys' h h' = h'
  AllZip_append [] xs' (y ∷ ys) ys' h h' = absurd h
  AllZip_append (x ∷ xs) xs' [] ys' h h' = absurd h
  AllZip_append (x ∷ xs) xs' (y ∷ ys) ys' h h' = (h.0, AllZip_append xs xs' ys ys' h.1 h')

  AllZip_replicate : (n : ℕ) (x : A) (y : B) → R x y → AllZip R (replicate n x) (replicate n y)
  AllZip_replicate zero x y r = tt
  AllZip_replicate (suc n) x y r = (r, AllZip_replicate n x y r)

  -- whatever is related to the items still to come makes the list whole
  abbrev pub Continues : List A → List A → List B → Type 0
  Continues all ahead done = (rest : List B) → AllZip R ahead rest → AllZip R all (done ++ rest)

  pub mapped_more : (rs : List (Run A)) (i : ℕ) (r : Run A) (done next : List B) (y : B) → i < length rs → r ≡ get_or rs i r → R r.cell y →
      next ≡ done ++ replicate r.width y → AllZip R (cells_of (take i rs)) done → AllZip R (cells_of (take (i + 1) rs)) next
  mapped_more rs i r done next y below is made e h =
      rw (cells_of_more rs i r below is, e)
      (AllZip_append (cells_of (take i rs)) (replicate r.width r.cell) done (replicate r.width y) h (AllZip_replicate r.width r.cell y made))

  pub continues_start : (all ahead : List A) (done : List B) → ahead ≡ all → done ≡ [] → Continues all ahead done
  continues_start all ahead done e none rest h =
      subst (λ (l : List B). AllZip R all (l ++ rest)) (sym none) (subst (λ (l : List A). AllZip R l rest) e h)

  pub continues_next : (all ahead ahead' : List A) (done done' : List B) (w : ℕ) (x : A) (y : B) → R x y → ahead ≡ replicate w x ++ ahead' →
      done' ≡ done ++ replicate w y → Continues all ahead done → Continues all ahead' done'
  continues_next all ahead ahead' done done' w x y made e e' h rest more =
      let joined : AllZip R ahead (replicate w y ++ rest) =
      rw e (AllZip_append (replicate w x) ahead' (replicate w y) rest (AllZip_replicate w x y made) more) in
      let same : done ++ (replicate w y ++ rest) ≡ done' ++ rest =
      sym (append_assoc done (replicate w y) rest) ∙ ap (λ (l : List B). l ++ rest) (sym e') in
      subst (λ (l : List B). AllZip R all l) same (h (replicate w y ++ rest) joined)

zip_replicate : {A B : Type 0} (w : ℕ) (x : A) (y : B) (xs : List A) (ys : List B) →
    zip (replicate w x ++ xs) (replicate w y ++ ys) ≡ replicate w (x, y) ++ zip xs ys
zip_replicate zero x y xs ys = refl
zip_replicate {A} {B} (suc w) x y xs ys = ap (λ (l : List (A × B)). (x, y) ∷ l) (zip_replicate w x y xs ys)

-- two lists that go on with so many slots of one cell each
pub zip_next : {A B : Type 0} (w : ℕ) (x : A) (y : B) (xs xs' : List A) (ys ys' : List B) → xs ≡ replicate w x ++ xs' → ys ≡ replicate w y ++ ys' →
    zip xs ys ≡ replicate w (x, y) ++ zip xs' ys'
zip_next w x y xs xs' ys ys' e e' = (λ i. zip (e i) (e' i)) ∙ zip_replicate w x y xs' ys'

-- nothing is left of the first list
pub continues_end : {A B C : Type 0} (R : A × B → C → Type 0) (all : List (A × B)) (xs : List A) (ys : List B) (done : List C) → length xs ≡ 0 →
    Continues R all (zip xs ys) done → AllZip R all done
continues_end {C = C} R all [] ys done e h = subst (λ (l : List C). AllZip R all l) (append-nil done) (h [] tt)
continues_end R all (x ∷ xs) ys done e h = absurd (omega (arith, e))
