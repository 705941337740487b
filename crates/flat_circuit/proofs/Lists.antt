-- A loop over two lists that looks at one pair more.
use Rattle.std.proofs.Common.{ℕ, ◌+◌, ◌<◌, List, [], ◌∷◌, ◌++◌, length, get_or, take, sym, subst}
use Rattle.std.specs.List.{AllZip}
use Rattle.std.proofs.lemmas.List.{take_more}

module _ {T : Type 0} (R : T → T → Type 0) where
  zip_push : (xs ys : List T) (x y : T) → AllZip R xs ys → R x y → AllZip R (xs ++ x ∷ []) (ys ++ y ∷ [])
  zip_push [] [] x y h r = (r, tt)
  zip_push [] (b ∷ ys) x y h r = absurd h
  zip_push (a ∷ xs) [] x y h r = absurd h
  zip_push (a ∷ xs) (b ∷ ys) x y h r = (h.0, zip_push xs ys x y h.1 r)

  pub zip_next : (xs ys : List T) (i : ℕ) (d d' : T) → i < length xs → i < length ys → R (get_or xs i d) (get_or ys i d') → AllZip R (take i xs) (take i ys) →
      AllZip R (take (i + 1) xs) (take (i + 1) ys)
  zip_next xs ys i d d' below below' here h =
      subst (λ (l : List T). AllZip R l (take (i + 1) ys)) (sym (take_more xs i d below))
      (subst (λ (l : List T). AllZip R (take i xs ++ get_or xs i d ∷ []) l) (sym (take_more ys i d' below'))
      (zip_push (take i xs) (take i ys) (get_or xs i d) (get_or ys i d') h here))
