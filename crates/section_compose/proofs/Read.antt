-- The sections of a text read one after the other, and the first that is refused.
use Rattle.std.proofs.Common.{◌≡◌, ℕ, zero, suc, ◌+◌, ◌<◌, ◌≤◌, List, [], ◌∷◌, ◌++◌, length, get_or, take}
use Rattle.std.proofs.Common.{map, refl, sym, ap, subst, ◌∙◌, arith, slice_get, Some}
use Rattle.std.specs.Prelude.{option_map}
use Rattle.std.specs.List.{AllZip}
use Rattle.std.proofs.lemmas.List.{map_push, take_all, take_more}
use Rattle.std.proofs.lemmas.Option.{slice_get-map, slice_get_read}
use Rattle.scald_base.specs.declared.refusal.Refusal.{Refusal}
use Rattle.section_compose.specs.declared.cut.Piece.{Piece}
use Rattle.section_compose.specs.declared.section.Section.{Section}
use Rattle.section_compose.specs.Drawn.{DrawsSection, IsSectionRefused}
use Rattle.section_compose.specs.Pieces.{piece_of}
use Rattle.section_compose.specs.declared.answer.End.TheVariants as end
use Rattle.section_compose.specs.Answer.{RefusesFirst}
use Rattle.section_compose.specs.Reading.{IsRefusedIn}

zip_push : {A B : Type 0} (R : A → B → Type 0) (xs : List A) (ys : List B) (x : A) (y : B) → AllZip R xs ys → R x y → AllZip R (xs ++ x ∷ []) (ys ++ y ∷ [])
zip_push R [] [] x y all one = (one, tt)
zip_push R [] (b ∷ ys) x y all one = absurd all
zip_push R (a ∷ xs) [] x y all one = absurd all
zip_push R (a ∷ xs) (b ∷ ys) x y all one = (all.0, zip_push R xs ys x y all.1 one)

zip_at : {A B : Type 0} (R : A → B → Type 0) (xs : List A) (ys : List B) (k : ℕ) (x : A) → AllZip R xs ys → slice_get xs k ≡ Some x → (y : B) × R x y
zip_at R [] ys k x all is = absurd (cc)
zip_at R (a ∷ xs) [] k x all is = absurd all
zip_at R (a ∷ xs) (b ∷ ys) zero x all is = let same : a ≡ x = cc in (b, subst (λ (z : _). R z b) same all.0)
zip_at R (a ∷ xs) (b ∷ ys) (suc k) x all is = zip_at R xs ys k x all.1 is

pub get_taken : {A : Type 0} (xs : List A) (n k : ℕ) → k < n → slice_get (take n xs) k ≡ slice_get xs k
get_taken xs zero k below = absurd (omega arith)
get_taken [] (suc n) k below = refl
get_taken (x ∷ xs) (suc n) zero below = refl
get_taken (x ∷ xs) (suc n) (suc k) below = get_taken xs n k (omega arith)

module _ (text : List ℕ) (pieces : List Piece) where
  abbrev pub AreDrawnTo : ℕ → List Section → Type 0
  AreDrawnTo s sections = AllZip DrawsSection (map (piece_of text) (take s pieces)) sections

  pub drawn_more : (s : ℕ) (p : Piece) (sections more : List Section) (x : Section) → s < length pieces → p ≡ get_or pieces s p → AreDrawnTo s sections →
      DrawsSection (piece_of text p) x → more ≡ sections ++ x ∷ [] → AreDrawnTo (s + 1) more
  drawn_more s p sections more x below is so_far draws put =
      subst (AllZip DrawsSection (map (piece_of text) (take (s + 1) pieces))) (sym put)
      (subst (λ (texts : List (List ℕ)). AllZip DrawsSection texts (sections ++ x ∷ [])) (sym texts)
      (zip_push DrawsSection (map (piece_of text) (take s pieces)) sections (piece_of text p) x so_far draws))
    where
      texts : map (piece_of text) (take (s + 1) pieces) ≡ map (piece_of text) (take s pieces) ++ piece_of text p ∷ []
      texts =
          ap (map (piece_of text)) (take_more pieces s p below ∙ ap (λ (q : Piece). take s pieces ++ q ∷ []) (sym is))
          ∙ map_push (piece_of text) (take s pieces) p

  pub drawn_all : (s : ℕ) (sections : List Section) → length pieces ≤ s → AreDrawnTo s sections → AllZip DrawsSection (map (piece_of text) pieces) sections
  drawn_all s sections past so_far = subst (λ (ps : List Piece). AllZip DrawsSection (map (piece_of text) ps) sections) (take_all s pieces past) so_far

  pub refused_first : (s : ℕ) (p : Piece) (sections : List Section) (r : Refusal) → s < length pieces → p ≡ get_or pieces s p → AreDrawnTo s sections →
      IsSectionRefused (piece_of text p) r → RefusesFirst (map (piece_of text) pieces) s r
  refused_first s p sections r below is so_far refused = record {
    text = piece_of text p;
    text_is = slice_get-map (piece_of text) pieces s ∙ ap (option_map (piece_of text)) (slice_get_read pieces (length pieces) s p refl below is);
    refused = refused;
    before = λ k earlier sooner at.
        zip_at DrawsSection (map (piece_of text) (take s pieces)) sections k earlier so_far
        (slice_get-map (piece_of text) (take s pieces) k ∙ ap (option_map (piece_of text)) (get_taken pieces s k sooner) ∙ sym (slice_get-map (piece_of text) pieces k) ∙ at);
  }

  -- as the end of reading has it, which counts from 1
  pub refused_at : (s number : ℕ) (p : Piece) (sections : List Section) (r r' : Refusal) → number ≡ s + 1 → r' ≡ r → s < length pieces → p ≡ get_or pieces s p →
      AreDrawnTo s sections → IsSectionRefused (piece_of text p) r → IsRefusedIn (map (piece_of text) pieces) (end.Refused number r')
  refused_at s number p sections r r' counted same below is so_far refused = (
    omega (arith, counted),
    subst (λ (n : ℕ). RefusesFirst (map (piece_of text) pieces) n r') (omega (arith, counted))
        (subst (RefusesFirst (map (piece_of text) pieces) s) (sym same) (refused_first s p sections r below is so_far refused)),
  )
