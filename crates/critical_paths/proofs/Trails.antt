-- Paths without a bound on their length are those of the definition.
use Rattle.std.proofs.Common.{◌≡◌, ℕ, zero, suc, ◌<◌, false, ◌||◌, cond, List, [], ◌∷◌, length, refl, sym, ap, ◌∙◌, arith, Option, Some}
use Rattle.std.specs.List.{list_any}
use Rattle.critical_paths.specs.declared.event.Stop.{Stop}
use Rattle.critical_paths.specs.declared.path.Passage.{Passage}
use Rattle.critical_paths.specs.declared.path.Origin.TheVariants.{Earlier}
use Rattle.critical_paths.specs.declared.path.Node.{Node}
use Rattle.critical_paths.specs.declared.path.End.{End as Ending}
use Rattle.critical_paths.specs.declared.path.End.TheVariants.{Edge, Source as AtSource, Loop as InLoop, Nothing as ByNothing}
use Rattle.flat_circuit.specs.Circuit.{Circuit}
use Rattle.fixpoint_engine.specs.Waves.{Waves}
use Rattle.critical_paths.specs.Path.{Loop}
use Rattle.critical_paths.specs.Walk.{ending, link, linked, origin_of, path_after, path_from, same_stop}
use Rattle.critical_paths.specs.Known.{Goes, IsEnd, end_of, link_on, path_on}

-- no node of a path is at this stop
abbrev pub ApartFrom : Stop → Node → List Node → Type 0
ApartFrom s n [] = same_stop n.stop s ≡ false
ApartFrom s n (m ∷ more) = (same_stop n.stop s ≡ false) × ApartFrom s m more

module _ (c : Circuit) (ws : Waves) where
  end_path : (n : ℕ) (seen : List Stop) (end : Ending) (s : Stop) → IsEnd c ws seen s end →
      path_from c ws (suc n) seen s ≡ ending s (end_of end)
  end_path n seen Edge s is =
      ap (λ b. cond b (ending s Loop) (path_after s (path_from c ws n (s ∷ seen))
      (origin_of c ws s))) is.0
      ∙ ap (path_after s (path_from c ws n (s ∷ seen))) is.1
  end_path n seen AtSource s is =
      ap (λ b. cond b (ending s Loop) (path_after s (path_from c ws n (s ∷ seen))
      (origin_of c ws s))) is.0
      ∙ ap (path_after s (path_from c ws n (s ∷ seen))) is.1
  end_path n seen InLoop s is =
      ap (λ b. cond b (ending s Loop) (path_after s (path_from c ws n (s ∷ seen))
      (origin_of c ws s))) is
  end_path n seen ByNothing s is =
      ap (λ b. cond b (ending s Loop) (path_after s (path_from c ws n (s ∷ seen))
      (origin_of c ws s))) is.0
      ∙ ap (path_after s (path_from c ws n (s ∷ seen))) is.1

  pub goes_path : (n : ℕ) (seen : List Stop) (end : Ending) (node : Node) (rest : List Node) →
      length rest < n →
      Goes c ws seen end node rest → path_from c ws n seen node.stop
      ≡ path_on (end_of end) node rest
  goes_path zero seen end node rest less goes = absurd (omega arith)
  goes_path (suc n) seen end node [] less goes = end_path n seen end node.stop goes
  goes_path (suc n) seen end node (m ∷ more) less (fresh, (p, is, from), goes) =
      let s = node.stop in
      ap (λ b. cond b (ending s Loop) (path_after s (path_from c ws n (s ∷ seen))
      (origin_of c ws s))) fresh
      ∙ ap (path_after s (path_from c ws n (s ∷ seen))) from
      ∙ ap (linked (link s p)) (goes_path n (s ∷ seen) end m more (omega (arith, less)) goes)
      ∙ ap (λ (o : Option Passage). link_on s (path_on (end_of end) m more) o) (sym is)

  -- ---- one stop more was passed, which is on no part of the way

  end_more : (s : Stop) (seen more : List Stop) (end : Ending) (t : Stop) →
      list_any (same_stop t) more ≡ list_any (same_stop t) seen → IsEnd c ws seen t end →
      IsEnd c ws more t end
  end_more s seen more Edge t same is = (same ∙ is.0, is.1)
  end_more s seen more AtSource t same is = (same ∙ is.0, is.1)
  end_more s seen more InLoop t same is = same ∙ is
  end_more s seen more ByNothing t same is = (same ∙ is.0, is.1)

  goes_more : (s : Stop) (seen more : List Stop) →
      ((q : Stop) → same_stop q s ≡ false → list_any (same_stop q) more
      ≡ list_any (same_stop q) seen) →
      (end : Ending) (n : Node) (rest : List Node) → ApartFrom s n rest →
      Goes c ws seen end n rest → Goes c ws more end n rest
  goes_more s seen more agree end n [] apart goes = end_more s seen more end n.stop
      (agree n.stop apart) goes
  goes_more s seen more agree end n (m ∷ rest) (apart, others) (fresh, step, goes) = (
    agree n.stop apart ∙ fresh,
    step,
    goes_more s (n.stop ∷ seen) (n.stop ∷ more) (λ q ne. ap (λ b. same_stop q n.stop || b)
        (agree q ne)) end m rest others goes,
  )

  pub goes_before : (end : Ending) (n m : Node) (rest : List Node) (p : Passage) → n.passage
      ≡ Some p →
      origin_of c ws n.stop ≡ Earlier p m.stop → ApartFrom n.stop m rest → Goes c ws [] end m rest →
      Goes c ws [] end n (m ∷ rest)
  goes_before end n m rest p is from apart goes = (
    refl,
    (p, is, from),
    goes_more n.stop [] (n.stop ∷ []) (λ q ne. ap (λ b. b || false) ne) end
        m rest apart goes,
  )
