-- Which edges guard windows, one after another, and the slacks about windows as more are added.
use Rattle.std.proofs.Common.{◌≡◌, ℕ, ◌+◌, ◌<◌, refl, sym, ap, subst, ◌∙◌, List, [], ◌∷◌, ◌++◌, map, take, get_or, length, Option, Some, None}
use Rattle.std.specs.Prelude.{ℤ, IfSome, filter_map}
use Rattle.std.specs.List.{AllByRecursion, cons_option}
use Rattle.std.specs.Option.{option_map}
use Rattle.std.proofs.lemmas.List.{map-append, take_more}
use Rattle.std.proofs.lemmas.List.Elements.{filter_map-append}
use Rattle.std.proofs.lemmas.List.Sums.{fold_push}
use Rattle.flat_circuit.specs.Circuit.{Circuit}
use Rattle.fixpoint_engine.specs.Waves.{Waves}
use Rattle.critical_paths.specs.declared.path.Paths.{Paths}
use Rattle.critical_paths.specs.declared.direction.Corner.{Corner}
use Rattle.critical_paths.specs.declared.direction.Direction.{Direction}
use Rattle.critical_paths.specs.declared.region.Region.{Region as Ticked}
use Rattle.slack_rows.specs.declared.guard.Guard.{Guard}
use Rattle.slack_rows.specs.declared.held.Held.{Held}
use Rattle.slack_rows.specs.declared.slack.Slacks.{Slacks}
use Rattle.slack_rows.specs.declared.window.Extent.{Extent}
use Rattle.slack_rows.specs.declared.window.Window.{Window as Ticks}
use Rattle.slack_rows.specs.Arrived.{TwoWorkedOut}
use Rattle.slack_rows.specs.Held.{edge_held, step_held}
use Rattle.slack_rows.specs.Sides.{AreLeastAbout, MayBeTwo, WereAbout, edge_behind, guard_about, guard_by, guarded, guards_of, lesser_slacks, no_slacks}
use Rattle.slack_rows.specs.Views.{lesser_found, window_about}

-- ---- one window more

guarded_option : (g : Option Guard) → map guarded (cons_option g []) ≡ cons_option (option_map guarded g) []
guarded_option None = refl
guarded_option (Some g) = refl

module _ (c : Circuit) (ws : Waves) (held : Held) (corner : Corner) (extent : Extent) where
  abbrev about : Ticked → Option (Ticks × (ℕ × ℤ))
  about e = guard_about c ws held corner (window_about e extent)

  taken : (edges : List Ticked) (i : ℕ) (e : Ticked) → i < length edges →
      filter_map about (take (i + 1) edges) ≡ filter_map about (take i edges) ++ cons_option (about (get_or edges i e)) []
  taken edges i e below =
      ap (filter_map about) (take_more edges i e below) ∙ filter_map-append about (take i edges) (get_or edges i e ∷ [])

  pub guards_more : (edges : List Ticked) (i : ℕ) (e : Ticked) (found : List Guard) (g : Option Guard) (w : Ticks) (against : Option (ℕ × ℤ)) →
      i < length edges → map guarded found ≡ guards_of c ws held corner extent (take i edges) →
      option_map guarded g ≡ guard_by w against → w ≡ window_about (get_or edges i e) extent →
      against ≡ edge_behind c ws (step_held held w corner) →
      map guarded (found ++ cons_option g []) ≡ guards_of c ws held corner extent (take (i + 1) edges)
  guards_more edges i e found g w against below so made at edge =
      map-append guarded found (cons_option g [])
      ∙ ap (λ (xs : List (Ticks × (ℕ × ℤ))). xs ++ map guarded (cons_option g [])) so
      ∙ ap (λ (xs : List (Ticks × (ℕ × ℤ))). guards_of c ws held corner extent (take i edges) ++ xs)
      (guarded_option g ∙ ap (λ (o : Option (Ticks × (ℕ × ℤ))). cons_option o [])
      (made ∙ ap (guard_by w) edge ∙ ap (guard_about c ws held corner) at))
      ∙ sym (taken edges i e below)

-- ---- two launches

-- what is worked out if they may make a region
pub may_be_two : (c : Circuit) (ws : Waves) (paths : Paths) (w : Ticks) (met : Option (Held × Ticked)) →
    IfSome met (λ found. TwoWorkedOut paths.known.entries found.0 (edge_held c ws found.0 w)) → MayBeTwo c ws paths w met
may_be_two c ws paths w None known = tt
may_be_two c ws paths w (Some found) known = known

-- ---- the slacks about one window more

pub all_more : {A : Type 0} (P : A → Type 0) (xs : List A) (x : A) → AllByRecursion P xs → P x → AllByRecursion P (xs ++ x ∷ [])
all_more P [] x all one = (one, tt)
all_more P (y ∷ xs) x all one = (all.0, all_more P xs x all.1 one)

module _ (c : Circuit) (ws : Waves) (start : Paths) (held : Option Held) (d : Direction) (changes : List Ticked) where
  pub least_none : (found : Slacks) → found ≡ no_slacks → AreLeastAbout c ws start held d changes [] found
  least_none found is = record { each = []; windows_are = refl; are = tt; is = is }

  pub least_more : (windows : List Ticks) (w : Ticks) (all found next : Slacks) → AreLeastAbout c ws start held d changes windows all →
      WereAbout c ws start held d changes (w, found) → next.level ≡ lesser_found all.level found.level →
      next.before ≡ lesser_found all.before found.before → next.after ≡ lesser_found all.after found.after →
      AreLeastAbout c ws start held d changes (windows ++ w ∷ []) next
  least_more windows w all found next so one level before after =
      record {
        each = so.each ++ (w, found) ∷ [];
        windows_are = map-append (λ (x : Ticks × Slacks). x.0) so.each ((w, found) ∷ [])
            ∙ ap (λ (ws : List Ticks). ws ++ w ∷ []) so.windows_are;
        are = all_more (WereAbout c ws start held d changes) so.each (w, found) so.are one;
        is = least_is ∙ ap (λ (s : Slacks). lesser_slacks s found) so.is
            ∙ sym (fold_push (λ least x. lesser_slacks least x.1) no_slacks so.each (w, found));
      }
    where
      least_is : next ≡ lesser_slacks all found
      least_is = λ i. record { level = level i; before = before i; after = after i }

  -- those about the edges so far
  pub least_edge : (extent : Extent) (edges : List Ticked) (i : ℕ) (e : Ticked) (w : Ticks) (all found next : Slacks) → i < length edges →
      AreLeastAbout c ws start held d changes (map (λ x. window_about x extent) (take i edges)) all →
      w ≡ window_about (get_or edges i e) extent → WereAbout c ws start held d changes (w, found) →
      next.level ≡ lesser_found all.level found.level →
      next.before ≡ lesser_found all.before found.before → next.after ≡ lesser_found all.after found.after →
      AreLeastAbout c ws start held d changes (map (λ x. window_about x extent) (take (i + 1) edges)) next
  least_edge extent edges i e w all found next below so at one level before after =
      subst (λ (windows : List Ticks). AreLeastAbout c ws start held d changes windows next)
      (ap (λ (x : Ticks). map (λ y. window_about y extent) (take i edges) ++ x ∷ []) at
      ∙ sym (map-append (λ y. window_about y extent) (take i edges) (get_or edges i e ∷ []))
      ∙ sym (ap (map (λ y. window_about y extent)) (take_more edges i e below)))
      (least_more (map (λ x. window_about x extent) (take i edges)) w all found next so one level before after)
