-- Nets that are counted, one of the name order after the other.
use Rattle.std.proofs.Common.{◌≡◌, ℕ, suc, ◌+◌, ◌<◌, ◌≤◌, Bool, true, false, cond, List, [], ◌∷◌, ◌++◌, length, take, get_or, refl, sym, ap, ◌∙◌, arith, slice_get, Some, None, append-nil}
use Rattle.std.specs.List.{filter}
use Rattle.std.proofs.lemmas.List.{length_push, length-take}
use Rattle.std.proofs.lemmas.List.Elements.{filter_more}
use Rattle.std.proofs.lemmas.List.Sums.{length-filter, count_by-le-length}
use Rattle.flat_circuit.specs.declared.net.Net.{Net}
use Rattle.flat_circuit.specs.Circuit.{Circuit, net_names}
use Rattle.drawing_notes.specs.declared.unknown.Counted.{Counted}
use Rattle.drawing_notes.specs.Unknown.{IsCounted, and_net, first_or, unknown_in, unknown_line}

first_push : (nets : List ℕ) (net : ℕ) → slice_get (nets ++ net ∷ []) 0 ≡ first_or (slice_get nets 0) net
first_push [] net = refl
first_push (n ∷ nets) net = refl

module _ (p : ℕ → Bool) (order : List ℕ) (k net : ℕ) (below : k < length order) (is : net ≡ get_or order k 0) where
  one_more : (b : Bool) → p net ≡ b → filter p (take (k + 1) order) ≡ filter p (take k order) ++ cond b (net ∷ []) []
  one_more b e =
      filter_more p order k 0 below
      ∙ ap (λ c. filter p (take k order) ++ cond c (get_or order k 0 ∷ []) []) (ap p (sym is) ∙ e)
      ∙ ap (λ n. filter p (take k order) ++ cond b (n ∷ []) []) (sym is)

  pub counted_more : (counted : Counted) → IsCounted (filter p (take k order)) counted →
      IsCounted (filter p (take (k + 1) order)) (and_net counted net (p net))
  counted_more counted before = by (p net) refl
    where
      by : (b : Bool) → p net ≡ b → IsCounted (filter p (take (k + 1) order)) (and_net counted net b)
      by false none =
          let same : filter p (take (k + 1) order) ≡ filter p (take k order) = one_more false none ∙ append-nil (filter p (take k order)) in
          record { count = before.count ∙ ap length (sym same); first = before.first ∙ ap (λ (nets : List ℕ). slice_get nets 0) (sym same) }
      by true some =
          let more : filter p (take (k + 1) order) ≡ filter p (take k order) ++ net ∷ [] = one_more true some in
          record {
            count = ap (λ n. n + 1) before.count ∙ sym (length_push (filter p (take k order)) net) ∙ ap length (sym more);
            first = ap (λ o. first_or o net) before.first ∙ sym (first_push (filter p (take k order)) net) ∙ ap (λ (nets : List ℕ). slice_get nets 0) (sym more);
          }

pub names_long : (nets : List Net) → length (net_names nets) ≡ length nets
names_long [] = refl
names_long (n ∷ nets) = ap suc (names_long nets)

-- no more are counted than were looked at
pub counted_few : (p : ℕ → Bool) (order : List ℕ) (k : ℕ) (counted : Counted) → k ≤ length order → IsCounted (filter p (take k order)) counted → counted.count ≤ k
counted_few p order k counted inside is =
    let count = is.count in
    let by = length-filter p (take k order) in
    let few = count_by-le-length p (take k order) in
    let long = length-take k order in
    omega (arith, count, by, few, long, inside)

-- ---- the note on what was counted

pub none_counted : (c : Circuit) (number : ℕ) (nets : List ℕ) (counted : Counted) → counted.first ≡ None → IsCounted nets counted →
    unknown_in c number nets ≡ []
none_counted c number [] counted none is = refl
none_counted c number (n ∷ nets) counted none is = let wrong : None ≡ Some n = sym none ∙ is.first in absurd cc

pub some_counted : (c : Circuit) (number : ℕ) (nets : List ℕ) (counted : Counted) (first : ℕ) → counted.first ≡ Some first → IsCounted nets counted →
    unknown_in c number nets ≡ unknown_line c number counted.count first ∷ []
some_counted c number [] counted first some is = let wrong : Some first ≡ None = sym some ∙ is.first in absurd cc
some_counted c number (n ∷ nets) counted first some is =
    let both : Some first ≡ Some n = sym some ∙ is.first in
    let same : first ≡ n = cc in
    λ k. unknown_line c number (sym is.count k) (sym same k) ∷ []
