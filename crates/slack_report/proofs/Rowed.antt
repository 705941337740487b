-- How many limits have a row of their own.
use Rattle.std.proofs.Common.{◌≡◌, ◌∙◌, ℕ, zero, suc, ◌+◌, ◌<◌, Bool, true, false, not, ◌&&◌, cond, List, [], ◌∷◌, length, sym, ap, arith, get_or, Option, Some, None, take}
use Rattle.std.specs.Prelude.{filter, is_none, slice_get}
use Rattle.std.specs.List.{count_by}
use Rattle.std.proofs.lemmas.List.{length-map}
use Rattle.std.proofs.lemmas.List.Sums.{count_by_more_no, count_by_more_yes, length-filter}
use Rattle.std.proofs.lemmas.Option.{get_or_from_slice_get, slice_get_within}
use Rattle.flat_circuit.specs.Circuit.{Circuit}
use Rattle.slack_rows.specs.declared.parameter.Parameter.{Parameter}
use Rattle.slack_rows.specs.declared.rows.Least.{Least}
use Rattle.slack_rows.specs.declared.rows.Rows.{Rows}
use Rattle.slack_rows.specs.Limit.{Case}
use Rattle.slack_rows.specs.Rows.{Row, all_limits, is_reported, own_rows, row, slack_of, subjects}
use Rattle.slack_rows.specs.Slack.{is_free}
use Rattle.slack_rows.proofs.Gathering.{filter_through}
use Rattle.slack_rows.proofs.Once.{rows_of}
use Rattle.slack_report.specs.Answer.{AreRows, has_row}

-- there is an item at each place
pub lost : {A : Type 0} (xs : List A) (i : ℕ) → slice_get xs i ≡ None → i < length xs → ⊥
lost [] i none within = omega (arith, within)
lost (x ∷ xs) zero none within = cc (none)
lost (x ∷ xs) (suc i) none within = lost xs i none (omega (arith, within))

module _ (c : Circuit) (cases : List Case) where
  abbrev row_at : Parameter → Row
  row_at q = row c cases q.subject q.word

  abbrev is_own : Row → Bool
  is_own r = not (is_free (slack_of r)) && not (is_reported c cases r)

  -- one for each limit that has a row
  pub own_counted : (limits : List Parameter) → limits ≡ all_limits c →
      count_by (has_row c cases) limits ≡ length (own_rows c cases)
  own_counted limits are =
      ap (count_by (has_row c cases)) are
      ∙ sym (length-filter (has_row c cases) (all_limits c))
      ∙ sym (length-map (filter (has_row c cases) (all_limits c)) row_at)
      ∙ ap (λ (rows : List Row). length rows) (filter_through row_at is_own (all_limits c))
      ∙ ap (λ (rows : List Row). length (filter is_own rows)) (sym (rows_of c cases (subjects c)))

  -- a limit that something can break and that is not told before
  pub row_is : (rows : Rows) (place : ℕ) (q : Parameter) (found : Option Least) (reported : Bool) →
      AreRows c cases rows → slice_get rows.parameters place ≡ Some q →
      slice_get rows.least place ≡ Some found → reported ≡ is_reported c cases (row_at q) →
      (not (is_none found) && not reported) ≡ has_row c cases q
  row_is rows place q found reported are at here same =
      (λ i. not (are.known.free place q found at here i) && not (same i))

  -- one limit more
  pub row_more : (limits : List Parameter) (place count next : ℕ) (holds : Bool) (q : Parameter) →
      slice_get limits place ≡ Some q → holds ≡ has_row c cases q →
      count ≡ count_by (has_row c cases) (take place limits) → next ≡ count + cond holds 1 0 →
      next ≡ count_by (has_row c cases) (take (place + 1) limits)
  row_more limits place count next holds q at is so_far more = by holds is more
    where
      within : place < length limits
      within = slice_get_within limits place q at

      own : get_or limits place q ≡ q
      own = get_or_from_slice_get limits place q q at

      by : (b : Bool) → b ≡ has_row c cases q → next ≡ count + cond b 1 0 →
          next ≡ count_by (has_row c cases) (take (place + 1) limits)
      by true passes now =
          now ∙ ap (λ (n : ℕ). n + 1) so_far
          ∙ sym (count_by_more_yes (has_row c cases) limits place q within
          (ap (has_row c cases) own ∙ sym passes))
      by false passes now =
          now ∙ (omega arith) ∙ so_far
          ∙ sym (count_by_more_no (has_row c cases) limits place q within
          (ap (has_row c cases) own ∙ sym passes))
