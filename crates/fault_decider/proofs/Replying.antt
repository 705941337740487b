-- From what is made for a text to what is replied to it.
use Rattle.std.specs.Prelude.{◌==◌, ◌&&◌, if◌then◌else◌}
use Rattle.std.proofs.Common.{◌≡◌, ℕ, Bool, true, false, true≢false, List, refl, sym, subst, ap, ◌∙◌, IfOk, IfSome, Result, Ok, Err, Option, None, Some}
use Rattle.std.specs.List.{sum_by}
use Rattle.scald_base.specs.declared.list.NoMemory.{NoMemory as OutOfMemory}
use Rattle.scald_base.specs.declared.refusal.Refusal.{Refusal}
use Rattle.drawing_tree.specs.Tree.{Drawing}
use Rattle.fixpoint_engine.specs.declared.rounds.EngineEnd.{EngineEnd}
use Rattle.fixpoint_engine.specs.Start.{default_limit}
use Rattle.flat_circuit.specs.Circuit.{Circuit}
use Rattle.listing.specs.Answer.{refusal_line, unsettled_line}
use Rattle.timing_analysis.specs.Case.{Case}
use Rattle.timing_analysis.specs.Drawn.{IsTextRefused}
use Rattle.timing_analysis.specs.Ended.{EndsEarly, StopsEarly}
use Rattle.timing_analysis.specs.declared.subject.Subject.{Subject}
use Rattle.program_call.specs.declared.reply.Reply.{Reply}
use Rattle.program_call.specs.Program.{IsLawful, IsReplied as IsCallReplied, by_source, speaks}
use Rattle.program_call.proofs.Answering.{told_all}
use Rattle.program_call.specs.Reporter.{IsRead}
use Rattle.fault_decider.specs.declared.outcome.DecideOutcome.{DecideOutcome}
use Rattle.fault_decider.specs.declared.outcome.DecideOutcome.TheVariants.{Settled, Faulty, Refused, Unsettled}
use Rattle.fault_decider.specs.declared.verdict.Verdict.{Verdict}
use Rattle.fault_decider.specs.declared.words.Request.{Request}
use Rattle.fault_decider.specs.Decided.{Concluded, Decided, IsTraced, decider, done, no_run, open_one, outcome_of, promised_of, refused, reported, settled, shown_one, traced, unsettled}
use Rattle.fault_decider.specs.Latest.{latest}
use Rattle.fault_decider.specs.Outcome.{end_of}
use Rattle.fault_decider.specs.Promise.{NeverBreaksLater}
use Rattle.fault_decider.specs.Reporting.{IsEnded, IsReplied}

abbrev version_of : Drawing → ℕ
version_of d = d.version

-- what holds of this outcome with these bytes holds of a reply that has them
reply_has : (P : DecideOutcome → List ℕ → Type 0) (o : DecideOutcome) (bytes : List ℕ)
    (made : Result (Reply DecideOutcome) OutOfMemory) → P o bytes →
    IfOk made (λ reply. reply.outcome ≡ o) → IfOk made (λ reply. reply.bytes ≡ bytes) →
    IfOk made (λ reply. P reply.outcome reply.bytes)
reply_has P o bytes (Ok reply) holds outcome_is bytes_are =
    subst (λ (z : DecideOutcome). P z reply.bytes) (sym outcome_is)
    (subst (λ (z : List ℕ). P o z) (sym bytes_are) holds)
reply_has P o bytes (Err e) holds outcome_is bytes_are = tt

-- ---- a refusal

pub refused_decided : (r : Request) (text : List ℕ) (why : Refusal)
    (made : Result (Reply DecideOutcome) OutOfMemory) → IsTextRefused text why →
    IfOk made (λ reply. reply.outcome ≡ Refused why) →
    IfOk made (λ reply. reply.bytes ≡ refusal_line why) →
    IfOk made (λ reply. Decided r text reply.outcome reply.bytes)
refused_decided r text why made is outcome bytes =
    reply_has (Decided r text) (Refused why) (refusal_line why) made (refused why is) outcome bytes

pub refusal_unsettled : (P : Type 0) (why : Refusal)
    (made : Result (Reply DecideOutcome) OutOfMemory) →
    IfOk made (λ reply. reply.outcome ≡ Refused why) →
    IfOk made (λ reply. reply.outcome ≡ Settled → P)
refusal_unsettled P why (Ok reply) is = λ same. let none = sym is ∙ same in absurd (cc)
refusal_unsettled P why (Err e) is = tt

-- ---- a text that is read

module _ (r : Request) (text : List ℕ) (version : ℕ) (subject : Subject) (limit : ℕ)
    (read : IsRead version_of text version subject) (own : limit ≡ default_limit subject.circuit) where
  pub replied_decided : (o : DecideOutcome) (bytes : List ℕ) →
      IsReplied r.trace version subject.circuit subject.cases limit o bytes → Decided r text o bytes
  replied_decided o bytes is =
      let at =
      subst
      (λ (n : ℕ). IsReplied r.trace version subject.circuit subject.cases n o bytes) own is in
      settled subject.circuit subject.cases read.draws at.base at.of_cases.cases o bytes at.settles
      at.of_cases.are_settled
      (subst
      (λ (v : ℕ). Concluded v subject.circuit at.base at.of_cases.cases r.trace o bytes) read.kept_is
      at.of_cases.holds)

  stops : (end : EngineEnd) (o : DecideOutcome) (bytes : List ℕ) →
      EndsEarly subject.circuit subject.cases limit end → IsEnded subject.circuit end o bytes →
      Decided r text o bytes
  stops end o bytes ends is =
      let at = subst (EndsEarly subject.circuit subject.cases limit) is.end_is ends in
      let round = at.1 ∙ own in
      let stop =
      subst (λ (n : ℕ). StopsEarly subject.circuit subject.cases n is.place) own at.0 in
      subst (λ (p : DecideOutcome). Decided r text p bytes)
      (sym (is.outcome ∙ ap (Unsettled is.place) round))
      (subst
      (Decided r text (Unsettled is.place (default_limit subject.circuit)))
      (sym (is.text ∙ ap (unsettled_line subject.circuit is.place) round))
      (unsettled subject.circuit subject.cases is.place read.draws stop))

  pub ended_decided : (end : EngineEnd) (made : Result (Reply DecideOutcome) OutOfMemory) →
      EndsEarly subject.circuit subject.cases limit end →
      IfOk made (λ reply. IsEnded subject.circuit end reply.outcome reply.bytes) →
      IfOk made (λ reply. Decided r text reply.outcome reply.bytes)
  ended_decided end (Ok reply) ends is = stops end reply.outcome reply.bytes ends is
  ended_decided end (Err e) ends is = tt

  -- ---- a report in which each fault is refuted

  traced_unsettled : (c : Circuit) (base : ℕ) (cases : List Case) (i : ℕ) (o : DecideOutcome)
      (bytes : List ℕ) → IsTraced c base cases i o bytes → o ≡ Settled → ⊥
  traced_unsettled c base cases i _ _ (done k f s numbered is) same = absurd (cc)
  traced_unsettled c base cases i _ _ no_run same = absurd (cc)

  concluded_later : (o : DecideOutcome) (bytes : List ℕ)
      (is : IsReplied r.trace version subject.circuit subject.cases limit o bytes) (trace : Option ℕ)
      (p : DecideOutcome) (some : List ℕ) →
      Concluded version subject.circuit is.base is.of_cases.cases trace p some → p ≡ Settled →
      NeverBreaksLater text
  concluded_later o bytes is _ _ _ (reported vs lines are unbroken) same = record {
    circuit = subject.circuit;
    values = subject.cases;
    drawn = read.draws;
    limit = limit;
    tick = latest subject.circuit is.base is.of_cases.cases vs;
    never = record {
      base = is.base;
      settles = is.settles;
      cases = is.of_cases.cases;
      are_settled = is.of_cases.are_settled;
      each = unbroken same;
    };
  }
  concluded_later o bytes is _ _ _ (traced i p some traced_is) same =
      absurd (traced_unsettled subject.circuit is.base is.of_cases.cases i p some traced_is same)

  pub settled_later : (o : DecideOutcome) (bytes : List ℕ) →
      IsReplied r.trace version subject.circuit subject.cases limit o bytes → o ≡ Settled →
      NeverBreaksLater text
  settled_later o bytes is same = concluded_later o bytes is r.trace o bytes is.of_cases.holds same

  pub end_unsettled : (end : EngineEnd) (made : Result (Reply DecideOutcome) OutOfMemory) →
      IfOk made (λ reply. IsEnded subject.circuit end reply.outcome reply.bytes) →
      IfOk made (λ reply. reply.outcome ≡ Settled → NeverBreaksLater text)
  end_unsettled end (Ok reply) is = λ same. let none = sym is.outcome ∙ same in absurd (cc)
  end_unsettled end (Err e) is = tt

-- ---- the program

traced_no_end : (c : Circuit) (base : ℕ) (cases : List Case) (i : ℕ) (o : DecideOutcome)
    (bytes : List ℕ) → IsTraced c base cases i o bytes → end_of o ≡ None
traced_no_end c base cases i _ _ (done k f s numbered is) = refl
traced_no_end c base cases i _ _ no_run = refl

outcome_no_end : (vs : List Verdict) → end_of (outcome_of vs) ≡ None
outcome_no_end vs = by (sum_by shown_one vs == 0) (sum_by open_one vs == 0)
  where
    by : (s o : Bool) → end_of (if s && o then Settled else Faulty) ≡ None
    by true true = refl
    by true false = refl
    by false o = refl

concluded_no_end : (version : ℕ) (c : Circuit) (base : ℕ) (cases : List Case) (trace : Option ℕ)
    (o : DecideOutcome) (bytes : List ℕ) → Concluded version c base cases trace o bytes →
    end_of o ≡ None
concluded_no_end version c base cases _ _ _ (reported vs lines are unbroken) = outcome_no_end vs
concluded_no_end version c base cases _ _ _ (traced i o bytes is) = traced_no_end c base cases i o bytes is

decided_no_end : (r : Request) (text : List ℕ) (o : DecideOutcome) (bytes : List ℕ) →
    Decided r text o bytes → end_of o ≡ None
decided_no_end r text _ _ (refused why is) = refl
decided_no_end r text _ _ (unsettled c values place draws stop) = refl
decided_no_end r text _ _ (settled c values draws base cases o bytes settles are concluded) =
    concluded_no_end draws.drawing.version c base cases r.trace o bytes concluded

pub decider_lawful : IsLawful decider
decider_lawful = record {
  ends = λ end. refl;
  replies = decided_no_end;
  one = λ r text o p bytes others is other.
      decided_no_end r text o bytes is ∙ sym (decided_no_end r text p others other);
  same = λ o bytes. refl;
  unread = λ r text other o bytes reads is. absurd (true≢false reads);
}

-- what is promised of the text that was read is true of the text that is told
pub of_told : (words : List (List ℕ)) (left left' : Option (List ℕ)) (o : DecideOutcome)
    (taken taken' : Option (List ℕ)) →
    (speaks decider o ≡ true → IsCallReplied decider promised_of words left left' o taken taken') →
    IfSome left (λ text. o ≡ Settled → NeverBreaksLater text)
of_told words None left' o taken taken' reply = tt
of_told words (Some text) left' o taken taken' reply = λ same.
    let r = reply (ap (speaks decider) same) in
    subst NeverBreaksLater
    (told_all decider decider_lawful words (Some text) left' text o r.bytes (by_source refl) r.reply refl)
    (r.kept same)
