-- What the test of a batch's clock tells of its run.
use Rattle.std.proofs.Common.{◌≡◌, ℕ, List, length, Option, Some, None, Result, Ok, Err, IfErr, subst, refl}
use Rattle.std.specs.Option.{MatchOption}
use Rattle.tf_records.specs.declared.refusal.Refusal.{Refusal}
use Rattle.tf_records.specs.declared.refusal.Refusal.TheVariants.{NoMemory}
use Rattle.tf_records.specs.declared.reply.Failure.{Failure}
use Rattle.tf_journal.specs.declared.entry.Entry.{Entry}
use Rattle.tf_journal.specs.Lawful.{IsLawfulAt}
use Rattle.tf_events.specs.Batch.{IsBatchRun, batch_clock, batch_refusal}
use Rattle.tf_events.specs.Chain.{Kind}

-- where a clock is told, it is that of the batch
pub clock_told : (due : Option Refusal) (told : Result ℕ Refusal) (moment clock : ℕ) → MatchOption due (told ≡ Ok moment) (λ refusal. told ≡ Err refusal) → told ≡ Ok clock
    → moment ≡ clock
clock_told None told moment clock counts is = cc
clock_told (Some refusal) told moment clock counts is = absurd (cc)

-- where a refusal is told, it is the one that is due
refusal_told : (due : Option Refusal) (told : Result ℕ Refusal) (moment : ℕ) (refusal : Refusal) (result : Result (List Failure) Refusal)
    → MatchOption due (told ≡ Ok moment) (λ refusal. told ≡ Err refusal) → told ≡ Err refusal → result ≡ Err refusal
    → MatchOption due (IfErr result (λ fault. fault ≡ NoMemory)) (λ fault. result ≡ Err fault)
refusal_told None told moment refusal result counts is same = absurd (cc)
refusal_told (Some due) told moment refusal result counts is same = cc

-- a batch that is refused before it begins
pub refused_run : {E L : Type 0} (kind : Kind E) (journal_of : L → List Entry) (clock_of kept_of : L → ℕ) (old : L) (events : List E) (now clock : ℕ)
    (told : Result ℕ Refusal) (refusal : Refusal) (result : Result (List Failure) Refusal)
    → IsLawfulAt (clock_of old) (journal_of old) → clock ≡ clock_of old
    → MatchOption (batch_refusal clock (length events) now) (told ≡ Ok (batch_clock clock (length events) now)) (λ refusal. told ≡ Err refusal)
    → told ≡ Err refusal → result ≡ Err refusal → IsBatchRun kind journal_of clock_of kept_of old old events now result
refused_run kind journal_of clock_of kept_of old events now clock told refusal result lawful here counts is same = record {
  refused = refusal_told (batch_refusal (clock_of old) (length events) now) told (batch_clock (clock_of old) (length events) now) refusal result
      (subst (λ n. MatchOption (batch_refusal n (length events) now) (told ≡ Ok (batch_clock n (length events) now)) (λ refusal. told ≡ Err refusal)) here counts) is same;
  reply = rw same tt;
  stored = rw same tt;
  clock = rw same tt;
  kept = rw same tt;
  unchanged = rw same (record { journal = refl; clock = refl; kept = refl });
  lawful = lawful;
}
