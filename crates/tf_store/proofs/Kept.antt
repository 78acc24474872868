-- What always holds of a store goes on to hold when its journal grows, when tables are installed, and when it is published.
use mathlib.Core.List.{IsPrefix}
use Rattle.std.proofs.Common.{◌≡◌, ℕ, ◌≤◌, List, [], ◌∷◌, ◌++◌, refl, sym, subst, ap, arith, take, length, length-append, append-nil, ◌∙◌}
use Rattle.std.proofs.lemmas.List.{take-append-le}
use Rattle.std.proofs.lemmas.List.Elements.{All-head, All-nil, All-push, All-same, All-tail, All-weaker}
use Rattle.std.proofs.Math.Seq.{take-append_seam, take-length}
use Rattle.std.specs.List.{All}
use Rattle.std.specs.Prelude.{map, Result, Ok, Err, IfOk, OnErr}
use Rattle.tf_records.specs.declared.refusal.Refusal.{Refusal}
use Rattle.tf_records.specs.declared.reply.Failure.{Failure}
use Rattle.tf_journal.specs.declared.entry.Entry.{Entry}
use Rattle.tf_journal.specs.Journal.{last_timestamp, timestamp_of}
use Rattle.tf_journal.specs.Lawful.{IsLawful, IsLawfulAt}
use Rattle.tf_manifest.specs.View.{ShowsJournal, no_tables}
use Rattle.tf_rows.specs.Counts.{Sealed, nothing_sealed}
use Rattle.tf_forest.specs.Forest as forest
use Rattle.tf_store.specs.Book.{book_of}
use Rattle.tf_store.specs.Public.{IsPublic, PublicView, all_public, nothing_public}
use Rattle.tf_store.specs.Receipt.{Batch, IsReceipt, IsRun, ReceiptView, Waiting, Waits, receipt_of}
use Rattle.tf_store.specs.Store.{IsStore}
use Rattle.tf_store.proofs.Counting.{begins_more, map-append}
use Rattle.tf_store.proofs.Runs.{Facts, facts, not_due}

-- a beginning is no longer than the whole
pub no_longer : (first whole : List Entry) → IsPrefix first whole → length first ≤ length whole
no_longer first whole (more, is) = subst (λ l. length first ≤ length l) is (omega (arith, length-append first more))

-- and where it is as long, it is the whole
pub whole_beginning : (first whole : List Entry) → IsPrefix first whole → length whole ≤ length first → first ≡ whole
whole_beginning first whole (more, is) long =
    sym (take-append_seam first more) ∙ ap (take (length first)) is ∙ ap (λ n. take n whole) (omega (arith, long, no_longer first whole (more, is))) ∙ take-length whole

-- what a beginning of a journal begins with, the whole begins with too
pub same_beginning : (first whole : List Entry) (n : ℕ) → IsPrefix first whole → n ≤ length first → take n whole ≡ take n first
same_beginning first whole n (more, is) within = ap (take n) (sym is) ∙ take-append-le n first more within

-- a batch's receipt is the same in a longer journal
pub same_receipt : (journal whole : List Entry) (waiting : Waiting) → IsPrefix journal whole → Waits journal waiting → receipt_of whole waiting ≡ receipt_of journal waiting
same_receipt journal whole waiting begins waits =
    let seen : List Entry → List Entry → ReceiptView = λ first second. record {
      events = waiting.events;
      moment = waiting.moment;
      clock = waiting.clock;
      reply = waiting.reply;
      first = first;
      second = second;
    } in
    ap (λ l. seen l (take waiting.after whole)) (same_beginning journal whole waiting.before begins waits.before)
    ∙ ap (λ l. seen (take waiting.before journal) l) (same_beginning journal whole waiting.after begins waits.after)

pub waits_on : (journal whole : List Entry) → IsPrefix journal whole → (waiting : Waiting) → Waits journal waiting → Waits whole waiting
waits_on journal whole begins waiting waits =
    let longer = no_longer journal whole begins in
    record {
      before = omega (arith, waits.before, longer);
      after = omega (arith, waits.after, longer);
      receipt = subst IsReceipt (sym (same_receipt journal whole waiting begins waits)) waits.receipt;
    }

pub all_wait_on : (journal whole : List Entry) (waiting : List Waiting) → IsPrefix journal whole → All (Waits journal) waiting → All (Waits whole) waiting
all_wait_on journal whole waiting begins waits = All-weaker (Waits journal) (Waits whole) (waits_on journal whole begins) waiting waits

pub same_receipts : (journal whole : List Entry) (waiting : List Waiting) → IsPrefix journal whole → All (Waits journal) waiting
    → map (receipt_of whole) waiting ≡ map (receipt_of journal) waiting
same_receipts journal whole [] begins waits = refl
same_receipts journal whole (w ∷ waiting) begins waits =
    let rest = same_receipts journal whole waiting begins (All-tail (Waits journal) w waiting waits) in
    ap (λ r. r ∷ map (receipt_of whole) waiting) (same_receipt journal whole w begins (All-head (Waits journal) w waiting waits))
    ∙ ap (λ l. receipt_of journal w ∷ l) rest

-- the receipts that wait when one more does
pub one_more_receipt : (journal whole : List Entry) (waiting : List Waiting) (w : Waiting) → IsPrefix journal whole → All (Waits journal) waiting
    → map (receipt_of whole) (waiting ++ w ∷ []) ≡ map (receipt_of journal) waiting ++ receipt_of whole w ∷ []
one_more_receipt journal whole waiting w begins waits =
    map-append (receipt_of whole) waiting w ∙ ap (λ l. l ++ receipt_of whole w ∷ []) (same_receipts journal whole waiting begins waits)

-- a batch that was just run, with the lengths before and after it
abbrev pub ran : List Entry → List Entry → Batch → ℕ → ℕ → List Failure → Waiting
ran journal whole events now clock reply = record {
  events = events;
  moment = now;
  clock = clock;
  reply = reply;
  before = length journal;
  after = length whole;
}

-- its receipt has both journals
pub receipt_of_run : (journal whole : List Entry) (events : Batch) (now clock : ℕ) (reply : List Failure) → IsPrefix journal whole
    → receipt_of whole (ran journal whole events now clock reply)
    ≡ record { events = events; moment = now; clock = clock; reply = reply; first = journal; second = whole }
receipt_of_run journal whole events now clock reply (more, is) =
    let seen : List Entry → List Entry → ReceiptView = λ first second. record {
      events = events;
      moment = now;
      clock = clock;
      reply = reply;
      first = first;
      second = second;
    } in
    ap (λ l. seen l (take (length whole) whole)) (ap (take (length journal)) (sym is) ∙ take-append_seam journal more)
    ∙ ap (λ l. seen journal l) (take-length whole)

module _ {L : Type 0} (journal_of : L → List Entry) (clock_of kept_of : L → ℕ) (old new : L) where
  -- and waits
  pub run_waits : (events : Batch) (now : ℕ) (reply : List Failure) → IsRun journal_of clock_of kept_of old new events now (Ok reply)
      → IsPrefix (journal_of old) (journal_of new) → Waits (journal_of new) (ran (journal_of old) (journal_of new) events now (clock_of old) reply)
  run_waits events now reply run begins =
      let f : Facts journal_of clock_of kept_of old new events now (Ok reply) = facts journal_of clock_of kept_of old new events now (Ok reply) run in
      record {
        before = no_longer (journal_of old) (journal_of new) begins;
        after = omega arith;
        receipt = subst IsReceipt (sym (receipt_of_run (journal_of old) (journal_of new) events now (clock_of old) reply begins)) (record {
          due = not_due journal_of clock_of kept_of old new events now reply run;
          stored = f.stored;
          replied = f.reply;
        });
      }

  -- what is kept is all, after a run too
  pub run_kept : (events : Batch) (now : ℕ) (result : Result (List Failure) Refusal) → IsRun journal_of clock_of kept_of old new events now result
      → kept_of old ≡ length (journal_of old) → kept_of new ≡ length (journal_of new)
  run_kept events now (Ok reply) run kept = (facts journal_of clock_of kept_of old new events now (Ok reply) run).kept
  run_kept events now (Err fault) run kept =
      let same = (facts journal_of clock_of kept_of old new events now (Err fault) run).unchanged in
      same.kept ∙ kept ∙ ap length (sym same.journal)

  -- all that waited goes on waiting, and the batch that was stored waits behind it
  pub all_wait : (events : Batch) (now : ℕ) (result : Result (List Failure) Refusal) → IsRun journal_of clock_of kept_of old new events now result
      → IsPrefix (journal_of old) (journal_of new) → (before after : List Waiting)
      → IfOk result (λ reply. after ≡ before ++ ran (journal_of old) (journal_of new) events now (clock_of old) reply ∷ []) → OnErr result (after ≡ before)
      → All (Waits (journal_of old)) before → All (Waits (journal_of new)) after
  all_wait events now (Ok reply) run begins before after is same waits =
      All-same (Waits (journal_of new)) after (before ++ ran (journal_of old) (journal_of new) events now (clock_of old) reply ∷ []) is
      (All-push (Waits (journal_of new)) before (ran (journal_of old) (journal_of new) events now (clock_of old) reply)
      (all_wait_on (journal_of old) (journal_of new) before begins waits) (run_waits events now reply run begins))
  all_wait events now (Err fault) run begins before after is same waits =
      All-same (Waits (journal_of new)) after before same (all_wait_on (journal_of old) (journal_of new) before begins waits)

  -- the receipts that wait then
  pub receipts_wait : (events : Batch) (now : ℕ) (result : Result (List Failure) Refusal)
      → IsPrefix (journal_of old) (journal_of new) → (before after : List Waiting)
      → IfOk result (λ reply. after ≡ before ++ ran (journal_of old) (journal_of new) events now (clock_of old) reply ∷ [])
      → All (Waits (journal_of old)) before
      → IfOk result (λ reply. map (receipt_of (journal_of new)) after ≡ map (receipt_of (journal_of old)) before
      ++ record { events = events; moment = now; clock = clock_of old; reply = reply; first = journal_of old; second = journal_of new } ∷ [])
  receipts_wait events now (Ok reply) begins before after is waits =
      let last = ran (journal_of old) (journal_of new) events now (clock_of old) reply in
      ap (map (receipt_of (journal_of new))) is
      ∙ one_more_receipt (journal_of old) (journal_of new) before last begins waits
      ∙ ap (λ r. map (receipt_of (journal_of old)) before ++ r ∷ []) (receipt_of_run (journal_of old) (journal_of new) events now (clock_of old) reply begins)
  receipts_wait events now (Err fault) begins before after is waits = tt

  pub receipts_stay : (result : Result (List Failure) Refusal)
      → IsPrefix (journal_of old) (journal_of new) → (before after : List Waiting) → OnErr result (after ≡ before)
      → All (Waits (journal_of old)) before
      → OnErr result (map (receipt_of (journal_of new)) after ≡ map (receipt_of (journal_of old)) before)
  receipts_stay (Ok reply) begins before after is waits = tt
  receipts_stay (Err fault) begins before after is waits =
      ap (map (receipt_of (journal_of new))) is ∙ same_receipts (journal_of old) (journal_of new) before begins waits

-- what was published, when the journal went on
same_shown : (old new : forest.View) (public : PublicView) → IsPublic old public → IsPrefix old.journal new.journal → take public.shown new.journal ≡ take public.shown old.journal
same_shown old new public is begins = same_beginning old.journal new.journal public.shown begins (omega (arith, is.shown, no_longer public.front old.journal is.begins))

pub public_grows : (old new : forest.View) (public : PublicView) → IsPublic old public → new.sealed ≡ old.sealed → IsPrefix old.journal new.journal → IsPublic new public
public_grows old new public is sealed begins =
    let same = same_shown old new public is begins in
    record {
      begins = begins_more public.front old.journal new.journal is.begins begins;
      shown = is.shown;
      sound = subst IsLawful (sym same) is.sound;
      published = subst (λ (s : Sealed). ShowsJournal s.tables (take public.shown new.journal)) (sym sealed) (subst (ShowsJournal old.sealed.tables) (sym same) is.published);
      readable = is.readable ∙ sym same;
    }

-- when all of the journal is
pub all_is_public : (forest : forest.View) (public : PublicView) → public ≡ all_public forest.journal public.publications → IsLawful forest.journal → ShowsJournal forest.sealed.tables forest.journal → IsPublic forest public
all_is_public forest public is lawful shows =
    let taken : take (length forest.journal) forest.journal ≡ forest.journal = take-length forest.journal in
    subst (IsPublic forest) (sym is) (record {
      begins = ([], append-nil forest.journal);
      shown = omega arith;
      sound = subst IsLawful (sym taken) lawful;
      published = subst (ShowsJournal forest.sealed.tables) (sym taken) shows;
      readable = sym taken;
    })

-- and when the tables changed, but not their content, and the history may have gone further
pub public_stays : (old new : forest.View) (public after : PublicView) → IsPublic old public → new.journal ≡ old.journal
    → (ShowsJournal old.sealed.tables (take public.shown old.journal) → ShowsJournal new.sealed.tables (take public.shown old.journal))
    → IsPrefix after.front old.journal → length public.front ≤ length after.front → after.shown ≡ public.shown → after.readable ≡ public.readable
    → IsPublic new after
public_stays old new public after is journal content begins further shown readable =
    let same : take after.shown new.journal ≡ take public.shown old.journal = ap (λ n. take n new.journal) shown ∙ ap (take public.shown) journal in
    record {
      begins = subst (IsPrefix after.front) (sym journal) begins;
      shown = omega (arith, is.shown, further, shown);
      sound = subst IsLawful (sym same) is.sound;
      published = subst (ShowsJournal new.sealed.tables) (sym same) (content is.published);
      readable = readable ∙ is.readable ∙ sym same;
    }

-- the store's promise when its journal went on
pub store_grows : (old new : forest.View) (counted : ℕ) (tally : ℕ) (public : PublicView) (waiting waits : List Waiting)
    → IsStore old counted public waiting → IsLawfulAt new.clock new.journal → new.kept ≡ length new.journal → new.sealed ≡ old.sealed
    → IsPrefix old.journal new.journal → tally ≡ book_of new.journal → All (Waits new.journal) waits
    → IsStore new tally public waits
store_grows old new counted tally public waiting waits store lawful kept sealed begins counts all = record {
  lawful = lawful;
  kept = kept;
  counted = counts;
  public = public_grows old new public store.public sealed begins;
  waits = all;
}

-- and when its tables changed, and its journal didn't
pub store_stays : (old new : forest.View) (counted : ℕ) (public after : PublicView) (waiting : List Waiting)
    → IsStore old counted public waiting → new.journal ≡ old.journal → new.clock ≡ old.clock → new.kept ≡ old.kept
    → IsPublic new after → IsStore new counted after waiting
store_stays old new counted public after waiting store journal clock kept is = record {
  lawful = subst (λ c. IsLawfulAt c new.journal) (sym clock) (subst (IsLawfulAt old.clock) (sym journal) store.lawful);
  kept = kept ∙ store.kept ∙ ap length (sym journal);
  counted = store.counted ∙ ap book_of (sym journal);
  public = is;
  waits = subst (λ l. All (Waits l) waiting) (sym journal) store.waits;
}

-- and when they show all of it
pub store_shows : (old new : forest.View) (counted : ℕ) (public after : PublicView) (waiting : List Waiting)
    → IsStore old counted public waiting → new.journal ≡ old.journal → new.clock ≡ old.clock → new.kept ≡ old.kept
    → ShowsJournal new.sealed.tables new.journal → after ≡ all_public new.journal after.publications → IsStore new counted after waiting
store_shows old new counted public after waiting store journal clock kept shows all =
    store_stays old new counted public after waiting store journal clock kept
    (all_is_public new after all (subst IsLawful (sym journal) store.lawful.lawful) shows)

-- and when no receipt waits any more
pub store_emptied : (forest : forest.View) (counted : ℕ) (public : PublicView) (waiting : List Waiting)
    → IsStore forest counted public waiting → IsStore forest counted public []
store_emptied forest counted public waiting store = record {
  lawful = store.lawful;
  kept = store.kept;
  counted = store.counted;
  public = store.public;
  waits = All-nil (Waits forest.journal);
}

empty_lawful : IsLawful []
empty_lawful = record {
  sound = record { is_journal = record { rising = tt; in_range = All-nil (λ e. timestamp_of e ≤ last_timestamp) }; admitted = tt };
  chained = tt;
}

-- and of a store in which nothing is stored
pub store_new : (forest : forest.View) (counted : ℕ) (public : PublicView) (waiting : List Waiting) (limit : ℕ)
    → forest.journal ≡ [] → forest.kept ≡ 0 → forest.sealed ≡ nothing_sealed limit → ShowsJournal (no_tables limit) []
    → counted ≡ 0 → public ≡ nothing_public → waiting ≡ [] → IsStore forest counted public waiting
store_new forest counted public waiting limit journal kept sealed nothing count none empty = record {
  lawful = subst (IsLawfulAt forest.clock) (sym journal) (record { lawful = empty_lawful; up_to = All-nil (λ e. timestamp_of e ≤ forest.clock) });
  kept = kept ∙ ap length (sym journal);
  counted = count ∙ ap book_of (sym journal);
  public = all_is_public forest public (none ∙ ap (λ l. all_public l 0) (sym journal) ∙ ap (all_public forest.journal) (sym (ap (λ (p : PublicView). p.publications) none))) (subst IsLawful (sym journal) empty_lawful)
      (subst (λ (s : Sealed). ShowsJournal s.tables forest.journal) (sym sealed) (subst (ShowsJournal (no_tables limit)) (sym journal) nothing));
  waits = All-same (Waits forest.journal) waiting [] empty (All-nil (Waits forest.journal));
}
