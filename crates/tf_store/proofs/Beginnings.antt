-- What is known of what a store shows.
use mathlib.Core.List.{IsPrefix}
use Rattle.std.proofs.Common.{ℕ, List, take, drop}
use Rattle.std.proofs.lemmas.List.{take-append-drop}
use Rattle.std.proofs.lemmas.List.Elements.{All-map, All-weaker}
use Rattle.std.specs.List.{All}
use Rattle.std.specs.Prelude.{map}
use Rattle.tf_journal.specs.declared.entry.Entry.{Entry}
use Rattle.tf_store.specs.Receipt.{IsReceiptOf, Waiting, Waits, receipt_of}

pub begins_taken : (n : ℕ) (journal : List Entry) → IsPrefix (take n journal) journal
begins_taken n journal = (drop n journal, take-append-drop n journal)

-- each receipt that waits is one of the journal
pub receipts_of : (journal : List Entry) (queue : List Waiting) → All (Waits journal) queue → All (IsReceiptOf journal) (map (receipt_of journal) queue)
receipts_of journal queue waits =
    All-map (IsReceiptOf journal) (receipt_of journal) queue
    (All-weaker (Waits journal) (λ (w : Waiting). IsReceiptOf journal (receipt_of journal w))
    (λ w is. record { receipt = is.receipt; first = begins_taken w.before journal; second = begins_taken w.after journal }) queue waits)
