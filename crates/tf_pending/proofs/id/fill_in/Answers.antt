use Rattle.std.proofs.Common.{rules, ◌≡◌, refl}
use Rattle.tf_journal.specs.Stored.{own_or}
use Rattle.tf_pending.proofs.id.fill_in.Goals as goal
use Rattle.tf_pending.proofs.id.fill_in.Goals.{then-event-eq0, else-event-eq0, then-event-eq0-2, else-event-eq0-2, then-event-eq0-3, else-event-eq0-3, then-event-eq0-4, else-event-eq0-4, then-event-eq0-5, else-event-eq0-5, then-event-eq0-6, else-event-eq0-6, then-event-eq0-7, else-event-eq0-7}

pub returns : goal.returns
returns c =
    let pending = c.args.pending.now in
    let e = c.args.event.now in
    let debit : c.if-event-eq0.result ≡ own_or pending.debit_account_id e.debit_account_id =
    elim c.if-event-eq0.branch [ then-event-eq0 w ↦ search rules | else-event-eq0 w ↦ search rules ] in
    let credit : c.if-event-eq0-2.result ≡ own_or pending.credit_account_id e.credit_account_id =
    elim c.if-event-eq0-2.branch [ then-event-eq0-2 w ↦ search rules | else-event-eq0-2 w ↦ search rules ] in
    let wide : c.if-event-eq0-3.result ≡ own_or pending.user_data_128 e.user_data_128 =
    elim c.if-event-eq0-3.branch [ then-event-eq0-3 w ↦ search rules | else-event-eq0-3 w ↦ search rules ] in
    let middle : c.if-event-eq0-4.result ≡ own_or pending.user_data_64 e.user_data_64 =
    elim c.if-event-eq0-4.branch [ then-event-eq0-4 w ↦ search rules | else-event-eq0-4 w ↦ search rules ] in
    let narrow : c.if-event-eq0-5.result ≡ own_or pending.user_data_32 e.user_data_32 =
    elim c.if-event-eq0-5.branch [ then-event-eq0-5 w ↦ search rules | else-event-eq0-5 w ↦ search rules ] in
    let ledger : c.if-event-eq0-6.result ≡ own_or pending.ledger e.ledger =
    elim c.if-event-eq0-6.branch [ then-event-eq0-6 w ↦ search rules | else-event-eq0-6 w ↦ search rules ] in
    let code : c.if-event-eq0-7.result ≡ own_or pending.code e.code =
    elim c.if-event-eq0-7.branch [ then-event-eq0-7 w ↦ search rules | else-event-eq0-7 w ↦ search rules ] in
    rw (debit, credit, c.settled_amount.ensures, wide, middle, narrow, ledger, code) refl
