-- What is due, once a pending transfer expires and at a later moment.
use Rattle.std.proofs.Common.{◌≡◌, ℕ, ◌≤◌, List, [], ◌∷◌, ◌++◌, Bool, true, false, not, ◌&&◌, cond, filter, Some, refl, ap, sym, ◌∙◌, subst, arith, inl, inr, append-nil, true≢false}
use Rattle.std.proofs.lemmas.Bool.{cond_both, and_from, and_right, and_parts, le-leb, lt-leb, leb-true, ne_eqb, eq-eqb, not_from_false, cases_lt}
use Rattle.std.proofs.lemmas.List.Elements.{filter_map-append}
use Rattle.std.proofs.lemmas.Option.{same_Some}
use Rattle.std.specs.Prelude.{◌==◌, nat_le}
use Rattle.std.specs.List.{AllByRecursion}
use Rattle.tf_records.specs.declared.transfer.Transfer.{Transfer}
use Rattle.tf_journal.specs.declared.entry.Entry.{Entry}
use Rattle.tf_journal.specs.declared.entry.Entry.TheVariants as entry
use Rattle.tf_journal.specs.Due.{by_expiry, due, first_of, is_due, next_due_of}
use Rattle.tf_journal.specs.Flags.{is_pending}
use Rattle.tf_journal.specs.Journal.{IsJournal, IsRisingFrom, transfer_in, transfers_of}
use Rattle.tf_journal.specs.Status.{is_open}
use Rattle.tf_journal.specs.Verdict.{expires_at, is_overdue}
use Rattle.tf_journal.proofs.Settling.{open_push}
use Rattle.tf_journal.proofs.Expiring.{IsInOrder, IsRising, Precedes, all_filtered, all_weaker, before_cases, by_expiry_all, by_expiry_filter, by_expiry_ordered}

rising_weaker : (low high : ℕ) (transfers : List Transfer) → low ≤ high → IsRising high transfers → IsRising low transfers
rising_weaker low high [] le rising = tt
rising_weaker low high (t ∷ transfers) le rising = (omega (arith, rising.0), rising.1)

-- the timestamps of a journal's transfers rise
pub transfers_rising : (low : ℕ) (journal : List Entry) → IsRisingFrom low journal → IsRising low (transfers_of journal)
transfers_rising low [] rising = tt
transfers_rising low (entry.Transfer t ∷ journal) rising = (rising.0, transfers_rising t.timestamp journal rising.1)
transfers_rising low (entry.Account a ∷ journal) rising = rising_weaker low a.timestamp (transfers_of journal) (omega (arith, rising.0)) (transfers_rising a.timestamp journal rising.1)
transfers_rising low (entry.Expiry timestamp pending ∷ journal) rising = rising_weaker low timestamp (transfers_of journal) (omega (arith, rising.0)) (transfers_rising timestamp journal rising.1)
transfers_rising low (entry.Failed timestamp id ∷ journal) rising = rising_weaker low timestamp (transfers_of journal) (omega (arith, rising.0)) (transfers_rising timestamp journal rising.1)

rising_filter : (q : Transfer → Bool) (low : ℕ) (transfers : List Transfer) → IsRising low transfers → IsRising low (filter q transfers)
rising_filter q low [] rising = tt
rising_filter q low (t ∷ transfers) rising =
    let more = rising_filter q t.timestamp transfers rising.1 in
    cond_both (q t) (t ∷ filter q transfers) (filter q transfers) (IsRising low)
    (λ _. (rising.0, more)) (λ _. rising_weaker low t.timestamp (filter q transfers) (omega (arith, rising.0)) more)

filter_same : (f g : Transfer → Bool) → ((t : Transfer) → f t ≡ g t) → (transfers : List Transfer) → filter f transfers ≡ filter g transfers
filter_same f g same [] = refl
filter_same f g same (t ∷ transfers) =
    ap (λ b. cond b (t ∷ filter f transfers) (filter f transfers)) (same t) ∙ ap (λ xs. cond (g t) (t ∷ xs) xs) (filter_same f g same transfers)

filter_twice : (f g : Transfer → Bool) (transfers : List Transfer) → filter (λ t. f t && g t) transfers ≡ filter g (filter f transfers)
filter_twice f g [] = refl
filter_twice f g (t ∷ transfers) =
    let more = filter_twice f g transfers in
    let shape : Bool → Type 0 = λ b. cond (b && g t) (t ∷ filter (λ x. f x && g x) transfers) (filter (λ x. f x && g x) transfers) ≡ filter g (cond b (t ∷ filter f transfers) (filter f transfers)) in
    let cases : (b : Bool) → shape b = elim [ true ↦ ap (λ xs. cond (g t) (t ∷ xs) xs) more | false ↦ more ] in
    cases (f t)

filter_whole : (q : Transfer → Bool) (transfers : List Transfer) → AllByRecursion (λ t. q t ≡ true) transfers → filter q transfers ≡ transfers
filter_whole q [] all = refl
filter_whole q (t ∷ transfers) all =
    ap (λ b. cond b (t ∷ filter q transfers) (filter q transfers)) all.0 ∙ ap (λ xs. t ∷ xs) (filter_whole q transfers all.1)

filter_passed : (q : Transfer → Bool) (transfers : List Transfer) → AllByRecursion (λ t. q t ≡ true) (filter q transfers)
filter_passed q [] = tt
filter_passed q (t ∷ transfers) =
    cond_both (q t) (t ∷ filter q transfers) (filter q transfers) (AllByRecursion (λ x. q x ≡ true)) (λ is. (is, filter_passed q transfers)) (λ _. filter_passed q transfers)

-- of transfers that are due, those that pass a further test are due in the same order
due_passing : (journal after : List Entry) (moment later : ℕ) (q : Transfer → Bool) → IsJournal journal → transfers_of after ≡ transfers_of journal
    → ((t : Transfer) → is_due after later t ≡ (is_due journal moment t && q t)) → due after later ≡ filter q (due journal moment)
due_passing journal after moment later q is transfers same =
    let whole = transfers_of journal in
    let rising = rising_filter (is_due journal moment) 0 whole (transfers_rising 0 journal is.rising) in
    ap (λ xs. by_expiry (filter (is_due after later) xs)) transfers
    ∙ ap by_expiry (filter_same (is_due after later) (λ t. is_due journal moment t && q t) same whole ∙ filter_twice (is_due journal moment) q whole)
    ∙ sym (by_expiry_filter q (filter (is_due journal moment) whole) rising)

and_moved : (a b c d : Bool) → (a && b && (c && d)) ≡ ((a && b && c) && d)
and_moved a b c d = grind arith

-- once the first of the due transfers expired, the others are due
pub due_expired : (journal : List Entry) (moment timestamp : ℕ) (p : Transfer) (rest : List Transfer) → IsJournal journal
    → due journal moment ≡ p ∷ rest → due (journal ++ entry.Expiry timestamp p.timestamp ∷ []) moment ≡ rest
due_expired journal moment timestamp p rest is first =
    let after = journal ++ entry.Expiry timestamp p.timestamp ∷ [] in
    let q : Transfer → Bool = λ t. not (p.timestamp == t.timestamp) in
    let same : (t : Transfer) → is_due after moment t ≡ (is_due journal moment t && q t)
    = λ t. ap (λ b. is_pending t && is_overdue moment t && b) (open_push journal (entry.Expiry timestamp p.timestamp) t)
    ∙ and_moved (is_pending t) (is_overdue moment t) (is_open journal t) (q t) in
    let transfers : transfers_of after ≡ transfers_of journal =
    filter_map-append transfer_in journal (entry.Expiry timestamp p.timestamp ∷ []) ∙ append-nil (transfers_of journal) in
    let ordered : IsInOrder (p ∷ rest) = subst IsInOrder first
    (by_expiry_ordered (filter (is_due journal moment) (transfers_of journal))
    (rising_filter (is_due journal moment) 0 (transfers_of journal) (transfers_rising 0 journal is.rising))) in
    due_passing journal after moment moment q is transfers same
    ∙ ap (filter q) first
    ∙ ap (λ b. cond (not b) (p ∷ filter q rest) (filter q rest)) (eq-eqb p.timestamp p.timestamp refl)
    ∙ filter_whole q rest (all_weaker (Precedes p) (λ t. q t ≡ true) (λ t h. not_from_false _ (ne_eqb p.timestamp t.timestamp h.differ)) rest ordered.0)

first_passes : (P : Transfer → Type 0) (transfers : List Transfer) (p : Transfer) → AllByRecursion P transfers → first_of transfers ≡ Some p → P p
first_passes P [] p all is = absurd cc
first_passes P (t ∷ transfers) p all is = subst P (same_Some t p is) all.0

le_both : (n moment later : ℕ) → moment ≤ later → nat_le n moment ≡ (nat_le n later && nat_le n moment)
le_both n moment later le =
    elim (cases_lt moment n) [
      | inl past ↦ lt-leb n moment past ∙ sym (and_right _ _ (lt-leb n moment past))
      | inr within ↦ le-leb n moment within ∙ sym (and_from _ _ (le-leb n later (omega arith)) (le-leb n moment within))
    ]

and_shared : (a b c : Bool) → (a && (b && c)) ≡ ((a && b) && (a && c))
and_shared a b c = grind arith

-- what is overdue is so at a later moment
overdue_later : (moment later : ℕ) (t : Transfer) → moment ≤ later → is_overdue moment t ≡ (is_overdue later t && is_overdue moment t)
overdue_later moment later t le =
    ap (λ b. not (t.timeout == 0) && b) (le_both (expires_at t) moment later le) ∙ and_shared (not (t.timeout == 0)) (nat_le (expires_at t) later) (nat_le (expires_at t) moment)

and_last : (a b c d : Bool) → (a && (b && c) && d) ≡ ((a && b && d) && c)
and_last a b c d = grind arith

-- what is due is, of all that is due at a later moment, what is overdue
due_later : (journal : List Entry) (moment later : ℕ) → IsJournal journal → moment ≤ later → due journal moment ≡ filter (is_overdue moment) (due journal later)
due_later journal moment later is le =
    due_passing journal journal later moment (is_overdue moment) is refl (λ t.
    ap (λ b. is_pending t && b && is_open journal t) (overdue_later moment later t le)
    ∙ and_last (is_pending t) (is_overdue later t) (is_overdue moment t) (is_open journal t))

-- what expires no later than something overdue, and has a timeout, is overdue
overdue_earlier : (moment later : ℕ) (t p : Transfer) → is_overdue later t ≡ true → Precedes t p → is_overdue moment p ≡ true → is_overdue moment t ≡ true
overdue_earlier moment later t p at_later precedes overdue =
    let over : expires_at p ≤ moment = leb-true (expires_at p) moment (and_parts (not (p.timeout == 0)) (nat_le (expires_at p) moment) overdue).1 in
    let sooner : expires_at t ≤ expires_at p = elim (before_cases t p precedes.before) [ inl less ↦ omega arith | inr same ↦ omega (arith, same.0) ] in
    and_from _ _ (and_parts (not (t.timeout == 0)) (nat_le (expires_at t) later) at_later).0 (le-leb (expires_at t) moment (omega arith))

-- the first of those that pass is the first of them all, where the first of them all passes with any other
first_passing : (moment later : ℕ) (transfers : List Transfer) (p : Transfer) → IsInOrder transfers → AllByRecursion (λ t. is_overdue later t ≡ true) transfers
    → first_of (filter (is_overdue moment) transfers) ≡ Some p → first_of transfers ≡ Some p
first_passing moment later [] p ordered all is = is
first_passing moment later (t ∷ transfers) p ordered all is =
    let shape : Bool → Type 0 = λ b. is_overdue moment t ≡ b → first_of (cond b (t ∷ filter (is_overdue moment) transfers) (filter (is_overdue moment) transfers)) ≡ Some p → Some t ≡ Some p in
    let cases : (b : Bool) → shape b
    = elim [
      | true ↦ λ due first. first
      | false ↦ λ not_due first.
          let passed = filter_passed (is_overdue moment) transfers in
          let behind = all_filtered (Precedes t) (is_overdue moment) transfers ordered.0 in
          let overdue = first_passes (λ x. is_overdue moment x ≡ true) (filter (is_overdue moment) transfers) p passed first in
          let precedes = first_passes (Precedes t) (filter (is_overdue moment) transfers) p behind first in
          absurd (true≢false (sym (overdue_earlier moment later t p all.0 precedes overdue) ∙ not_due))
    ] in
    cases (is_overdue moment t) refl is

-- the next to expire is the next at each later moment
pub next_due_later : (journal : List Entry) (moment later : ℕ) (p : Transfer) → IsJournal journal → moment ≤ later
    → next_due_of journal moment ≡ Some p → next_due_of journal later ≡ Some p
next_due_later journal moment later p is le next =
    let found = filter (is_due journal later) (transfers_of journal) in
    let ordered = by_expiry_ordered found (rising_filter (is_due journal later) 0 (transfers_of journal) (transfers_rising 0 journal is.rising)) in
    let overdue = by_expiry_all (λ t. is_overdue later t ≡ true) found
    (all_weaker (λ t. is_due journal later t ≡ true) (λ t. is_overdue later t ≡ true)
    (λ t h. (and_parts _ _ (and_parts _ _ h).0).1) found (filter_passed (is_due journal later) (transfers_of journal))) in
    first_passing moment later (due journal later) p ordered overdue (ap first_of (sym (due_later journal moment later is le)) ∙ next)
