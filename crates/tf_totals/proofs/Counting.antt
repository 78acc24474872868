-- What a storm counted is told as it was counted.
use Rattle.std.proofs.Common.{◌≡◌, ℕ, Result, Ok, Err, IfOk, subst, sym}
use Rattle.std.specs.Result.{is_ok}
use Rattle.tf_workers.specs.declared.storms.Totals.{Totals}
use Rattle.tf_totals.specs.Totals.{AreTotals, IsBook}

pub totals_told : {X Y E F : Type 0} (counted : X → Totals) (told : Y → Totals) (clients : ℕ) (ended : Result X E) (result : Result Y F)
    → is_ok result ≡ is_ok ended → IfOk result (λ y. IfOk ended (λ x. (told y ≡ counted x) × IsBook (counted x).stored))
    → IfOk ended (λ x. (counted x).clients ≡ clients) → IfOk ended (λ x. (counted x).shares ≡ (counted x).stored)
    → IfOk result (λ y. AreTotals clients (told y))
totals_told counted told clients (Ok x) (Ok y) same tells clients_are shares_are =
    subst (AreTotals clients) (sym tells.0) (record { clients_are = clients_are; shares_are = shares_are; book = tells.1 })
totals_told counted told clients (Err e) (Ok y) same tells clients_are shares_are = absurd (cc)
totals_told counted told clients ended (Err f) same tells clients_are shares_are = tt
