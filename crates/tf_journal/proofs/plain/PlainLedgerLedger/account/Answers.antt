use Rattle.std.proofs.Common.{◌≡◌, Some, ap, sym, ◌∙◌}
use Rattle.std.specs.Option.{option_map}
use Rattle.tf_journal.specs.Lookup.{shown, account_with_id}
use Rattle.tf_journal.proofs.plain.PlainLedgerLedger.account.Goals as goal

pub returns : goal.returns
returns g c =
    let journal = c.args.self.now.entries.items in
    let stored = c.in_ok-stored.stored in
    let found : account_with_id journal c.args.id ≡ Some stored
    = sym (ap (λ j. account_with_id j c.args.id) c.as_slice.ensures.value) ∙ sym c.find_account.ensures ∙ c.in_ok-stored.was in
    ap Some (c.show.ensures ∙ ap (λ j. shown j stored) c.as_slice-2.ensures.value) ∙ sym (ap (option_map (shown journal)) found)
