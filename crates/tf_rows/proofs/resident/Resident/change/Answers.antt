use Rattle.std.proofs.Common.{◌∙◌, Option, sym, ap, subst}
use Rattle.std.specs.Option.{option_map, option_map_or}
use Rattle.tf_records.specs.declared.transfer.Transfer.{Transfer}
use Rattle.tf_journal.specs.declared.entry.Entry.{Entry}
use Rattle.tf_journal.specs.declared.side.Side.TheVariants.{Credit}
use Rattle.tf_rows.specs.declared.found.Found.{Found}
use Rattle.tf_rows.specs.declared.found.Party.{Party}
use Rattle.tf_rows.specs.Edits.{party_after, state_after, state_settled}
use Rattle.tf_rows.specs.Resident.{Accounts, AreAmong, accounts_after, with_any, with_states}
use Rattle.tf_rows.proofs.resident.Resident.change.Goals as goal

pub returns-in-Transfer : goal.returns-in-Transfer
returns-in-Transfer g c = λ accounts among.
    let found : Found = c.args.found.now in
    let debit : Option Party = c.party_after.result in
    let credit : Option Party = c.party_after-in-Transfer.result in
    let held = c.put_any-in-Transfer.ensures (with_any debit accounts) (c.put_any.ensures accounts among) in
    subst (λ (is : Accounts). AreAmong is c.put_any-in-Transfer.new.self)
    (ap (λ (o : Option Party). with_any o (with_any debit accounts)) c.party_after-in-Transfer.ensures
    ∙ ap (λ (o : Option Party). with_any (option_map (party_after (state_after Credit c.in-Transfer.transfer found.settled)) found.credit) (with_any o accounts)) c.party_after.ensures
    ∙ sym (ap (λ (e : Entry). accounts_after found e accounts) c.in-Transfer.is))
    held

pub returns-in-Some : goal.returns-in-Some
returns-in-Some g c = λ accounts among.
    let found : Found = c.args.found.now in
    let debit : Option Party = c.party_expired.result in
    let credit : Option Party = c.party_expired-in-Some.result in
    let held = c.put_any-in-Some-2.ensures (with_any debit accounts) (c.put_any-in-Some.ensures accounts among) in
    subst (λ (is : Accounts). AreAmong is c.put_any-in-Some-2.new.self)
    (ap (λ (o : Option Party). with_any o (with_any debit accounts)) c.party_expired-in-Some.ensures
    ∙ ap (λ (o : Option Party). with_any (option_map (party_after (state_settled Credit c.in-Some.expiring 0)) found.credit) (with_any o accounts)) c.party_expired.ensures
    ∙ sym (ap (λ (o : Option Transfer). option_map_or (λ expiring. with_states found (λ side. state_settled side expiring 0) accounts) o accounts) c.in-Some.is)
    ∙ sym (ap (λ (e : Entry). accounts_after found e accounts) c.in-Expiry.is))
    held
