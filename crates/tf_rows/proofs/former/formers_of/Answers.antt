use Rattle.std.proofs.Common.{◌≡◌, ◌∙◌, [], ◌∷◌, ◌++◌, Option, refl, ap}
use Rattle.std.specs.Option.{option_map}
use Rattle.tf_records.specs.declared.account.Account.{Account}
use Rattle.tf_journal.specs.declared.entry.Entry.{Entry}
use Rattle.tf_journal.specs.declared.entry.Entry.TheVariants as entry
use Rattle.tf_rows.specs.declared.former.Former.{Former}
use Rattle.tf_rows.specs.declared.former.Formers.{Formers}
use Rattle.tf_rows.specs.declared.found.Found.{Found}
use Rattle.tf_rows.specs.Edits.{party_of}
use Rattle.tf_rows.specs.Resident.{accounts_before, former_of, formers_of}
use Rattle.tf_rows.proofs.former.formers_of.Goals as goal

abbrev two : Option Former → Option Former → Formers
two first second = record { first = first; second = second }

-- of an entry that is no account they are those that were found
formers_found : (found : Found) (e : Entry) → ((a : Account) → e ≡ entry.Account a → ⊥) → two (option_map former_of found.debit) (option_map former_of found.credit) ≡ formers_of found e
formers_found found (entry.Account a) other = absurd (other a refl)
formers_found found (entry.Transfer t) other = refl
formers_found found (entry.Expiry timestamp pending) other = refl
formers_found found (entry.Failed timestamp id) other = refl

pub returns-in_default : goal.returns-in_default
returns-in_default c =
    let e : Entry = c.args.entry.now in
    let found : Found = c.args.found.now in
    let is : two c.as_found.result c.as_found-in_default.result ≡ formers_of found e
    = ap (λ (o : Option Former). two o c.as_found-in_default.result) c.as_found.ensures
    ∙ ap (two (option_map former_of found.debit)) c.as_found-in_default.ensures
    ∙ formers_found found e (λ a. c.in_default.not-Account a) in
    record {
      is = is;
      back = λ journal sound grows looked_up id.
          ap (λ (formers : Formers). accounts_before formers (party_of (journal ++ e ∷ [])) id) (is ∙ ap (λ (f : Found). formers_of f e) looked_up)
          ∙ c.accounts_change_as_found.ensures.before journal e sound grows id;
    }
