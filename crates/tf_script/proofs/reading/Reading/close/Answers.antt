use Rattle.std.proofs.Common.{sym, ◌∙◌, refl}
use Rattle.std.proofs.lemmas.List.{map-append}
use Rattle.tf_script.specs.CommandViews.{commands_of}
use Rattle.tf_script.proofs.ReadingLemmas.{accounts-end, transfers-end}
use Rattle.tf_script.proofs.reading.Reading.close.Goals as goal

pub returns-in_ok-push-in-Accounts : goal.returns-in_ok-push-in-Accounts
returns-in_ok-push-in-Accounts g c = record {
  batch = rw c.replace.ensures.after refl;
  commands = λ commands.
      rw (sym c.replace.ensures.value ∙ c.in-Accounts.is, c.replace.ensures.after, c.in_ok-push-in-Accounts.ensures.items, map-append)
      (accounts-end (commands_of c.args.self.now.commands.items) c.in-Accounts.events.items c.in-Accounts.now commands);
}

pub returns-in_ok-push-in-Transfers : goal.returns-in_ok-push-in-Transfers
returns-in_ok-push-in-Transfers g c = record {
  batch = rw c.replace.ensures.after refl;
  commands = λ commands.
      rw (sym c.replace.ensures.value ∙ c.in-Transfers.is, c.replace.ensures.after, c.in_ok-push-in-Transfers.ensures.items, map-append)
      (transfers-end (commands_of c.args.self.now.commands.items) c.in-Transfers.events.items c.in-Transfers.now commands);
}
