use Rattle.std.proofs.Common.{◌++◌, ap, refl}
use Rattle.tf_script.specs.CommandViews.{commands_of}
use Rattle.tf_script.proofs.ReadingLemmas.{with_transfer_events-push}
use Rattle.tf_script.proofs.reading.Reading.add_transfer.Goals as goal

pub returns-in_ok-push : goal.returns-in_ok-push
returns-in_ok-push g c = record {
  batch = rw c.in-Transfers.is refl;
  commands = λ commands.
      rw (c.in-Transfers.is, c.in_ok-push.ensures.items)
      (ap (λ later. commands_of c.args.self.now.commands.items ++ later) (with_transfer_events-push c.in-Transfers.events.items c.args.event commands));
}
