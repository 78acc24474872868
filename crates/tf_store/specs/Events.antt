-- The events of a batch, without where they lie.
use Rattle.tf_store.specs.declared.events.Events.{Events}
use Rattle.tf_store.specs.declared.events.Events.TheVariants.{Accounts, Transfers}
use Rattle.tf_store.specs.Receipt.{Batch, accounts, transfers}

abbrev pub batch_of : {A : Type 0} → Events A → Batch
batch_of (Accounts events) = accounts events.items
batch_of (Transfers events) = transfers events.items
