use Rattle.std.proofs.Common.{List, arith, subst, sym}
use Rattle.std.specs.List.{All}
use Rattle.tf_journal.specs.declared.entry.Entry.{Entry}
use Rattle.std.proofs.lemmas.List.Elements.{All-push}
use Rattle.tf_readers.specs.Reader.{HasSeen, ReaderView}
use Rattle.tf_readers.proofs.copies.readers_of.Goals as goal

pub loop-preserved : goal.loop-preserved
loop-preserved g c =
    let seen = HasSeen c.args.page.now in
    let new = subst (λ (journal : List Entry). HasSeen journal c.new.result) c.in_ok-again.ensures c.new.ensures in
    record {
      count = omega (arith, c.in_ok-push.ensures.len, c.loop.invariant.count);
      seen = subst (λ (readers : List ReaderView). All seen readers) (sym c.in_ok-push.ensures.items)
          (All-push seen c.loop.readers.items c.new.result c.loop.invariant.seen new);
    }
