use Rattle.std.proofs.Common.{◌≡◌, ◌-◌, subst, arith}
use Rattle.tf_store.specs.Book.{failed_of}
use Rattle.tf_store.specs.Store.{View}
use Rattle.tf_store.proofs.Counting.{book_and_failed}
use Rattle.tf_store.proofs.store.Store+Forest+R+A+C+A+S.failed_book.Goals as goal

pub overflow_sub-result : goal.overflow_sub-result
overflow_sub-result g c =
    omega (arith, book_and_failed c.self.inside.forest.journal, c.self.invariant.counted, c.mark.ensures.present, c.count.ensures)

pub returns : goal.returns
returns g c =
    subst (λ (v : View). c.mark.result.length - c.count.result ≡ failed_of v.forest.journal) c.self.view_is
    (omega (arith, book_and_failed c.self.inside.forest.journal, c.self.invariant.counted, c.mark.ensures.present, c.count.ensures))
