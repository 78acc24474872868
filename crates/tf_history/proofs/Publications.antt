-- The journals that publications make.
use Rattle.std.proofs.Common.{◌≡◌, ℕ, ◌≤◌, nat_lt, List, [], ◌∷◌, ◌++◌, length, take, refl, ap, sym, ◌∙◌, arith}
use Rattle.std.proofs.lemmas.Grind.{flat_map-append}
use Rattle.std.proofs.lemmas.List.{append-nil, length-take-le}
use mathlib.Core.List.{IsPrefix}
use Rattle.tf_journal.specs.declared.entry.Entry.{Entry}
use Rattle.tf_history.specs.declared.law.Chunk.{Chunk}
use Rattle.tf_history.specs.Beginning.{AreOfOne, OneBegins}
use Rattle.tf_history.specs.History.{entries_of}
use Rattle.tf_history.proofs.Prefixes.{prefix_shorter, prefix_take, prefix_trans, prefix_whole, shorter_begins}

-- the entries of the first publications begin those of all
entries_prefix : (log all : List Chunk) → IsPrefix log all → IsPrefix (entries_of log) (entries_of all)
entries_prefix log all p = (entries_of p.0, sym (flat_map-append (λ (c : Chunk). c.entries) log p.0) ∙ ap entries_of p.1)

-- the entries after one more publication
pub entries_more : (log : List Chunk) (chunk : Chunk) → entries_of (log ++ chunk ∷ []) ≡ entries_of log ++ chunk.entries
entries_more log chunk = flat_map-append (λ (c : Chunk). c.entries) log (chunk ∷ []) ∙ ap (λ w. entries_of log ++ w) (append-nil chunk.entries)

-- the journals of the first publications are beginnings of one
pub journals_of_one : (log other all : List Chunk) → IsPrefix log all → IsPrefix other all → AreOfOne (entries_of log) (entries_of other)
journals_of_one log other all p q = (entries_of all, entries_prefix log all p, entries_prefix other all q)

-- as many of one history's publications make one journal
pub as_many_are_same : (log other all : List Chunk) → IsPrefix log all → IsPrefix other all → length log ≡ length other → entries_of log ≡ entries_of other
as_many_are_same log other all p q len = ap entries_of (prefix_whole log other (prefix_shorter log other all p q (omega (arith, len))) (omega (arith, len)))

-- the first entries of a journal begin each longer one of the same history
pub first_begin : (n : ℕ) (journal other : List Entry) → AreOfOne journal other → n ≤ length journal → n ≤ length other → IsPrefix (take n journal) other
first_begin n journal other one here there =
    let start = prefix_trans (take n journal) journal one.0 (prefix_take n journal) one.1 in
    prefix_shorter (take n journal) other one.0 start one.2 (omega (arith, length-take-le n journal here))

-- of two beginnings of one history's journals the shorter begins the longer
pub one_begins : (n m : ℕ) (journal other : List Entry) → AreOfOne journal other → OneBegins (take n journal) (take m other)
one_begins n m journal other one =
    let start = prefix_trans (take n journal) journal one.0 (prefix_take n journal) one.1 in
    let there = prefix_trans (take m other) other one.0 (prefix_take m other) one.2 in
    shorter_begins (take n journal) (take m other) one.0 start there (nat_lt (length (take n journal)) (length (take m other))) refl
