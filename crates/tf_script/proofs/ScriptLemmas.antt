-- The lines of a script, one after another.
use Rattle.std.proofs.Common.{◌≡◌, ℕ, suc, ◌+◌, ◌<◌, Bool, true, false, eqb, List, [], ◌∷◌, length, take, drop, Option, Result, Ok, Err, refl, sym, ap, ◌∙◌, arith}
use Rattle.std.specs.List.{position_or_len, before_first, after_first, onto_first}
use Rattle.tf_records.specs.declared.refusal.Refusal.{Refusal}
use Rattle.tf_records.specs.declared.refusal.Refusal.TheVariants.{NoMemory, BatchTooLarge, ClockExhausted, Stale, RegistryFull, BadLine, BadRecord}
use Rattle.tf_script.specs.Lines.{lines_of}
use Rattle.tf_script.specs.CommandViews.{Explains}
use Rattle.tf_script.specs.Command.{Command}
use Rattle.tf_script.specs.Statements.{◌<&>◌, Statement, statement_of}
use Rattle.std.proofs.lemmas.List.{nil_from_length}
use Rattle.tf_script.specs.Script.{Place, batch_after, with_line, ended, commands_from}
use Rattle.tf_script.specs.declared.statement.Batch.{Batch}

abbrev pub is_feed : ℕ → Bool
is_feed byte = eqb byte 10

-- the first line of a text that has a byte, and the lines after it
abbrev first_and_rest : List ℕ → List (List ℕ)
first_and_rest text = before_first is_feed text ∷ lines_of (after_first is_feed text)

feed-here : (byte : ℕ) (rest : List ℕ) → is_feed byte ≡ true → lines_of (byte ∷ rest) ≡ first_and_rest (byte ∷ rest)
feed-here byte rest e =
    let first : position_or_len is_feed (byte ∷ rest) ≡ 0 = rw e refl in
    let lines : lines_of (byte ∷ rest) ≡ [] ∷ lines_of rest = rw e refl in
    lines ∙ sym (ap (λ n. take n (byte ∷ rest) ∷ lines_of (drop (n + 1) (byte ∷ rest))) first)

feed-later : (byte : ℕ) (rest : List ℕ) → is_feed byte ≡ false → (onto_first byte (lines_of rest) ≡ (byte ∷ before_first is_feed rest) ∷ lines_of (after_first is_feed rest)) → lines_of (byte ∷ rest) ≡ first_and_rest (byte ∷ rest)
feed-later byte rest e more =
    let next : position_or_len is_feed (byte ∷ rest) ≡ suc (position_or_len is_feed rest) = rw e (omega arith) in
    let lines : lines_of (byte ∷ rest) ≡ onto_first byte (lines_of rest) = rw e refl in
    let moved : position_or_len is_feed (byte ∷ rest) + 1 ≡ suc (position_or_len is_feed rest + 1) = omega (arith, next) in
    lines ∙ more
    ∙ sym (ap (λ n. take n (byte ∷ rest) ∷ lines_of (after_first is_feed rest)) next)
    ∙ sym (ap (λ n. before_first is_feed (byte ∷ rest) ∷ lines_of (drop n (byte ∷ rest))) moved)

feed-step : (byte : ℕ) (rest : List ℕ) (t : Bool) → is_feed byte ≡ t → (is_feed byte ≡ false → onto_first byte (lines_of rest) ≡ (byte ∷ before_first is_feed rest) ∷ lines_of (after_first is_feed rest)) → lines_of (byte ∷ rest) ≡ first_and_rest (byte ∷ rest)
feed-step byte rest true e more = feed-here byte rest e
feed-step byte rest false e more = feed-later byte rest e (more e)

lines_of-cons : (byte : ℕ) (rest : List ℕ) → lines_of (byte ∷ rest) ≡ first_and_rest (byte ∷ rest)
lines_of-cons byte [] = feed-step byte [] (is_feed byte) refl (λ _. refl)
lines_of-cons byte (next ∷ rest) =
    feed-step byte (next ∷ rest) (is_feed byte) refl (λ _. ap (onto_first byte) (lines_of-cons next rest))

lines_of-first : (text line rest : List ℕ) → 0 < length text → line ≡ before_first is_feed text → rest ≡ after_first is_feed text → lines_of text ≡ line ∷ lines_of rest
lines_of-first [] line rest h front back = absurd (omega arith)
lines_of-first (byte ∷ more) line rest h front back =
    lines_of-cons byte more ∙ sym (ap (λ l. l ∷ lines_of (after_first is_feed (byte ∷ more))) front) ∙ sym (ap (λ r. line ∷ lines_of r) back)

pub commands_from-fault : (batch : Option Batch) (number column : ℕ) (text line rest : List ℕ) → 0 < length text → line ≡ before_first is_feed text → rest ≡ after_first is_feed text
    → Err column ≡ statement_of batch line → commands_from batch number (lines_of text) ≡ Err (record { line = number; column = column })
commands_from-fault batch number column text line rest h front back fault =
    ap (commands_from batch number) (lines_of-first text line rest h front back) ∙ rw (← fault, commands_from) refl

pub commands_from-line : (batch : Option Batch) (number : ℕ) (statement : Statement) (text line rest : List ℕ) → 0 < length text → line ≡ before_first is_feed text → rest ≡ after_first is_feed text
    → Ok statement ≡ statement_of batch line → commands_from batch number (lines_of text) ≡ (commands_from (batch_after batch statement) (number + 1) (lines_of rest) <&> with_line batch statement)
commands_from-line batch number statement text line rest h front back means =
    ap (commands_from batch number) (lines_of-first text line rest h front back) ∙ rw (← means, commands_from) refl

-- a step that changes nothing
pub then-nothing : (answer : Result (List Command) Place) (f : List Command → List Command) → ((commands : List Command) → f commands ≡ commands) → (answer <&> f) ≡ answer
then-nothing (Ok commands) f same = ap Ok (same commands)
then-nothing (Err place) f same = refl

-- two steps on an answer are one
pub then-map : (answer : Result (List Command) Place) (f g h : List Command → List Command) → ((commands : List Command) → h commands ≡ g (f commands)) → (answer <&> h) ≡ ((answer <&> f) <&> g)
then-map (Ok commands) f g h same = ap Ok (same commands)
then-map (Err place) f g h same = refl

-- what explains an answer explains what follows from it
pub Explains-map : (refusal : Refusal) (answer : Result (List Command) Place) (f : List Command → List Command) → Explains refusal answer → Explains refusal (answer <&> f)
Explains-map NoMemory (Ok commands) f h = h
Explains-map NoMemory (Err place) f h = h
Explains-map (BadLine line column) (Ok commands) f h = ap (λ a. a <&> f) h
Explains-map (BadLine line column) (Err place) f h = h
Explains-map BatchTooLarge answer f h = absurd h
Explains-map ClockExhausted answer f h = absurd h
Explains-map Stale answer f h = absurd h
Explains-map RegistryFull answer f h = absurd h
Explains-map (BadRecord length) answer f h = absurd h

-- no line is left
pub commands_from-end : (batch : Option Batch) (number : ℕ) (text : List ℕ) → length text ≡ 0 → commands_from batch number (lines_of text) ≡ ended batch number
commands_from-end batch number text h = ap (λ t. commands_from batch number (lines_of t)) (nil_from_length text h)
