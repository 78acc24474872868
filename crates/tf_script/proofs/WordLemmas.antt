-- Where the words of a line begin and end.
use Rattle.std.proofs.Common.{◌≡◌, ℕ, suc, ◌+◌, ◌<◌, ◌≤◌, Bool, true, false, cond, eqb, List, [], ◌∷◌, length, get_or, take, drop, refl, sym, ap, subst, ◌∙◌, arith, add-zero}
use Rattle.std.specs.List.{prefix_len, position_or_len}
use Rattle.std.proofs.lemmas.Bool.Decides.{nat_tests}
use Rattle.std.proofs.lemmas.List.{nil_from_length}
use Rattle.tf_script.specs.Words.{Word, onto_word, words_from}

abbrev pub is_space : ℕ → Bool
is_space byte = eqb byte 32

-- the first of the words, if there is one, begins no further left
abbrev BeginFrom : ℕ → List Word → Type 0
BeginFrom low [] = Unit {0}
BeginFrom low (word ∷ words) = low ≤ word.column

BeginFrom-weaker : (low high : ℕ) (words : List Word) → low ≤ high → BeginFrom high words → BeginFrom low words
BeginFrom-weaker low high [] h p = tt
BeginFrom-weaker low high (word ∷ words) h p = omega arith

BeginFrom-onto : (column byte : ℕ) (words : List Word) → BeginFrom column (onto_word column byte words)
BeginFrom-onto column byte [] = omega arith
BeginFrom-onto column byte (word ∷ words) =
    elim (eqb word.column (column + 1)) as (λ t. BeginFrom column (cond t (record { column = column; bytes = byte ∷ word.bytes } ∷ words) (record { column = column; bytes = byte ∷ [] } ∷ word ∷ words))) [
      | true ↦ omega arith
      | false ↦ omega arith
    ]

BeginFrom-words : (column : ℕ) (text : List ℕ) → BeginFrom column (words_from column text)
BeginFrom-words column [] = tt
BeginFrom-words column (byte ∷ rest) =
    elim (eqb byte 32) as (λ t. BeginFrom column (cond t (words_from (column + 1) rest) (onto_word column byte (words_from (column + 1) rest)))) [
      | true ↦ BeginFrom-weaker column (column + 1) (words_from (column + 1) rest) (omega arith) (BeginFrom-words (column + 1) rest)
      | false ↦ BeginFrom-onto column byte (words_from (column + 1) rest)
    ]

-- a byte before a word that begins further right is a word
onto_word-apart : (column byte : ℕ) (words : List Word) → BeginFrom (column + 2) words → onto_word column byte words ≡ record { column = column; bytes = byte ∷ [] } ∷ words
onto_word-apart column byte [] h = refl
onto_word-apart column byte (word ∷ words) h =
    let e : eqb word.column (column + 1) ≡ false = grind (arith, nat_tests) in
    rw e refl

-- a byte right before a word is its first
onto_word-joined : (column next byte : ℕ) (bytes : List ℕ) (words : List Word) → next ≡ column + 1 → onto_word column byte (record { column = next; bytes = bytes } ∷ words) ≡ record { column = column; bytes = byte ∷ bytes } ∷ words
onto_word-joined column next byte bytes words h =
    let e : eqb next (column + 1) ≡ true = grind (arith, nat_tests) in
    rw e refl

words_from-space : (column byte : ℕ) (rest : List ℕ) → is_space byte ≡ true → words_from column (byte ∷ rest) ≡ words_from (column + 1) rest
words_from-space column byte rest e = rw e refl

words_from-letter : (column byte : ℕ) (rest : List ℕ) → is_space byte ≡ false → words_from column (byte ∷ rest) ≡ onto_word column byte (words_from (column + 1) rest)
words_from-letter column byte rest e = rw e refl

prefix_len-yes : (byte : ℕ) (rest : List ℕ) → is_space byte ≡ true → prefix_len is_space (byte ∷ rest) ≡ suc (prefix_len is_space rest)
prefix_len-yes byte rest e = rw e (omega arith)

prefix_len-no : (byte : ℕ) (rest : List ℕ) → is_space byte ≡ false → prefix_len is_space (byte ∷ rest) ≡ 0
prefix_len-no byte rest e = rw e refl

position-yes : (byte : ℕ) (rest : List ℕ) → is_space byte ≡ true → position_or_len is_space (byte ∷ rest) ≡ 0
position-yes byte rest e = rw e refl

position-no : (byte : ℕ) (rest : List ℕ) → is_space byte ≡ false → position_or_len is_space (byte ∷ rest) ≡ suc (position_or_len is_space rest)
position-no byte rest e = rw e (omega arith)

-- what is left of a text after its spaces, and its words
abbrev past_spaces : ℕ → List ℕ → List Word
past_spaces column text = words_from (column + prefix_len is_space text) (drop (prefix_len is_space text) text)

spaces-step : (column byte : ℕ) (rest : List ℕ) (t : Bool) → is_space byte ≡ t → words_from (column + 1) rest ≡ past_spaces (column + 1) rest → words_from column (byte ∷ rest) ≡ past_spaces column (byte ∷ rest)
spaces-step column byte rest true e h =
    let n = prefix_len is_space rest in
    let moved : column + 1 + n ≡ column + suc n = omega arith in
    words_from-space column byte rest e ∙ h
    ∙ ap (λ c. words_from c (drop n rest)) moved
    ∙ sym (ap (λ m. words_from (column + m) (drop m (byte ∷ rest))) (prefix_len-yes byte rest e))
spaces-step column byte rest false e h =
    sym (ap (λ m. words_from (column + m) (drop m (byte ∷ rest))) (prefix_len-no byte rest e)
    ∙ ap (λ c. words_from c (byte ∷ rest)) (add-zero column))

-- leading spaces belong to no word
pub words_from-spaces : (column : ℕ) (text : List ℕ) → words_from column text ≡ past_spaces column text
words_from-spaces column [] = refl
words_from-spaces column (byte ∷ rest) =
    spaces-step column byte rest (eqb byte 32) refl (words_from-spaces (column + 1) rest)

-- the words of a text that begins with one, whose length is given
abbrev worded : ℕ → ℕ → List ℕ → List Word
worded column count text = record { column = column; bytes = take count text } ∷ words_from (column + count) (drop count text)

word-end : (column byte next : ℕ) (rest : List ℕ) → is_space next ≡ true → onto_word column byte (words_from (column + 1) (next ∷ rest)) ≡ worded column (suc (position_or_len is_space (next ∷ rest))) (byte ∷ next ∷ rest)
word-end column byte next rest s =
    let apart : BeginFrom (column + 2) (words_from (column + 1) (next ∷ rest)) =
    (let two : column + 2 ≡ column + 1 + 1 = omega arith in
    subst (λ (words : List Word). BeginFrom (column + 2) words) (sym (words_from-space (column + 1) next rest s))
    (BeginFrom-weaker (column + 2) (column + 1 + 1) (words_from (column + 1 + 1) rest) (omega arith) (BeginFrom-words (column + 1 + 1) rest))) in
    onto_word-apart column byte _ apart
    ∙ sym (ap (λ m. worded column (suc m) (byte ∷ next ∷ rest)) (position-yes next rest s))

word-goes-on : (column byte next : ℕ) (rest : List ℕ) → is_space next ≡ false
    → words_from (column + 1) (next ∷ rest) ≡ worded (column + 1) (position_or_len is_space (next ∷ rest)) (next ∷ rest)
    → onto_word column byte (words_from (column + 1) (next ∷ rest)) ≡ worded column (suc (position_or_len is_space (next ∷ rest))) (byte ∷ next ∷ rest)
word-goes-on column byte next rest s h =
    let m = position_or_len is_space (next ∷ rest) in
    let moved : column + 1 + m ≡ column + suc m = omega arith in
    ap (onto_word column byte) h
    ∙ onto_word-joined column (column + 1) byte (take m (next ∷ rest)) (words_from (column + 1 + m) (drop m (next ∷ rest))) refl
    ∙ ap (λ c. record { column = column; bytes = byte ∷ take m (next ∷ rest) } ∷ words_from c (drop m (next ∷ rest))) moved

word-step : (column byte next : ℕ) (rest : List ℕ) (t : Bool) → is_space next ≡ t
    → (is_space next ≡ false → words_from (column + 1) (next ∷ rest) ≡ worded (column + 1) (position_or_len is_space (next ∷ rest)) (next ∷ rest))
    → onto_word column byte (words_from (column + 1) (next ∷ rest)) ≡ worded column (suc (position_or_len is_space (next ∷ rest))) (byte ∷ next ∷ rest)
word-step column byte next rest true s h = word-end column byte next rest s
word-step column byte next rest false s h = word-goes-on column byte next rest s (h s)

-- the first word of a text that begins with one
pub words_from-word : (column byte : ℕ) (rest : List ℕ) → is_space byte ≡ false → words_from column (byte ∷ rest) ≡ worded column (position_or_len is_space (byte ∷ rest)) (byte ∷ rest)
words_from-word column byte [] e =
    words_from-letter column byte [] e ∙ sym (ap (λ m. worded column m (byte ∷ [])) (position-no byte [] e))
words_from-word column byte (next ∷ rest) e =
    words_from-letter column byte (next ∷ rest) e
    ∙ word-step column byte next rest (eqb next 32) refl (words_from-word (column + 1) next rest)
    ∙ sym (ap (λ m. worded column m (byte ∷ next ∷ rest)) (position-no byte (next ∷ rest) e))

first-step : (byte : ℕ) (rest : List ℕ) (t : Bool) → is_space byte ≡ t
    → (0 < length (drop (prefix_len is_space rest) rest) → is_space (get_or (drop (prefix_len is_space rest) rest) 0 0) ≡ false)
    → 0 < length (drop (prefix_len is_space (byte ∷ rest)) (byte ∷ rest))
    → is_space (get_or (drop (prefix_len is_space (byte ∷ rest)) (byte ∷ rest)) 0 0) ≡ false
first-step byte rest true e more =
    let P : ℕ → Type 0 = λ m. 0 < length (drop m (byte ∷ rest)) → is_space (get_or (drop m (byte ∷ rest)) 0 0) ≡ false in
    subst P (sym (prefix_len-yes byte rest e)) more
first-step byte rest false e more =
    let P : ℕ → Type 0 = λ m. 0 < length (drop m (byte ∷ rest)) → is_space (get_or (drop m (byte ∷ rest)) 0 0) ≡ false in
    subst P (sym (prefix_len-no byte rest e)) (λ _. e)

-- what follows the spaces begins with none
past_spaces-first : (text : List ℕ) → 0 < length (drop (prefix_len is_space text) text) → is_space (get_or (drop (prefix_len is_space text) text) 0 0) ≡ false
past_spaces-first [] h = absurd (omega arith)
past_spaces-first (byte ∷ rest) h = first-step byte rest (eqb byte 32) refl (past_spaces-first rest) h

worded-front : (column : ℕ) (from : List ℕ) → 0 < length from → is_space (get_or from 0 0) ≡ false → words_from column from ≡ worded column (position_or_len is_space from) from
worded-front column [] h e = absurd (omega arith)
worded-front column (byte ∷ rest) h e = words_from-word column byte rest e

position-front : (from : List ℕ) → 0 < length from → is_space (get_or from 0 0) ≡ false → 0 < position_or_len is_space from
position-front [] h e = absurd (omega arith)
position-front (byte ∷ rest) h e = rw (position-no byte rest e) (omega arith)

after_spaces : (text from : List ℕ) (spaces : ℕ) → spaces ≡ prefix_len is_space text → from ≡ drop spaces text → 0 < length from → is_space (get_or from 0 0) ≡ false
after_spaces text from spaces counted is h =
    let same : drop (prefix_len is_space text) text ≡ from = ap (λ n. drop n text) (sym counted) ∙ sym is in
    let P : List ℕ → Type 0 = λ xs. 0 < length xs → is_space (get_or xs 0 0) ≡ false in
    subst P same (past_spaces-first text) h

-- a word has a byte
pub word_length : (text from : List ℕ) (spaces : ℕ) → spaces ≡ prefix_len is_space text → from ≡ drop spaces text → 0 < length from → 0 < position_or_len is_space from
word_length text from spaces counted is h = position-front from h (after_spaces text from spaces counted is h)

from_spaces : (column : ℕ) (text from : List ℕ) (spaces : ℕ) → spaces ≡ prefix_len is_space text → from ≡ drop spaces text → words_from column text ≡ words_from (column + spaces) from
from_spaces column text from spaces counted is =
    words_from-spaces column text ∙ sym (ap (λ n. words_from (column + n) (drop n text)) counted) ∙ sym (ap (words_from (column + spaces)) is)

-- the first word of a text: after its spaces, up to the next space
pub words_from-first : (column : ℕ) (text from word after : List ℕ) (spaces count : ℕ)
    → spaces ≡ prefix_len is_space text → from ≡ drop spaces text → 0 < length from
    → count ≡ position_or_len is_space from → word ≡ take count from → after ≡ drop count from
    → words_from column text ≡ record { column = column + spaces; bytes = word } ∷ words_from (column + spaces + count) after
words_from-first column text from word after spaces count counted is h long front back =
    from_spaces column text from spaces counted is
    ∙ worded-front (column + spaces) from h (after_spaces text from spaces counted is h)
    ∙ sym (ap (λ n. worded (column + spaces) n from) long)
    ∙ sym (ap (λ w. record { column = column + spaces; bytes = w } ∷ words_from (column + spaces + count) (drop count from)) front)
    ∙ sym (ap (λ a. record { column = column + spaces; bytes = word } ∷ words_from (column + spaces + count) a) back)

-- no word in spaces alone
pub words_from-none : (column : ℕ) (text from : List ℕ) (spaces : ℕ) → spaces ≡ prefix_len is_space text → from ≡ drop spaces text → length from ≡ 0 → words_from column text ≡ []
words_from-none column text from spaces counted is h =
    from_spaces column text from spaces counted is ∙ ap (words_from (column + spaces)) (nil_from_length from h)
