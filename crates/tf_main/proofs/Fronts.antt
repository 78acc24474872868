-- Parts of bytes that were appended, and what follows them.
use Rattle.std.proofs.Common.{◌≡◌, ◌≢◌, ℕ, List, [], ◌∷◌, ◌++◌, Option, None, Some, take, drop, ap, sym, ◌∙◌, append_assoc, append-nil, subst, refl, suc, ◌<◌, length, get_or, drop-cons, Result, Ok, Err}
use Rattle.std.specs.List.{flat_map}
use Rattle.std.specs.Result.{IsErr}
use Rattle.std.proofs.lemmas.List.Concat.{flat_map-append}
use Rattle.std.proofs.lemmas.List.{take-append-drop}
use Rattle.std.proofs.lemmas.Result.{MatchResult-from_err, MatchResult-weaker}
use Rattle.std.specs.Io.KnownBytes.{Appends, Keeps}
use Rattle.tf_main.specs.Output.{AppendsPart, Writes}

-- what was appended before is all that was appended, where nothing was appended since
pub Appends-Keeps : (old mid new : Option (List ℕ)) (bytes : List ℕ) → Appends old mid bytes → Keeps mid new → Appends old new bytes
Appends-Keeps None mid new bytes appends keeps = tt
Appends-Keeps (Some xs) None new bytes appends keeps = absurd appends
Appends-Keeps (Some xs) (Some ys) None bytes appends keeps = absurd keeps
Appends-Keeps (Some xs) (Some ys) (Some zs) bytes appends keeps = keeps ∙ appends

-- bytes were appended, and then more
pub Appends-Appends : (old mid new : Option (List ℕ)) (xs ys : List ℕ) → Appends old mid xs → Appends mid new ys → Appends old new (xs ++ ys)
Appends-Appends None mid new xs ys p q = tt
Appends-Appends (Some us) None new xs ys p q = absurd p
Appends-Appends (Some us) (Some vs) None xs ys p q = absurd q
Appends-Appends (Some us) (Some vs) (Some ws) xs ys p q = q ∙ ap (λ zs. zs ++ ys) p ∙ append_assoc us xs ys

-- bytes were appended, and then a part of more
pub AppendsPart-Appends : (old mid new : Option (List ℕ)) (xs ys : List ℕ) → Appends old mid xs → AppendsPart mid new ys → AppendsPart old new (xs ++ ys)
AppendsPart-Appends old mid new xs ys p q = record {
  front = xs ++ q.front;
  back = q.back;
  not_whole = q.not_whole;
  parts = append_assoc xs q.front q.back ∙ ap (λ zs. xs ++ zs) q.parts;
  appended = Appends-Appends old mid new xs q.front p q.appended;
}

-- what begins with something is something
begins_not_empty : (xs ys : List ℕ) → xs ≢ [] → (xs ++ ys) ≢ []
begins_not_empty [] ys some is = absurd (some refl)
begins_not_empty (x ∷ xs) ys some is = cc

-- a part of bytes is a part of those bytes with more behind them
pub AppendsPart-more : (old new : Option (List ℕ)) (xs ys : List ℕ) → AppendsPart old new xs → AppendsPart old new (xs ++ ys)
AppendsPart-more old new xs ys p = record {
  front = p.front;
  back = p.back ++ ys;
  not_whole = begins_not_empty p.back ys p.not_whole;
  parts = sym (append_assoc p.front p.back ys) ∙ ap (λ zs. zs ++ ys) p.parts;
  appended = p.appended;
}

-- the bytes before the rest were appended, and nothing else
pub record AppendsBefore (old new : Option (List ℕ)) (rest bytes : List ℕ) : Type 0 where
  pub front : List ℕ
  pub parts : front ++ rest ≡ bytes
  pub appended : Appends old new front

-- nothing was appended
pub Appends-nothing : (old : Option (List ℕ)) → Appends old old []
Appends-nothing None = tt
Appends-nothing (Some xs) = sym (append-nil xs)

pub AppendsBefore-start : (old : Option (List ℕ)) (bytes : List ℕ) → AppendsBefore old old bytes bytes
AppendsBefore-start old bytes = record { front = []; parts = refl; appended = Appends-nothing old }

pub AppendsBefore-more : (old mid new : Option (List ℕ)) (rest next bytes : List ℕ) (count : ℕ) → next ≡ drop count rest → AppendsBefore old mid rest bytes → Appends mid new (take count rest) → AppendsBefore old new next bytes
AppendsBefore-more old mid new rest next bytes count left before appends = record {
  front = before.front ++ take count rest;
  parts = ap (λ zs. (before.front ++ take count rest) ++ zs) left ∙ append_assoc before.front (take count rest) (drop count rest) ∙ ap (λ zs. before.front ++ zs) (take-append-drop count rest) ∙ before.parts;
  appended = Appends-Appends old mid new before.front (take count rest) before.appended appends;
}

pub AppendsBefore-end : (old new : Option (List ℕ)) (rest bytes : List ℕ) → AppendsBefore old new rest bytes → rest ≡ [] → Appends old new bytes
AppendsBefore-end old new rest bytes before none =
    subst (λ (zs : List ℕ). Appends old new zs) (sym (append-nil before.front) ∙ ap (λ zs. before.front ++ zs) (sym none) ∙ before.parts) before.appended

pub AppendsBefore-stop : (old mid new : Option (List ℕ)) (rest bytes : List ℕ) → AppendsBefore old mid rest bytes → rest ≢ [] → Keeps mid new → AppendsPart old new bytes
AppendsBefore-stop old mid new rest bytes before some keeps = record {
  front = before.front;
  back = rest;
  not_whole = some;
  parts = before.parts;
  appended = Appends-Keeps old mid new before.front before.appended keeps;
}

-- what is written of a list is what is written of its items before a place, of the item there and of those after it
flat_map-split : {X : Type 0} (f : X → List ℕ) (xs : List X) (i : ℕ) (d : X) → i < length xs → flat_map f xs ≡ flat_map f (take i xs) ++ (f (get_or xs i d) ++ flat_map f (drop (suc i) xs))
flat_map-split f xs i d within =
    ap (flat_map f) (sym (take-append-drop i xs))
    ∙ flat_map-append f (take i xs) (drop i xs)
    ∙ ap (λ ys. flat_map f (take i xs) ++ flat_map f ys) (drop-cons xs i d within)

-- the items before a place were written, and then a part of the item there
pub AppendsPart-at : {X : Type 0} (f : X → List ℕ) (old mid new : Option (List ℕ)) (xs : List X) (i : ℕ) (d : X) (text : List ℕ) → i < length xs → text ≡ f (get_or xs i d) → Appends old mid (flat_map f (take i xs)) → AppendsPart mid new text → AppendsPart old new (flat_map f xs)
AppendsPart-at f old mid new xs i d text within is before front =
    let rest : List ℕ = flat_map f (drop (suc i) xs) in
    let parts : flat_map f (take i xs) ++ (text ++ rest) ≡ flat_map f xs =
    ap (λ bytes. flat_map f (take i xs) ++ (bytes ++ rest)) is ∙ sym (flat_map-split f xs i d within) in
    subst (λ (bytes : List ℕ). AppendsPart old new bytes) parts
    (AppendsPart-Appends old mid new (flat_map f (take i xs)) (text ++ rest) before (AppendsPart-more mid new text rest front))

-- a write that failed after a part of its bytes
pub Writes-failed : {X E : Type 0} (old new : Option (List ℕ)) (result : Result X E) (bytes : List ℕ) → IsErr result → AppendsPart old new bytes → Writes old new result bytes
Writes-failed old new result bytes failed front =
    MatchResult-from_err result (λ _. Appends old new bytes) (λ _. AppendsPart old new bytes) failed (λ _. front)

-- bytes were appended, and then more were written
pub Writes-Appends : {X E : Type 0} (old mid new : Option (List ℕ)) (result : Result X E) (xs ys : List ℕ) → Appends old mid xs → Writes mid new result ys → Writes old new result (xs ++ ys)
Writes-Appends old mid new result xs ys before writes =
    MatchResult-weaker result writes
    (λ _ appends. Appends-Appends old mid new xs ys before appends)
    (λ _ front. AppendsPart-Appends old mid new xs ys before front)
