-- What makes edits right: what a row gained, lost and kept.
use Rattle.std.proofs.Common.{◌↔◌, ◌≡◌, List, [], ◌∷◌, ◌++◌, map, Option, Some, None, find, refl, sym, ◌∙◌, ap, subst, inl, inr}
use Rattle.std.specs.Ordering.{is_eq}
use Rattle.std.specs.List.{All, Contains}
use Rattle.std.specs.Option.{option_map, unwrap_or}
use Rattle.std.proofs.lemmas.Cmp.{tied_itself}
use Rattle.std.proofs.lemmas.List.Elements.{All-cons, All-nil}
use Rattle.std.proofs.lemmas.Option.{none-some}
use Rattle.tf_journal.specs.declared.entry.Entry.{Entry}
use Rattle.tf_journal.specs.Lawful.{IsSound}
use Rattle.tf_table.specs.declared.key.Key.{Key}
use Rattle.tf_table.specs.Content.{entry_at}
use Rattle.tf_table.specs.Key.{key_cmp}
use Rattle.tf_manifest.specs.declared.row.Row.{Row}
use Rattle.tf_manifest.specs.declared.value.Value.{Value}
use Rattle.tf_manifest.specs.Rows.{Pair, rows_of}
use Rattle.tf_manifest.specs.Shows.{value_of}
use Rattle.tf_manifest.proofs.Entries.{total}
use Rattle.tf_manifest.proofs.Members.{Has, has_either, has_left, has_made, has_map, has_right, none_has}
use Rattle.tf_manifest.proofs.OneValue.{contained, has_at}
use Rattle.tf_manifest.proofs.Pairs.{value_from}
use Rattle.tf_rows.specs.Edits.{Edit, edited, put}

-- no edit has this key
abbrev pub IsUntouched : List Edit → Key → Type 0
IsUntouched changes k = (o : Option Value) → Has changes (k, o) → ⊥

-- edits say what became of a row's pairs
pub record IsChange (before after : List Pair) (changes : List Edit) : Type 0 where
  pub there : (k : Key) (v : Value) → Has changes (k, Some v) → Has after (k, v)
  pub away : (k : Key) (v : Value) → Has changes (k, None) → Has after (k, v) → ⊥
  pub kept : (p : Pair) → IsUntouched changes p.0 → Has before p → Has after p
  pub only : (p : Pair) → IsUntouched changes p.0 → Has after p → Has before p

is_none : {X Y : Type 0} (f : X → Y) (o : Option X) → option_map f o ≡ None → o ≡ None
is_none f None e = refl
is_none f (Some x) e = absurd (none-some (f x) (sym e))

-- a key that edits have nothing at is untouched
untouched : (changes : List Edit) (k : Key) → entry_at k changes ≡ None → IsUntouched changes k
untouched changes k e o has =
    none_has (λ (r : Edit). is_eq (key_cmp r.0 k)) changes (k, o)
    (is_none (λ (r : Edit). r.1) (find (λ (r : Edit). is_eq (key_cmp r.0 k)) changes) e) has (ap is_eq (tied_itself total k))

pub same_options : {X : Type 0} (a b : Option X) → ((x : X) → b ≡ Some x → a ≡ Some x) → ((x : X) → a ≡ Some x → b ≡ Some x) → a ≡ b
same_options None None to back = refl
same_options None (Some x) to back = to x refl
same_options (Some x) b to back = sym (back x refl)

pub no_value : {X : Type 0} (o : Option X) → ((x : X) → o ≡ Some x → ⊥) → o ≡ None
no_value None not = refl
no_value (Some x) not = absurd (not x refl)

-- what is known of the rows of a sound journal: they have at a key the value of the pair with that key
abbrev pub RowsAreMaps : Type 0
RowsAreMaps = (journal : List Entry) → IsSound journal → (r : Row) (k : Key) (v : Value) → Contains (rows_of journal r) (k, v) ↔ (value_of journal r k ≡ Some v)

module _ (maps : RowsAreMaps) (journal after : List Entry) (old_sound : IsSound journal) (sound : IsSound after) (r : Row) (changes : List Edit) (is : IsChange (rows_of journal r) (rows_of after r) changes) where
  value_there : (j : List Entry) → IsSound j → (k : Key) (v : Value) → Has (rows_of j r) (k, v) → value_of j r k ≡ Some v
  value_there j s k v h = (maps j s r k v).0 (contained (rows_of j r) (k, v) h)

  pair_there : (j : List Entry) → IsSound j → (k : Key) (v : Value) → value_of j r k ≡ Some v → Has (rows_of j r) (k, v)
  pair_there j s k v e = let at = (maps j s r k v).1 e in has_at (rows_of j r) at.0 (k, v) at.1 at.2

  -- each edit says what the row has afterwards
  edit_right : (k : Key) (o : Option Value) → Has changes (k, o) → value_of after r k ≡ o
  edit_right k (Some v) has = value_there after sound k v (is.there k v has)
  edit_right k None has = no_value (value_of after r k) (λ v e. is.away k v has (pair_there after sound k v e))

  -- where there is none the row has what it had
  same_value : (k : Key) → entry_at k changes ≡ None → value_of after r k ≡ value_of journal r k
  same_value k e =
      let no_edit = untouched changes k e in
      same_options (value_of after r k) (value_of journal r k)
      (λ v h. value_there after sound k v (is.kept (k, v) no_edit (pair_there journal old_sound k v h)))
      (λ v h. value_there journal old_sound k v (is.only (k, v) no_edit (pair_there after sound k v h)))

  pub value_edited : (k : Key) → value_of after r k ≡ edited changes (value_of journal r) k
  value_edited k = by_entry (entry_at k changes) refl where
    by_entry : (o : Option (Option Value)) → entry_at k changes ≡ o → value_of after r k ≡ unwrap_or (entry_at k changes) (value_of journal r k)
    by_entry None e = same_value k e ∙ sym (ap (λ (o : Option (Option Value)). unwrap_or o (value_of journal r k)) e)
    by_entry (Some o) e = edit_right k o (value_from changes k o e) ∙ sym (ap (λ (p : Option (Option Value)). unwrap_or p (value_of journal r k)) e)

  all_right : (rest : List Edit) → ((edit : Edit) → Has rest edit → Has changes edit) → All (λ edit. value_of after r edit.0 ≡ edit.1) rest
  all_right [] among = All-nil (λ edit. value_of after r edit.0 ≡ edit.1)
  all_right (edit ∷ rest) among =
      All-cons (λ edit. value_of after r edit.0 ≡ edit.1) edit rest (edit_right edit.0 edit.1 (among edit (inl refl))) (all_right rest (λ other h. among other (inr h)))

  pub edits_right : All (λ edit. value_of after r edit.0 ≡ edit.1) changes
  edits_right = all_right changes (λ edit h. h)

-- a row that stays has no edits
pub unchanged : (before after : List Pair) → after ≡ before → IsChange before after []
unchanged before after same = record {
  there = λ k v h. absurd h;
  away = λ k v h g. h;
  kept = λ p u h. subst (λ (ps : List Pair). Has ps p) (sym same) h;
  only = λ p u h. subst (λ (ps : List Pair). Has ps p) same h;
}

abbrev pub put_pair : Pair → Edit
put_pair p = put p.0 p.1

-- a row that gains pairs, wherever in the list they stand, has them as its edits
module _ (left new right : List Pair) where
  new_there : (k : Key) (v : Value) → Has (map put_pair new) (k, Some v) → Has new (k, v)
  new_there k v h =
      let made = has_made put_pair new (k, Some v) h in
      let key : made.from.0 ≡ k = ap (λ (e : Edit). e.0) made.is in
      let val : made.from.1 ≡ v = let s : Some made.from.1 ≡ Some v = ap (λ (e : Edit). e.1) made.is in cc in
      subst (Has new) (ap (λ (x : Key). (x, made.from.1)) key ∙ ap (λ (y : Value). (k, y)) val) made.has

  not_gone : (k : Key) → Has (map put_pair new) (k, None) → ⊥
  not_gone k h =
      let made = has_made put_pair new (k, None) h in
      none-some made.from.1 (sym (ap (λ (e : Edit). e.1) made.is))

  is_old : (p : Pair) → IsUntouched (map put_pair new) p.0 → Has (left ++ (new ++ right)) p → Has (left ++ right) p
  is_old p u h = elim (has_either left (new ++ right) p h) [
    | inl l ↦ has_left left right p l
    | inr rest ↦ elim (has_either new right p rest) [
      | inl n ↦ absurd (u (Some p.1) (has_map put_pair new p n))
      | inr r ↦ has_right left right p r
    ]
  ]

  still_there : (p : Pair) → Has (left ++ right) p → Has (left ++ (new ++ right)) p
  still_there p h = elim (has_either left right p h) [
    | inl l ↦ has_left left (new ++ right) p l
    | inr r ↦ has_right left (new ++ right) p (has_right new right p r)
  ]

  grown_parts : IsChange (left ++ right) (left ++ (new ++ right)) (map put_pair new)
  grown_parts = record {
    there = λ k v h. has_right left (new ++ right) (k, v) (has_left new right (k, v) (new_there k v h));
    away = λ k v h g. not_gone k h;
    kept = λ p u h. still_there p h;
    only = λ p u h. is_old p u h;
  }

pub grown : (before after left new right : List Pair) → before ≡ left ++ right → after ≡ left ++ (new ++ right) → IsChange before after (map put_pair new)
grown before after left new right was is =
    subst (λ (b : List Pair). IsChange b after (map put_pair new)) (sym was)
    (subst (λ (a : List Pair). IsChange (left ++ right) a (map put_pair new)) (sym is) (grown_parts left new right))

-- an element that a pair is made of
pub record Element {X : Type 0} (In : X → Type 0) (pair : X → Pair) (p : Pair) : Type 0 where
  pub from : X
  pub has : In from
  pub is : pair from ≡ p

-- a row has just the pairs of these elements
pub record IsOf {X : Type 0} (In : X → Type 0) (pair : X → Pair) (row : List Pair) : Type 0 where
  pub from : (p : Pair) → Has row p → Element In pair p
  pub into : (x : X) → In x → Has row (pair x)

-- a row of which some elements came, some went, and some have another value
module _ {X : Type 0} (In InNow : X → Type 0) (pair pair_now : X → Pair) (before after : List Pair) (changes : List Edit) where
  pub remade : IsOf In pair before → IsOf InNow pair_now after
      → ((k : Key) (v : Value) → Has changes (k, Some v) → Has after (k, v))
      → ((k : Key) → Has changes (k, None) → (x : X) → InNow x → (pair_now x).0 ≡ k → ⊥)
      → ((x : X) → In x → IsUntouched changes (pair x).0 → InNow x × (pair x ≡ pair_now x))
      → ((x : X) → InNow x → IsUntouched changes (pair_now x).0 → In x × (pair x ≡ pair_now x))
      → IsChange before after changes
  remade old now there away stays was = record {
    there = there;
    away = λ k v h g.
        let element = now.from (k, v) g in
        away k h element.from element.has (ap (λ (p : Pair). p.0) element.is);
    kept = λ p u h.
        let element = old.from p h in
        let still = stays element.from element.has (subst (λ (q : Pair). IsUntouched changes q.0) (sym element.is) u) in
        subst (Has after) (sym still.1 ∙ element.is) (now.into element.from still.0);
    only = λ p u h.
        let element = now.from p h in
        let before_it = was element.from element.has (subst (λ (q : Pair). IsUntouched changes q.0) (sym element.is) u) in
        subst (Has before) (before_it.1 ∙ element.is) (old.into element.from before_it.0);
  }
