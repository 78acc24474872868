-- Lists of pairs, and what they have at a key.
use Rattle.std.proofs.Common.{◌≡◌, List, [], ◌∷◌, Option, Some, true, false, cond, find, refl, sym, ◌∙◌, ap, inl, inr}
use Rattle.std.specs.Ordering.{is_eq}
use Rattle.std.specs.Option.{option_map}
use Rattle.std.specs.declared.cmp.Ordering.TheVariants.{Less, Equal}
use Rattle.std.proofs.lemmas.Cmp.{tied_itself}
use Rattle.std.proofs.lemmas.Option.{none-some, same_Some}
use Rattle.tf_sorted.specs.Rows.{AllAfter, IsRising, value_at}
use Rattle.tf_table.specs.declared.key.Key.{Key}
use Rattle.tf_table.specs.Key.{key_cmp}
use Rattle.tf_manifest.proofs.Entries.{total, exact, same_key}
use Rattle.tf_manifest.proofs.Members.{Has, bool_cases}

not_after : (a b : Key) → a ≡ b → key_cmp a b ≡ Less → ⊥
not_after a b same less =
    let tied : key_cmp a b ≡ Equal = ap (λ (x : Key). key_cmp a x) (sym same) ∙ tied_itself total a in
    let wrong : Equal ≡ Less = sym tied ∙ less in
    absurd (cc)

module _ {E : Type 0} where
  abbrev found : Option (Key × E) → Option E
  found row = option_map (λ (r : Key × E). r.1) row

  here : (k : Key) (p : Key × E) (ps : List (Key × E)) → is_eq (key_cmp p.0 k) ≡ true → value_at key_cmp k (p ∷ ps) ≡ Some p.1
  here k p ps t = ap (λ b. found (cond b (Some p) (find (λ (r : Key × E). is_eq (key_cmp r.0 k)) ps))) t

  there : (k : Key) (p : Key × E) (ps : List (Key × E)) → is_eq (key_cmp p.0 k) ≡ false → value_at key_cmp k (p ∷ ps) ≡ value_at key_cmp k ps
  there k p ps f = ap (λ b. found (cond b (Some p) (find (λ (r : Key × E). is_eq (key_cmp r.0 k)) ps))) f

  -- a pair whose value every pair with its key has is what the list has there
  pub value_found : (ps : List (Key × E)) (k : Key) (v : E) → Has ps (k, v) → ((q : Key × E) → Has ps q → q.0 ≡ k → q.1 ≡ v) → value_at key_cmp k ps ≡ Some v
  value_found [] k v has only = absurd has
  value_found (p ∷ ps) k v has only = bool_cases (is_eq (key_cmp p.0 k))
      (λ t. here k p ps t ∙ ap Some (only p (inl refl) (exact p.0 k (same_key (key_cmp p.0 k) t))))
      (λ f.
      let rest : Has ps (k, v) = elim has [
        | inl e ↦
            let tied : is_eq (key_cmp p.0 k) ≡ true = ap (λ (r : Key × E). is_eq (key_cmp r.0 k)) e ∙ ap is_eq (tied_itself total k) in
            let wrong : true ≡ false = sym tied ∙ f in
            absurd (cc)
        | inr h ↦ h
      ] in
      there k p ps f ∙ value_found ps k v rest (λ q h. only q (inr h)))

  -- what the list has at a key is one of its pairs
  pub value_from : (ps : List (Key × E)) (k : Key) (v : E) → value_at key_cmp k ps ≡ Some v → Has ps (k, v)
  value_from [] k v e = absurd (none-some v e)
  value_from (p ∷ ps) k v e = bool_cases (is_eq (key_cmp p.0 k))
      (λ t.
      let key : p.0 ≡ k = exact p.0 k (same_key (key_cmp p.0 k) t) in
      let val : p.1 ≡ v = same_Some p.1 v (sym (here k p ps t) ∙ e) in
      inl (ap (λ (x : Key). (x, p.1)) key ∙ ap (λ (y : E). (k, y)) val))
      (λ f. inr (value_from ps k v (sym (there k p ps f) ∙ e)))

  after_has : (k : Key) (ps : List (Key × E)) (q : Key × E) → AllAfter key_cmp k ps → Has ps q → key_cmp k q.0 ≡ Less
  after_has k [] q all h = absurd h
  after_has k (p ∷ ps) q all (inl e) = ap (λ (r : Key × E). key_cmp k r.0) (sym e) ∙ all.0
  after_has k (p ∷ ps) q all (inr h) = after_has k ps q all.1 h

  -- a list in the order of its keys has no two pairs with one key
  pub rising_once : (ps : List (Key × E)) (p q : Key × E) → IsRising key_cmp ps → Has ps p → Has ps q → p.0 ≡ q.0 → p.1 ≡ q.1
  rising_once [] p q rising hp hq same = absurd hp
  rising_once (r ∷ ps) p q rising (inl e) (inl f) same = ap (λ (x : Key × E). x.1) (sym e ∙ f)
  rising_once (r ∷ ps) p q rising (inl e) (inr h) same =
      absurd (not_after r.0 q.0 (ap (λ (x : Key × E). x.0) e ∙ same) (after_has r.0 ps q rising.0 h))
  rising_once (r ∷ ps) p q rising (inr h) (inl f) same =
      absurd (not_after r.0 p.0 (ap (λ (x : Key × E). x.0) f ∙ sym same) (after_has r.0 ps p rising.0 h))
  rising_once (r ∷ ps) p q rising (inr g) (inr h) same = rising_once ps p q rising.1 g h same

  -- it has the value of each of its pairs
  pub value_listed : (ps : List (Key × E)) (k : Key) (v : E) → IsRising key_cmp ps → Has ps (k, v) → value_at key_cmp k ps ≡ Some v
  value_listed ps k v rising has = value_found ps k v has (λ q h same. rising_once ps q (k, v) rising h has same)
