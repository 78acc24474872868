-- What scans have that filters ask for, and what is read at their timestamps.
use Rattle.std.proofs.Common.{◌≡◌, ◌∙◌, sym, refl, ap, subst, Result, Ok, Err, IfOk, ℕ, Bool, true, false, not, ◌&&◌, List, [], ◌∷◌, Option, ◌≤◌, arith, filter, length}
use Rattle.std.specs.Prelude.{◌==◌, is_some, map, None, Some, if◌then◌else◌}
use Rattle.std.specs.List.{cons_option, filter_map, list_all}
use Rattle.std.specs.Option.{option_map}
use Rattle.tf_manifest.specs.declared.kind.UnitRow.TheVariants as unit
use Rattle.tf_manifest.specs.declared.kind.Kind.TheVariants as kind
use Rattle.tf_manifest.specs.declared.kinds.Stored.{Stored}
use Rattle.tf_registry.specs.Row.{content_at}
use Rattle.tf_manifest.specs.Rows.{key_of}
use Rattle.tf_registry.specs.Table.{Shown}
use Rattle.tf_manifest.specs.View.{View, tables_by}
use Rattle.tf_records.specs.declared.account.Account.{Account}
use Rattle.tf_records.specs.declared.account_filter.AccountFilter.{AccountFilter}
use Rattle.tf_records.specs.declared.query_filter.QueryFilter.{QueryFilter}
use Rattle.tf_journal.specs.Answer.{answer_of}
use Rattle.std.proofs.lemmas.List.{length-take}
use Rattle.tf_journal.specs.Filter.{Search, is_within}
use Rattle.tf_scan.specs.declared.direction.Direction.{Direction}
use Rattle.tf_scan.specs.Order.{IsInOrder}
use Rattle.tf_scan.specs.Sets.{is_among}
use Rattle.tf_query.specs.declared.condition.Condition.{Condition}
use Rattle.tf_query.specs.declared.window.Window.{Window}
use Rattle.tf_query.specs.Asked.{account_fields_at, account_filter_at, asks_no_field, meets_at, side_at, transfer_fields_at}
use Rattle.tf_query.specs.Conditions.{account_conditions, asks_nothing, field_conditions, fields_at, meets_all, transfer_conditions}
use Rattle.tf_look_ups.specs.Reads.{account_in, transfer_in}
use Rattle.tf_query.specs.declared.residual.Residual.{Residual}
use Rattle.tf_query.specs.Residual.{AreFirstPassing, first_passing}
use Rattle.tf_query.specs.Windows.{AreFirst, AreOfFirst, first_within}
use Rattle.tf_records.specs.declared.transfer.Transfer.{Transfer}

-- what is read at the first timestamps in a window
pub answered : {T : Type 0} (read : ℕ → Option T) (w : Window) (accepts : ℕ → Bool) (timestamps : List ℕ) (answer : List T) → AreFirst w accepts timestamps → ((left : List ℕ) → IsInOrder w.direction left → ((t : ℕ) → is_among t left ≡ accepts t) → filter_map read (first_within w left) ≡ answer) → filter_map read timestamps ≡ answer
answered read w accepts timestamps answer f law = ap (filter_map read) f.first ∙ law f.left f.in_order f.members

-- rows of the first timestamps in a window are the answer
pub of-first : {T R E : Type 0} (r : Result R E) (items : R → List T) (read : ℕ → Option T) (w : Window) (accepts : ℕ → Bool) (answer : List T) → IfOk r (λ v. AreOfFirst read w accepts (items v)) → ((left : List ℕ) → IsInOrder w.direction left → ((t : ℕ) → is_among t left ≡ accepts t) → filter_map read (first_within w left) ≡ answer) → IfOk r (λ v. items v ≡ answer)
of-first (Ok v) items read w accepts answer rows law = rows.rows_are ∙ answered read w accepts rows.timestamps answer rows.first law
of-first (Err e) items read w accepts answer rows law = tt

pub rows-of-first : {T R E : Type 0} (r : Result R E) (items : R → List T) (read : ℕ → Option T) (w : Window) (accepts : ℕ → Bool) (timestamps slice : List ℕ) → slice ≡ timestamps → AreFirst w accepts timestamps → IfOk r (λ v. items v ≡ filter_map read slice) → IfOk r (λ v. AreOfFirst read w accepts (items v))
rows-of-first (Ok v) items read w accepts timestamps slice same first rows = record { timestamps = timestamps; first = first; rows_are = rows ∙ ap (filter_map read) same }
rows-of-first (Err e) items read w accepts timestamps slice same first rows = tt

-- ---- tests, in the order of conditions and in that of filters

and-true : (b : Bool) → (b && true) ≡ b
and-true true = refl
and-true false = refl

-- four fields and the side
side-first : (s a b c d : Bool) → (s && (a && (b && (c && (d && true))))) ≡ (s && a && b && c && d)
side-first false a b c d = refl
side-first true false b c d = refl
side-first true true false c d = refl
side-first true true true false d = refl
side-first true true true true d = and-true d

five : (a b c d e : Bool) → (a && (b && (c && (d && (e && true))))) ≡ (a && b && c && d && e)
five false b c d e = refl
five true false c d e = refl
five true true false d e = refl
five true true true false e = refl
five true true true true e = and-true e

not-is : (b : Bool) → true ≡ not b → b ≡ false
not-is true e = cc
not-is false e = refl

chosen : (b x y z : Bool) → b ≡ false → x ≡ z → x ≡ (if b then y else z)
chosen b x y z e h = rw e h

-- ---- an account's transfers

pub account-members : (view : View) (filter : AccountFilter) (conditions : List Condition) (both left : List ℕ) → conditions ≡ field_conditions filter → ((t : ℕ) → is_among t both ≡ side_at view filter t) → ((t : ℕ) → is_among t left ≡ (is_among t both && meets_all view conditions t)) → (t : ℕ) → is_among t left ≡ account_filter_at view filter t
account-members view filter conditions both left e sides members t =
    members t
    ∙ ap (λ b. b && meets_all view conditions t) (sides t)
    ∙ ap (λ cs. side_at view filter t && meets_all view cs t) e
    ∙ side-first (side_at view filter t) (meets_at view unit.TransferUserData128 filter.user_data_128 t) (meets_at view unit.TransferUserData64 filter.user_data_64 t) (meets_at view unit.TransferUserData32 filter.user_data_32 t) (meets_at view unit.TransferCode filter.code t)

-- ---- all transfers, and all accounts

pub transfer-members : (view : View) (filter : QueryFilter) (conditions : List Condition) (left : List ℕ) → conditions ≡ transfer_conditions filter → true ≡ not (list_all asks_nothing conditions) → ((t : ℕ) → is_among t left ≡ meets_all view conditions t) → (t : ℕ) → is_among t left ≡ transfer_fields_at view filter t
transfer-members view filter conditions left e some members t =
    let asks : asks_no_field filter ≡ false = sym (five (filter.user_data_128 == 0) (filter.user_data_64 == 0) (filter.user_data_32 == 0) (filter.ledger == 0) (filter.code == 0)) ∙ ap (list_all asks_nothing) (sym e) ∙ not-is _ some in
    members t ∙ ap (λ cs. meets_all view cs t) e ∙ chosen (asks_no_field filter) _ _ _ asks (five (meets_at view unit.TransferUserData128 filter.user_data_128 t) (meets_at view unit.TransferUserData64 filter.user_data_64 t) (meets_at view unit.TransferUserData32 filter.user_data_32 t) (meets_at view unit.TransferLedger filter.ledger t) (meets_at view unit.TransferCode filter.code t))

-- a record is found where its row has something
found-in : {X Y : Type 0} (f : X → Y) (o : Option X) → is_some o ≡ is_some (option_map f o)
found-in f None = refl
found-in f (Some x) = refl

-- and a filter that asks for no field asks for each record
not-was : (b : Bool) → false ≡ not b → b ≡ true
not-was true e = refl
not-was false e = e

picked : (b x y z : Bool) → b ≡ true → x ≡ y → x ≡ (if b then y else z)
picked b x y z e h = rw e h

pub transfers-in : (view : View) (rows : List (Shown (Stored Transfer))) → rows ≡ tables_by view kind.Transfer → (t : ℕ) → is_some (content_at (key_of 0 t) rows) ≡ is_some (transfer_in view t)
transfers-in view rows same t =
    ap (λ ts. is_some (content_at (key_of 0 t) ts)) same
    ∙ found-in (λ (s : Stored Transfer). s.record) (content_at (key_of 0 t) (tables_by view kind.Transfer))

pub each-found : (view : View) (filter : QueryFilter) (conditions : List Condition) → conditions ≡ transfer_conditions filter → false ≡ not (list_all asks_nothing conditions) → (t : ℕ) → is_some (transfer_in view t) ≡ transfer_fields_at view filter t
each-found view filter conditions e none t =
    let asks : asks_no_field filter ≡ true = sym (five (filter.user_data_128 == 0) (filter.user_data_64 == 0) (filter.user_data_32 == 0) (filter.ledger == 0) (filter.code == 0)) ∙ ap (list_all asks_nothing) (sym e) ∙ not-was _ none in
    picked (asks_no_field filter) _ _ _ asks refl

-- where conditions ask for something, what is left meets them, and where they ask for nothing each record does
pub some-met : {V : Type 0} (view : View) (objects : List (Shown V)) (conditions : List Condition) (left : List ℕ) → true ≡ not (list_all asks_nothing conditions) → ((t : ℕ) → is_among t left ≡ meets_all view conditions t) → (t : ℕ) → is_among t left ≡ fields_at view objects conditions t
some-met view objects conditions left some members t = chosen (list_all asks_nothing conditions) _ _ _ (not-is _ some) (members t)

pub all-found : {V : Type 0} (view : View) (objects : List (Shown V)) (conditions : List Condition) → false ≡ not (list_all asks_nothing conditions) → (t : ℕ) → is_some (content_at (key_of 0 t) objects) ≡ fields_at view objects conditions t
all-found view objects conditions none t = picked (list_all asks_nothing conditions) _ _ _ (not-was _ none) refl

if-alike : (a b x y u v : Bool) → a ≡ b → x ≡ y → u ≡ v → (if a then x else u) ≡ (if b then y else v)
if-alike a b x y u v e f h = ap (λ c. if c then x else u) e ∙ ap (λ z. if b then z else u) f ∙ ap (λ z. if b then y else z) h

-- what the conditions of a filter of all transfers are met by, and of a filter of accounts
pub transfer-fields : (view : View) (filter : QueryFilter) (conditions : List Condition) (rows : List (Shown (Stored Transfer))) → conditions ≡ transfer_conditions filter → rows ≡ tables_by view kind.Transfer → (t : ℕ) → fields_at view rows conditions t ≡ transfer_fields_at view filter t
transfer-fields view filter conditions rows e same t =
    ap (λ cs. fields_at view rows cs t) e
    ∙ if-alike (list_all asks_nothing (transfer_conditions filter)) (asks_no_field filter) (is_some (content_at (key_of 0 t) rows)) (is_some (transfer_in view t)) (meets_all view (transfer_conditions filter) t) _
    (five (filter.user_data_128 == 0) (filter.user_data_64 == 0) (filter.user_data_32 == 0) (filter.ledger == 0) (filter.code == 0))
    (transfers-in view rows same t)
    (five (meets_at view unit.TransferUserData128 filter.user_data_128 t) (meets_at view unit.TransferUserData64 filter.user_data_64 t) (meets_at view unit.TransferUserData32 filter.user_data_32 t) (meets_at view unit.TransferLedger filter.ledger t) (meets_at view unit.TransferCode filter.code t))

pub account-fields : (view : View) (filter : QueryFilter) (conditions : List Condition) (rows : List (Shown (Stored Account))) → conditions ≡ account_conditions filter → rows ≡ tables_by view kind.Account → (t : ℕ) → fields_at view rows conditions t ≡ account_fields_at view filter t
account-fields view filter conditions rows e same t =
    ap (λ cs. fields_at view rows cs t) e
    ∙ if-alike (list_all asks_nothing (account_conditions filter)) (asks_no_field filter) (is_some (content_at (key_of 0 t) rows)) (is_some (account_in view t)) (meets_all view (account_conditions filter) t) _
    (five (filter.user_data_128 == 0) (filter.user_data_64 == 0) (filter.user_data_32 == 0) (filter.ledger == 0) (filter.code == 0))
    (ap (λ ts. is_some (content_at (key_of 0 t) ts)) same ∙ found-in (λ (s : Stored Account). s.record) (content_at (key_of 0 t) (tables_by view kind.Account)))
    (five (meets_at view unit.AccountUserData128 filter.user_data_128 t) (meets_at view unit.AccountUserData64 filter.user_data_64 t) (meets_at view unit.AccountUserData32 filter.user_data_32 t) (meets_at view unit.AccountLedger filter.ledger t) (meets_at view unit.AccountCode filter.code t))

-- two readings that give the same at each element
pub filter_map-alike : {X Y : Type 0} (f h : X → Option Y) (xs : List X) → ((x : X) → f x ≡ h x) → filter_map f xs ≡ filter_map h xs
filter_map-alike f h [] e = refl
filter_map-alike f h (x ∷ xs) e = ap (λ o. cons_option o (filter_map f xs)) (e x) ∙ ap (cons_option (h x)) (filter_map-alike f h xs e)

-- an invalid search finds nothing
pub nothing : {X : Type 0} (search : Search X) (rows : List X) → search.is_valid ≡ false → [] ≡ answer_of search rows
nothing search rows e = rw e refl

-- an account without history has none, and an invalid filter asks for none
pub no-history : {X Y : Type 0} (f : X → Y) (b : Bool) (rows : List X) → b ≡ false → [] ≡ (if b then map f rows else [])
no-history f b rows e = rw e refl

pub nothing-of-history : {X Y : Type 0} (f : X → Y) (b : Bool) (rows : List X) → [] ≡ rows → [] ≡ (if b then map f rows else [])
nothing-of-history f true rows e = ap (map f) e
nothing-of-history f false rows e = refl

-- what holds of a value that there is, by what is known of it
pub ok-map : {T E : Type 0} (r : Result T E) (P Q : T → Type 0) → IfOk r P → ((x : T) → P x → Q x) → IfOk r Q
ok-map (Ok x) P Q p k = k x p
ok-map (Err e) P Q p k = tt

-- what was read off a scan in a window
pub first-read : {T E : Type 0} (r : Result T E) (items : T → List ℕ) (w shown : Window) (d : Direction) (accepts : ℕ → Bool) (left : List ℕ) → shown ≡ w → d ≡ w.direction → IfOk r (λ v. items v ≡ first_within shown left) → IfOk r (λ v. IsInOrder d left) → ((t : ℕ) → is_among t left ≡ accepts t) → IfOk r (λ v. AreFirst w accepts (items v))
first-read (Ok v) items w shown d accepts left same e first order members = record {
  left = left;
  in_order = subst (λ (x : Direction). IsInOrder x left) e order;
  members = members;
  first = first ∙ ap (λ (x : Window). first_within x left) same;
}
first-read (Err e') items w shown d accepts left same e first order members = tt

-- what is first in a window of those that one test accepts is so of those that another accepts alike
pub first-alike : {T E : Type 0} (r : Result T E) (items : T → List ℕ) (w shown : Window) (has accepts : ℕ → Bool) → shown ≡ w → ((t : ℕ) → has t ≡ accepts t) → IfOk r (λ v. AreFirst shown has (items v)) → IfOk r (λ v. AreFirst w accepts (items v))
first-alike {T} {E} (Ok v) items w shown has accepts same alike f =
    first-read {E = E} (Ok v) items w shown shown.direction accepts f.left same (ap (λ (x : Window). x.direction) same) f.first f.in_order (λ t. f.members t ∙ alike t)
first-alike (Err e) items w shown has accepts same alike f = tt

-- what was read of a scan in a window and passed
pub first-tested : {T E : Type 0} (r : Result T E) (items : T → List Transfer) (view : View) (w shown : Window) (residual tested : Residual) (d : Direction) (accepts : ℕ → Bool) (left : List ℕ) → shown ≡ w → tested ≡ residual → d ≡ w.direction → IfOk r (λ v. items v ≡ first_passing view tested shown left) → IfOk r (λ v. IsInOrder d left) → ((t : ℕ) → is_among t left ≡ accepts t) → IfOk r (λ v. AreFirstPassing view residual w accepts (items v))
first-tested (Ok v) items view w shown residual tested d accepts left same alike e first order members = record {
  left = left;
  in_order = subst (λ (x : Direction). IsInOrder x left) e order;
  members = members;
  first = first ∙ ap (λ (x : Window). first_passing view tested x left) same ∙ ap (λ (x : Residual). first_passing view x w left) alike;
}
first-tested (Err e') items view w shown residual tested d accepts left same alike e first order members = tt

-- and alike of those that another test accepts
pub tested-alike : {T E : Type 0} (r : Result T E) (items : T → List Transfer) (view : View) (w shown : Window) (residual tested : Residual) (has accepts : ℕ → Bool) → shown ≡ w → tested ≡ residual → ((t : ℕ) → has t ≡ accepts t) → IfOk r (λ v. AreFirstPassing view tested shown has (items v)) → IfOk r (λ v. AreFirstPassing view residual w accepts (items v))
tested-alike {T} {E} (Ok v) items view w shown residual tested has accepts same tests alike f =
    first-tested {E = E} (Ok v) items view w shown residual tested shown.direction accepts f.left same tests (ap (λ (x : Window). x.direction) same) f.first f.in_order (λ t. f.members t ∙ alike t)
tested-alike (Err e) items view w shown residual tested has accepts same tests alike f = tt

-- and is an answer
pub tested-answer : {T E : Type 0} (r : Result T E) (items : T → List Transfer) (view : View) (residual : Residual) (w : Window) (accepts : ℕ → Bool) (answer : List Transfer) → IfOk r (λ v. AreFirstPassing view residual w accepts (items v)) → ((left : List ℕ) → IsInOrder w.direction left → ((t : ℕ) → is_among t left ≡ accepts t) → first_passing view residual w left ≡ answer) → IfOk r (λ v. items v ≡ answer)
tested-answer (Ok v) items view residual w accepts answer f law = f.first ∙ law f.left f.in_order f.members
tested-answer (Err e') items view residual w accepts answer f law = tt

-- no more timestamps were read than a window has
pub few-first : (w : Window) (accepts : ℕ → Bool) (timestamps : List ℕ) → AreFirst w accepts timestamps → length timestamps ≤ w.most
few-first w accepts timestamps f = omega (arith, ap length f.first, length-take w.most (filter (is_within w.low w.high) f.left))

-- an answer has room for just those
pub few-rows : {T E : Type 0} (r : Result T E) (room : T → ℕ) (w : Window) (accepts : ℕ → Bool) (timestamps slice : List ℕ) → slice ≡ timestamps → AreFirst w accepts timestamps → IfOk r (λ rows. room rows ≡ length slice) → IfOk r (λ rows. room rows ≤ w.most)
few-rows (Ok rows) room w accepts timestamps slice same f e = omega (arith, e, ap length same, few-first w accepts timestamps f)
few-rows (Err e') room w accepts timestamps slice same f e = tt
