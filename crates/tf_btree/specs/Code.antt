-- How the logic stores a shape, and with it what a node shows.
use Rattle.std.specs.Prelude.{◌≡◌, ℕ, zero, suc, Bool, List, [], ◌∷◌, refl}
use Rattle.std.proofs.Common.{◌∙◌}
use Rattle.std.specs.Coded.{Coded, code_by, coded×, coded_list, coded_ℕ, coded_bool}
use Rattle.tf_btree.specs.Shape.{Shape, childless, child, Fill}
use Rattle.tf_btree.specs.Subtree.{Subtree}

-- a shape in numbers: 0 for no children, and behind the numbers of the first child's shape and those of the others' one more than its entries
abbrev pub numbers_before : Shape → List ℕ → List ℕ
numbers_before childless ns = 0 ∷ ns
numbers_before (child n below others) ns = numbers_before below (numbers_before others (suc n ∷ ns))

abbrev pub first_shape : List Shape → Shape
first_shape [] = childless
first_shape (s ∷ ss) = s

-- with the shapes read so far, the last one first
abbrev pub shape_read : List ℕ → List Shape → Shape
shape_read [] ss = first_shape ss
shape_read (zero ∷ ns) ss = shape_read ns (childless ∷ ss)
shape_read (suc n ∷ ns) [] = childless
shape_read (suc n ∷ ns) (others ∷ []) = childless
shape_read (suc n ∷ ns) (others ∷ below ∷ ss) = shape_read ns (child n below others ∷ ss)

pub shape_read-numbers : (s : Shape) (ns : List ℕ) (ss : List Shape) → shape_read (numbers_before s ns) ss ≡ shape_read ns (s ∷ ss)
shape_read-numbers childless ns ss = refl
shape_read-numbers (child n below others) ns ss =
    shape_read-numbers below (numbers_before others (suc n ∷ ns)) ss ∙ shape_read-numbers others (suc n ∷ ns) (below ∷ ss)

abbrev pub shape_code : Coded Shape
shape_code = code_by (List ℕ) (coded_list coded_ℕ) (λ s. numbers_before s []) (λ ns. shape_read ns []) (λ s. shape_read-numbers s [] [])

abbrev pub fill_code : Coded Fill
fill_code = code_by (ℕ × Shape) (coded× coded_ℕ shape_code) (λ f. (f.entries, f.below)) (λ p. record { entries = p.0; below = p.1 }) (λ _. refl)

-- what a node shows is stored as the tuple of its fields
abbrev pub subtree_code : {K V : Type 0} → Coded K → Coded V → Coded (Subtree K V)
subtree_code {K} {V} k v =
    code_by (Bool × (ℕ × (List (List (K × V)) × List Fill))) (coded× coded_bool (coded× coded_ℕ (coded× (coded_list (coded_list (coded× k v))) (coded_list fill_code))))
    (λ s. (s.is_branch, (s.height, (s.parts, s.fills)))) (λ p. record { is_branch = p.0; height = p.1.0; parts = p.1.1.0; fills = p.1.1.1 }) (λ _. refl)
