-- Templates without pointers, their sizes and weights, and their order.
use Rattle.std.specs.Prelude.{◌≡◌, ℕ, ◌+◌, ◌<◌, ◌==◌, List, [], ◌∷◌, length, slice_index, if◌then◌else◌}
use Rattle.std.specs.Int.{bit_at}
use Rattle.wt_template.specs.declared.Template.{Template}
use Rattle.wt_template.specs.declared.Template.TheVariants.{Input, Proj', Filter', InnerJoin', LeftJoin', InSub', Dedup'}
use Rattle.wt_template.specs.declared.place.Variants.{Variants}
use Rattle.wt_template.specs.Order.{Maker, of_one, of_two, trees, trees_of_sizes}

-- a template: a tree of operators over inputs
pub data Shape : Type 0 where
  input : Shape
  proj : Shape → Shape
  filtered : Shape → Shape
  inner_join : Shape → Shape → Shape
  left_join : Shape → Shape → Shape
  in_sub : Shape → Shape → Shape
  dedup : Shape → Shape

-- the template, its boxes forgotten
abbrev pub shape_of : Template → Shape
shape_of Input = input
shape_of (Proj' p t) = proj (shape_of t)
shape_of (Filter' p t) = filtered (shape_of t)
shape_of (InnerJoin' p t q u) = inner_join (shape_of t) (shape_of u)
shape_of (LeftJoin' p t q u) = left_join (shape_of t) (shape_of u)
shape_of (InSub' p t q u) = in_sub (shape_of t) (shape_of u)
shape_of (Dedup' p t) = dedup (shape_of t)

-- how many operators it has; an input is none
abbrev pub size_of : Shape → ℕ
size_of input = 0
size_of (proj t) = 1 + size_of t
size_of (filtered t) = 1 + size_of t
size_of (inner_join t u) = 1 + size_of t + size_of u
size_of (left_join t u) = 1 + size_of t + size_of u
size_of (in_sub t u) = 1 + size_of t + size_of u
size_of (dedup t) = 1 + size_of t

-- the sum of the weights of its operators
abbrev pub weight_of : Shape → ℕ
weight_of input = 0
weight_of (proj t) = 1 + weight_of t
weight_of (filtered t) = 1 + weight_of t
weight_of (inner_join t u) = 6 + weight_of t + weight_of u
weight_of (left_join t u) = 7 + weight_of t + weight_of u
weight_of (in_sub t u) = 4 + weight_of t + weight_of u
weight_of (dedup t) = 3 + weight_of t

-- a choice that is there where the set of letters has this one: 0 to 5 are P, F, I, L, S and D
abbrev pub if_letter : {X : Type 0} → ℕ → ℕ → List X → List X
if_letter ops letter xs = if bit_at ops letter == 1 then xs else []

-- the operators of a set of letters, in the order of the table
abbrev pub makers : ℕ → List (Maker Shape)
makers ops =
    of_one (if_letter ops 0 (proj ∷ []))
    ∷ of_one (if_letter ops 1 (filtered ∷ []))
    ∷ of_two (if_letter ops 2 (inner_join ∷ []))
    ∷ of_two (if_letter ops 3 (left_join ∷ []))
    ∷ of_two (if_letter ops 4 (in_sub ∷ []))
    ∷ of_one (if_letter ops 5 (dedup ∷ []))
    ∷ []

-- the templates of size 1 to `most` over a set of letters, in order
abbrev pub templates : ℕ → ℕ → List Shape
templates ops most = trees_of_sizes (input ∷ []) (makers ops) 1 most

-- the templates of one size, in order
abbrev pub templates_of_size : ℕ → ℕ → List Shape
templates_of_size ops n = trees (input ∷ []) (makers ops) n n

-- how many variants each operator has in templates: one where the set has its letter, else none
abbrev pub variants_of : ℕ → Variants
variants_of ops = record {
  proj = bit_at ops 0;
  filter = bit_at ops 1;
  inner_join = bit_at ops 2;
  left_join = bit_at ops 3;
  in_sub = bit_at ops 4;
  dedup = bit_at ops 5;
}

-- the numbers say how many templates of each size below n there are
pub record CountsTemplates (ops : ℕ) (counts : List ℕ) (n : ℕ) : Type 0 where
  pub at : (i : ℕ) → i < n → slice_index counts i ≡ length (templates_of_size ops i)
