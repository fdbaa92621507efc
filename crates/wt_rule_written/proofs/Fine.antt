-- Written texts hold no LF and are short.
use Rattle.std.proofs.Common.{◌≡◌, ℕ, suc, ◌+◌, ◌*◌, ◌^◌, ◌<◌, ◌≤◌, Bool, true, false, List, [], ◌∷◌, ◌++◌, length, refl, arith, length-append}
use Rattle.std.specs.Prelude.{◌&&◌, ◌==◌, not, codes, if◌then◌else◌}
use Rattle.std.specs.List.{list_all, flat_map}
use Rattle.std.specs.Int.{bit_at}
use Rattle.std.specs.Fmt.{decimal}
use Rattle.std.proofs.lemmas.Grind.{common_steps}
use Rattle.wt_bag.specs.Bags.{Each}
use Rattle.wt_symbol.specs.Sides.{SideTree, input, proj, filtered, inner_join, left_join, in_sub, dedup, leaves_of, lists_of, preds_of, size_of}
use Rattle.wt_symbol.specs.Heads.{anchor}
use Rattle.wt_symbol.proofs.SymbolLemmas.{EachBelow}
use Rattle.wt_constraint.specs.declared.atom.Atom.{Atom}
use Rattle.wt_constraint.specs.declared.atom.Atom.TheVariants.{RelEq, AttrsEq, PredEq, Unique, NotNull, RefAttrs}
use Rattle.wt_constraint.specs.declared.set.AtomSet.{AtomSet}
use Rattle.wt_rule.specs.Texts.{leaf_text, list_text, pred_text, anchored_text, side_text, atom_text, atoms_text, chosen}
use Rattle.wt_rule_text.specs.Numbers.{is_digit, is_plain}
use Rattle.wt_rule_written.proofs.Decimals.{is_decimal, byte_length}

abbrev pub no_lf : ℕ → Bool
no_lf b = not (b == 10)

-- a text without LF of at most so many bytes
pub record Fine (most : ℕ) (text : List ℕ) : Type 0 where
  pub free : list_all no_lf text ≡ true
  pub short : length text ≤ most

and_true : (a b : Bool) → a ≡ true → b ≡ true → (a && b) ≡ true
and_true a b h g = rw (h, g) refl

and_both : (b c : Bool) → (b && c) ≡ true → (b ≡ true) × (c ≡ true)
and_both true c h = (refl, h)
and_both false c h = absurd (cc)

free_append : (s t : List ℕ) → list_all no_lf s ≡ true → list_all no_lf t ≡ true → list_all no_lf (s ++ t) ≡ true
free_append [] t h g = g
free_append (b ∷ bs) t h g = let parts = and_both (no_lf b) (list_all no_lf bs) h in and_true (no_lf b) (list_all no_lf (bs ++ t)) parts.0 (free_append bs t parts.1 g)

pub joined : (j k : ℕ) (s t : List ℕ) → Fine j s → Fine k t → Fine (j + k) (s ++ t)
joined j k s t a b = record { free = free_append s t a.free b.free; short = omega (arith, a.short, b.short, length-append s t) }

pub wider : (j k : ℕ) (s : List ℕ) → j ≤ k → Fine j s → Fine k s
wider j k s l a = record { free = a.free; short = omega (arith, a.short) }

digit_free : (b : ℕ) → is_digit b ≡ true → no_lf b ≡ true
digit_free b h = grind (arith, common_steps)

digits_free : (ds : List ℕ) → list_all is_digit ds ≡ true → list_all no_lf ds ≡ true
digits_free [] h = refl
digits_free (b ∷ bs) h = let parts = and_both (is_digit b) (list_all is_digit bs) h in and_true (no_lf b) (list_all no_lf bs) (digit_free b parts.0) (digits_free bs parts.1)

pub number_free : (n : ℕ) → n < 2 ^ 64 → list_all no_lf (decimal n) ≡ true
number_free n small = digits_free (decimal n) (and_both (list_all is_digit (decimal n)) (is_plain (decimal n)) (is_decimal n small).digits).0

pub byte_fine : (n : ℕ) → n < 256 → Fine 3 (decimal n)
byte_fine n small = record { free = number_free n (omega arith); short = byte_length n small }

pub literal : (k : ℕ) (text : List ℕ) → list_all no_lf text ≡ true → length text ≤ k → Fine k text
literal k text free short = record { free = free; short = short }

pub leaf_fine : (n : ℕ) → n < 256 → Fine 4 (leaf_text n)
leaf_fine n small = joined 1 3 (codes "r") (decimal n) (literal 1 (codes "r") refl (omega arith)) (byte_fine n small)

pub list_fine : (n : ℕ) → n < 256 → Fine 4 (list_text n)
list_fine n small = joined 1 3 (codes "a") (decimal n) (literal 1 (codes "a") refl (omega arith)) (byte_fine n small)

pub pred_fine : (n : ℕ) → n < 256 → Fine 4 (pred_text n)
pred_fine n small = joined 1 3 (codes "p") (decimal n) (literal 1 (codes "p") refl (omega arith)) (byte_fine n small)

pub anchored_fine : (A : List ℕ) (a : ℕ) → a < 256 → anchor A a < 256 → Fine 9 (anchored_text A a)
anchored_fine A a small below = joined 4 5 (list_text a) _ (list_fine a small) (joined 1 4 (codes "@") _ (literal 1 (codes "@") refl (omega arith)) (leaf_fine (anchor A a) below))

below_append : (m : ℕ) (xs ys : List ℕ) → EachBelow m (xs ++ ys) → EachBelow m xs × EachBelow m ys
below_append m [] ys h = (tt, h)
below_append m (x ∷ xs) ys h = let rest = below_append m xs ys h.1 in ((h.0, rest.0), rest.1)

-- numbers of a side below 256
pub record Small (t : SideTree) : Type 0 where
  pub leaves : EachBelow 256 (leaves_of t)
  pub lists : EachBelow 256 (lists_of t)
  pub preds : EachBelow 256 (preds_of t)

pub small_proj : (a : ℕ) (s : SideTree) → Small (proj a s) → (a < 256) × Small s
small_proj a s h = (h.lists.0, record { leaves = h.leaves; lists = h.lists.1; preds = h.preds })

pub small_filter : (p a : ℕ) (s : SideTree) → Small (filtered p a s) → (p < 256) × (a < 256) × Small s
small_filter p a s h = (h.preds.0, h.lists.0, record { leaves = h.leaves; lists = h.lists.1; preds = h.preds.1 })

pub small_join : (a b : ℕ) (s t : SideTree) → Small (inner_join a b s t) → (a < 256) × (b < 256) × Small s × Small t
small_join a b s t h =
    let l = below_append 256 (leaves_of s) (leaves_of t) h.leaves in
    let k = below_append 256 (lists_of s) (lists_of t) h.lists.1.1 in
    let p = below_append 256 (preds_of s) (preds_of t) h.preds in
    (h.lists.0, h.lists.1.0, record { leaves = l.0; lists = k.0; preds = p.0 }, record { leaves = l.1; lists = k.1; preds = p.1 })

pub small_left : (a b : ℕ) (s t : SideTree) → Small (left_join a b s t) → Small (inner_join a b s t)
small_left a b s t h = record { leaves = h.leaves; lists = h.lists; preds = h.preds }

pub small_in : (a : ℕ) (s t : SideTree) → Small (in_sub a s t) → (a < 256) × Small s × Small t
small_in a s t h =
    let l = below_append 256 (leaves_of s) (leaves_of t) h.leaves in
    let k = below_append 256 (lists_of s) (lists_of t) h.lists.1 in
    let p = below_append 256 (preds_of s) (preds_of t) h.preds in
    (h.lists.0, record { leaves = l.0; lists = k.0; preds = p.0 }, record { leaves = l.1; lists = k.1; preds = p.1 })

pub small_dedup : (s : SideTree) → Small (dedup s) → Small s
small_dedup s h = record { leaves = h.leaves; lists = h.lists; preds = h.preds }

module _ (list : ℕ → List ℕ) (each : (a : ℕ) → a < 256 → Fine 9 (list a)) where
  operands : (s t : SideTree) → Fine (37 * size_of s + 4) (side_text list s) → Fine (37 * size_of t + 4) (side_text list t) →
      Fine ((37 * size_of s + 4) + (1 + ((37 * size_of t + 4) + 1))) (side_text list s ++ (codes "," ++ (side_text list t ++ codes ")")))
  operands s t a b =
      joined _ _ (side_text list s) _ a (joined 1 _ (codes ",") _ (literal 1 (codes ",") refl (omega arith)) (joined _ 1 (side_text list t) (codes ")") b (literal 1 (codes ")") refl (omega arith))))

  joined_lists : (a b : ℕ) (s t : SideTree) → a < 256 → b < 256 → Fine (37 * size_of s + 4) (side_text list s) → Fine (37 * size_of t + 4) (side_text list t) →
      Fine (9 + (1 + (9 + (2 + ((37 * size_of s + 4) + (1 + ((37 * size_of t + 4) + 1)))))))
      (list a ++ (codes "," ++ (list b ++ (codes ">(" ++ (side_text list s ++ (codes "," ++ (side_text list t ++ codes ")")))))))
  joined_lists a b s t one two x y =
      joined 9 _ (list a) _ (each a one) (joined 1 _ (codes ",") _ (literal 1 (codes ",") refl (omega arith)) (joined 9 _ (list b) _ (each b two)
      (joined 2 _ (codes ">(") _ (literal 2 (codes ">(") refl (omega arith)) (operands s t x y))))

  pub side_fine : (t : SideTree) → Small t → Fine (37 * size_of t + 4) (side_text list t)
  side_fine (input r) h = leaf_fine r h.leaves.0
  side_fine (proj a s) h =
      let (small, rest) = small_proj a s h in
      wider (5 + (9 + (2 + ((37 * size_of s + 4) + 1)))) _ _ (omega arith)
      (joined 5 _ (codes "Proj<") _ (literal 5 (codes "Proj<") refl (omega arith)) (joined 9 _ (list a) _ (each a small)
      (joined 2 _ (codes ">(") _ (literal 2 (codes ">(") refl (omega arith)) (joined (37 * size_of s + 4) 1 (side_text list s) (codes ")") (side_fine s rest) (literal 1 (codes ")") refl (omega arith))))))
  side_fine (filtered p a s) h =
      let (first, small, rest) = small_filter p a s h in
      wider (7 + (4 + (1 + (9 + (2 + ((37 * size_of s + 4) + 1)))))) _ _ (omega arith)
      (joined 7 _ (codes "Filter<") _ (literal 7 (codes "Filter<") refl (omega arith)) (joined 4 _ (pred_text p) _ (pred_fine p first) (joined 1 _ (codes ",") _ (literal 1 (codes ",") refl (omega arith)) (joined 9 _ (list a) _ (each a small)
      (joined 2 _ (codes ">(") _ (literal 2 (codes ">(") refl (omega arith)) (joined (37 * size_of s + 4) 1 (side_text list s) (codes ")") (side_fine s rest) (literal 1 (codes ")") refl (omega arith))))))))
  side_fine (inner_join a b s t) h =
      let (one, two, left, right) = small_join a b s t h in
      wider (10 + (9 + (1 + (9 + (2 + ((37 * size_of s + 4) + (1 + ((37 * size_of t + 4) + 1)))))))) _ _ (omega arith)
      (joined 10 _ (codes "InnerJoin<") _ (literal 10 (codes "InnerJoin<") refl (omega arith)) (joined_lists a b s t one two (side_fine s left) (side_fine t right)))
  side_fine (left_join a b s t) h =
      let (one, two, left, right) = small_join a b s t (small_left a b s t h) in
      wider (9 + (9 + (1 + (9 + (2 + ((37 * size_of s + 4) + (1 + ((37 * size_of t + 4) + 1)))))))) _ _ (omega arith)
      (joined 9 _ (codes "LeftJoin<") _ (literal 9 (codes "LeftJoin<") refl (omega arith)) (joined_lists a b s t one two (side_fine s left) (side_fine t right)))
  side_fine (in_sub a s t) h =
      let (one, left, right) = small_in a s t h in
      wider (6 + (9 + (2 + ((37 * size_of s + 4) + (1 + ((37 * size_of t + 4) + 1)))))) _ _ (omega arith)
      (joined 6 _ (codes "InSub<") _ (literal 6 (codes "InSub<") refl (omega arith)) (joined 9 _ (list a) _ (each a one)
      (joined 2 _ (codes ">(") _ (literal 2 (codes ">(") refl (omega arith)) (operands s t (side_fine s left) (side_fine t right)))))
  side_fine (dedup s) h =
      wider (6 + ((37 * size_of s + 4) + 1)) _ _ (omega arith)
      (joined 6 _ (codes "Dedup(") _ (literal 6 (codes "Dedup(") refl (omega arith)) (joined (37 * size_of s + 4) 1 (side_text list s) (codes ")") (side_fine s (small_dedup s h)) (literal 1 (codes ")") refl (omega arith))))

-- ---- atoms

-- numbers of an atom below 256, its anchors too
abbrev pub SmallAtom : List ℕ → Atom → Type 0
SmallAtom A (RelEq x y) = (x < 256) × (y < 256)
SmallAtom A (AttrsEq x y) = (x < 256) × (y < 256)
SmallAtom A (PredEq x y) = (x < 256) × (y < 256)
SmallAtom A (Unique a) = (a < 256) × (anchor A a < 256)
SmallAtom A (NotNull a) = (a < 256) × (anchor A a < 256)
SmallAtom A (RefAttrs a b) = (a < 256) × (anchor A a < 256) × (b < 256) × (anchor A b < 256)

two_fine : (k : ℕ) (word s t : List ℕ) → Fine k word → Fine 4 s → Fine 4 t → k ≤ 9 → Fine 29 (word ++ (s ++ (codes "," ++ (t ++ codes ")"))))
two_fine k word s t w a b l =
    wider (k + (4 + (1 + (4 + 1)))) 29 _ (omega arith) (joined k _ word _ w (joined 4 _ s _ a (joined 1 _ (codes ",") _ (literal 1 (codes ",") refl (omega arith)) (joined 4 1 t (codes ")") b (literal 1 (codes ")") refl (omega arith))))))

pub atom_fine : (A : List ℕ) (x : Atom) → SmallAtom A x → Fine 29 (atom_text A x)
atom_fine A (RelEq x y) h = two_fine 6 (codes "RelEq(") (leaf_text x) (leaf_text y) (literal 6 (codes "RelEq(") refl (omega arith)) (leaf_fine x h.0) (leaf_fine y h.1) (omega arith)
atom_fine A (AttrsEq x y) h = two_fine 8 (codes "AttrsEq(") (list_text x) (list_text y) (literal 8 (codes "AttrsEq(") refl (omega arith)) (list_fine x h.0) (list_fine y h.1) (omega arith)
atom_fine A (PredEq x y) h = two_fine 7 (codes "PredEq(") (pred_text x) (pred_text y) (literal 7 (codes "PredEq(") refl (omega arith)) (pred_fine x h.0) (pred_fine y h.1) (omega arith)
atom_fine A (Unique a) h = two_fine 7 (codes "Unique(") (leaf_text (anchor A a)) (list_text a) (literal 7 (codes "Unique(") refl (omega arith)) (leaf_fine (anchor A a) h.1) (list_fine a h.0) (omega arith)
atom_fine A (NotNull a) h = two_fine 8 (codes "NotNull(") (leaf_text (anchor A a)) (list_text a) (literal 8 (codes "NotNull(") refl (omega arith)) (leaf_fine (anchor A a) h.1) (list_fine a h.0) (omega arith)
atom_fine A (RefAttrs a b) h =
    wider (9 + (4 + (1 + (4 + (1 + (4 + (1 + (4 + 1)))))))) 29 _ (omega arith)
    (joined 9 _ (codes "RefAttrs(") _ (literal 9 (codes "RefAttrs(") refl (omega arith)) (joined 4 _ (leaf_text (anchor A a)) _ (leaf_fine (anchor A a) h.1) (joined 1 _ (codes ",") _ (literal 1 (codes ",") refl (omega arith))
    (joined 4 _ (list_text a) _ (list_fine a h.0) (joined 1 _ (codes ",") _ (literal 1 (codes ",") refl (omega arith)) (joined 4 _ (leaf_text (anchor A b)) _ (leaf_fine (anchor A b) h.3) (joined 1 _ (codes ",") _ (literal 1 (codes ",") refl (omega arith))
    (joined 4 1 (list_text b) (codes ")") (list_fine b h.2) (literal 1 (codes ")") refl (omega arith))))))))))

more_fine : (A : List ℕ) (xs : List Atom) → Each (SmallAtom A) xs → Fine (30 * length xs) (flat_map (λ next. codes " " ++ atom_text A next) xs)
more_fine A [] h = literal 0 [] refl (omega arith)
more_fine A (x ∷ xs) h =
    wider (30 + 30 * length xs) _ _ (omega arith)
    (joined 30 (30 * length xs) (codes " " ++ atom_text A x) _ (joined 1 29 (codes " ") (atom_text A x) (literal 1 (codes " ") refl (omega arith)) (atom_fine A x h.0)) (more_fine A xs h.1))

pub atoms_fine : (A : List ℕ) (xs : List Atom) → Each (SmallAtom A) xs → Fine (30 * length xs + 1) (atoms_text A xs)
atoms_fine A [] h = literal 1 (codes "-") refl (omega arith)
atoms_fine A (x ∷ xs) h = wider (29 + 30 * length xs) _ _ (omega arith) (joined 29 (30 * length xs) (atom_text A x) _ (atom_fine A x h.0) (more_fine A xs h.1))

pub chosen_small : (P : Atom → Type 0) (set : AtomSet) (i : ℕ) (xs : List Atom) → Each P xs → Each P (chosen set i xs) × (length (chosen set i xs) ≤ length xs)
chosen_small P set i [] h = (tt, omega arith)
chosen_small P set i (x ∷ xs) h =
    let rest = chosen_small P set (suc i) xs h.1 in
    elim (bit_at set.0 i == 1) as (λ b. Each P (if b then x ∷ chosen set (suc i) xs else chosen set (suc i) xs) × (length (if b then x ∷ chosen set (suc i) xs else chosen set (suc i) xs) ≤ length (x ∷ xs))) [
      | true ↦ ((h.0, rest.0), omega (arith, rest.1))
      | false ↦ (rest.0, omega (arith, rest.1))
    ]
