-- Atoms whose lists have anchors, and the text of a side whose lists are marked.
use Rattle.std.proofs.Common.{◌≡◌, ℕ, zero, suc, ◌+◌, ◌-◌, ◌*◌, ◌^◌, ◌<◌, ◌≤◌, min, Bool, true, false, List, [], ◌∷◌, ◌++◌, map, length, get_or, drop, ◌↔◌, append_assoc, add-one, refl, sym, ◌∙◌, arith}
use Rattle.std.specs.Prelude.{All, ◌==◌, nat_lt, codes, if◌then◌else◌}
use Rattle.std.specs.Int.{bit_at}
use Rattle.std.specs.Option.{option_map, option_to_list}
use Rattle.std.proofs.lemmas.Grind.{common_steps}
use Rattle.wt_symbol.specs.Sides.{SideTree, input, proj, filtered, inner_join, left_join, in_sub, dedup, PairTree, leaves_of, lists_of, preds_of, size_of, weight_of}
use Rattle.wt_symbol.specs.Heads.{HasAnchors}
use Rattle.wt_symbol.specs.Lawful.{IsLawful}
use Rattle.wt_symbol.proofs.SymbolLemmas.{lawful_source_anchored, lawful_sizes}
use Rattle.wt_constraint.specs.declared.atom.Atom.{Atom}
use Rattle.wt_constraint.specs.declared.atom.Atom.TheVariants.{Unique, NotNull, RefAttrs}
use Rattle.wt_constraint.specs.declared.atom.Kind.{Kind}
use Rattle.wt_constraint.specs.declared.atom.Kind.TheVariants.{Leaves, Lists, Preds}
use Rattle.wt_constraint.specs.declared.set.AtomSet.{AtomSet}
use Rattle.wt_constraint.specs.Atoms.{equal, each_two, key_lists_of, root_list, references_of, atoms_over, atoms_of_pair}
use Rattle.wt_constraint.specs.Sets.{HasAtom}
use Rattle.std.proofs.lemmas.List.{drop_more}
use Rattle.wt_rule.specs.Texts.{list_text, anchored_text, marked_text, side_text, atoms_text, chosen, rule_text, HasListAnchors}

-- ---- atoms whose lists have anchors

Each : List ℕ → List Atom → Type 0
Each A [] = Unit {0}
Each A (x ∷ xs) = HasListAnchors A x × Each A xs

each_append : (A : List ℕ) (xs ys : List Atom) → Each A xs → Each A ys → Each A (xs ++ ys)
unfolding Each
each_append A [] ys h g = g
each_append A (x ∷ xs) ys h g = (h.0, each_append A xs ys h.1 g)

equal_anchored : (A : List ℕ) (kind : Kind) (x y : ℕ) → HasListAnchors A (equal kind x y)
equal_anchored A Leaves x y = tt
equal_anchored A Lists x y = tt
equal_anchored A Preds x y = tt

each_equal : (A : List ℕ) (kind : Kind) (x : ℕ) (xs : List ℕ) → Each A (map (equal kind x) xs)
unfolding Each
each_equal A kind x [] = tt
each_equal A kind x (y ∷ ys) = (equal_anchored A kind x y, each_equal A kind x ys)

each_two_anchored : (A : List ℕ) (kind : Kind) (xs : List ℕ) → Each A (each_two kind xs)
unfolding Each
each_two_anchored A kind [] = tt
each_two_anchored A kind (x ∷ xs) = each_append A (map (equal kind x) xs) (each_two kind xs) (each_equal A kind x xs) (each_two_anchored A kind xs)

Below : ℕ → List ℕ → Type 0
Below m [] = Unit {0}
Below m (x ∷ xs) = (x < m) × Below m xs

below_append : (m : ℕ) (xs ys : List ℕ) → Below m xs → Below m ys → Below m (xs ++ ys)
unfolding Below
below_append m [] ys h g = g
below_append m (x ∷ xs) ys h g = (h.0, below_append m xs ys h.1 g)

keys_below : (A : List ℕ) (s : SideTree) → HasAnchors s A → Below (length A) (key_lists_of s)
unfolding Below
keys_below A (input r) h = tt
keys_below A (proj a s) h = (h.0, keys_below A s h.1)
keys_below A (filtered p a s) h = keys_below A s h.1
keys_below A (inner_join a b s t) h = (h.0, (h.1, below_append (length A) (key_lists_of s) (key_lists_of t) (keys_below A s h.2) (keys_below A t h.3)))
keys_below A (left_join a b s t) h = (h.0, (h.1, below_append (length A) (key_lists_of s) (key_lists_of t) (keys_below A s h.2) (keys_below A t h.3)))
keys_below A (in_sub a s t) h = (h.0, below_append (length A) (key_lists_of s) (key_lists_of t) (keys_below A s h.1) (keys_below A t h.2))
keys_below A (dedup s) h = keys_below A s h

each_unique : (A xs : List ℕ) → Below (length A) xs → Each A (map Unique xs)
unfolding Each Below
each_unique A [] h = tt
each_unique A (x ∷ xs) h = (h.0, each_unique A xs h.1)

each_not_null : (A xs : List ℕ) → Below (length A) xs → Each A (map NotNull xs)
unfolding Each Below
each_not_null A [] h = tt
each_not_null A (x ∷ xs) h = (h.0, each_not_null A xs h.1)

root_anchored : (A : List ℕ) (a : ℕ) (t : SideTree) → a < length A → HasAnchors t A → Each A (option_to_list (option_map (RefAttrs a) (root_list t)))
unfolding Each
root_anchored A a (input r) h g = tt
root_anchored A a (proj b s) h g = ((h, g.0), tt)
root_anchored A a (filtered p b s) h g = tt
root_anchored A a (inner_join b c s t) h g = tt
root_anchored A a (left_join b c s t) h g = tt
root_anchored A a (in_sub b s t) h g = tt
root_anchored A a (dedup s) h g = tt

references_anchored : (A : List ℕ) (s : SideTree) → HasAnchors s A → Each A (references_of s)
unfolding Each
references_anchored A (input r) h = tt
references_anchored A (proj a s) h = references_anchored A s h.1
references_anchored A (filtered p a s) h = references_anchored A s h.1
references_anchored A (inner_join a b s t) h =
    ((h.0, h.1), ((h.1, h.0), each_append A (references_of s) (references_of t) (references_anchored A s h.2) (references_anchored A t h.3)))
references_anchored A (left_join a b s t) h =
    ((h.0, h.1), each_append A (references_of s) (references_of t) (references_anchored A s h.2) (references_anchored A t h.3))
references_anchored A (in_sub a s t) h =
    each_append A (option_to_list (option_map (RefAttrs a) (root_list t))) (references_of s ++ references_of t) (root_anchored A a t h.0 h.2)
    (each_append A (references_of s) (references_of t) (references_anchored A s h.1) (references_anchored A t h.2))
references_anchored A (dedup s) h = references_anchored A s h

atoms_anchored : (A : List ℕ) (s : SideTree) → HasAnchors s A → Each A (atoms_over s)
atoms_anchored A s h =
    each_append A _ (references_of s)
    (each_append A _ (map NotNull (key_lists_of s))
    (each_append A _ (map Unique (key_lists_of s))
    (each_append A _ (each_two Preds (preds_of s))
    (each_append A (each_two Leaves (leaves_of s)) (each_two Lists (lists_of s)) (each_two_anchored A Leaves (leaves_of s)) (each_two_anchored A Lists (lists_of s)))
    (each_two_anchored A Preds (preds_of s)))
    (each_unique A (key_lists_of s) (keys_below A s h)))
    (each_not_null A (key_lists_of s) (keys_below A s h)))
    (references_anchored A s h)

chosen_anchored : (A : List ℕ) (set : AtomSet) (i : ℕ) (atoms : List Atom) → Each A atoms → Each A (chosen set i atoms)
unfolding Each
chosen_anchored A set i [] h = tt
chosen_anchored A set i (x ∷ xs) h =
    elim (bit_at set.0 i == 1) as (λ b. Each A (if b then x ∷ chosen set (suc i) xs else chosen set (suc i) xs)) [
      | true ↦ (h.0, chosen_anchored A set (suc i) xs h.1)
      | false ↦ chosen_anchored A set (suc i) xs h.1
    ]

all_from_each : (A : List ℕ) (xs : List Atom) → Each A xs → All (HasListAnchors A) xs
unfolding Each
all_from_each A [] h k d within = absurd (omega arith)
all_from_each A (x ∷ xs) h zero d within = h.0
all_from_each A (x ∷ xs) h (suc k) d within = all_from_each A xs h.1 k d (omega arith)

pub all_anchored : (p : PairTree) → IsLawful p → (set : AtomSet) → All (HasListAnchors p.anchors) (chosen set 0 (atoms_of_pair p))
all_anchored p lawful set =
    all_from_each p.anchors _ (chosen_anchored p.anchors set 0 _ (atoms_anchored p.anchors p.source (lawful_source_anchored p lawful)))

-- ---- marked lists

no_mark : (a : ℕ) → marked_text [] a ≡ list_text a
no_mark a = let test : nat_lt a 0 ≡ false = grind (arith, common_steps) in rw test refl

pub unmarked : (t : SideTree) → side_text (marked_text []) t ≡ side_text list_text t
unmarked (input r) = refl
unmarked (proj a s) = rw (no_mark a, unmarked s) refl
unmarked (filtered p a s) = rw (no_mark a, unmarked s) refl
unmarked (inner_join a b s t) = rw (no_mark a, no_mark b, unmarked s, unmarked t) refl
unmarked (left_join a b s t) = rw (no_mark a, no_mark b, unmarked s, unmarked t) refl
unmarked (in_sub a s t) = rw (no_mark a, unmarked s, unmarked t) refl
unmarked (dedup s) = rw (unmarked s) refl

marked_here : (A : List ℕ) (a : ℕ) → a < length A → marked_text A a ≡ anchored_text A a
marked_here A a h = let test : nat_lt a (length A) ≡ true = grind (arith, common_steps) in rw test refl

pub marked : (A : List ℕ) (t : SideTree) → HasAnchors t A → side_text (marked_text A) t ≡ side_text (anchored_text A) t
marked A (input r) h = refl
marked A (proj a s) h = rw (marked_here A a h.0, marked A s h.1) refl
marked A (filtered p a s) h = rw (marked_here A a h.0, marked A s h.1) refl
marked A (inner_join a b s t) h = rw (marked_here A a h.0, marked_here A b h.1, marked A s h.2, marked A t h.3) refl
marked A (left_join a b s t) h = rw (marked_here A a h.0, marked_here A b h.1, marked A s h.2, marked A t h.3) refl
marked A (in_sub a s t) h = rw (marked_here A a h.0, marked A s h.1, marked A t h.2) refl
marked A (dedup s) h = rw (marked A s h) refl

-- ---- the atoms of a set

not_one : (n : ℕ) → (n ≡ 1 → ⊥) → (n == 1) ≡ false
not_one n h = grind (arith, common_steps)

false_is_true : false ≡ true → ⊥
false_is_true h = cc

pub chosen_more : (atoms items kept more : List Atom) (set : AtomSet) (k : ℕ) (yes : Bool) (d : Atom) → items ≡ atoms → k < length items →
    ((yes ≡ true) ↔ HasAtom set k) → more ≡ (if yes then kept ++ get_or items k d ∷ [] else kept) →
    kept ++ chosen set k (drop k atoms) ≡ chosen set 0 atoms → more ++ chosen set (k + 1) (drop (k + 1) atoms) ≡ chosen set 0 atoms
chosen_more atoms items kept more set k true d same within test is so_far =
    let next = drop_more items k d within in
    let has : bit_at set.0 k ≡ 1 = (test.0 refl).bit in
    rw (is, append_assoc, add-one)
    (sym (rw (← same, next, has, add-one) refl) ∙ so_far)
chosen_more atoms items kept more set k false d same within test is so_far =
    let next = drop_more items k d within in
    let no = not_one (bit_at set.0 k) (λ bit. false_is_true (test.1 (record { bit = bit }))) in
    rw (is, add-one)
    (sym (rw (← same, next, no, add-one) refl) ∙ so_far)

-- ---- the pieces of a line

pub rule_built : (p : PairTree) (lawful : IsLawful p) (set : AtomSet) (A B o : List ℕ) (atoms slice all : List Atom) (o1 o2 o3 o4 o5 : List ℕ) →
    A ≡ p.anchors → B ≡ [] → all ≡ atoms_of_pair p → atoms ≡ chosen set 0 all → slice ≡ atoms →
    o1 ≡ o ++ side_text (marked_text A) p.source → o2 ≡ o1 ++ codes " => " → o3 ≡ o2 ++ side_text (marked_text B) p.dest → o4 ≡ o3 ++ codes " | " →
    o5 ≡ o4 ++ atoms_text A slice → o5 ≡ o ++ rule_text p set
rule_built p lawful set A B o atoms slice all o1 o2 o3 o4 o5 anchors none every kept same e1 e2 e3 e4 e5 =
    rw (e5, e4, e3, e2, e1, same, kept, every, none, anchors, marked p.anchors p.source (lawful_source_anchored p lawful), unmarked p.dest)
    (simp append_assoc)

-- ---- weights

weight-le : (s : SideTree) → weight_of s ≤ 7 * size_of s
weight-le (input r) = omega arith
weight-le (proj a s) = omega (arith, weight-le s)
weight-le (filtered p a s) = omega (arith, weight-le s)
weight-le (inner_join a b s t) = omega (arith, weight-le s, weight-le t)
weight-le (left_join a b s t) = omega (arith, weight-le s, weight-le t)
weight-le (in_sub a s t) = omega (arith, weight-le s, weight-le t)
weight-le (dedup s) = omega (arith, weight-le s)

-- a lawful pair's sides are light, so no weight stands at its type's end
pub whole_weights : (p : PairTree) → IsLawful p → (min (weight_of p.source) (2 ^ 32 - 1) ≡ weight_of p.source) × (min (weight_of p.dest) (2 ^ 32 - 1) ≡ weight_of p.dest)
whole_weights p lawful =
    let sizes = lawful_sizes p lawful in
    (omega (arith, sizes.0, weight-le p.source), omega (arith, sizes.1, weight-le p.dest))
