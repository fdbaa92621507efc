-- How many atoms a pair has.
use Rattle.std.proofs.Common.{◌≡◌, ℕ, zero, suc, ◌+◌, ◌*◌, ◌≤◌, List, [], ◌∷◌, ◌++◌, map, length, Result, Ok, Err, refl, inl, inr, arith, length-append}
use Rattle.std.specs.Prelude.{IfOk}
use Rattle.std.specs.Option.{option_map, option_to_list}
use Rattle.std.proofs.lemmas.Bool.{cases_lt}
use Rattle.std.proofs.lemmas.List.{length-map}
use Rattle.wt_symbol.specs.Sides.{SideTree, input, proj, filtered, inner_join, left_join, in_sub, dedup, PairTree, leaves_of, lists_of, preds_of, size_of}
use Rattle.wt_symbol.specs.Lawful.{IsLawful}
use Rattle.wt_symbol.proofs.SymbolLemmas.{length-leaves, lawful_sizes}
use Rattle.wt_constraint.specs.declared.atom.Atom.{Atom}
use Rattle.wt_constraint.specs.declared.atom.Atom.TheVariants.{Unique, NotNull, RefAttrs}
use Rattle.wt_constraint.specs.declared.atom.Kind.{Kind}
use Rattle.wt_constraint.specs.declared.atom.Kind.TheVariants.{Leaves, Lists, Preds}
use Rattle.wt_constraint.specs.Atoms.{equal, each_two, key_lists_of, root_list, references_of, atoms_over, atoms_of_pair}

-- how many pairs n things make
abbrev pub pairs_of : ℕ → ℕ
pairs_of zero = 0
pairs_of (suc n) = n + pairs_of n

length-each_two : (kind : Kind) (xs : List ℕ) → length (each_two kind xs) ≡ pairs_of (length xs)
length-each_two kind [] = refl
length-each_two kind (x ∷ xs) =
    omega (arith, length-append (map (equal kind x) xs) (each_two kind xs), length-map xs (equal kind x), length-each_two kind xs)

pairs_of-le : (m n : ℕ) → m ≤ n → pairs_of m ≤ pairs_of n
pairs_of-le zero n h = omega arith
pairs_of-le (suc m) zero h = absurd (omega arith)
pairs_of-le (suc m) (suc n) h = omega (arith, pairs_of-le m n (omega arith))

length-lists : (s : SideTree) → length (lists_of s) ≤ 2 * size_of s
length-lists (input r) = omega arith
length-lists (proj a s) = omega (arith, length-lists s)
length-lists (filtered p a s) = omega (arith, length-lists s)
length-lists (inner_join a b s t) = omega (arith, length-lists s, length-lists t, length-append (lists_of s) (lists_of t))
length-lists (left_join a b s t) = omega (arith, length-lists s, length-lists t, length-append (lists_of s) (lists_of t))
length-lists (in_sub a s t) = omega (arith, length-lists s, length-lists t, length-append (lists_of s) (lists_of t))
length-lists (dedup s) = omega (arith, length-lists s)

length-preds : (s : SideTree) → length (preds_of s) ≤ size_of s
length-preds (input r) = omega arith
length-preds (proj a s) = omega (arith, length-preds s)
length-preds (filtered p a s) = omega (arith, length-preds s)
length-preds (inner_join a b s t) = omega (arith, length-preds s, length-preds t, length-append (preds_of s) (preds_of t))
length-preds (left_join a b s t) = omega (arith, length-preds s, length-preds t, length-append (preds_of s) (preds_of t))
length-preds (in_sub a s t) = omega (arith, length-preds s, length-preds t, length-append (preds_of s) (preds_of t))
length-preds (dedup s) = omega (arith, length-preds s)

length-keys : (s : SideTree) → length (key_lists_of s) ≤ 2 * size_of s
length-keys (input r) = omega arith
length-keys (proj a s) = omega (arith, length-keys s)
length-keys (filtered p a s) = omega (arith, length-keys s)
length-keys (inner_join a b s t) = omega (arith, length-keys s, length-keys t, length-append (key_lists_of s) (key_lists_of t))
length-keys (left_join a b s t) = omega (arith, length-keys s, length-keys t, length-append (key_lists_of s) (key_lists_of t))
length-keys (in_sub a s t) = omega (arith, length-keys s, length-keys t, length-append (key_lists_of s) (key_lists_of t))
length-keys (dedup s) = omega (arith, length-keys s)

length-root : (a : ℕ) (t : SideTree) → length (option_to_list (option_map (RefAttrs a) (root_list t))) ≤ 1
length-root a (input r) = omega arith
length-root a (proj b s) = omega arith
length-root a (filtered p b s) = omega arith
length-root a (inner_join b c s t) = omega arith
length-root a (left_join b c s t) = omega arith
length-root a (in_sub b s t) = omega arith
length-root a (dedup s) = omega arith

length-references : (s : SideTree) → length (references_of s) ≤ 2 * size_of s
length-references (input r) = omega arith
length-references (proj a s) = omega (arith, length-references s)
length-references (filtered p a s) = omega (arith, length-references s)
length-references (inner_join a b s t) =
    omega (arith, length-references s, length-references t, length-append (references_of s) (references_of t))
length-references (left_join a b s t) =
    omega (arith, length-references s, length-references t, length-append (references_of s) (references_of t))
length-references (in_sub a s t) =
    omega (
      arith,
      length-root a t,
      length-references s,
      length-references t,
      length-append (references_of s) (references_of t),
      length-append (option_to_list (option_map (RefAttrs a) (root_list t))) (references_of s ++ references_of t),
    )
length-references (dedup s) = omega (arith, length-references s)

-- a predicate takes an operator that brings no leaf
preds-leaves : (s : SideTree) → length (preds_of s) + length (leaves_of s) ≤ 1 + size_of s
preds-leaves (input r) = omega arith
preds-leaves (proj a s) = omega (arith, preds-leaves s)
preds-leaves (filtered p a s) = omega (arith, preds-leaves s)
preds-leaves (inner_join a b s t) = omega (arith, preds-leaves s, preds-leaves t, length-append (preds_of s) (preds_of t), length-append (leaves_of s) (leaves_of t))
preds-leaves (left_join a b s t) = omega (arith, preds-leaves s, preds-leaves t, length-append (preds_of s) (preds_of t), length-append (leaves_of s) (leaves_of t))
preds-leaves (in_sub a s t) = omega (arith, preds-leaves s, preds-leaves t, length-append (preds_of s) (preds_of t), length-append (leaves_of s) (leaves_of t))
preds-leaves (dedup s) = omega (arith, preds-leaves s)

-- and only one list
preds-lists : (s : SideTree) → length (preds_of s) + length (lists_of s) ≤ 2 * size_of s
preds-lists (input r) = omega arith
preds-lists (proj a s) = omega (arith, preds-lists s)
preds-lists (filtered p a s) = omega (arith, preds-lists s)
preds-lists (inner_join a b s t) = omega (arith, preds-lists s, preds-lists t, length-append (preds_of s) (preds_of t), length-append (lists_of s) (lists_of t))
preds-lists (left_join a b s t) = omega (arith, preds-lists s, preds-lists t, length-append (preds_of s) (preds_of t), length-append (lists_of s) (lists_of t))
preds-lists (in_sub a s t) = omega (arith, preds-lists s, preds-lists t, length-append (preds_of s) (preds_of t), length-append (lists_of s) (lists_of t))
preds-lists (dedup s) = omega (arith, preds-lists s)

-- the pairs of leaves, of lists and of predicates of a source of at most four operators
pairs-le : (s : SideTree) → size_of s ≤ 4 → pairs_of (length (leaves_of s)) + pairs_of (length (lists_of s)) + pairs_of (length (preds_of s)) ≤ 38
pairs-le s h =
    elim (cases_lt 0 (length (preds_of s))) [
      | inl some ↦
          let leaves : pairs_of (length (leaves_of s)) ≤ 6 = pairs_of-le _ 4 (omega (arith, preds-leaves s)) in
          let lists : pairs_of (length (lists_of s)) ≤ 21 = pairs_of-le _ 7 (omega (arith, preds-lists s)) in
          let preds : pairs_of (length (preds_of s)) ≤ 6 = pairs_of-le _ 4 (omega (arith, length-preds s)) in
          omega (arith, leaves, lists, preds)
      | inr none ↦
          let leaves : pairs_of (length (leaves_of s)) ≤ 10 = pairs_of-le _ 5 (omega (arith, length-leaves s)) in
          let lists : pairs_of (length (lists_of s)) ≤ 28 = pairs_of-le _ 8 (omega (arith, length-lists s)) in
          let preds : pairs_of (length (preds_of s)) ≤ 0 = pairs_of-le _ 0 (omega arith) in
          omega (arith, leaves, lists, preds)
    ]

-- a source of at most four operators has at most 62 atoms
pub length-atoms : (s : SideTree) → size_of s ≤ 4 → length (atoms_over s) ≤ 62
length-atoms s h =
    let pairs = pairs-le s h in
    let one = length-each_two Leaves (leaves_of s) in
    let two = length-each_two Lists (lists_of s) in
    let three = length-each_two Preds (preds_of s) in
    let keys = length-keys s in
    let references = length-references s in
    let unique = length-map (key_lists_of s) Unique in
    let not_null = length-map (key_lists_of s) NotNull in
    simp length-append (omega (arith, pairs, one, two, three, keys, references, unique, not_null))

pub few : (p : PairTree) → IsLawful p → length (atoms_of_pair p) ≤ 64
few p lawful = omega (arith, length-atoms p.source (lawful_sizes p lawful).0)

pub few_result : {E : Type 0} (p : PairTree) → IsLawful p → (r : Result (List Atom) E) → IfOk r (λ atoms. atoms ≡ atoms_of_pair p) → IfOk r (λ atoms. length atoms ≤ 64)
few_result p lawful (Ok atoms) h = rw h (few p lawful)
few_result p lawful (Err e) h = h
