-- Small forms and sets on which the definitions are tried.
use Rattle.std.proofs.Common.{◌≡◌, ℕ, zero, suc, Bool, true, false, List, [], ◌∷◌, refl, sym, ap, ◌∙◌, subst, inl, inr, arith}
use Rattle.std.specs.Prelude.{None, Some, slice_get}
use Rattle.std.specs.Int.{bit_at}
use Rattle.wt_bag.specs.Choices.{Has}
use Rattle.wt_symbol.specs.declared.head.Part.{Part}
use Rattle.wt_symbol.specs.declared.head.PartCols.TheVariants.{Whole}
use Rattle.wt_symbol.specs.Heads.{anchor}
use Rattle.wt_constraint.specs.declared.atom.Atom.{Atom}
use Rattle.wt_constraint.specs.declared.atom.Atom.TheVariants.{RelEq, AttrsEq, Unique}
use Rattle.wt_constraint.specs.declared.atom.Kind.{Kind}
use Rattle.wt_constraint.specs.declared.atom.Kind.TheVariants.{Leaves, Lists}
use Rattle.wt_constraint.specs.declared.set.AtomSet.{AtomSet}
use Rattle.wt_constraint.specs.Atoms.{atoms_of_pair}
use Rattle.wt_constraint.specs.Sets.{HasAtom}
use Rattle.wt_constraint.specs.Sameness.{IsLink, AreSame, reflexive, linked, symmetric, transitive}
use Rattle.wt_form.specs.declared.form.Expr.{Expr}
use Rattle.wt_form.specs.declared.form.Expr.TheVariants.{Of}
use Rattle.wt_form.specs.Trees.{Terms, FormRange, Rel, distinct_of, no_ranges, range_then, Conds, no_conds, cond_then, Cond, Join}
use Rattle.wt_form.specs.Parts.{one_term, conds_append}
use Rattle.wt_form.specs.Places.{CondAt, others, list_rows}
use Rattle.wt_form.specs.Facts.{NotNull, by_relation, by_condition, Determined, by_whole_row, by_columns, by_join, by_parts}
use Rattle.wt_form.specs.Drops.{NeverNull, SelfJoin, ByReference}
use Rattle.wt_form.specs.Joining.{Joined, Merged, Rewritten}
use Rattle.wt_form.specs.Under.{Holds, KeptBelow}
use Rattle.wt_form.specs.Worked.{known, list, one_row, two_rows, only_cond, joined, join_pair, kept_pair}

-- without a condition and without a NOT NULL nothing is known not NULL
not_known : (u r : Bool) (rs : List FormRange) (v i c : ℕ) → NotNull (known u false r) rs [] v i c → ⊥
not_known u r rs v i c (by_relation at n w) = let bad : false ≡ true = n in cc
not_known u r rs v i c (by_condition q h is w) = absurd h

-- the other conditions of a term with one condition
none_left : (c d : Cond) (p : CondAt (only_cond c) d) → (d ≡ c) × (others p ≡ no_conds)
none_left c d p = go p.before p.after p.is
  where
    go : (before after : Conds) → cond_then c no_conds ≡ conds_append before (cond_then d after) → (d ≡ c) × (conds_append before after ≡ no_conds)
    go no_conds after e = ((let z : d ≡ c = cc in z), (let z : after ≡ no_conds = cc in z))
    go (cond_then b no_conds) after e = let bad : no_conds ≡ cond_then d after = cc in cc
    go (cond_then b (cond_then b' bs)) after e = let bad : no_conds ≡ cond_then b' (conds_append bs (cond_then d after)) = cc in cc

pub no_self_join : (ps : List Expr) (us : Terms) → SelfJoin (known true false true) one_row (only_cond (Join (list 0 0) (list 0 0))) ps us → ⊥
no_self_join ps us s =
    let left = none_left (Join (list 0 0) (list 0 0)) (Join s.x s.y) s.place in
    let is : s.x ≡ list 0 0 = let e : Join s.x s.y ≡ Join (list 0 0) (list 0 0) = left.0 in cc in
    not_known true true (Rel 0 ∷ []) 0 0 0 (subst (λ x. NeverNull (known true false true) one_row no_conds x) is (subst (λ cs. NeverNull (known true false true) one_row cs s.x) left.1 s.never_null))

pub no_reference : ByReference (known true false true) one_row no_conds (list 0 0) (list_rows 1 1) → ⊥
no_reference s = not_known true true (Rel 0 ∷ []) 0 0 0 s.never_null

pub no_join_to_in : (h : List Part) (ts : Terms) → Joined (known false true true) false (Rel 0) 0 h ts → ⊥
no_join_to_in h ts j = elim j.0 [
  | inl e ↦ let bad : false ≡ true = e in cc
  | inr e ↦ let bad : false ≡ true = e in cc
]

pub no_opening : Determined (known true false true) (Rel 0 ∷ []) [] (list 0 0 ∷ []) 0 → ⊥
no_opening (by_whole_row at u h n) = not_known true true (Rel 0 ∷ []) _ _ _ n
no_opening (by_columns at u h w n) = not_known true true (Rel 0 ∷ []) _ _ _ n
no_opening (by_join e q at u s h j o d w) = absurd h
no_opening (by_parts h ts at ps) = let bad : Rel 0 ≡ distinct_of h ts = at in cc

pub merged_keeps_joins : Merged (known true false false) two_rows joined (Of 0 0 Whole ∷ Of 1 0 Whole ∷ []) (one_term one_row (only_cond (Join (list 0 0) (list 0 0))) (Of 0 0 Whole ∷ Of 0 0 Whole ∷ []))
merged_keeps_joins = record {
  x = 0;
  r = 0;
  s = 0;
  a = 0;
  at = record { before = range_then (Rel 0) no_ranges; after = no_ranges; is = refl };
  before = omega arith;
  over = refl;
  leaf = refl;
  unique = refl;
  joined = (0, 0, refl, refl, inl (Join (list 0 0) (list 1 0), inl refl, inl (refl, refl)));
  gives = refl;
}

pub rewritten_keeps_lists : Rewritten (known false false false) two_rows joined (list 1 0 ∷ list 1 1 ∷ []) (one_term two_rows joined (list 0 0 ∷ list 1 1 ∷ []))
rewritten_keeps_lists = record {
  e = list 0 0;
  e' = list 1 0;
  join = Join (list 0 0) (list 1 0);
  place = record { before = no_conds; after = no_conds; is = refl };
  joins = inl (refl, refl);
  earlier = refl;
  cs' = joined;
  is = refl;
  changed = λ same. let bad : list 0 0 ∷ list 1 1 ∷ [] ≡ list 1 0 ∷ list 1 1 ∷ [] = same.1 in other_variable bad;
  gives = refl;
}
  where
    variable : List Expr → ℕ
    variable (Of v i c ∷ xs) = v
    variable xs = 0

    other_variable : list 0 0 ∷ list 1 1 ∷ [] ≡ list 1 0 ∷ list 1 1 ∷ [] → ⊥
    other_variable e = let bad : 0 ≡ 1 = ap variable e in omega (arith, bad)

-- symbols are the same as themselves alone, where no atom of the set makes two the same
only_itself : (kind : Kind) (atoms : List Atom) (set : AtomSet) → ((k x y : ℕ) → IsLink kind atoms set k x y → ⊥) → (x y : ℕ) → AreSame kind atoms set x y → x ≡ y
only_itself kind atoms set none x y reflexive = refl
only_itself kind atoms set none x y (linked {k = k} l) = absurd (none k x y l)
only_itself kind atoms set none x y (symmetric h) = sym (only_itself kind atoms set none y x h)
only_itself kind atoms set none x y (transitive {y = z} h j) = only_itself kind atoms set none x z h ∙ only_itself kind atoms set none z y j

off : zero ≡ suc zero → ⊥
off e = let bad : ⊥ = omega (arith, e) in bad

-- the one atom of the set is the pair's third
third : (set : AtomSet) → set.0 ≡ 4 → (k : ℕ) (x : Atom) → HasAtom set k → slice_get (atoms_of_pair join_pair) k ≡ Some x → x ≡ Unique 0
third set is k x h a = go k (subst (λ n. bit_at n k ≡ 1) is h.bit) a
  where
    go : (k : ℕ) → bit_at 4 k ≡ 1 → slice_get (atoms_of_pair join_pair) k ≡ Some x → x ≡ Unique 0
    go zero b a = absurd (off b)
    go (suc zero) b a = absurd (off b)
    go (suc (suc zero)) b a = let one : Some (Unique 0) ≡ Some x = a in cc
    go (suc (suc (suc zero))) b a = absurd (off b)
    go (suc (suc (suc (suc zero)))) b a = absurd (off b)
    go (suc (suc (suc (suc (suc zero))))) b a = absurd (off b)
    go (suc (suc (suc (suc (suc (suc zero)))))) b a = absurd (off b)
    go (suc (suc (suc (suc (suc (suc (suc zero))))))) b a = absurd (off b)
    go (suc (suc (suc (suc (suc (suc (suc (suc k)))))))) b a = let bad : None ≡ Some x = a in cc

pub unique_of_one_leaf : (set : AtomSet) → set.0 ≡ 4 → Holds join_pair set Unique 1 0 → ⊥
unique_of_one_leaf set is h =
    let asked : Unique h.list ≡ Unique 0 = third set is h.asked.number (Unique h.list) h.asked.there h.asked.atom in
    let list : h.list ≡ 0 = cc in
    let leaf : 1 ≡ 0 = subst (λ a. 1 ≡ anchor (0 ∷ 1 ∷ []) a) list (only_itself Leaves (atoms_of_pair join_pair) set none 1 _ h.leaf) in
    off (sym leaf)
  where
    none : (k x y : ℕ) → IsLink Leaves (atoms_of_pair join_pair) set k x y → ⊥
    none k x y l = let bad : RelEq x y ≡ Unique 0 = third set is k (RelEq x y) l.there l.atom in cc

-- no atom of the pair is asked
no_atom : (set : AtomSet) → set.0 ≡ 0 → (k : ℕ) (x : Atom) → HasAtom set k → slice_get (atoms_of_pair kept_pair) k ≡ Some x → ⊥
no_atom set is k x h a = go k (subst (λ n. bit_at n k ≡ 1) is h.bit) a
  where
    go : (k : ℕ) → bit_at 0 k ≡ 1 → slice_get (atoms_of_pair kept_pair) k ≡ Some x → ⊥
    go zero b a = absurd (off b)
    go (suc zero) b a = absurd (off b)
    go (suc (suc zero)) b a = absurd (off b)
    go (suc (suc (suc zero))) b a = absurd (off b)
    go (suc (suc (suc (suc zero)))) b a = absurd (off b)
    go (suc (suc (suc (suc (suc k))))) b a = let bad : None ≡ Some x = a in cc

pub within_one_way : (set : AtomSet) → set.0 ≡ 0 → KeptBelow kept_pair set 0 1 → ⊥
within_one_way set is h = go h.kept
  where
    same : (x y : ℕ) → AreSame Lists (atoms_of_pair kept_pair) set x y → x ≡ y
    same = only_itself Lists (atoms_of_pair kept_pair) set (λ k x y l. no_atom set is k (AttrsEq x y) l.there l.atom)

    go : Has {X = ℕ × ℕ} (h.upper, h.lower) ((1, 0) ∷ []) → ⊥
    go (inl e) = off (same 0 h.upper h.from ∙ ap (λ (z : ℕ × ℕ). z.0) e)
    go (inr e) = absurd e
