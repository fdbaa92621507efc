-- What is known under a set holds on an instance that meets it.
use Rattle.std.proofs.Common.{ℕ, Bool, true, false, ◌&&◌, List, [], ◌∷◌, ◌++◌, ◌≡◌, refl, sym, ap, ◌∙◌, subst, ◌⊎◌, inl, inr, eqb-true}
use Rattle.wt_bag.proofs.HasLaws.{has_split, has_list_any}
use Rattle.wt_bag.proofs.Counting.{each_from_list_all}
use Rattle.std.specs.Prelude.{nat_eq}
use Rattle.wt_bag.specs.Bags.{Each}
use Rattle.wt_bag.specs.Choices.{Has}
use Rattle.wt_value.specs.Values.{Tuple}
use Rattle.wt_symbol.specs.Sides.{PairTree}
use Rattle.wt_symbol.specs.Heads.{anchor}
use Rattle.wt_constraint.specs.declared.atom.Atom.TheVariants.{RelEq, AttrsEq, PredEq, Unique, NotNull, RefAttrs}
use Rattle.wt_constraint.specs.declared.set.AtomSet.{AtomSet}
use Rattle.wt_constraint.specs.Sameness.{reflexive, linked, symmetric, transitive}
use Rattle.wt_form.specs.Known.{Known}
use Rattle.std.specs.Prelude.{if◌then◌else◌}
use Rattle.std.proofs.lemmas.Bool.{and_parts, false≢true}
use Rattle.wt_symbol.specs.Sides.{SideTree, input, proj, filtered, inner_join, left_join, in_sub, dedup, leaves_of}
use Rattle.wt_symbol.specs.Lawful.{occurs, all_in}
use Rattle.wt_instance.specs.Meeting.{comes_from, lists_come}
use Rattle.wt_form.specs.Under.{way_down, below, kept_below, Under, SameLeaf, SameList, SamePred, KeptBelow}
use Rattle.wt_instance.specs.declared.instance.Instance.{Instance}
use Rattle.wt_instance.specs.Instances.{width, table, numbers, is_true}
use Rattle.wt_instance.specs.Meeting.{IsUnique, IsNotNull, Refers, Meets}
use Rattle.wt_rows.specs.Holding.{KnownHolds}

-- a list above a Proj has its columns among those that the Proj keeps
below_has : (u l a : ℕ) (bs : List ℕ) → Has (u, l) (below a bs) → (u ≡ a) × Has l bs
below_has u l a [] h = absurd h
below_has u l a (b ∷ bs) (inl q) = (ap (λ z. z.0) q, inl (ap (λ z. z.1) q))
below_has u l a (b ∷ bs) (inr h) = let k = below_has u l a bs h in (k.0, inr k.1)

either : (t : Bool) (xs ys : List ℕ) (b c : Bool) (l : ℕ) (P : Type 0) → (Has l xs → b ≡ true → P) → (Has l ys → c ≡ true → P) → Has l (if t then xs else ys) → (if t then b else c) ≡ true → P
either true xs ys b c l P f g h q = f h q
either false xs ys b c l P f g h q = g h q

comes_kept : (s : SideTree) (I : Instance) (r a l : ℕ) → Has l (way_down s r) → comes_from s I r a ≡ true → all_in (numbers I l) (numbers I a) ≡ true
comes_kept (input x) I r a l h c = absurd h
comes_kept (proj b s) I r a l (inl q) c = ap (λ m. all_in (numbers I m) (numbers I a)) q ∙ (and_parts (all_in (numbers I b) (numbers I a)) (comes_from s I r a) c).0
comes_kept (proj b s) I r a l (inr h) c = comes_kept s I r a l h (and_parts (all_in (numbers I b) (numbers I a)) (comes_from s I r a) c).1
comes_kept (filtered p b s) I r a l h c = comes_kept s I r a l h c
comes_kept (inner_join b d s t) I r a l h c = either (occurs r (leaves_of s)) (way_down s r) (way_down t r) (comes_from s I r a) (comes_from t I r a) l _ (λ h c. comes_kept s I r a l h c) (λ h c. comes_kept t I r a l h c) h c
comes_kept (left_join b d s t) I r a l h c = either (occurs r (leaves_of s)) (way_down s r) (way_down t r) (comes_from s I r a) (comes_from t I r a) l _ (λ h c. comes_kept s I r a l h c) (λ h c. comes_kept t I r a l h c) h c
comes_kept (in_sub b s t) I r a l h c = comes_kept s I r a l h c
comes_kept (dedup s) I r a l h c = comes_kept s I r a l h c

below_kept : (s : SideTree) (I : Instance) (r a u l : ℕ) → Has (u, l) (below a (way_down s r)) → comes_from s I r a ≡ true → all_in (numbers I l) (numbers I u) ≡ true
below_kept s I r a u l h c = let k = below_has u l a (way_down s r) h in ap (λ m. all_in (numbers I l) (numbers I m)) k.0 ∙ comes_kept s I r a l k.1 c

-- one of two lists, each under its own test
split_kept : (x : ℕ × ℕ) (xs ys : List (ℕ × ℕ)) (b c : Bool) (P : Type 0) → (Has x xs → b ≡ true → P) → (Has x ys → c ≡ true → P) → Has x (xs ++ ys) → (b && c) ≡ true → P
split_kept x xs ys b c P f g h q = go (has_split x xs ys h)
  where
    go : Has x xs ⊎ Has x ys → P
    go (inl k) = f k (and_parts b c q).0
    go (inr k) = g k (and_parts b c q).1

pub parts4 : (a b c d : Bool) → (a && b && c && d) ≡ true → (a ≡ true) × (b ≡ true) × (c ≡ true) × (d ≡ true)
parts4 true true true true h = (refl, refl, refl, refl)
parts4 false b c d h = absurd (false≢true h)
parts4 true false c d h = absurd (false≢true h)
parts4 true true false d h = absurd (false≢true h)
parts4 true true true false h = absurd (false≢true h)

pub parts3 : (a b c : Bool) → (a && b && c) ≡ true → (a ≡ true) × (b ≡ true) × (c ≡ true)
parts3 true true true h = (refl, refl, refl)
parts3 false b c h = absurd (false≢true h)
parts3 true false c h = absurd (false≢true h)
parts3 true true false h = absurd (false≢true h)

both : (s t : SideTree) (A : List ℕ) (I : Instance) (a b u l : ℕ) → (Has (u, l) (kept_below s A) → lists_come s A I ≡ true → all_in (numbers I l) (numbers I u) ≡ true) → (Has (u, l) (kept_below t A) → lists_come t A I ≡ true → all_in (numbers I l) (numbers I u) ≡ true) →
    Has (u, l) (below a (way_down s (anchor A a)) ++ below b (way_down t (anchor A b)) ++ kept_below s A ++ kept_below t A) → (comes_from s I (anchor A a) a && comes_from t I (anchor A b) b && lists_come s A I && lists_come t A I) ≡ true → all_in (numbers I l) (numbers I u) ≡ true
both s t A I a b u l f g h c = go (has_split (u, l) ((below a (way_down s (anchor A a)) ++ below b (way_down t (anchor A b))) ++ kept_below s A) (kept_below t A) h) (parts4 (comes_from s I (anchor A a) a) (comes_from t I (anchor A b) b) (lists_come s A I) (lists_come t A I) c)
  where
    go3 : Has (u, l) (below a (way_down s (anchor A a))) ⊎ Has (u, l) (below b (way_down t (anchor A b))) → (comes_from s I (anchor A a) a ≡ true) × (comes_from t I (anchor A b) b ≡ true) × (lists_come s A I ≡ true) × (lists_come t A I ≡ true) → all_in (numbers I l) (numbers I u) ≡ true
    go3 (inl k) q = below_kept s I (anchor A a) a u l k q.0
    go3 (inr k) q = below_kept t I (anchor A b) b u l k q.1

    go2 : Has (u, l) (below a (way_down s (anchor A a)) ++ below b (way_down t (anchor A b))) ⊎ Has (u, l) (kept_below s A) → (comes_from s I (anchor A a) a ≡ true) × (comes_from t I (anchor A b) b ≡ true) × (lists_come s A I ≡ true) × (lists_come t A I ≡ true) → all_in (numbers I l) (numbers I u) ≡ true
    go2 (inl k) q = go3 (has_split (u, l) (below a (way_down s (anchor A a))) (below b (way_down t (anchor A b))) k) q
    go2 (inr k) q = f k q.2

    go : Has (u, l) ((below a (way_down s (anchor A a)) ++ below b (way_down t (anchor A b))) ++ kept_below s A) ⊎ Has (u, l) (kept_below t A) → (comes_from s I (anchor A a) a ≡ true) × (comes_from t I (anchor A b) b ≡ true) × (lists_come s A I ≡ true) × (lists_come t A I ≡ true) → all_in (numbers I l) (numbers I u) ≡ true
    go (inl k) q = go2 (has_split (u, l) (below a (way_down s (anchor A a)) ++ below b (way_down t (anchor A b))) (kept_below s A) k) q
    go (inr k) q = g k q.3

over_in : (s t : SideTree) (A : List ℕ) (I : Instance) (a u l : ℕ) → (Has (u, l) (kept_below s A) → lists_come s A I ≡ true → all_in (numbers I l) (numbers I u) ≡ true) → (Has (u, l) (kept_below t A) → lists_come t A I ≡ true → all_in (numbers I l) (numbers I u) ≡ true) →
    Has (u, l) (below a (way_down s (anchor A a)) ++ kept_below s A ++ kept_below t A) → (comes_from s I (anchor A a) a && lists_come s A I && lists_come t A I) ≡ true → all_in (numbers I l) (numbers I u) ≡ true
over_in s t A I a u l f g h c = go (has_split (u, l) (below a (way_down s (anchor A a)) ++ kept_below s A) (kept_below t A) h) (parts3 (comes_from s I (anchor A a) a) (lists_come s A I) (lists_come t A I) c)
  where
    go2 : Has (u, l) (below a (way_down s (anchor A a))) ⊎ Has (u, l) (kept_below s A) → (comes_from s I (anchor A a) a ≡ true) × (lists_come s A I ≡ true) × (lists_come t A I ≡ true) → all_in (numbers I l) (numbers I u) ≡ true
    go2 (inl k) q = below_kept s I (anchor A a) a u l k q.0
    go2 (inr k) q = f k q.1

    go : Has (u, l) (below a (way_down s (anchor A a)) ++ kept_below s A) ⊎ Has (u, l) (kept_below t A) → (comes_from s I (anchor A a) a ≡ true) × (lists_come s A I ≡ true) × (lists_come t A I ≡ true) → all_in (numbers I l) (numbers I u) ≡ true
    go (inl k) q = go2 (has_split (u, l) (below a (way_down s (anchor A a))) (kept_below s A) k) q
    go (inr k) q = g k q.2

side_kept : (s : SideTree) (A : List ℕ) (I : Instance) (u l : ℕ) → Has (u, l) (kept_below s A) → lists_come s A I ≡ true → all_in (numbers I l) (numbers I u) ≡ true
side_kept (input r) A I u l h c = absurd h
side_kept (proj a s) A I u l h c = split_kept (u, l) (below a (way_down s (anchor A a))) (kept_below s A) (comes_from s I (anchor A a) a) (lists_come s A I) (all_in (numbers I l) (numbers I u) ≡ true)
    (λ h c. below_kept s I (anchor A a) a u l h c) (λ h c. side_kept s A I u l h c) h c
side_kept (filtered p a s) A I u l h c = split_kept (u, l) (below a (way_down s (anchor A a))) (kept_below s A) (comes_from s I (anchor A a) a) (lists_come s A I) (all_in (numbers I l) (numbers I u) ≡ true)
    (λ h c. below_kept s I (anchor A a) a u l h c) (λ h c. side_kept s A I u l h c) h c
side_kept (inner_join a b s t) A I u l h c = both s t A I a b u l (λ h c. side_kept s A I u l h c) (λ h c. side_kept t A I u l h c) h c
side_kept (left_join a b s t) A I u l h c = both s t A I a b u l (λ h c. side_kept s A I u l h c) (λ h c. side_kept t A I u l h c) h c
side_kept (in_sub a s t) A I u l h c = over_in s t A I a u l (λ h c. side_kept s A I u l h c) (λ h c. side_kept t A I u l h c) h c
side_kept (dedup s) A I u l h c = side_kept s A I u l h c

-- the numbers are among the others
pub all_among : (ns ms : List ℕ) → all_in ms ns ≡ true → Each (λ n. Has n ms) ns
all_among ns ms h = each_from_list_all (λ n. occurs n ms) (λ n. Has n ms) (λ n o. there n ms o) ns h
  where
    there : (n : ℕ) (ms : List ℕ) → occurs n ms ≡ true → Has n ms
    there n ms o = let k = has_list_any (λ m. nat_eq m n) ms o in subst (λ m. Has m ms) (eqb-true k.0 n k.2) k.1

module _ (p : PairTree) (set : AtomSet) (I : Instance) (met : Meets p set I) where
  same_leaf : (r s : ℕ) → SameLeaf p set r s → (width I r ≡ width I s) × (table I r ≡ table I s)
  same_leaf r s reflexive = (refl, refl)
  same_leaf r s (linked {k = k} l) = met.atoms k (RelEq r s) l.there l.atom
  same_leaf r s (symmetric h) = let q = same_leaf s r h in (sym q.0, sym q.1)
  same_leaf r s (transitive {y = y} h j) = let q = same_leaf r y h in let q' = same_leaf y s j in (q.0 ∙ q'.0, q.1 ∙ q'.1)

  same_list : (a b : ℕ) → SameList p set a b → numbers I a ≡ numbers I b
  same_list a b reflexive = refl
  same_list a b (linked {k = k} l) = met.atoms k (AttrsEq a b) l.there l.atom
  same_list a b (symmetric h) = sym (same_list b a h)
  same_list a b (transitive {y = y} h j) = same_list a y h ∙ same_list y b j

  same_pred : (x y : ℕ) → SamePred p set x y → (row : Tuple) → is_true I x row ≡ is_true I y row
  same_pred x y reflexive row = refl
  same_pred x y (linked {k = k} l) row = met.atoms k (PredEq x y) l.there l.atom row
  same_pred x y (symmetric h) row = sym (same_pred y x h row)
  same_pred x y (transitive {y = z} h j) row = same_pred x z h row ∙ same_pred z y j row

  each_itself : (ns : List ℕ) → Each (λ n. Has n ns) ns
  each_itself ns = go ns ns (λ n h. h)
    where
      go : (ms ns : List ℕ) → ((n : ℕ) → Has n ms → Has n ns) → Each (λ n. Has n ns) ms
      go [] ns f = tt
      go (m ∷ ms) ns f = (f m (inl refl), go ms ns (λ n h. f n (inr h)))

  pub known_holds : (K : Known) → Under p set K → KnownHolds K I
  known_holds K under = record {
    tables = λ r s h. (same_leaf r s ((under.rel r s).0 h)).1;
    widths = λ r s h. (same_leaf r s ((under.rel r s).0 h)).0;
    lists = λ a b h. same_list a b ((under.attr a b).0 h);
    preds = λ x y h. same_pred x y ((under.pred x y).0 h);
    unique = λ r a h. let u = (under.unique r a).0 h in
        subst (λ ns. IsUnique ns (table I r)) (sym (same_list a u.list u.same))
        (subst (IsUnique (numbers I u.list)) (sym (same_leaf r (anchor p.anchors u.list) u.leaf).1) (met.atoms u.asked.number (Unique u.list) u.asked.there u.asked.atom));
    not_null = λ r a h. let u = (under.not_null r a).0 h in
        subst (λ ns. IsNotNull ns (table I r)) (sym (same_list a u.list u.same))
        (subst (IsNotNull (numbers I u.list)) (sym (same_leaf r (anchor p.anchors u.list) u.leaf).1) (met.atoms u.asked.number (NotNull u.list) u.asked.there u.asked.atom));
    refs = λ r a s b h. let u = (under.refs r a s b).0 h in
        subst (λ t. Refers (numbers I a) (numbers I b) t (table I s)) (sym (same_leaf r (anchor p.anchors u.from) u.leaf).1)
        (subst (λ t. Refers (numbers I a) (numbers I b) (table I (anchor p.anchors u.from)) t) (sym (same_leaf s (anchor p.anchors u.to) u.other_leaf).1)
        (subst (λ ns. Refers ns (numbers I b) (table I (anchor p.anchors u.from)) (table I (anchor p.anchors u.to))) (sym (same_list a u.from u.list))
        (subst (λ ns. Refers (numbers I u.from) ns (table I (anchor p.anchors u.from)) (table I (anchor p.anchors u.to))) (sym (same_list b u.to u.other_list))
        (met.atoms u.asked.number (RefAttrs u.from u.to) u.asked.there u.asked.atom))));
    within = λ a b h. inside a b ((under.within a b).0 h);
  }
    where
      inside : (a b : ℕ) → SameList p set a b ⊎ KeptBelow p set a b → Each (λ n. Has n (numbers I b)) (numbers I a)
      inside a b (inl s) = subst (λ ns. Each (λ n. Has n ns) (numbers I a)) (same_list a b s) (each_itself (numbers I a))
      inside a b (inr q) =
          subst (λ ns. Each (λ n. Has n (numbers I b)) ns) (sym (same_list a q.upper q.from))
          (subst (λ ms. Each (λ n. Has n ms) (numbers I q.upper)) (sym (same_list b q.lower q.to)) (all_among (numbers I q.upper) (numbers I q.lower)
          (side (has_split (q.upper, q.lower) (kept_below p.source p.anchors) (kept_below p.dest p.anchors) q.kept))))
        where
          side : Has (q.upper, q.lower) (kept_below p.source p.anchors) ⊎ Has (q.upper, q.lower) (kept_below p.dest p.anchors) → all_in (numbers I q.lower) (numbers I q.upper) ≡ true
          side (inl h) = side_kept p.source p.anchors I q.upper q.lower h met.source
          side (inr h) = side_kept p.dest p.anchors I q.upper q.lower h met.dest
