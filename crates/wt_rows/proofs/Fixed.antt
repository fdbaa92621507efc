-- The fixed constraints, said of a side in two ways: each list comes from its anchor through what is below it; or its
-- columns are those of its anchor, and those of each list that a Proj keeps on the way.
use Rattle.std.proofs.Common.{ℕ, Bool, true, false, ◌&&◌, List, ◌∷◌, ◌++◌, ◌≡◌, refl}
use Rattle.std.specs.Prelude.{nat_lt, if◌then◌else◌}
use Rattle.std.specs.List.{list_all}
use Rattle.std.proofs.lemmas.Bool.{and_parts, and_from}
use Rattle.wt_bag.specs.Bags.{Each}
use Rattle.wt_bag.proofs.EachLaws.{each_append, each_append_left, each_append_right}
use Rattle.wt_symbol.specs.Sides.{SideTree, input, proj, filtered, inner_join, left_join, in_sub, dedup, leaves_of, lists_of}
use Rattle.wt_symbol.specs.Lawful.{occurs, all_in}
use Rattle.wt_symbol.specs.Heads.{anchor}
use Rattle.wt_form.specs.Under.{way_down, below, kept_below}
use Rattle.wt_instance.specs.declared.instance.Instance.{Instance}
use Rattle.wt_instance.specs.Instances.{width, numbers}
use Rattle.wt_instance.specs.Meeting.{comes_from, lists_come}
use Rattle.wt_rows.specs.Holding.{IsKept, IsOfLeaf}
use Rattle.wt_rows.proofs.Holds.{parts3, parts4}

module _ (I : Instance) where
  on_either : (b : Bool) (s t : SideTree) (r a : ℕ) → (comes_from s I r a ≡ true → Each (IsKept I) (below a (way_down s r)) × (list_all (λ n. nat_lt n (width I r)) (numbers I a) ≡ true)) →
      (comes_from t I r a ≡ true → Each (IsKept I) (below a (way_down t r)) × (list_all (λ n. nat_lt n (width I r)) (numbers I a) ≡ true)) →
      (if b then comes_from s I r a else comes_from t I r a) ≡ true → Each (IsKept I) (below a (if b then way_down s r else way_down t r)) × (list_all (λ n. nat_lt n (width I r)) (numbers I a) ≡ true)
  on_either true s t r a f g c = f c
  on_either false s t r a f g c = g c

  comes_parts : (s : SideTree) (r a : ℕ) → comes_from s I r a ≡ true → Each (IsKept I) (below a (way_down s r)) × (list_all (λ n. nat_lt n (width I r)) (numbers I a) ≡ true)
  comes_parts (input x) r a c = (tt, c)
  comes_parts (proj b s) r a c =
      let p = and_parts (all_in (numbers I b) (numbers I a)) (comes_from s I r a) c in
      let rest = comes_parts s r a p.1 in
      ((p.0, rest.0), rest.1)
  comes_parts (filtered p b s) r a c = comes_parts s r a c
  comes_parts (inner_join b d s t) r a c = on_either (occurs r (leaves_of s)) s t r a (comes_parts s r a) (comes_parts t r a) c
  comes_parts (left_join b d s t) r a c = on_either (occurs r (leaves_of s)) s t r a (comes_parts s r a) (comes_parts t r a) c
  comes_parts (in_sub b s t) r a c = comes_parts s r a c
  comes_parts (dedup s) r a c = comes_parts s r a c

  from_either : (b : Bool) (s t : SideTree) (r a : ℕ) → (Each (IsKept I) (below a (way_down s r)) → comes_from s I r a ≡ true) → (Each (IsKept I) (below a (way_down t r)) → comes_from t I r a ≡ true) →
      Each (IsKept I) (below a (if b then way_down s r else way_down t r)) → (if b then comes_from s I r a else comes_from t I r a) ≡ true
  from_either true s t r a f g k = f k
  from_either false s t r a f g k = g k

  comes_back : (s : SideTree) (r a : ℕ) → list_all (λ n. nat_lt n (width I r)) (numbers I a) ≡ true → Each (IsKept I) (below a (way_down s r)) → comes_from s I r a ≡ true
  comes_back (input x) r a w k = w
  comes_back (proj b s) r a w k = and_from (all_in (numbers I b) (numbers I a)) (comes_from s I r a) k.0 (comes_back s r a w k.1)
  comes_back (filtered p b s) r a w k = comes_back s r a w k
  comes_back (inner_join b d s t) r a w k = from_either (occurs r (leaves_of s)) s t r a (comes_back s r a w) (comes_back t r a w) k
  comes_back (left_join b d s t) r a w k = from_either (occurs r (leaves_of s)) s t r a (comes_back s r a w) (comes_back t r a w) k
  comes_back (in_sub b s t) r a w k = comes_back s r a w k
  comes_back (dedup s) r a w k = comes_back s r a w k

  module _ (A : List ℕ) where
    -- both ways of saying it of each list of a side
    abbrev Said : SideTree → Type 0
    Said s = Each (IsKept I) (kept_below s A) × Each (IsOfLeaf A I) (lists_of s)

    one : (s : SideTree) (a : ℕ) (rest : List (ℕ × ℕ)) (ls : List ℕ) → comes_from s I (anchor A a) a ≡ true → Each (IsKept I) rest × Each (IsOfLeaf A I) ls → Each (IsKept I) (below a (way_down s (anchor A a)) ++ rest) × Each (IsOfLeaf A I) (a ∷ ls)
    one s a rest ls c k = let p = comes_parts s (anchor A a) a c in (each_append (IsKept I) (below a (way_down s (anchor A a))) rest p.0 k.0, (p.1, k.1))

    pair : (xs ys : List (ℕ × ℕ)) (ls ms : List ℕ) → Each (IsKept I) xs × Each (IsOfLeaf A I) ls → Each (IsKept I) ys × Each (IsOfLeaf A I) ms → Each (IsKept I) (xs ++ ys) × Each (IsOfLeaf A I) (ls ++ ms)
    pair xs ys ls ms h k = (each_append (IsKept I) xs ys h.0 k.0, each_append (IsOfLeaf A I) ls ms h.1 k.1)

    two : (s t : SideTree) (a b : ℕ) → comes_from s I (anchor A a) a ≡ true → comes_from t I (anchor A b) b ≡ true → Said s → Said t →
        Each (IsKept I) (below a (way_down s (anchor A a)) ++ below b (way_down t (anchor A b)) ++ kept_below s A ++ kept_below t A) × Each (IsOfLeaf A I) (a ∷ b ∷ (lists_of s ++ lists_of t))
    two s t a b c d h k =
        let p = comes_parts s (anchor A a) a c in
        let q = comes_parts t (anchor A b) b d in (
          each_append (IsKept I) ((below a (way_down s (anchor A a)) ++ below b (way_down t (anchor A b))) ++ kept_below s A) (kept_below t A)
              (each_append (IsKept I) (below a (way_down s (anchor A a)) ++ below b (way_down t (anchor A b))) (kept_below s A) (each_append (IsKept I) (below a (way_down s (anchor A a))) (below b (way_down t (anchor A b))) p.0 q.0) h.0) k.0,
          (p.1, (q.1, each_append (IsOfLeaf A I) (lists_of s) (lists_of t) h.1 k.1)),
        )

    pub side_said : (s : SideTree) → lists_come s A I ≡ true → Said s
    side_said (input r) c = (tt, tt)
    side_said (proj a s) c = let p = and_parts (comes_from s I (anchor A a) a) (lists_come s A I) c in one s a (kept_below s A) (lists_of s) p.0 (side_said s p.1)
    side_said (filtered x a s) c = let p = and_parts (comes_from s I (anchor A a) a) (lists_come s A I) c in one s a (kept_below s A) (lists_of s) p.0 (side_said s p.1)
    side_said (inner_join a b s t) c = let p = parts4 (comes_from s I (anchor A a) a) (comes_from t I (anchor A b) b) (lists_come s A I) (lists_come t A I) c in two s t a b p.0 p.1 (side_said s p.2) (side_said t p.3)
    side_said (left_join a b s t) c = let p = parts4 (comes_from s I (anchor A a) a) (comes_from t I (anchor A b) b) (lists_come s A I) (lists_come t A I) c in two s t a b p.0 p.1 (side_said s p.2) (side_said t p.3)
    side_said (in_sub a s t) c =
        let p = parts3 (comes_from s I (anchor A a) a) (lists_come s A I) (lists_come t A I) c in
        let h = side_said s p.1 in
        let k = side_said t p.2 in
        let q = comes_parts s (anchor A a) a p.0 in
        (each_append (IsKept I) (below a (way_down s (anchor A a)) ++ kept_below s A) (kept_below t A) (each_append (IsKept I) (below a (way_down s (anchor A a))) (kept_below s A) q.0 h.0) k.0, (q.1, each_append (IsOfLeaf A I) (lists_of s) (lists_of t) h.1 k.1))
    side_said (dedup s) c = side_said s c

    back : (s t : SideTree) (a b : ℕ) → Each (IsKept I) (below a (way_down s (anchor A a)) ++ below b (way_down t (anchor A b)) ++ kept_below s A ++ kept_below t A) × Each (IsOfLeaf A I) (a ∷ b ∷ (lists_of s ++ lists_of t)) →
        (Said s → lists_come s A I ≡ true) → (Said t → lists_come t A I ≡ true) → (comes_from s I (anchor A a) a && comes_from t I (anchor A b) b && lists_come s A I && lists_come t A I) ≡ true
    back s t a b h f g =
        let w = below a (way_down s (anchor A a)) in
        let v = below b (way_down t (anchor A b)) in
        let three = each_append_left (IsKept I) ((w ++ v) ++ kept_below s A) (kept_below t A) h.0 in
        let ways = each_append_left (IsKept I) (w ++ v) (kept_below s A) three in
        and_from (comes_from s I (anchor A a) a && comes_from t I (anchor A b) b && lists_come s A I) (lists_come t A I)
        (and_from (comes_from s I (anchor A a) a && comes_from t I (anchor A b) b) (lists_come s A I)
        (and_from (comes_from s I (anchor A a) a) (comes_from t I (anchor A b) b) (comes_back s (anchor A a) a h.1.0 (each_append_left (IsKept I) w v ways)) (comes_back t (anchor A b) b h.1.1.0 (each_append_right (IsKept I) w v ways)))
        (f (each_append_right (IsKept I) (w ++ v) (kept_below s A) three, each_append_left (IsOfLeaf A I) (lists_of s) (lists_of t) h.1.1.1)))
        (g (each_append_right (IsKept I) ((w ++ v) ++ kept_below s A) (kept_below t A) h.0, each_append_right (IsOfLeaf A I) (lists_of s) (lists_of t) h.1.1.1))

    pub said_side : (s : SideTree) → Said s → lists_come s A I ≡ true
    said_side (input r) h = refl
    said_side (proj a s) h =
        let w = below a (way_down s (anchor A a)) in
        and_from (comes_from s I (anchor A a) a) (lists_come s A I) (comes_back s (anchor A a) a h.1.0 (each_append_left (IsKept I) w (kept_below s A) h.0)) (said_side s (each_append_right (IsKept I) w (kept_below s A) h.0, h.1.1))
    said_side (filtered x a s) h =
        let w = below a (way_down s (anchor A a)) in
        and_from (comes_from s I (anchor A a) a) (lists_come s A I) (comes_back s (anchor A a) a h.1.0 (each_append_left (IsKept I) w (kept_below s A) h.0)) (said_side s (each_append_right (IsKept I) w (kept_below s A) h.0, h.1.1))
    said_side (inner_join a b s t) h = back s t a b h (λ k. said_side s k) (λ k. said_side t k)
    said_side (left_join a b s t) h = back s t a b h (λ k. said_side s k) (λ k. said_side t k)
    said_side (in_sub a s t) h =
        let w = below a (way_down s (anchor A a)) in
        let first = each_append_left (IsKept I) (w ++ kept_below s A) (kept_below t A) h.0 in
        and_from (comes_from s I (anchor A a) a && lists_come s A I) (lists_come t A I)
        (and_from (comes_from s I (anchor A a) a) (lists_come s A I) (comes_back s (anchor A a) a h.1.0 (each_append_left (IsKept I) w (kept_below s A) first))
        (said_side s (each_append_right (IsKept I) w (kept_below s A) first, each_append_left (IsOfLeaf A I) (lists_of s) (lists_of t) h.1.1)))
        (said_side t (each_append_right (IsKept I) (w ++ kept_below s A) (kept_below t A) h.0, each_append_right (IsOfLeaf A I) (lists_of s) (lists_of t) h.1.1))
    said_side (dedup s) h = said_side s h
